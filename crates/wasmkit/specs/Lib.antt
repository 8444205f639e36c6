-- What each command makes of its files: the exit status, the bytes of OUT and the text.
pub mod Answers
-- What a command asks of the store of files, and what that answers.
pub mod Events
-- The exit status of each fault of the program, and what each comes from.
pub mod Faults
-- How a command is run: what is loaded, saved and printed, in order, and how it ends.
pub mod Runs
