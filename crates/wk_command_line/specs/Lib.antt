-- Which words spell which command.
pub mod CommandLine
-- Why words give no command, and what that says of them.
pub mod Faults
-- ---- steps, for those who read proofs

-- What the parser of the command line knows of the commands, and what is read of its matches.
pub mod Syntax
