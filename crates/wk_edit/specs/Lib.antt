-- Bytes cut at a separator, as a script into lines and a line into words.
pub mod Pieces
-- What the words of a line say: types, numbers, kinds, names and bytes.
pub mod Words
-- The edits of a script as it is read line by line, or its first fault.
pub mod Script
-- The grammar of scripts: which bytes spell which edits, and where a fault lies.
pub mod ScriptGrammar
-- The texts of reports: the lines of edits, of the verdict and of faults.
pub mod ReportText
-- What `edit` gives: the edited module, the report and the status; what its outputs take.
pub mod Outcome
-- The main theorem: what `edit_owned` does from bytes to bytes, in terms of the grammars.
pub mod Theorem
-- ---- steps, for those who read proofs

-- An outcome before it is written.
pub mod Prepared
