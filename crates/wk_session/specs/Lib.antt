-- ---- edits, and what they make of a module

-- The module that each edit makes, or why the edit is refused.
pub mod Edits
-- Which functions and sections depend on an edit, and how much work it takes.
pub mod Dependents
-- The module that a list of edits makes, and the reply to each of them.
pub mod Runs
-- What the refusal of an edit for its bytes says of these bytes.
pub mod Told
-- What accepted edits make of a module, in the words of the grammar.
pub mod Making
-- The texts of refusals, `E1` to `E8`.
pub mod EditText
-- ---- writing

-- What an output has taken where a write failed, and how its failures are counted.
pub mod Written
-- ---- laws and steps, for those who read proofs

-- What a session keeps beside its module: what would be computed of the module anew.
pub mod Kept
-- What the verdict of a module tells of its bodies.
pub mod Known
-- What is kept where a type, a global or an export is added, and what judging gives then.
pub mod Judged
-- What is planned by an edit that gives or replaces a body.
pub mod Functions
-- Code entries in which an import moves references, and what is kept of them.
pub mod MovedEntries
-- A module with one more import, and what is planned before it is made.
pub mod Imported
-- Changes of custom sections, and what is kept then.
pub mod Customs
-- The item that an edit adds to a list.
pub mod Added
-- The refusal of an edit for each fault of writing.
pub mod Refusals
-- What holds of each module that an edit may make holds of the one that it makes.
pub mod MadeLaws
-- The functions that an edit types or encodes again are those that refer to what changes.
pub mod DependentsLaws
-- The bytes for which an edit is refused encode nothing, and the fault is true of them.
pub mod ToldLaws
-- An edit puts into the module what its bytes encode.
pub mod MakingLaws
-- A valid module stays valid through edits that have to leave a valid one.
pub mod LastingLaws
