-- The written form of a module in pieces: section contents, code entries, custom sections.
pub mod Pieces
-- A list with new items in the place of some of its own.
pub mod Overlays
-- The contents of a section to which an item comes.
pub mod Longer
-- The contents of a section from which an item is taken.
pub mod Shorter
-- The written form of a module with other code entries in the place of its own.
pub mod Recoded
-- ---- laws and steps, for those who read proofs

-- What an output takes in a call that puts bytes out.
pub mod Puts
-- With the codes of a module that differs in bodies alone, the written form is that module's.
pub mod RecodedLaws
