-- The verdict of the module that bytes encode, or the fault of reading it.
pub mod Spelled
-- The context in which items are judged while they are read, section by section.
pub mod Contexts
-- ---- what loops keep, for those who read proofs

-- The names of exports that came before.
pub mod Names
