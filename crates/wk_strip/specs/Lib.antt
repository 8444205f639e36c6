-- A module without its custom sections, or with those of one name, and its written form.
pub mod Stripped
-- ---- steps, for those who read proofs

-- The written form in parts: sections by their ids, and what is in front of code entries.
pub mod Written
-- Code entries that are written over the bytes that they were read from.
pub mod Rewritten
-- A module of which all but the code section is read.
pub mod Apart
