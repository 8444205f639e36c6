-- Where an item of a section, or a token of its instructions, lies in the bytes of a module.
pub mod Places
-- The text of a token that a place names.
pub mod TokenTexts
-- Which entry of an element segment names a function that the module has not.
pub mod Entries
-- ---- steps, for those who read proofs

-- A place as it is looked for, from left to right.
pub mod Seeking
-- Which tokens are counted, by examples.
pub mod PlaceExamples
