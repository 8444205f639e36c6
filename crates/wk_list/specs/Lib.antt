-- ---- parts of lines

-- Parts of lines: names, numbers, lists, types, and things with their index.
pub mod Text
-- How many imports are of a kind: they come first in its index space (2.5.1).
pub mod Spaces
-- ---- the listings

-- The headers listing: a line for each section of the written form.
pub mod Headers
-- The details listing: a heading for each section, and a line for each of its items.
pub mod Details
-- The code listing: the instructions of each function, each with its offset.
pub mod CodeText
-- The uses listing: what each function refers to outside of itself, in order.
pub mod Uses
-- The text of each of these listings, and which of them tell what stands in bodies.
pub mod Listing
-- ---- what is listed, and where it goes

-- A module that is known but for the bodies of its functions.
pub mod Sketches
-- What an output takes of a text, and how its failures are counted.
pub mod Taken
-- The texts of faults of a listing.
pub mod FaultText
-- ---- laws and steps, for those who read proofs

-- The code listing token by token.
pub mod TokenText
-- The list of what a function refers to is in order, is complete, and is the only such one.
pub mod UsesLaws
