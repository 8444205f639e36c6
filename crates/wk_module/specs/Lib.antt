-- ---- the parts of sections

-- How encodings are put together (5.1): in sequence, by a first byte, or behind a length.
pub mod Formats
-- Types and limits (5.3.3 to 5.3.7), and the kinds of imports and exports (5.5.5, 5.5.10).
pub mod Types
-- Imports, globals, exports, segments, code entries (5.5.5, 5.5.9, 5.5.10, 5.5.12 to 5.5.14).
pub mod Items
-- Imports and exports that are read without a copy of their names; function types that are lent.
pub mod InPlace
-- ---- modules

-- All but custom sections (5.5.2): what each holds, its grammar, reading and writing.
pub mod Sections
-- Custom sections (5.5.3), and behind which of the other sections each stands.
pub mod Customs
-- What each module keeps: numbers in range, names in UTF-8, custom sections in order.
pub mod Shape
-- Which bytes encode a module (5.5.15).
pub mod Modules
-- No bytes encode two modules of a profile; what encodes one of 1.0 does so in the other too.
pub mod ModuleLaws
-- ---- reading

-- A module as it is read from left to right, or the first fault.
pub mod Reading
-- The lists of a module as they are lent, and that each has fewer than 2^32 items.
pub mod Listed
-- Lists read section by section, and what reading a module says of the bytes.
pub mod ListReading
-- How the contents of a section break off.
pub mod ContentsFaults
-- The first fault of an input that spells no module, by the grammar.
pub mod FirstFaults
-- A module with a stub in the place of each body.
pub mod Outlines
-- ---- writing

-- The written form: the one encoding that is written, with the shortest integers.
pub mod Writing
-- How long the written form is, by the lengths of its parts.
pub mod Sizes
-- The contents of the code section (5.5.13) by a module's functions, and their sizes.
pub mod Codes
-- ---- changes

-- How many imports are of a kind: they come first in its index space (2.5.1).
pub mod Imports
-- Modules that differ from one in one place, as after an edit.
pub mod Changes
-- A module in which the indices of one index space move, as after an import.
pub mod Moving
-- ---- laws and steps, for those who read proofs

-- What laws of formats say: of an item of a list, and of the contents of a section.
pub mod FormatLaws
-- A module as it is read where something else is kept of each body.
pub mod OutlineReading
-- Section ids are distinct numbers; what each section holds after one was given.
pub mod SectionLaws
-- The lists of a module have fewer than 2^32 items.
pub mod NumberedLaws
-- What keeps the shape of a module, and its custom sections in their places.
pub mod ShapeLaws
-- How long the written form is, by its parts, and that no section in it is empty.
pub mod WritingLaws
-- What counts one for each import of a kind counts them; and one import more.
pub mod ImportLaws
-- Some changes of small modules, computed.
pub mod ChangeExamples
-- A changed module is formed as before, and is not longer without an export.
pub mod ChangeLaws
-- The types of functions and of globals stay as they are where indices move.
pub mod MovedLaws
-- Sections stay filled or empty where indices move; and small modules, computed.
pub mod MovingLaws
