-- ---- integers

-- Integers in LEB128 (5.2.2): which bytes encode one, how it is read, and its faults.
pub mod Leb
-- Encodings of which none begins another, and of which each has one value.
pub mod PrefixFree
-- The shortest encoding of an integer.
pub mod Short
-- ---- other pieces, and the input of a reader

-- Bytes (5.2.1), little-endian words (5.2.3), names (5.2.4) and runs of bytes, as a grammar.
pub mod Pieces
-- What a cursor has left of its input, how pieces are read from it, and what a call does.
pub mod Span
-- ---- the frames of a module

-- The header (5.5.15) and the frames of sections (5.5.2), as a grammar and as they are read.
pub mod Frames
-- The section that a borrowed one stands for, and what an iterator over sections has left.
pub mod Raw
-- ---- faults

-- The faults that lie at no bytes: want of memory, and an input that is too long.
pub mod Fault
-- What a fault says of the bytes from its offset on, by its kind (5.1 to 5.5).
pub mod Stands
-- Hexadecimal digits, in which offsets are printed.
pub mod HexDigits
-- The texts of faults of reading, `R1` to `R17`.
pub mod FaultText
-- ---- outputs and lists

-- What an output takes of the bytes of a call, and how its failures are counted.
pub mod Taken
-- Whether a list is empty.
pub mod ListWords
-- ---- laws, for those who read proofs

-- Reading an integer agrees with its encodings, which are prefix-free, and its faults are true.
pub mod LebLaws
-- The shortest encoding is an encoding, no other is as short, and how long it is.
pub mod ShortLaws
-- What each reader of a piece takes from the front of the bytes, and how it fails.
pub mod SpanLaws
-- Reading a piece agrees with its encodings, and these are prefix-free.
pub mod PieceLaws
-- Reading frames agrees with their grammar, and a fault comes at most once, as the last.
pub mod FrameLaws
-- Faults of each reader are true, and stay so from a part of the input to the whole.
pub mod StandsLaws
-- Each section that is read lies in the input, and each fault of its frames is true.
pub mod FrameStands
-- What calls of an output take that are made one after the other.
pub mod TakenLaws
-- Hexadecimal digits are those that a format of a fixed width prints.
pub mod HexDigitLaws
