-- A fault of reading stands: what the bytes from its offset on are, by its kind (5.1 to 5.5 of the standard).
use Rattle.std.specs.Prelude.{◌≡◌, ◌≢◌, ℕ, ◌+◌, ◌<◌, ◌≤◌, nat_le, Bool, false, ◌&&◌, ◌||◌, ◌⊎◌, List, [], ◌∷◌, ◌++◌, length, take, Result, Ok, Err}
use Rattle.std.specs.Str.{IsUtf8}
use Rattle.wk_bytes.specs.declared.fault.ReadKind.{ReadKind}
use Rattle.wk_bytes.specs.declared.fault.ReadKind.TheVariants.{BadMagic, BadVersion, UnexpectedEnd, IntTooLong, IntTooLarge, UnknownSection, SectionOrder}
use Rattle.wk_bytes.specs.declared.fault.ReadKind.TheVariants.{SectionSize, BadUtf8, BadByte, UnknownOpcode, TooManyLocals, FuncCodeCount, BodySize, TooDeep}
use Rattle.wk_bytes.specs.declared.fault.ReadKind.TheVariants.{LongInput, Memory}
use Rattle.wk_bytes.specs.declared.fault.ReadFault.{ReadFault}
use Rattle.wk_bytes.specs.Fault.{no_memory, long_input}
use Rattle.wk_bytes.specs.Leb.{IsTooLong, IsTooLarge, IsCutShort, SpellsU, lastU, lastS}
use Rattle.wk_bytes.specs.LebLaws.{IsBytes}
use Rattle.wk_bytes.specs.Span.{Span, offset, fault}
use Rattle.wk_bytes.specs.Frames.{limit, magic, version, Section}

-- ---- by its kind

-- four bytes are there, and they are not these
abbrev pub BeginsOtherwise : List ℕ → List ℕ → Type 0
BeginsOtherwise half from = (length half ≤ length from) × (take (length half) from ≢ half)

-- there is a byte, and the first is so
abbrev pub Begins : (ℕ → Type 0) → List ℕ → Type 0
Begins P [] = ⊥
Begins P (x ∷ rest) = P x

-- the widths of integers: unsigned of 32 bits, signed of 32, 33 and 64
abbrev pub IsWidth : ℕ → Type 0
IsWidth N = (N ≡ 32) ⊎ (N ≡ 33) ⊎ (N ≡ 64)

-- the first bytes are no integer: its last byte says that more come
abbrev pub BeginsTooLong : List ℕ → Type 0
BeginsTooLong from = (N : ℕ) × IsWidth N × IsTooLong N from

-- the first bytes are no integer: the unused bits of its last byte are wrong
abbrev pub BeginsTooLarge : List ℕ → Type 0
BeginsTooLarge from = IsTooLarge lastU 32 from ⊎ ((N : ℕ) × IsWidth N × IsTooLarge lastS N from)

-- Bytes spell a number of 32 bits, unsigned (5.2.2). (Each is below 256, as bytes are.)
abbrev pub Counts : List ℕ → ℕ → Type 0
Counts b n = IsBytes b → SpellsU 32 b n

-- the last bytes spell a number, as the size in front of a piece does
abbrev pub EndsWithSize : List ℕ → ℕ → Type 0
EndsWithSize bytes n = (before : List ℕ) × (size : List ℕ) × (bytes ≡ before ++ size) × Counts size n

-- the first bytes spell a number of 32 bits
abbrev pub BeginsCount : List ℕ → Type 0
BeginsCount from = (count : List ℕ) × (later : List ℕ) × (n : ℕ) × (0 < length count) × (from ≡ count ++ later) × Counts count n

-- after the opcode of an `f32.const` four bytes are wanted, after that of an `f64.const` eight (5.4.5)
abbrev pub IsWordCut : List ℕ → List ℕ → Type 0
IsWordCut skipped from =
    ((before : List ℕ) × (skipped ≡ before ++ 0x43 ∷ []) × (length from < 4)) ⊎ ((before : List ℕ) × (skipped ≡ before ++ 0x44 ∷ []) × (length from < 8))

-- Fewer bytes are left than what begins here wants: none is left; or an integer goes on; or the word of a constant does; or the size in
-- front counts more.
abbrev pub IsCut : List ℕ → List ℕ → Type 0
IsCut skipped from =
    (from ≡ []) ⊎ ((N : ℕ) × IsWidth N × IsCutShort N from) ⊎ IsWordCut skipped from ⊎ ((n : ℕ) × EndsWithSize skipped n × (length from < n))

-- a text that begins here is no UTF-8
abbrev pub BeginsBadly : List ℕ → Type 0
BeginsBadly from = (text : List ℕ) × (later : List ℕ) × (from ≡ text ++ later) × ¬ IsUtf8 text

-- An instruction of 1.0 begins so, or an expression ends so (5.4). The byte 05 parts an `if`, and begins nothing.
abbrev pub is_opcode : ℕ → Bool
is_opcode x =
    nat_le x 0x04 || (nat_le 0x0B x && nat_le x 0x11) || (nat_le 0x1A x && nat_le x 0x1B)
    || (nat_le 0x20 x && nat_le x 0x24) || (nat_le 0x28 x && nat_le x 0xBF)

-- a byte that opens a block: `block`, `loop` or `if` (5.4.1)
abbrev pub Opens : ℕ → Type 0
Opens x = (0x02 ≤ x) × (x ≤ 0x04)

-- What the bytes from the offset of a fault on are, up to where the piece ends in which it lies, and those in front of it.
-- Each byte is wrong at some place of the grammar (0 as the form of a type, any other as a reserved byte), so `BadByte` asks for a byte
-- alone. So do the kinds of bytes left over, as what came before decides that they are. `FuncCodeCount` lies at the count of the codes, or
-- at the end. `LongInput` and `Memory` do not lie at bytes.
abbrev pub StandsAt : ReadKind → List ℕ → List ℕ → Type 0
StandsAt BadMagic skipped from = BeginsOtherwise magic from
StandsAt BadVersion skipped from = BeginsOtherwise version from
StandsAt UnexpectedEnd skipped from = IsCut skipped from
StandsAt IntTooLong skipped from = BeginsTooLong from
StandsAt IntTooLarge skipped from = BeginsTooLarge from
StandsAt UnknownSection skipped from = Begins (λ x. 11 < x) from
StandsAt SectionOrder skipped from = Begins (λ x. (1 ≤ x) × (x ≤ 11)) from
StandsAt SectionSize skipped from = 0 < length from
StandsAt BadUtf8 skipped from = BeginsBadly from
StandsAt BadByte skipped from = 0 < length from
StandsAt UnknownOpcode skipped from = Begins (λ x. is_opcode x ≡ false) from
StandsAt TooManyLocals skipped from = BeginsCount from
StandsAt FuncCodeCount skipped from = (from ≡ []) ⊎ BeginsCount from
StandsAt BodySize skipped from = 0 < length from
StandsAt TooDeep skipped from = Begins Opens from
StandsAt LongInput skipped from = ⊥
StandsAt Memory skipped from = ⊥

-- ---- where it lies

-- Where the bytes from a fault on end: those of the span do, or those of a piece whose size is spelled in front of it.
abbrev pub EndsThere : List ℕ → List ℕ → List ℕ → Type 0
EndsThere skipped from later =
    (later ≡ []) ⊎ ((front : List ℕ) × (begun : List ℕ) × (skipped ≡ front ++ begun) × EndsWithSize front (length begun + length from))

-- A fault stands within the bytes of a span: some are skipped, those from its offset on are as its kind says up to where they end, and
-- others come later.
pub record Stands (s : Span) (e : ReadFault) : Type 0 where
  pub skipped : List ℕ
  pub from : List ℕ
  pub later : List ℕ
  pub parts : s.rest ≡ skipped ++ (from ++ later)
  pub place : e.at ≡ offset s + length skipped
  pub ends : EndsThere skipped from later
  pub stands : StandsAt e.kind skipped from

-- the same of a call that takes memory
abbrev pub StandsOrMemory : Span → ReadFault → Type 0
StandsOrMemory s e = (e ≡ no_memory) ⊎ Stands s e

-- a call wanted so many bytes, and fewer are left
abbrev pub IsShort : ℕ → Span → ReadFault → Type 0
IsShort n s e = (e ≡ fault UnexpectedEnd s.end s.rest) × (length s.rest < n)

-- a whole input, before any of it is read
abbrev pub whole : List ℕ → Span
whole bytes = record { rest = bytes; end = length bytes }

-- A fault stands in all of some bytes, as those of a code or an expression: memory was wanted, or they are too many, or the fault stands
-- within them.
abbrev pub StandsInCode : List ℕ → ReadFault → Type 0
StandsInCode bytes e = (e ≡ no_memory) ⊎ ((e ≡ long_input) × (limit < length bytes)) ⊎ Stands (whole bytes) e

-- a half of a header is wanted, and fewer than its four bytes are left (5.5.15)
abbrev pub LacksHeader : List ℕ → ReadFault → Type 0
LacksHeader bytes e =
    ((e ≡ record { kind = UnexpectedEnd; at = 0 }) × (length bytes < 4))
    ⊎ ((e ≡ record { kind = UnexpectedEnd; at = 4 }) × ((half : List ℕ) × (bytes ≡ magic ++ half) × (length half < 4)))

-- A fault stands in a module: memory was wanted, or the input is too long, or too short for its header, or the fault stands within its bytes.
abbrev pub StandsIn : List ℕ → ReadFault → Type 0
StandsIn bytes e = (e ≡ no_memory) ⊎ (((e ≡ long_input) × (limit < length bytes)) ⊎ LacksHeader bytes e) ⊎ Stands (whole bytes) e

-- ---- of a section

-- the bytes of a section, which end where its contents end
abbrev pub contents_of : Section → Span
contents_of s = record { rest = s.contents; end = s.at + length s.contents }

-- the contents lie at their offset in the input, after their size
pub record LiesIn (bytes : List ℕ) (s : Section) : Type 0 where
  pub before : List ℕ
  pub after : List ℕ
  pub parts : bytes ≡ before ++ (s.contents ++ after)
  pub place : s.at ≡ length before
  pub sized : EndsWithSize before (length s.contents)

-- a section lies in the input, or a fault stands in it
abbrev pub ItemStands : List ℕ → Result Section ReadFault → Type 0
ItemStands bytes (Ok s) = LiesIn bytes s
ItemStands bytes (Err e) = StandsIn bytes e
