-- What a single piece that is spelled keeps: its numbers are in their ranges, it belongs to the profile, and it is spelled
-- the same in the wider one.
use Rattle.std.proofs.Common.{ℕ, ◌<◌, ◌^◌, pos, List, [], ◌∷◌, length, refl, sym, subst, arith}
use Rattle.std.specs.List.{AllByRecursion}
use Rattle.byteorder.specs.Numbers.{little_from-lt}
use Rattle.wk_bytes.specs.Leb.{SpellsU}
use Rattle.wk_bytes.specs.LebLaws.{IsBytes, SpellsU-below, SpellsS-fits, IsBytes-after}
use Rattle.wk_bytes.specs.Pieces.{SpellsWord}
use Rattle.wk_body.specs.declared.types.Profile.{Profile}
use Rattle.wk_body.specs.declared.types.Profile.TheVariants.{Core, Extended}
use Rattle.wk_body.specs.declared.types.BlockType.{BlockType}
use Rattle.wk_body.specs.declared.types.BlockType.TheVariants.{Empty, Value}
use Rattle.wk_body.specs.declared.types.BlockType.TheVariants as types
use Rattle.wk_body.specs.Vectors.{SpellsItems}
use Rattle.wk_body.specs.Instructions.{Plain, plain_opcode, Immediates, Nothing, Reserved, Index, IndexReserved, Labels, Memarg, Signed, Word, immediates}
use Rattle.wk_body.specs.Instructions.{Allows}
use Rattle.wk_body.specs.Spelling.{SpellsImmediates, SpellsPlain, SpellsType}
use Rattle.wk_body.specs.Shape.{IsU32, AreInRange, IsTypeInRange, AllowsType}

-- ---- ranges

labels_in_range : (labels b : List ℕ) → SpellsItems (SpellsU 32) b labels → AllByRecursion IsU32 labels
labels_in_range [] b s = tt
labels_in_range (x ∷ labels) b s = (SpellsU-below 32 s.0 x s.3, labels_in_range labels s.1 s.4)

word_in_range : (size : ℕ) (b : List ℕ) (w : ℕ) → IsBytes b → SpellsWord size b w → w < 256 ^ size
word_in_range size b w fits s = subst (λ (v : ℕ). v < 256 ^ size) (sym s.1) (little_from-lt 0 size b fits)

immediates_in_range : (i : Immediates) (b : List ℕ) → IsBytes b → SpellsImmediates i b → AreInRange i
immediates_in_range Nothing b fits s = tt
immediates_in_range Reserved b fits s = tt
immediates_in_range (Index x) b fits s = SpellsU-below 32 b x s
immediates_in_range (IndexReserved x) b fits s = SpellsU-below 32 s.0 x s.1
immediates_in_range (Labels labels other) b fits s =
    (SpellsU-below 32 s.2.count (length labels) s.2.counts, labels_in_range labels s.2.items s.2.spelled, SpellsU-below 32 s.1 other s.3)
immediates_in_range (Memarg align offset) b fits s = (SpellsU-below 32 s.0 align s.2, SpellsU-below 32 s.1 offset s.3)
immediates_in_range (Signed bits z) b fits s = SpellsS-fits bits b z s
immediates_in_range (Word size w) b fits s = word_in_range size b w fits s

pub plain_in_range : (profile : Profile) (p : Plain) (b : List ℕ) → IsBytes b → SpellsPlain profile p b → AreInRange (immediates p)
plain_in_range profile p b fits s = immediates_in_range (immediates p) s.0 (IsBytes-after (plain_opcode p ∷ []) s.0 b s.3 fits) s.2

pub type_in_range : (profile : Profile) (t : BlockType) (b : List ℕ) → SpellsType profile t b → IsTypeInRange t
type_in_range profile Empty b s = tt
type_in_range profile (Value t) b s = tt
type_in_range profile (types.Index x) b s = SpellsS-fits 33 b (pos x) s.1

-- ---- profiles

pub plain_allowed : (profile : Profile) (p : Plain) (b : List ℕ) → SpellsPlain profile p b → Allows profile p
plain_allowed profile p b s = s.1

pub type_allowed : (profile : Profile) (t : BlockType) (b : List ℕ) → SpellsType profile t b → AllowsType profile t
type_allowed profile Empty b s = tt
type_allowed profile (Value t) b s = tt
type_allowed profile (types.Index x) b s = s.0

pub plain_alike : (p : Plain) (b : List ℕ) → SpellsPlain Core p b → SpellsPlain Extended p b
plain_alike p b s = (s.0, omega (arith, s.1), s.2, s.3)

pub type_alike : (t : BlockType) (b : List ℕ) → SpellsType Core t b → SpellsType Extended t b
type_alike Empty b s = s
type_alike (Value t) b s = s
type_alike (types.Index x) b s = (refl, s.1)
