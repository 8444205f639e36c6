-- How the written form of a body is passed over while its references move. These are the steps of the code, for its private
-- functions; what moving means is told without them, by `Shifts`.
use Rattle.std.specs.Prelude.{◌≡◌, ℕ, zero, suc, ◌-◌, ◌<◌, ◌≤◌, ◌⊎◌, ◌==◌, if◌then◌else◌, List, [], ◌∷◌, ◌++◌, map, take, drop}
use Rattle.std.specs.List.{flat_map, AllByRecursion}
use Rattle.wk_body.specs.declared.shifts.Shifts.{Shifts}
use Rattle.wk_body.specs.Instructions.{immediates}
use Rattle.wk_body.specs.Tree.{Tok, Simple, Open, OpenIf, Otherwise, Close}
use Rattle.wk_body.specs.Shape.{AreInRange, IsTypeInRange}
use Rattle.wk_body.specs.References.{map_tok}
use Rattle.wk_body.specs.Written.{tok_bytes}
use Rattle.wk_body.specs.Shifts.{shifted, shifted_plain}

-- ---- integers

-- the bytes of an integer of any value, or of a type: the last alone is below 128
abbrev pub IsInteger : List ℕ → Type 0
IsInteger [] = ⊥
IsInteger (x ∷ []) = x < 128
IsInteger (x ∷ y ∷ rest) = (128 ≤ x) × IsInteger (y ∷ rest)

-- the bytes of so many integers, one after the other
abbrev pub AreIntegers : ℕ → List ℕ → Type 0
AreIntegers zero bytes = bytes ≡ []
AreIntegers (suc n) bytes = (front later : List ℕ) × IsInteger front × AreIntegers n later × (bytes ≡ front ++ later)

-- ---- what moves

-- a call, or what reads or sets a global
abbrev pub IsReferring : ℕ → Type 0
IsReferring opcode = (opcode ≡ 0x10) ⊎ ((opcode ≡ 0x23) ⊎ (opcode ≡ 0x24))

-- the index behind such an opcode, moved
abbrev pub index_after : Shifts → ℕ → ℕ → ℕ
index_after s opcode x = if opcode == 0x10 then shifted s.funcs_from s.funcs_by x else shifted s.globals_from s.globals_by x

abbrev pub shifted_tok : Shifts → Tok → Tok
shifted_tok s t = map_tok (shifted_plain s) t

-- the numbers of a token are in their ranges
abbrev pub IsTokInRange : Tok → Type 0
IsTokInRange (Simple p) = AreInRange (immediates p)
IsTokInRange (Open kind ty skip) = IsTypeInRange ty
IsTokInRange (OpenIf ty skip) = IsTypeInRange ty
IsTokInRange (Otherwise skip) = Unit {0}
IsTokInRange Close = Unit {0}

abbrev pub AreToksInRange : List Tok → Type 0
AreToksInRange ts = AllByRecursion IsTokInRange ts

-- ---- how far a walk is

-- the bytes from one offset up to another
abbrev pub between : ℕ → ℕ → List ℕ → List ℕ
between from to bytes = take (to - from) (drop from bytes)

-- Of a code, whose tokens are all these, those in front of `at` are written in `out`, moved, but for the bytes from `run` on, in which
-- nothing moves. With those behind `at`, moved, that makes the goal.
pub record Shifting (s : Shifts) (all : List Tok) (goal code out : List ℕ) (run at : ℕ) : Type 0 where
  pub left : List Tok
  pub in_range : AreToksInRange left
  pub fits : AreToksInRange (map (shifted_tok s) all) → AreToksInRange (map (shifted_tok s) left)
  pub ahead : drop at code ≡ flat_map tok_bytes left
  pub written : (out ++ between run at code) ++ flat_map tok_bytes (map (shifted_tok s) left) ≡ goal

-- the step from one place of the walk to another
abbrev pub ShiftsOn : Shifts → List ℕ → List ℕ → ℕ → ℕ → List ℕ → ℕ → ℕ → Type 0
ShiftsOn s code out run at after last end = (all : List Tok) (goal : List ℕ) → Shifting s all goal code out run at → Shifting s all goal code after last end

-- nothing of that kind stands there: either the tokens are none of these, or an index is too large
abbrev pub StaysBehind : Shifts → List ℕ → List ℕ → ℕ → ℕ → Type 0
StaysBehind s code out run at = (all : List Tok) (goal : List ℕ) → Shifting s all goal code out run at → AreToksInRange (map (shifted_tok s) all) → ⊥
