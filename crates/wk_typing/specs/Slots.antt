-- What an operand is known to be, and how it is kept in one byte.
use Rattle.std.specs.Prelude.{◌≡◌, ℕ, zero, suc, Bool, true, false}
use Rattle.std.proofs.Common.{refl}
use Rattle.std.specs.Coded.{Coded, code_by, coded_ℕ}
use Rattle.wk_body.specs.declared.types.ValType.{ValType}
use Rattle.wk_body.specs.declared.types.ValType.TheVariants.{I32, I64, F32, F64}
use Rattle.wk_typing.specs.declared.operand.Mark.{Mark}
use Rattle.wk_typing.specs.declared.operand.Mark.TheVariants as marks

-- an operand of any type, which stands where code can't be reached, or one of a value type
pub data Slot : Type 0 where
  AnyType : Slot
  Known : ValType → Slot

abbrev pub same : ValType → ValType → Bool
same I32 I32 = true
same I64 I64 = true
same F32 F32 = true
same F64 F64 = true
same _ _ = false

-- an operand may stand where one is wanted
abbrev pub fits : Slot → Slot → Bool
fits AnyType have = true
fits (Known t) AnyType = true
fits (Known t) (Known u) = same t u

-- what select leaves of its second and its first operand
abbrev pub selected : Slot → Slot → Slot
selected AnyType first = first
selected second first = second

-- ---- the mark that is kept

abbrev pub slot_of : Mark → Slot
slot_of marks.Any = AnyType
slot_of marks.I32 = Known I32
slot_of marks.I64 = Known I64
slot_of marks.F32 = Known F32
slot_of marks.F64 = Known F64

abbrev pub mark_of : Slot → Mark
mark_of AnyType = marks.Any
mark_of (Known I32) = marks.I32
mark_of (Known I64) = marks.I64
mark_of (Known F32) = marks.F32
mark_of (Known F64) = marks.F64

pub mark_back : (m : Mark) → mark_of (slot_of m) ≡ m
mark_back marks.Any = refl
mark_back marks.I32 = refl
mark_back marks.I64 = refl
mark_back marks.F32 = refl
mark_back marks.F64 = refl

abbrev pub slot_number : Slot → ℕ
slot_number AnyType = 0
slot_number (Known I32) = 1
slot_number (Known I64) = 2
slot_number (Known F32) = 3
slot_number (Known F64) = 4

abbrev pub slot_numbered : ℕ → Slot
slot_numbered zero = AnyType
slot_numbered (suc zero) = Known I32
slot_numbered (suc (suc zero)) = Known I64
slot_numbered (suc (suc (suc zero))) = Known F32
slot_numbered (suc (suc (suc (suc n)))) = Known F64

pub slot_back : (s : Slot) → slot_numbered (slot_number s) ≡ s
slot_back AnyType = refl
slot_back (Known I32) = refl
slot_back (Known I64) = refl
slot_back (Known F32) = refl
slot_back (Known F64) = refl

abbrev pub coded_slot : Coded Slot
coded_slot = code_by ℕ coded_ℕ slot_number slot_numbered slot_back
