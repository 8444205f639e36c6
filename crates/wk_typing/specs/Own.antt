-- A block's own stack of operands.
use Rattle.std.specs.Prelude.{ℕ, Bool, true, false, List, [], ◌∷◌, Result, Ok, Err}
use Rattle.wk_bytes.specs.Leb.{◌>>=◌}
use Rattle.wk_body.specs.declared.types.ValType.{ValType}
use Rattle.wk_typing.specs.declared.fault.FaultKind.{FaultKind}
use Rattle.wk_typing.specs.declared.fault.FaultKind.TheVariants.{StackUnderflow, TypeMismatch, StackHeight}
use Rattle.wk_typing.specs.Slots.{Slot, AnyType, Known, fits}

-- what is wrong with instructions, and the token at which it shows
pub record TokenFault : Type 0 where
  pub kind : FaultKind
  pub token : ℕ

abbrev pub at_token : {A : Type 0} → ℕ → Result A FaultKind → Result A TokenFault
at_token k (Ok x) = Ok x
at_token k (Err e) = Err (record { kind = e; token = k })

-- The operands of a block, the top first. It is dead behind an instruction that does not go on: then operands of any type are
-- below the ones that it has.
pub record Own : Type 0 where
  pub items : List Slot
  pub dead : Bool

-- an empty live stack
abbrev pub fresh : Own
fresh = record { items = []; dead = false }

-- an empty dead stack
abbrev pub stopped : Own
stopped = record { items = []; dead = true }

abbrev pub top_of : Bool → List Slot → Result (Slot × Own) FaultKind
top_of dead (x ∷ xs) = Ok (x, record { items = xs; dead = dead })
top_of true [] = Ok (AnyType, stopped)
top_of false [] = Err StackUnderflow

-- pops whatever is on top
abbrev pub popped_any : Own → Result (Slot × Own) FaultKind
popped_any s = top_of s.dead s.items

abbrev pub checked : Bool → Slot × Own → Result (Slot × Own) FaultKind
checked true p = Ok p
checked false p = Err TypeMismatch

-- pops an operand that fits
abbrev pub popped_one : Slot → Own → Result (Slot × Own) FaultKind
popped_one want s = popped_any s >>= λ p. checked (fits want p.0) p

-- pops operands of these types, the last first
abbrev pub popped : List ValType → Own → Result Own FaultKind
popped [] s = Ok s
popped (t ∷ ts) s = popped ts s >>= λ s'. popped_one (Known t) s' >>= λ p. Ok (p.1)

abbrev pub pushed_one : Slot → Own → Own
pushed_one x s = record { items = x ∷ s.items; dead = s.dead }

-- pushes operands of these types, the first first
abbrev pub pushed : List ValType → Own → Own
pushed [] s = s
pushed (t ∷ ts) s = pushed ts (pushed_one (Known t) s)

abbrev pub is_empty : {A : Type 0} → List A → Bool
is_empty [] = true
is_empty (x ∷ xs) = false

abbrev pub emptied : Bool → Result (Unit {0}) FaultKind
emptied true = Ok tt
emptied false = Err StackHeight

-- the end of a block with these results, which are all that is left
abbrev pub ended : List ValType → Own → Result (Unit {0}) FaultKind
ended ts s = popped ts s >>= λ s'. emptied (is_empty s'.items)
