-- What an `Out` takes of a text that goes to it in pieces.
use Rattle.std.specs.Prelude.{ℕ, ◌≡◌, ◌+◌, Option, List, ◌++◌, Result, Ok, Err, OnOk, OnErr}
use Rattle.std.specs.Io.KnownBytes.{Appends}
use Rattle.wk_bytes.specs.Taken.{TakesFront}
use Rattle.wk_list.specs.declared.fault.ListFault.{ListFault}
use Rattle.wk_list.specs.declared.fault.ListFault.TheVariants.{Write, Memory}

-- the front of the text was taken, and this is left of it
abbrev pub Leaves : Option (List ℕ) → Option (List ℕ) → List ℕ → List ℕ → Type 0
Leaves old new text left = (front : List ℕ) × (text ≡ front ++ left) × Appends old new front

-- the failures of an `Out` in a call that takes memory as well: one more where the call answers that writing failed
abbrev pub failed_after : {T : Type 0} → ℕ → Result T ListFault → ℕ
failed_after old (Ok x) = old
failed_after old (Err Write) = old + 1
failed_after old (Err Memory) = old

-- a call puts a text out: where it ends, a front of the text was taken and the rest is left; where a fault stops it, a beginning
-- was taken; and it counts one failure more exactly where it answers that writing failed
pub record PutsOut {W T : Type 0} (taken : W → Option (List ℕ)) (failed : W → ℕ) (old new : W) (text left : List ℕ) (r : Result T ListFault) : Type 0 where
  pub ok : OnOk r (Leaves (taken old) (taken new) text left)
  pub err : OnErr r (TakesFront (taken old) (taken new) text)
  pub failures : failed new ≡ failed_after (failed old) r
