-- What `get` and `copied` give of a slice, and which numeric instruction an opcode is.
use Rattle.std.proofs.Common.{◌≡◌, ℕ, ◌-◌, ◌≤◌, Bool, true, false, cond, ltb, leb, List, Option, Some, None, refl, sym, length, arith, Bor}
use Rattle.std.specs.Prelude.{slice_get}
use Rattle.std.specs.Option.{option_copied}
use Rattle.std.specs.Slice.{IsItemAt}
use Rattle.std.proofs.lemmas.Option.{slice_get_past, slice_get_read}
use Rattle.std.proofs.lemmas.Bool.{ltb-true, le-ltb, le-leb}
use Rattle.wk_body.specs.declared.types.Profile.{Profile}
use Rattle.wk_body.specs.declared.types.Profile.TheVariants.{Core, Extended}
use Rattle.wk_body.specs.Numeric.{numeric_of, numeric_ops}
use Rattle.wk_body.specs.Instructions.{numeric_in}

pub copied_at : {X : Type 0} (xs : List X) (i : ℕ) (r : Option (Bor X)) → IsItemAt xs i r → option_copied r ≡ slice_get xs i
copied_at xs i None h = sym (slice_get_past xs i h.3)
copied_at xs i (Some x) h = sym (slice_get_read xs (length xs) i x.now refl h.3.0 h.1)

numbers_end : (x : ℕ) (b : Bool) → ltb 0xC4 x ≡ b → numeric_of x ≡ cond b None (numeric_of x)
numbers_end x false e = refl
numbers_end x true e =
    let past = ltb-true 0xC4 x e in
    let high : leb 0x45 x ≡ true = le-leb 0x45 x (omega arith) in
    let long : length numeric_ops ≡ 128 = refl in
    rw high (slice_get_past numeric_ops (x - 0x45) (omega arith))

-- the table ends where the larger profile does
pub numeric_here : (profile : Profile) (x : ℕ) → (profile ≡ Core → x ≤ 0xBF) → numeric_of x ≡ numeric_in profile x
numeric_here Core x h = let within : ltb 0xBF x ≡ false = le-ltb 0xBF x (h refl) in rw within refl
numeric_here Extended x h = numbers_end x (ltb 0xC4 x) refl
