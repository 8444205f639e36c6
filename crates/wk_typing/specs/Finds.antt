-- References that find something, and that all of a valid body do.
use Rattle.std.specs.Prelude.{◌≡◌, ℕ, Bool, true, false, ◌∷◌, List}
use Rattle.std.specs.List.{AllByRecursion}
use Rattle.wk_body.specs.Bodies.{BodyOf}
use Rattle.wk_body.specs.References.{refs_of}
use Rattle.wk_body.specs.declared.references.Ref.{Ref}
use Rattle.wk_body.specs.declared.references.Ref.TheVariants.{Ty}
use Rattle.wk_typing.specs.declared.fault.BodyVerdict.TheVariants.{Valid}
use Rattle.wk_typing.specs.Answers.{Found, TypeIs, FuncIs, GlobalIs, IsPresent}
use Rattle.wk_typing.specs.Typing.{body_verdict}

-- a type, a function of a type that is there, a global, the table or the memory
abbrev pub is_there : Found → Bool
is_there (TypeIs t) = true
is_there (FuncIs t) = true
is_there (GlobalIs g) = true
is_there IsPresent = true
is_there _ = false

abbrev pub AreThere : (Ref → Found) → List Ref → Type 0
AreThere A rs = AllByRecursion (λ r. is_there (A r) ≡ true) rs

-- all that a valid body refers to is there, and so is its own type
abbrev pub ValidFinds : Type 0
ValidFinds = (A : Ref → Found) (t : ℕ) (b : BodyOf) → body_verdict A t b ≡ Valid → AreThere A (Ty t ∷ refs_of b.instrs)

-- what was there is found as it was, as where something comes to a module and nothing goes or moves
abbrev pub Grows : (Ref → Found) → (Ref → Found) → Type 0
Grows before now = (r : Ref) → is_there (before r) ≡ true → now r ≡ before r
