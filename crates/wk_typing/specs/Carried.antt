-- Verdicts that are kept: what a body's references find, before and after an edit.
use Rattle.std.specs.Prelude.{◌≡◌, ℕ, List}
use Rattle.std.specs.List.{AllByRecursion}
use Rattle.wk_body.specs.declared.renumber.Moving.{Moving}
use Rattle.wk_body.specs.declared.renumber.Moving.TheVariants as moving
use Rattle.wk_body.specs.declared.references.Ref.{Ref}
use Rattle.wk_body.specs.declared.references.Ref.TheVariants.{Func, Global}
use Rattle.wk_body.specs.declared.references.Ref.TheVariants as refs
use Rattle.wk_body.specs.Bodies.{BodyOf}
use Rattle.wk_body.specs.References.{moved, refs_of, shift_body}
use Rattle.wk_typing.specs.Answers.{Found}
use Rattle.wk_typing.specs.Typing.{body_verdict}

-- a reference, as it stands after an import of the kind came in front of the index `from`
abbrev pub moved_ref : Moving → ℕ → Ref → Ref
moved_ref moving.Func from (Func x) = Func (moved from x)
moved_ref moving.Global from (Global x) = Global (moved from x)
moved_ref kind from r = r

-- each reference finds what it found
abbrev pub Agree : (Ref → Found) → (Ref → Found) → List Ref → Type 0
Agree before now rs = AllByRecursion (λ r. now r ≡ before r) rs

-- each reference, moved, finds what it found
abbrev pub AgreeMoved : Moving → ℕ → (Ref → Found) → (Ref → Found) → List Ref → Type 0
AgreeMoved kind from before now rs = AllByRecursion (λ r. now (moved_ref kind from r) ≡ before r) rs

-- ---- the laws, for all bodies at once

-- a body whose references find what they found, under a type that is found to be the same, has the verdict that it had
abbrev pub Keeps : Type 0
Keeps = (before now : Ref → Found) (was is : ℕ) (b : BodyOf) → now (refs.Ty is) ≡ before (refs.Ty was) → Agree before now (refs_of b.instrs)
    → body_verdict now is b ≡ body_verdict before was b

-- so has one whose references moved
abbrev pub KeepsMoved : Type 0
KeepsMoved = (kind : Moving) (from : ℕ) (before now : Ref → Found) (was is : ℕ) (b : BodyOf) → now (refs.Ty is) ≡ before (refs.Ty was)
    → AgreeMoved kind from before now (refs_of b.instrs)
    → body_verdict now is (shift_body kind from b) ≡ body_verdict before was b
