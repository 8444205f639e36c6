-- What the verdict of a module tells of its bodies.
use Rattle.std.specs.Prelude.{◌≡◌, ℕ, List, Option, None, Some, IfSome, nat_lt, option_map, slice_get, if◌then◌else◌}
use Rattle.wk_module.specs.declared.types.Func.{Func}
use Rattle.wk_typing.specs.declared.fault.BodyVerdict.{BodyVerdict}
use Rattle.wk_typing.specs.declared.fault.BodyVerdict.TheVariants as bodies
use Rattle.wk_typing.specs.declared.fault.Fault.{Fault}
use Rattle.wk_typing.specs.declared.fault.Verdict.{Verdict}
use Rattle.wk_typing.specs.declared.fault.Verdict.TheVariants.{Valid, Invalid}
use Rattle.wk_typing.specs.Answers.{Found}
use Rattle.wk_check.specs.Verdict.{func_verdict}
use Rattle.wk_body.specs.declared.references.Ref.{Ref}

-- a body in front of the first fault is valid, and the one that has it is invalid by it; of those behind it nothing is told
abbrev pub told_by : Fault → ℕ → Option BodyVerdict
told_by fault i =
    if nat_lt fault.place.section 10 then None
    else (if nat_lt 10 fault.place.section then Some bodies.Valid
    else (if nat_lt i fault.place.item then Some bodies.Valid
    else (if nat_lt fault.place.item i then None
    else option_map (bodies.Invalid fault.kind) fault.place.token)))

-- the same of the verdict, if there is one
abbrev pub body_told : Option Verdict → ℕ → Option BodyVerdict
body_told None i = None
body_told (Some Valid) i = Some bodies.Valid
body_told (Some (Invalid fault)) i = told_by fault i

-- what is told of functions is their verdict where references find these answers
abbrev pub AreKnown : Option Verdict → (Ref → Found) → List Func → Type 0
AreKnown verdict answers fs = (i : ℕ) (f : Func) → slice_get fs i ≡ Some f → IfSome (body_told verdict i) (λ v. v ≡ func_verdict answers f)
