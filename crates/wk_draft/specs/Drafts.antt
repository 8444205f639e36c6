-- A draft of a module: the module with a stub in the place of each body that the edits so far have left as it was.
use Rattle.std.specs.Prelude.{◌≡◌, ℕ, ◌+◌, ◌*◌, Bool, true, false, List, [], ◌∷◌}
use Rattle.std.specs.List.{sum_by}
use Rattle.wk_body.specs.declared.references.Ref.{Ref}
use Rattle.wk_body.specs.declared.types.Profile.{Profile}
use Rattle.wk_body.specs.declared.shifts.Shifts.{Shifts}
use Rattle.wk_body.specs.Shifts.{shifted_body}
use Rattle.wk_module.specs.declared.types.Func.{Func}
use Rattle.wk_module.specs.declared.types.Kind.TheVariants as kinds
use Rattle.wk_module.specs.declared.types.Parts.{Parts}
use Rattle.wk_module.specs.Imports.{import_count}
use Rattle.wk_module.specs.Items.{IsCode}
use Rattle.wk_module.specs.Outlines.{stub}
use Rattle.wk_module.specs.Sizes.{body_size}
use Rattle.wk_typing.specs.declared.fault.BodyVerdict.TheVariants.{Valid}
use Rattle.wk_typing.specs.Answers.{Found}
use Rattle.wk_check.specs.SpacesLaws.{answers_of}
use Rattle.wk_check.specs.Verdict.{func_verdict}

-- A function whose body is deferred, in a module of a profile where references find A: its body is that of the function o of the first
-- module, with its references where they stand now; g stands for it in the draft. Both are valid.
pub record IsDeferred (profile : Profile) (A : Ref → Found) (s : Shifts) (o f g : Func) : Type 0 where
  pub is : f ≡ record o { body = shifted_body s o.body }
  pub stands : g ≡ record f { body = stub }
  pub code : IsCode profile f.body
  pub valid : func_verdict A f ≡ Valid
  pub stub_valid : func_verdict A g ≡ Valid

-- The functions of a module and those of its draft, where a flag for each function of the first module says whether its body is deferred.
-- All others are the same in both, those too that came behind.
abbrev pub AreDrafted : Profile → (Ref → Found) → Shifts → List Func → List Bool → List Func → List Func → Type 0
AreDrafted profile A s [] [] fs gs = fs ≡ gs
AreDrafted profile A s (o ∷ os) (true ∷ deferred) (f ∷ fs) (g ∷ gs) = IsDeferred profile A s o f g × AreDrafted profile A s os deferred fs gs
AreDrafted profile A s (o ∷ os) (false ∷ deferred) (f ∷ fs) (g ∷ gs) = (f ≡ g) × AreDrafted profile A s os deferred fs gs
AreDrafted profile A s _ _ _ _ = ⊥

-- d is m but for the deferred bodies
pub record IsSketch (s : Shifts) (os : List Func) (deferred : List Bool) (m d : Parts) : Type 0 where
  pub rest : d ≡ record m { funcs = d.funcs }
  pub funcs : AreDrafted m.profile (answers_of m) s os deferred m.funcs d.funcs

-- ... and the imports of m say where the references of these bodies stand
pub record IsDraft (s : Shifts) (os : List Func) (deferred : List Bool) (m d : Parts) : Type 0 where
  pub sketch : IsSketch s os deferred m d
  pub funcs_from : import_count kinds.Func m.imports ≡ s.funcs_from + s.funcs_by
  pub globals_from : import_count kinds.Global m.imports ≡ s.globals_from + s.globals_by

-- By how many bytes a module may be longer than its draft: an index that moves gets no longer than three times its instruction.
abbrev pub deferred_room : List Func → ℕ
deferred_room os = sum_by (λ f. 3 * body_size f.body + 5) os + 16
