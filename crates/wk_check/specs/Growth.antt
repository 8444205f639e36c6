-- What is known of a valid module, of one that has more or one export less, and of a table or a memory that is one too many.
use Rattle.std.specs.Prelude.{◌≡◌, ℕ, Option, Some, None, List, [], ◌∷◌, map, remove}
use Rattle.std.specs.List.{AllByRecursion}
use Rattle.wk_body.specs.declared.references.Ref.{Ref}
use Rattle.wk_body.specs.declared.references.Ref.TheVariants.{Ty}
use Rattle.wk_body.specs.References.{refs_of}
use Rattle.wk_module.specs.declared.types.Func.{Func}
use Rattle.wk_module.specs.declared.types.ImportDesc.{ImportDesc}
use Rattle.wk_module.specs.declared.types.ImportDesc.TheVariants as desc
use Rattle.wk_module.specs.declared.types.Limits.{Limits}
use Rattle.wk_module.specs.declared.types.Parts.{Parts}
use Rattle.wk_typing.specs.declared.fault.Fault.{Fault}
use Rattle.wk_typing.specs.declared.fault.FaultKind.{FaultKind}
use Rattle.wk_typing.specs.declared.fault.FaultKind.TheVariants.{TooManyTables, TooManyMemories}
use Rattle.wk_typing.specs.declared.fault.Verdict.TheVariants.{Valid}
use Rattle.wk_typing.specs.declared.fault.BodyVerdict.TheVariants as bodies
use Rattle.wk_typing.specs.Answers.{Found}
use Rattle.wk_typing.specs.Carried.{Agree}
use Rattle.wk_typing.specs.Finds.{Grows}
use Rattle.wk_typing.specs.Faults.{fault_at}
use Rattle.wk_check.specs.SpacesLaws.{answers_of}
use Rattle.wk_check.specs.Verdict.{func_verdict, module_verdict}

-- without one of its exports it stays valid
abbrev pub StaysWithout : Type 0
StaysWithout = (m : Parts) (place : ℕ) → module_verdict m ≡ Valid
    → module_verdict (record m { exports = remove m.exports place }) ≡ Valid

-- each body of it is valid
abbrev pub HasValidBodies : Type 0
HasValidBodies = (m : Parts) → module_verdict m ≡ Valid
    → AllByRecursion (λ f. func_verdict (answers_of m) f ≡ bodies.Valid) m.funcs

-- where what was there is found as it was, its bodies have the verdicts that they had
abbrev pub VerdictsStay : Type 0
VerdictsStay = (m : Parts) (now : Ref → Found) → module_verdict m ≡ Valid → Grows (answers_of m) now
    → map (func_verdict now) m.funcs ≡ map (func_verdict (answers_of m)) m.funcs

-- and all that its functions refer to is found as it was
abbrev pub ReferencesStay : Type 0
ReferencesStay = (m : Parts) (now : Ref → Found) → module_verdict m ≡ Valid → Grows (answers_of m) now
    → AllByRecursion (λ (f : Func). Agree (answers_of m) now (Ty f.ty ∷ refs_of f.body.instrs)) m.funcs

-- ---- where an import comes in front of what the module defines of its kind

-- the first table, or memory, that the module defines is one too many
abbrev pub crowded : ℕ → FaultKind → List Limits → Option Fault
crowded section kind [] = None
crowded section kind (l ∷ ls) = Some (fault_at section 0 (record { kind = kind; token = None }))

-- what is wrong with it, where what is imported is one too
abbrev pub crowded_by : ImportDesc → Parts → Option Fault
crowded_by (desc.Table l) m = crowded 4 TooManyTables m.tables
crowded_by (desc.Memory l) m = crowded 5 TooManyMemories m.memories
crowded_by (desc.Func x) m = None
crowded_by (desc.Global g) m = None
