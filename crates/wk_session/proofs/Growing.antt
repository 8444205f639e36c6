-- A valid module to which something comes that moves nothing: what its functions refer to is found as it was.
use Rattle.std.proofs.Common.{◌≡◌, List, map, count_by, sym, subst}
use Rattle.std.specs.List.{AllByRecursion}
use Rattle.wk_body.specs.declared.references.Ref.{Ref}
use Rattle.wk_module.specs.declared.types.Func.{Func}
use Rattle.wk_module.specs.declared.types.Parts.{Parts}
use Rattle.wk_typing.specs.declared.fault.Verdict.{Verdict}
use Rattle.wk_typing.specs.declared.fault.Verdict.TheVariants.{Valid}
use Rattle.wk_typing.specs.Answers.{Found}
use Rattle.wk_typing.specs.Carried.{Agree}
use Rattle.wk_typing.specs.Finds.{Grows}
use Rattle.wk_check.specs.Growth.{ReferencesStay, VerdictsStay}
use Rattle.wk_check.specs.SpacesLaws.{answers_of}
use Rattle.wk_check.specs.Verdict.{func_verdict, module_verdict}
use Rattle.wk_session.specs.Dependents.{held, is_retyped_in}
use Rattle.wk_session.specs.Judged.{IsKnown}
use Rattle.wk_session.proofs.Judging.{agree_none}
use Rattle.wk_session.proofs.Works.{count_zero_in}

-- no function is typed again, where what it refers to is found as it was
pub none_retyped : (before now : Ref → Found) (fs : List Func) → AllByRecursion (λ f. Agree before now (held f)) fs
    → 0 ≡ count_by (is_retyped_in before now) fs
none_retyped before now fs all =
    sym (count_zero_in (is_retyped_in before now) (λ f. Agree before now (held f)) (λ f. agree_none before now (held f)) fs all)

-- what is known then, where the functions are those that were there
pub grown_known : VerdictsStay → ReferencesStay → (m n : Parts) (v : Verdict) → module_verdict m ≡ Valid → Grows (answers_of m) (answers_of n)
    → n.funcs ≡ m.funcs → v ≡ module_verdict n → IsKnown (answers_of m) n v
grown_known stay found m n v valid grows same verdict = record {
  verdict = verdict;
  verdicts = subst (λ (fs : List Func). map (func_verdict (answers_of m)) fs ≡ map (func_verdict (answers_of n)) fs) (sym same)
      (sym (stay m (answers_of n) valid grows));
  typed = subst (λ (fs : List Func). 0 ≡ count_by (is_retyped_in (answers_of m) (answers_of n)) fs) (sym same)
      (none_retyped (answers_of m) (answers_of n) m.funcs (found m (answers_of n) valid grows));
}
