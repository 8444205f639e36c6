-- The lists of a module as they are lent to what judges it: what references find in them, and how many items they have.
use Rattle.std.proofs.Common.{◌≡◌, ℕ, ◌<◌, ◌^◌, List, length, map, count_by, sym, ap, subst, ◌∙◌, arith}
use Rattle.std.proofs.lemmas.List.{length-map}
use Rattle.wk_body.specs.declared.references.Ref.{Ref}
use Rattle.wk_module.specs.declared.types.Func.{Func}
use Rattle.wk_module.specs.declared.types.Parts.{Parts}
use Rattle.wk_module.specs.Listed.{AreNumbered, listed_with}
use Rattle.wk_module.specs.NumberedLaws.{module_numbered_with, funcs_numbered}
use Rattle.wk_module.specs.Sections.{SectionLists}
use Rattle.wk_module.specs.Shape.{IsFormed}
use Rattle.wk_typing.specs.declared.fault.BodyVerdict.{BodyVerdict}
use Rattle.wk_typing.specs.Answers.{Found}
use Rattle.wk_typing.specs.Finds.{Grows}
use Rattle.wk_check.specs.Spaces.{answer_in, spaces_of}
use Rattle.wk_check.specs.SpacesLaws.{answers_of}
use Rattle.wk_check.specs.Verdict.{func_verdict}
use Rattle.wk_session.specs.Dependents.{is_retyped_in}

-- the lists of a module, as they are lent
abbrev pub lent : Parts → SectionLists
lent m = listed_with (map (λ f. f.ty) m.funcs) m

pub lent_is : (m : Parts) (types : List ℕ) (w : SectionLists) → w ≡ listed_with types m → types ≡ map (λ f. f.ty) m.funcs → w ≡ lent m
lent_is m types w is told = is ∙ ap (λ (ts : List ℕ). listed_with ts m) told

abbrev pub answers_in : SectionLists → Ref → Found
answers_in w = answer_in (spaces_of w)

pub answers_lent : (m : Parts) (w : SectionLists) → w ≡ lent m → answers_in w ≡ answers_of m
answers_lent m w is = ap answers_in is

pub grows_lent : (m n : Parts) (w v : SectionLists) → w ≡ lent m → v ≡ lent n → Grows (answers_of m) (answers_of n) → Grows (answers_in w) (answers_in v)
grows_lent m n w v old new grows =
    subst (λ (A : Ref → Found). Grows A (answers_in v)) (sym (answers_lent m w old))
    (subst (λ (B : Ref → Found). Grows (answers_of m) B) (sym (answers_lent n v new)) grows)

pub verdicts_lent : (m : Parts) (w : SectionLists) (fs : List Func) (vs : List BodyVerdict) → w ≡ lent m → vs ≡ map (func_verdict (answers_of m)) fs
    → vs ≡ map (func_verdict (answers_in w)) fs
verdicts_lent m w fs vs is told = told ∙ ap (λ (A : Ref → Found). map (func_verdict A) fs) (sym (answers_lent m w is))

pub count_lent : (m n : Parts) (w v : SectionLists) (fs : List Func) → w ≡ lent m → v ≡ lent n
    → count_by (is_retyped_in (answers_in w) (answers_in v)) fs ≡ count_by (is_retyped_in (answers_of m) (answers_of n)) fs
count_lent m n w v fs old new =
    ap (λ (A : Ref → Found). count_by (is_retyped_in A (answers_in v)) fs) (answers_lent m w old)
    ∙ ap (λ (B : Ref → Found). count_by (is_retyped_in (answers_of m) B) fs) (answers_lent n v new)

pub numbered_lent : (n : Parts) (w : SectionLists) → w ≡ lent n → IsFormed n → AreNumbered w
numbered_lent n w is formed =
    subst AreNumbered (sym is)
    (module_numbered_with (map (λ f. f.ty) n.funcs) n (omega (arith, funcs_numbered n formed, length-map n.funcs (λ (f : Func). f.ty))) formed)

-- as few verdicts as functions
pub verdicts_few : (n : Parts) (A : Ref → Found) (vs : List BodyVerdict) → vs ≡ map (func_verdict A) n.funcs → IsFormed n → length vs < 2 ^ 32
verdicts_few n A vs is formed = omega (arith, ap length is, length-map n.funcs (func_verdict A), funcs_numbered n formed)
