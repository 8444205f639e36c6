-- What is kept of a module to which something comes that is no function, and what judging it gives.
use Rattle.std.specs.Prelude.{◌≡◌, ℕ, Bool, Result, Ok, Err, map, count_by, unwrap_or}
use Rattle.wk_body.specs.declared.references.Ref.{Ref}
use Rattle.wk_module.specs.declared.types.Parts.{Parts}
use Rattle.wk_module.specs.Shape.{settle}
use Rattle.wk_typing.specs.declared.fault.Verdict.{Verdict}
use Rattle.wk_typing.specs.Answers.{Found}
use Rattle.wk_check.specs.SpacesLaws.{answers_of}
use Rattle.wk_check.specs.Verdict.{func_verdict, module_verdict}
use Rattle.wk_pieces.specs.Pieces.{code_of, codes_size, customs_size}
use Rattle.wk_session.specs.declared.edit.EditFault.{EditFault}
use Rattle.wk_session.specs.declared.edits.plan_append.Judgement.{Judgement}
use Rattle.wk_session.specs.declared.cache.Cache.{Cache}
use Rattle.wk_session.specs.Dependents.{is_retyped_in}
use Rattle.wk_session.specs.Kept.{uses_of, standing, IsAppraised, IsKept}

-- Each part that is kept of functions is that of the functions of n, and the verdicts are those by what references found before.
pub record AreKept (before : Ref → Found) (n : Parts) (k : Cache) : Type 0 where
  pub types : k.types.items ≡ map (λ f. f.ty) n.funcs
  pub verdicts : k.verdicts.items ≡ map (func_verdict before) n.funcs
  pub refs : map (λ s. s.keys) k.refs.items ≡ map uses_of n.funcs
  pub codes : k.pieces.codes.items ≡ map code_of n.funcs
  pub codes_len : k.pieces.codes_len ≡ codes_size n.funcs
  pub customs_len : k.pieces.customs_len ≡ customs_size n.customs

-- That is the verdict of n, where nothing that a function of n refers to is found to be another thing than before: no body is typed, and
-- each has the verdict that it had.
pub record IsKnown (before : Ref → Found) (n : Parts) (v : Verdict) : Type 0 where
  pub verdict : v ≡ module_verdict n
  pub verdicts : map (func_verdict before) n.funcs ≡ map (func_verdict (answers_of n)) n.funcs
  pub typed : 0 ≡ count_by (is_retyped_in before (answers_of n)) n.funcs

-- n may stay, and that is to be kept of it in the place of what is kept, but for its sections; so many bodies were typed: those that find
-- another thing than before. Where no verdicts of bodies stand, those that are kept stay.
pub record MayStay (keep : Bool) (before : Ref → Found) (n : Parts) (k : Cache) (typed : ℕ) (j : Judgement) : Type 0 where
  pub appraised : IsAppraised keep n (Ok j.appraisal)
  pub verdicts : (unwrap_or j.verdicts k.verdicts).items ≡ map (func_verdict (answers_of n)) n.funcs
  pub typed_are : typed ≡ count_by (is_retyped_in before (answers_of n)) n.funcs

-- that, or why the edit that makes n is refused, unless memory was wanted
abbrev pub IsJudged : Bool → (Ref → Found) → Parts → Cache → ℕ → Result Judgement EditFault → Type 0
IsJudged keep before n k typed (Ok j) = MayStay keep before n k typed j
IsJudged keep before n k typed (Err e) = IsAppraised keep n (Err e)

-- the same is kept: the contents of sections may have got more room
pub record IsUnchanged (k new : Cache) : Type 0 where
  pub others : new ≡ record k { pieces = record k.pieces { sections = new.pieces.sections } }
  pub sections : new.pieces.sections.items ≡ k.pieces.sections.items

-- n stays and new is kept of it, where so many bodies were typed and sections changed; or that, and what was kept is as it was
abbrev pub IsGrown : Bool → (Ref → Found) → Parts → ℕ → ℕ → Cache → Cache → Result ℕ EditFault → Type 0
IsGrown keep before n typed made k new (Ok sections) = (standing keep n ≡ Ok (settle n)) × IsKept n new
    × (typed ≡ count_by (is_retyped_in before (answers_of n)) n.funcs) × (sections ≡ made)
IsGrown keep before n typed made k new (Err e) = IsAppraised keep n (Err e) × IsUnchanged k new
