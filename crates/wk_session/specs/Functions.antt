-- What an edit that gives or replaces a code entry plans before anything is changed.
use Rattle.std.specs.Prelude.{◌≡◌, ℕ, Bool, true, false, Some, List, [], ◌∷◌, ◌++◌, ◌+◌, ◌≢◌, count_by, length, map, Result, Ok, Err}
use Rattle.wk_body.specs.declared.types.Profile.{Profile}
use Rattle.wk_body.specs.Bodies.{BodyOf}
use Rattle.wk_body.specs.Lengths.{limited}
use Rattle.wk_body.specs.Reading.{all_body_at, whole_at}
use Rattle.wk_body.specs.Written.{written_body}
use Rattle.wk_module.specs.declared.types.Func.{Func}
use Rattle.wk_module.specs.declared.types.Parts.{Parts}
use Rattle.wk_module.specs.Changes.{with_func}
use Rattle.wk_module.specs.Shape.{IsFormed}
use Rattle.wk_module.specs.Writing.{encoded}
use Rattle.wk_typing.specs.declared.fault.BodyVerdict.{BodyVerdict}
use Rattle.wk_check.specs.SpacesLaws.{answers_of}
use Rattle.wk_typing.specs.Typing.{body_verdict}
use Rattle.wk_check.specs.Verdict.{func_verdict, module_verdict}
use Rattle.wk_pieces.specs.Pieces.{ArePieces, codes_size}
use Rattle.wk_session.specs.declared.edit.EditFault.{EditFault}
use Rattle.wk_session.specs.declared.edit.EditFault.TheVariants.{Memory}
use Rattle.wk_session.specs.declared.edits.code_entry.Entry.{Entry}
use Rattle.wk_session.specs.declared.edits.code_entry.Verdicts.{Verdicts}
use Rattle.wk_session.specs.declared.edits.code_entry.Verdicts.TheVariants as entries
use Rattle.wk_session.specs.declared.cache.Cache.{Cache}
use Rattle.wk_session.specs.declared.verdict_and_len.Appraisal.{Appraisal}
use Rattle.wk_session.specs.Dependents.{is_retyped_in}
use Rattle.wk_session.specs.Edits.{from_bytes}
use Rattle.wk_session.specs.Kept.{IsAppraised, uses_of, standing}

-- the body that the bytes of an edit spell, or the first fault in them
abbrev pub body_spelled : Profile → List ℕ → Result BodyOf EditFault
body_spelled profile code = from_bytes (whole_at (all_body_at profile) code)

-- what is kept of m, but that the type of a function which comes to it stands behind those of the others already
pub record IsKeptWithType (t : ℕ) (m : Parts) (k : Cache) : Type 0 where
  pub verdict : k.verdict ≡ module_verdict m
  pub len : limited (length (encoded m)) ≡ Some k.len
  pub types : k.types.items ≡ map (λ f. f.ty) m.funcs ++ t ∷ []
  pub verdicts : k.verdicts.items ≡ map (func_verdict (answers_of m)) m.funcs
  pub refs : map (λ s. s.keys) k.refs.items ≡ map uses_of m.funcs
  pub pieces : ArePieces m k.pieces

-- The verdicts of the bodies of n, which has a code entry with that type and body where fs are functions that have kept verdicts: that of
-- the entry, where those of fs are the kept ones; or all.
abbrev pub AreVerdicts : ℕ → BodyOf → Parts → List Func → List BodyVerdict → Verdicts → Type 0
AreVerdicts t b n fs kept (entries.Own v) = (v ≡ body_verdict (answers_of n) t b) × (kept ≡ map (func_verdict (answers_of n)) fs)
AreVerdicts t b n fs kept (entries.All vs) = vs.items ≡ map (func_verdict (answers_of n)) n.funcs

-- whether the verdict of the entry comes to those that are kept, or changes one of them
abbrev pub is_own : Verdicts → Bool
is_own (entries.Own v) = true
is_own (entries.All vs) = false

-- n may stay, and this is to be kept of it, but for its sections, where a code entry with that type and body comes to fs or changes among
-- them: so many sections change
pub record IsPlanned (keep : Bool) (t : ℕ) (b : BodyOf) (n : Parts) (fs : List Func) (verdicts_kept : List BodyVerdict) (sections_made : ℕ)
    (p : Entry) : Type 0 where
  pub formed : IsFormed n
  pub appraised : IsAppraised keep n (Ok p.appraisal)
  pub uses : p.uses.keys ≡ uses_of (record { ty = t; body = b })
  pub verdicts : AreVerdicts t b n fs verdicts_kept p.verdicts
  pub code : p.code ≡ written_body b
  pub codes_len : p.codes_len ≡ codes_size n.funcs
  pub encoded : p.encoded ≡ 1
  pub made : p.sections ≡ sections_made

-- that; or why n may not stay, unless memory was wanted
abbrev pub IsEntryPlanned : Bool → ℕ → BodyOf → Parts → List Func → List BodyVerdict → ℕ → Result Entry EditFault → Type 0
IsEntryPlanned keep t b n fs kept made (Ok p) = IsPlanned keep t b n fs kept made p
IsEntryPlanned keep t b n fs kept made (Err e) = e ≢ Memory → standing keep n ≡ Err e

-- the verdicts of its bodies, and what is to be kept of it as a whole; or why it may not stay
abbrev pub IsEntryJudged : Bool → ℕ → BodyOf → Parts → List Func → List BodyVerdict → Result (Verdicts × Appraisal) EditFault → Type 0
IsEntryJudged keep t b n fs kept (Ok r) = AreVerdicts t b n fs kept r.0 × IsAppraised keep n (Ok r.1)
IsEntryJudged keep t b n fs kept (Err e) = IsAppraised keep n (Err e)

-- how many bodies are typed where that function comes to m: its own, and those that find another thing
abbrev pub typed_with : ℕ → BodyOf → Parts → ℕ
typed_with t b m = 1 + count_by (is_retyped_in (answers_of m) (answers_of (with_func t b m))) m.funcs
