-- A module with an import more, and what is planned before it stands.
use Rattle.std.specs.Prelude.{◌≡◌, ◌≢◌, ◌+◌, ◌-◌, ℕ, Bool, true, false, if◌then◌else◌, Option, Some, None, List, [], ◌∷◌, is_some, length, take, map, count_by}
use Rattle.std.specs.Prelude.{set, unwrap_or, Ok, Err}
use Rattle.wk_module.specs.declared.types.Import.{Import}
use Rattle.wk_module.specs.declared.types.Kind.{Kind}
use Rattle.wk_module.specs.declared.types.Parts.{Parts}
use Rattle.wk_module.specs.Changes.{with_import}
use Rattle.wk_module.specs.Items.{desc_kind}
use Rattle.wk_module.specs.Moving.{moved_parts, moved_lists, are_parts_stuck}
use Rattle.wk_module.specs.declared.renumber.MovedLists.{MovedLists}
use Rattle.wk_module.specs.Sections.{SectionLists, of_number}
use Rattle.wk_module.specs.Shape.{IsFormed}
use Rattle.wk_module.specs.Writing.{contents_by}
use Rattle.wk_check.specs.SpacesLaws.{answers_of}
use Rattle.wk_check.specs.Verdict.{func_verdict}
use Rattle.wk_pieces.specs.declared.pieces.NewSections.{NewSections}
use Rattle.wk_pieces.specs.Overlays.{with_items}
use Rattle.wk_pieces.specs.Pieces.{codes_size, section_pieces}
use Rattle.wk_session.specs.declared.edit.EditFault.{EditFault}
use Rattle.wk_session.specs.declared.edit.EditFault.TheVariants.{IndexOverflow, Memory}
use Rattle.wk_session.specs.declared.edits.import.ImportPlan.{ImportPlan}
use Rattle.wk_session.specs.declared.edits.import.ImportJudgement.{ImportJudgement}
use Rattle.wk_session.specs.declared.cache.Cache.{Cache}
use Rattle.wk_session.specs.Edits.{import_place}
use Rattle.wk_session.specs.declared.edit.Edit.TheVariants as edits
use Rattle.wk_session.specs.Dependents.{one_if, is_retyped, sections_moving}
use Rattle.wk_session.specs.Kept.{IsAppraised, IsKept, standing}
use Rattle.wk_session.specs.MovedEntries.{AreMovedEntries}

-- the module with the import, and with each reference moved that it moves; its customs are not settled
abbrev pub after_import : Import → Parts → Parts
after_import i m = with_import i (moved_parts (desc_kind i.desc) (import_place i m) m)

-- the module without its last import, as it was before that was pushed
abbrev pub before_import : Parts → Parts
before_import p = record p { imports = take (length p.imports - 1) p.imports }

-- what an import of the kind at the index `from` makes of the lists of a module, and of what is kept of its code entries
pub record IsImportPlan (kind : Kind) (from : ℕ) (m : Parts) (plan : ImportPlan) : Type 0 where
  pub free : are_parts_stuck kind from m ≡ false
  pub lists : plan.lists ≡ moved_lists kind from m
  pub entries : AreMovedEntries kind from m.funcs plan.entries

-- why there is no such plan: a reference can't move; or memory was wanted
abbrev pub IsUnplanned : Kind → ℕ → Parts → EditFault → Type 0
IsUnplanned kind from m e = e ≢ Memory → (e ≡ IndexOverflow) × (are_parts_stuck kind from m ≡ true)

-- The import is pushed on m, all else that it changes is planned, and beside it stands what is kept of m.
pub record IsReady (i : Import) (m p : Parts) (k : Cache) (all : ImportPlan) : Type 0 where
  pub pushed : p ≡ with_import i m
  pub kept : IsKept m k
  pub plan : IsImportPlan (desc_kind i.desc) (import_place i m) m all
  pub formed : IsFormed (after_import i m)

-- new contents where a list has moved
abbrev pub new_where : Bool → List ℕ → Option (List ℕ)
new_where moved contents = if moved then Some contents else None

-- the section of an id is made anew where its list has moved, and all others stay as they were
pub record IsRemadeWhere (l : SectionLists) (moved : Bool) (id : ℕ) (was now : NewSections) : Type 0 where
  pub sections : now.sections.items
      ≡ (if moved then set was.sections.items id (Some (contents_by l (of_number id))) else was.sections.items)
  pub made : now.made ≡ was.made + one_if moved

-- the contents of the import section, and of each that has moved
abbrev pub news_after : SectionLists → MovedLists → List (Option (List ℕ))
news_after l moved =
    None ∷ None ∷ Some (contents_by l (of_number 2)) ∷ None ∷ None ∷ None
    ∷ new_where (is_some moved.globals) (contents_by l (of_number 6))
    ∷ new_where (is_some moved.exports) (contents_by l (of_number 7))
    ∷ new_where (is_some moved.start) (contents_by l (of_number 8))
    ∷ new_where (is_some moved.elems) (contents_by l (of_number 9))
    ∷ None
    ∷ new_where (is_some moved.datas) (contents_by l (of_number 11)) ∷ []

-- these are made anew
pub record IsRemadeAfter (l : SectionLists) (moved : MovedLists) (r : NewSections) : Type 0 where
  pub sections : r.sections.items ≡ news_after l moved
  pub made : r.made
      ≡ 1 + (one_if (is_some moved.globals) + one_if (is_some moved.exports) + one_if (is_some moved.start)
      + one_if (is_some moved.elems) + one_if (is_some moved.datas))

-- the module may stay, and what is to be kept of it, for which so many sections were made anew; where no verdicts stand, those that are
-- kept stay
pub record IsJudgement (keep : Bool) (n : Parts) (k : Cache) (anew : ℕ) (j : ImportJudgement) : Type 0 where
  pub appraised : IsAppraised keep n (Ok j.appraisal)
  pub verdicts : (unwrap_or j.verdicts k.verdicts).items ≡ map (func_verdict (answers_of n)) n.funcs
  pub sections : with_items k.pieces.sections.items j.remade.sections.items ≡ section_pieces n
  pub count : length j.remade.sections.items ≡ length k.pieces.sections.items
  pub made : j.remade.made ≡ anew
  pub codes_len : j.codes_len ≡ codes_size n.funcs

-- that of the module with the import, for which the import section is made anew and each that holds something that moves
abbrev pub IsImportJudgement : Bool → Import → Parts → Cache → ImportJudgement → Type 0
IsImportJudgement keep i m k j = IsJudgement keep (after_import i m) k (1 + sections_moving (desc_kind i.desc) (import_place i m) m) j

-- why it may not stay, unless memory was wanted
abbrev pub IsImportRefusal : Bool → Import → Parts → EditFault → Type 0
IsImportRefusal keep i m e = e ≢ Memory → standing keep (after_import i m) ≡ Err e

-- how many bodies of m an import retypes
abbrev pub retyped_by : Import → Parts → ℕ
retyped_by i m = count_by (is_retyped (edits.Import i) m (after_import i m)) m.funcs
