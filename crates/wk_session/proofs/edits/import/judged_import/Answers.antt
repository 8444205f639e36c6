use Rattle.std.proofs.Common.{◌≡◌, ℕ, List, ap, sym, ◌∙◌, map, length, arith}
use Rattle.std.proofs.lemmas.List.{length-map}
use Rattle.std.proofs.lemmas.Result.{err_from_is_err_and}
use Rattle.wk_body.specs.Lengths.{limited}
use Rattle.wk_module.specs.Items.{desc_kind}
use Rattle.wk_module.specs.Listed.{listed}
use Rattle.wk_module.specs.Moving.{moved_func, with_moved}
use Rattle.wk_module.specs.NumberedLaws.{funcs_numbered}
use Rattle.wk_module.specs.Sections.{SectionLists}
use Rattle.wk_module.specs.Writing.{encoded}
use Rattle.wk_check.specs.SpacesLaws.{answers_of}
use Rattle.wk_check.specs.Verdict.{func_verdict}
use Rattle.wk_pieces.specs.Overlays.{with_items}
use Rattle.wk_pieces.specs.Pieces.{codes_size, entries_size, section_pieces}
use Rattle.wk_pieces.proofs.Piecing.{entries_codes}
use Rattle.wk_session.specs.Edits.{import_place}
use Rattle.wk_session.specs.Imported.{before_import, after_import}
use Rattle.wk_session.specs.Kept.{IsPending}
use Rattle.wk_session.proofs.EntryEdits.{codes_large, codes_len_is}
use Rattle.wk_session.proofs.ImportEdits.{pending_lists}
use Rattle.wk_session.proofs.Lent.{lent, numbered_lent, verdicts_few}
use Rattle.wk_session.proofs.ImportPieces.{pieces_after, made_after, unwritten}
use Rattle.wk_session.proofs.edits.import.judged_import.Goals as goal
use Rattle.wk_session.proofs.edits.import.judged_import.Goals.{After-with_moved-now, In_ok-remade, After-codes_len_after, After-len, After-module_len-len}
use Rattle.wk_session.proofs.edits.import.judged_import.Goals.{After-verdicts_or-verdicts_now}

-- the lists that are lent are those of the module with the import
lists_are : (c : After-with_moved-now) → listed c.with_moved-now.result ≡ lent (after_import c.args.import.now (before_import c.args.basis.parts.now))
lists_are c =
    let ready = c.requires.ready in
    c.with_moved-now.ensures.lists
    ∙ ap (λ (l : SectionLists). with_moved c.args.plan.now.lists l) c.of.ensures.lists
    ∙ pending_lists c.moving_of_module.ensures.lists c.args.import.now
    (before_import c.args.basis.parts.now) c.args.basis.parts.now c.deref.result.now c.args.plan.now.lists ready.pushed
    (c.deref.ensures.value ∙ ready.kept.types) ready.plan.lists

pub verdicts_after-requires-clause-lists : goal.verdicts_after-requires-clause-lists
verdicts_after-requires-clause-lists c = lists_are (goal.at.verdicts_after-requires-clause-lists c).After-with_moved-now

pub appraise-requires-clause-numbered : goal.appraise-requires-clause-numbered
appraise-requires-clause-numbered c =
    let at = (goal.at.appraise-requires-clause-numbered c).After-with_moved-now in
    numbered_lent (after_import c.args.import.now (before_import c.args.basis.parts.now)) _ (lists_are at) c.requires.ready.formed

verdicts : (c : After-verdicts_or-verdicts_now) → let n = after_import c.args.import.now (before_import c.args.basis.parts.now) in
    c.verdicts_or-verdicts_now.result.now.items ≡ map (func_verdict (answers_of n)) n.funcs
verdicts c = ap (λ v. v.items) c.verdicts_or-verdicts_now.ensures ∙ c.in_ok-verdicts.ensures.verdicts

pub appraise-requires-clause-few : goal.appraise-requires-clause-few
appraise-requires-clause-few c =
    let n = after_import c.args.import.now (before_import c.args.basis.parts.now) in
    verdicts_few n (answers_of n) _
    (verdicts (goal.at.appraise-requires-clause-few c).After-verdicts_or-verdicts_now) c.requires.ready.formed

-- the length of all codes, and with those that are made anew
codes_are : (c : After-codes_len_after) → c.codes_len_after.result
    ≡ limited (codes_size (after_import c.args.import.now (before_import c.args.basis.parts.now)).funcs)
codes_are c =
    let ready = c.requires.ready in
    let now = ap (λ (codes : List (List ℕ)). with_items codes c.args.plan.now.entries.codes.items) ready.kept.pieces.codes ∙ ready.plan.entries.codes in
    c.codes_len_after.ensures
    ∙ ap limited (ap entries_size now ∙ entries_codes (after_import c.args.import.now (before_import c.args.basis.parts.now)).funcs)

-- the sections with those that are made anew are those of the module
sections_now : (c : In_ok-remade) → listed c.with_moved-now.result
    ≡ lent (after_import c.args.import.now (before_import c.args.basis.parts.now))
    → with_items c.args.basis.kept.now.pieces.sections.items c.in_ok-remade.remade.sections.items
    ≡ section_pieces (after_import c.args.import.now (before_import c.args.basis.parts.now))
sections_now c lists =
    let ready = c.requires.ready in
    pieces_after c.moving_of_module.ensures.lists c.args.import.now (before_import c.args.basis.parts.now) c.args.plan.now.lists
    (listed c.with_moved-now.result) c.in_ok-remade.remade c.args.basis.kept.now.pieces.sections.items
    ready.plan.lists lists c.in_ok-remade.ensures ready.kept.pieces.sections

pub returns-in_err-remade-clause-judgement : goal.returns-in_err-remade-clause-judgement
returns-in_err-remade-clause-judgement c =
    let p = err_from_is_err_and c.from_residual.result c.from_residual.ensures.1 in
    let n = after_import c.args.import.now (before_import c.args.basis.parts.now) in
    let lists = lists_are (goal.at.returns-in_err-remade-clause-judgement c).After-with_moved-now in
    rw (p.1, p.2) (unwritten c.args.basis.keep n (listed c.with_moved-now.result) c.in_err-remade.field-0.0 c.requires.ready.formed.order lists
    c.in_err-remade.ensures)

pub returns-in_default-clause-judgement : goal.returns-in_default-clause-judgement
returns-in_default-clause-judgement c =
    let n = after_import c.args.import.now (before_import c.args.basis.parts.now) in
    λ some. codes_large c.args.basis.keep n c.requires.ready.formed.order
    (sym c.in_default.is ∙ codes_are (goal.at.returns-in_default-clause-judgement c).After-codes_len_after)

count_now : (c : After-len) → c.len.result ≡ length (after_import c.args.import.now (before_import c.args.basis.parts.now)).funcs
count_now c =
    let m = before_import c.args.basis.parts.now in
    c.len.ensures ∙ sym (length-map m.funcs (moved_func (desc_kind c.args.import.now.desc) (import_place c.args.import.now m)))

pub module_len-len-requires : goal.module_len-len-requires
module_len-len-requires c =
    omega (
      arith,
      count_now (goal.at.module_len-len-requires c).After-len,
      funcs_numbered (after_import c.args.import.now (before_import c.args.basis.parts.now)) c.requires.ready.formed,
    )

-- how long the module gets
len_now : (c : After-module_len-len) → with_items c.args.basis.kept.now.pieces.sections.items c.in_ok-remade.remade.sections.items
    ≡ section_pieces (after_import c.args.import.now (before_import c.args.basis.parts.now))
    → c.len.result ≡ length (after_import c.args.import.now (before_import c.args.basis.parts.now)).funcs
    → c.in-Some.codes_len ≡ codes_size (after_import c.args.import.now (before_import c.args.basis.parts.now)).funcs
    → c.module_len-len.result ≡ limited (length (encoded (after_import c.args.import.now (before_import c.args.basis.parts.now))))
len_now c sections count codes =
    let ready = c.requires.ready in
    let sizes = c.sizes_after-sizes.ensures ∙ ap (map length) sections in
    c.module_len-len.ensures (after_import c.args.import.now (before_import c.args.basis.parts.now)) ready.formed.order sizes count codes
    ready.kept.pieces.customs_len

pending : (c : After-verdicts_or-verdicts_now) → listed c.with_moved-now.result
    ≡ lent (after_import c.args.import.now (before_import c.args.basis.parts.now))
    → c.module_len-len.result ≡ limited (length (encoded (after_import c.args.import.now (before_import c.args.basis.parts.now))))
    → IsPending c.with_moved-now.result c.verdicts_or-verdicts_now.result.now.items c.module_len-len.result
    (after_import c.args.import.now (before_import c.args.basis.parts.now))
pending c lists len = record {
  formed = c.requires.ready.formed;
  profile = c.with_moved-now.ensures.profile ∙ c.of.ensures.profile;
  lists = lists;
  verdicts = verdicts c;
  len = len;
}

pub returns-in_err-appraisal-clause-judgement : goal.returns-in_err-appraisal-clause-judgement
returns-in_err-appraisal-clause-judgement c =
    let at = goal.at.returns-in_err-appraisal-clause-judgement c in
    let p = err_from_is_err_and c.from_residual-in_err-appraisal.result c.from_residual-in_err-appraisal.ensures.1 in
    let n = after_import c.args.import.now (before_import c.args.basis.parts.now) in
    let lists = lists_are at.After-with_moved-now in
    let len = len_now at.After-module_len-len (sections_now at.In_ok-remade lists) (count_now at.After-len)
    (codes_len_is n _ _ c.in-Some.is (codes_are at.After-codes_len_after)) in
    rw (p.1, p.2) (λ some. c.in_err-appraisal.ensures n (pending at.After-verdicts_or-verdicts_now lists len) c.requires.known some)

pub returns-clause-judgement : goal.returns-clause-judgement
returns-clause-judgement c =
    let m = before_import c.args.basis.parts.now in
    let n = after_import c.args.import.now m in
    let at = goal.at.returns-clause-judgement c in
    let ready = c.requires.ready in
    let lists = lists_are at.After-with_moved-now in
    let sections = sections_now at.In_ok-remade lists in
    let codes = codes_len_is n _ _ c.in-Some.is (codes_are at.After-codes_len_after) in
    record {
      appraised = c.in_ok-appraisal.ensures n
          (pending at.After-verdicts_or-verdicts_now lists (len_now at.After-module_len-len sections (count_now at.After-len) codes)) c.requires.known;
      verdicts = c.in_ok-verdicts.ensures.verdicts;
      sections = sections;
      count = ap length c.in_ok-remade.ensures.sections ∙ sym (ap length ready.kept.pieces.sections);
      made = made_after (desc_kind c.args.import.now.desc) (import_place c.args.import.now m) m c.args.plan.now.lists
          (listed c.with_moved-now.result) c.in_ok-remade.remade ready.plan.lists c.in_ok-remade.ensures;
      codes_len = codes;
    }
