use Rattle.std.proofs.Common.{◌≡◌, ◌≤◌, ◌+◌, ℕ, List, [], get_or, Result, length, set, ap, refl, sym, subst, ◌∙◌, arith}
use Rattle.std.specs.Prelude.{remove}
use Rattle.wk_bytes.specs.Frames.{limit}
use Rattle.wk_bytes.specs.Short.{short}
use Rattle.wk_body.specs.Lengths.{limited}
use Rattle.wk_module.specs.declared.types.Export.{Export}
use Rattle.wk_module.specs.declared.types.Parts.{Parts}
use Rattle.wk_module.specs.Items.{written_export}
use Rattle.wk_module.specs.NumberedLaws.{funcs_numbered}
use Rattle.wk_module.specs.Sections.{ExportSection}
use Rattle.wk_module.specs.Writing.{encoded, list_contents}
use Rattle.wk_check.specs.SpacesLaws.{answers_of}
use Rattle.wk_pieces.specs.Pieces.{section_pieces}
use Rattle.wk_pieces.specs.Shorter.{without_item}
use Rattle.wk_pieces.proofs.Piecing.{section_within}
use Rattle.wk_session.specs.declared.edit.EditFault.{EditFault}
use Rattle.wk_session.specs.declared.cache.Cache.{Cache}
use Rattle.wk_session.specs.Judged.{IsGrown, IsJudged}
use Rattle.wk_session.specs.Kept.{IsKept}
use Rattle.wk_session.proofs.Keeping.{kept_fits, others_kept, room_kept}
use Rattle.wk_session.proofs.ShorterLists.{before, export_shorter, items_within, itself, span_within}
use Rattle.wk_session.proofs.edits.export.take_export.Goals as goal
use Rattle.wk_session.proofs.edits.export.take_export.Goals.{After-deref, After-keep_shrunk, After-span_of-span}

-- the contents that are kept
contents_are : (m : Parts) (k : Cache) → IsKept m k → get_or k.pieces.sections.items 7 [] ≡ list_contents written_export m.exports
contents_are m k kept = ap (λ (ps : List (List ℕ)). get_or ps 7 []) kept.pieces.sections

contents_few : (m : Parts) (k : Cache) → IsKept m k → length (list_contents written_export m.exports) ≤ limit
contents_few m k kept = omega (arith, section_within 7 m, kept_fits m k kept)

pub overflow_cast-count : goal.overflow_cast-count
overflow_cast-count c =
    omega (arith, c.len-count.ensures, room_kept c.args.parts.now c.args.kept.now ExportSection c.requires.kept)

pub span_of-span-requires-clause-few : goal.span_of-span-requires-clause-few
span_of-span-requires-clause-few c =
    let m = c.args.parts.now in
    rw c.as_slice.ensures (omega (arith, items_within written_export m.exports, contents_few m c.args.kept.now c.requires.kept))

pub len_without-len-requires-clause-few : goal.len_without-len-requires-clause-few
len_without-len-requires-clause-few c =
    let m = c.args.parts.now in
    omega (arith, ap length (contents_are m c.args.kept.now c.requires.kept), contents_few m c.args.kept.now c.requires.kept)

-- where the export stands
at_is : (c : After-span_of-span) → c.span_of-span.result.at ≡ length (before written_export c.args.place c.args.parts.now.exports)
at_is c = c.span_of-span.ensures.at ∙ ap (λ (es : List Export). length (before written_export c.args.place es)) c.as_slice.ensures

size_is : (c : After-span_of-span) → c.span_of-span.result.size ≡ length (itself written_export c.args.place c.args.parts.now.exports)
size_is c = c.span_of-span.ensures.size ∙ ap (λ (es : List Export). length (itself written_export c.args.place es)) c.as_slice.ensures

inside : (c : After-span_of-span) → length (short c.len-count.result) + c.span_of-span.result.at + c.span_of-span.result.size
    ≤ length (get_or c.args.kept.now.pieces.sections.items 7 [])
inside c =
    let m = c.args.parts.now in
    let count = ap (λ (n : ℕ). length (short n)) c.len-count.ensures in
    omega (
      arith,
      count,
      at_is c,
      size_is c,
      ap length (contents_are m c.args.kept.now c.requires.kept),
      span_within written_export m.exports c.args.place c.requires.place,
    )

pub len_without-len-requires-clause-within : goal.len_without-len-requires-clause-within
len_without-len-requires-clause-within c = inside (goal.at.len_without-len-requires-clause-within c).After-span_of-span

pub len_without-len-requires-clause-funcs : goal.len_without-len-requires-clause-funcs
len_without-len-requires-clause-funcs c = omega (arith, c.len.ensures, funcs_numbered c.args.parts.now c.requires.shaped.formed)

-- the sections without it
shorter : (c : After-span_of-span) → set c.args.kept.now.pieces.sections.items 7
    (without_item (get_or c.args.kept.now.pieces.sections.items 7 []) c.len-count.result c.span_of-span.result.at c.span_of-span.result.size)
    ≡ section_pieces (record c.args.parts.now { exports = remove c.args.parts.now.exports c.args.place })
shorter c =
    let ps = c.args.kept.now.pieces.sections.items in
    let old = get_or ps 7 [] in
    ap (λ (n : ℕ). set ps 7 (without_item old n c.span_of-span.result.at c.span_of-span.result.size)) c.len-count.ensures
    ∙ ap (λ (n : ℕ). set ps 7 (without_item old (length c.args.parts.now.exports) n c.span_of-span.result.size)) (at_is c)
    ∙ ap (λ (n : ℕ). set ps 7
    (without_item old (length c.args.parts.now.exports) (length (before written_export c.args.place c.args.parts.now.exports)) n)) (size_is c)
    ∙ export_shorter c.args.place c.args.parts.now ps c.requires.kept.pieces.sections c.requires.place

-- the exports without it
rest_is : (c : After-deref) → c.deref.result.now ≡ remove c.args.parts.now.exports c.args.place
rest_is c = c.deref.ensures.value ∙ c.remove-export.ensures.items
    ∙ ap (λ (es : List Export). remove es c.args.place) (c.into_vec-exports.ensures ∙ c.replace.ensures.value)

pub judge_exports-judged-requires-clause-len : goal.judge_exports-judged-requires-clause-len
judge_exports-judged-requires-clause-len c =
    let m = c.args.parts.now in
    let n : Parts = record m { exports = remove m.exports c.args.place } in
    let at = goal.at.judge_exports-judged-requires-clause-len c in
    c.len_without-len.ensures n c.requires.shaped.formed.order
    (shorter at.After-span_of-span) c.len.ensures c.requires.kept.pieces.codes_len c.requires.kept.pieces.customs_len
    ∙ ap (λ (es : List Export). limited (length (encoded (record m { exports = es })))) (sym (rest_is at.After-deref))

pub keep_shrunk-requires-clause-within : goal.keep_shrunk-requires-clause-within
keep_shrunk-requires-clause-within c = inside (goal.at.keep_shrunk-requires-clause-within c).After-span_of-span

-- what is kept and returned without it
shrunk_is : (c : After-keep_shrunk) → c.deref.result.now ≡ remove c.args.parts.now.exports c.args.place
    → set c.args.kept.now.pieces.sections.items 7
    (without_item (get_or c.args.kept.now.pieces.sections.items 7 []) c.len-count.result c.span_of-span.result.at c.span_of-span.result.size)
    ≡ section_pieces (record c.args.parts.now { exports = remove c.args.parts.now.exports c.args.place })
    → (r : Result ℕ EditFault) → c.keep_shrunk.result ≡ r
    → IsGrown c.args.keep (answers_of c.args.parts.now) (record c.args.parts.now { exports = remove c.args.parts.now.exports c.args.place }) 0 1
    c.args.kept.now c.keep_shrunk.new.kept r
shrunk_is c rest sections r is =
    let m = c.args.parts.now in
    let k = c.args.kept.now in
    let n : Parts = record m { exports = remove m.exports c.args.place } in
    let judged = subst (λ (es : List Export). IsJudged c.args.keep (answers_of m) (record m { exports = es }) k 0 c.judge_exports-judged.result) rest
    c.judge_exports-judged.ensures in
    subst (IsGrown c.args.keep (answers_of m) n 0 1 k c.keep_shrunk.new.kept) is
    (c.keep_shrunk.ensures c.args.keep (answers_of m) n 0 (others_kept m n k refl refl c.requires.kept) sections judged)

pub returns-in-Ok-clause-shrunk : goal.returns-in-Ok-clause-shrunk
returns-in-Ok-clause-shrunk c =
    let at = goal.at.returns-in-Ok-clause-shrunk c in
    shrunk_is at.After-keep_shrunk (rest_is at.After-deref) (shorter at.After-span_of-span) _ c.in-Ok.is

pub returns-in-Err-clause-shrunk : goal.returns-in-Err-clause-shrunk
returns-in-Err-clause-shrunk c =
    let at = goal.at.returns-in-Err-clause-shrunk c in
    shrunk_is at.After-keep_shrunk (rest_is at.After-deref) (shorter at.After-span_of-span) _ c.in-Err.is
