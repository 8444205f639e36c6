use Rattle.std.proofs.Common.{ℕ, List, [], ◌∷◌, drop, get_or, length, set, ap, sym, ◌∙◌}
use Rattle.std.proofs.lemmas.Result.{err_from_is_err_and}
use Rattle.wk_bytes.specs.Short.{short}
use Rattle.wk_module.specs.declared.types.Func.{Func}
use Rattle.wk_module.specs.declared.types.Parts.{Parts}
use Rattle.wk_module.specs.Changes.{with_func}
use Rattle.wk_module.specs.Writing.{list_contents}
use Rattle.wk_module.specs.WritingLaws.{room_for_func}
use Rattle.wk_pieces.specs.Longer.{with_item}
use Rattle.wk_pieces.specs.Pieces.{section_piece}
use Rattle.wk_session.proofs.LongerLists.{func_longer, overlong_more}
use Rattle.wk_session.proofs.Outcomes.{told_fits}
use Rattle.wk_session.proofs.Oversized.{unwritten}
use Rattle.wk_session.proofs.Popped.{popped}
use Rattle.wk_session.proofs.edits.function.push_planned.Goals as goal

pub new_index-requires : goal.new_index-requires
new_index-requires c =
    let m = c.args.parts.now in
    room_for_func m (told_fits m c.args.kept.now.len c.requires.kept.len)

pub returns-in_err-item-clause-planned : goal.returns-in_err-item-clause-planned
returns-in_err-item-clause-planned c =
    let m = c.args.parts.now in
    let t = c.args.func.ty in
    let b = c.args.func.body in
    let f = c.in_err-item.field-0.0 in
    let n = with_func t b m in
    let longer = func_longer t b m c.args.kept.now.pieces.sections.items c.requires.kept.pieces.sections in
    let over = overlong_more _ (section_piece 3 n) f longer.within c.in_err-item.ensures in
    let p = err_from_is_err_and c.from_residual.result c.from_residual.ensures.1 in
    rw (p.1, p.2) (unwritten c.args.keep 3 n f c.requires.shaped.formed.order over)

pub returns-in-Ok-clause-sections : goal.returns-in-Ok-clause-sections
returns-in-Ok-clause-sections c =
    let m = c.args.parts.now in
    let t = c.args.func.ty in
    let item = c.in_ok-item.item in
    let pieces = c.args.kept.now.pieces.sections.items in
    let kept = c.requires.kept.pieces.sections in
    let old = c.index_mut-section.result.now in
    let alone = list_contents short (t ∷ []) in
    let stood = c.index_mut-section.ensures.value ∙ ap (λ (ps : List (List ℕ)). get_or ps 3 old) kept
    ∙ sym (ap (λ (ps : List (List ℕ)). get_or ps 3 []) kept) in
    let grown =
    c.in-Ok.ensures.ok
    ∙ ap (λ (bytes : List ℕ). with_item old item.count bytes) c.bytes_of.ensures
    ∙ ap (λ (n : ℕ). with_item old n (drop 1 item.alone)) c.in_ok-item.ensures.count_is
    ∙ ap (λ (bytes : List ℕ). with_item old (length m.funcs) (drop 1 bytes)) c.in_ok-item.ensures.alone_is
    ∙ ap (λ (bytes : List ℕ). with_item bytes (length m.funcs) (drop 1 alone)) stood in
    ap (λ (bytes : List ℕ). set pieces 3 bytes) grown ∙ (func_longer t c.args.func.body m pieces kept).sections

pub returns-clause-same : goal.returns-clause-same
returns-clause-same c =
    let m = c.args.parts.now in
    ap (λ (fs : List Func). let p : Parts = record m { funcs = fs } in p)
    (popped c.pop.result c.push.new.self c.pop.new.self m.funcs c.args.func c.in_ok-push.ensures.ok c.pop.ensures.some c.pop.ensures.none)
