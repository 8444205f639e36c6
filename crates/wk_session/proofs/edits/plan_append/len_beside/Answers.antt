use Rattle.std.proofs.Common.{length, ap, sym, subst, ◌∙◌, arith}
use Rattle.wk_module.specs.NumberedLaws.{funcs_numbered}
use Rattle.wk_module.specs.Shape.{IsInOrderFrom}
use Rattle.wk_pieces.specs.Pieces.{codes_size, customs_size}
use Rattle.wk_session.proofs.edits.plan_append.len_beside.Goals as goal

pub len_grown-requires-clause-sections : goal.len_grown-requires-clause-sections
len_grown-requires-clause-sections c = ap length c.requires.kept.pieces.sections

pub len_grown-requires-clause-funcs : goal.len_grown-requires-clause-funcs
len_grown-requires-clause-funcs c = omega (arith, c.len-funcs.ensures, funcs_numbered c.args.parts.now c.requires.shaped.formed)

pub returns : goal.returns
returns c =
    λ n alone funcs customs longer item.
    let kept = c.requires.kept.pieces in
    c.len_grown.ensures n alone (subst (IsInOrderFrom 0) (sym customs) c.requires.shaped.formed.order) longer item
    (c.len-funcs.ensures ∙ ap length (sym funcs)) (kept.codes_len ∙ ap codes_size (sym funcs)) (kept.customs_len ∙ ap customs_size (sym customs))
