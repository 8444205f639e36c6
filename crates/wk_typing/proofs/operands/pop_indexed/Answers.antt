use Rattle.std.proofs.Common.{Bool, sym, subst}
use Rattle.std.proofs.lemmas.Result.{err_from_is_err_and}
use Rattle.wk_typing.specs.Own.{popped}
use Rattle.wk_typing.specs.Moves.{Does, on_top}
use Rattle.wk_typing.specs.Typing.{with_index}
use Rattle.wk_typing.proofs.Popping.{indexed_ok, indexed_err}
use Rattle.wk_typing.proofs.operands.pop_indexed.Goals as goal

pub returns-in_err-pop_known : goal.returns-in_err-pop_known
returns-in_err-pop_known c =
    let p = err_from_is_err_and c.from_residual.result c.from_residual.ensures.1 in
    let P : Bool → Type 0 = λ i. Does (on_top (popped (with_index i c.args.types.now)) c.args.s.now) c.from_residual.result c.pop_known.new.s in
    subst P (sym c.if-index.true) (rw (p.1, p.2) (indexed_err c.args.types.now _ c.args.s.now _ c.in_err-pop_known.ensures))

pub returns-then-index : goal.returns-then-index
returns-then-index c =
    let P : Bool → Type 0 = λ i. Does (on_top (popped (with_index i c.args.types.now)) c.args.s.now) c.pop_types.result c.pop_types.new.s in
    subst P (sym c.if-index.true)
    (subst (λ o. Does o c.pop_types.result c.pop_types.new.s)
    (sym (indexed_ok c.args.types.now _ c.args.s.now c.pop_known.new.s _ c.in_ok-pop_known.ensures)) c.pop_types.ensures)
