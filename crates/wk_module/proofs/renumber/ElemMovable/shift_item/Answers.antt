use Rattle.std.proofs.Common.{sym}
use Rattle.std.proofs.lemmas.Result.{err_from_is_err_and}
use Rattle.std.specs.List.{list_any}
use Rattle.wk_module.specs.declared.types.Kind.TheVariants.{Func, Table}
use Rattle.wk_module.specs.Moving.{is_index_stuck, is_expr_stuck}
use Rattle.wk_module.proofs.Refusals.{refused_right}
use Rattle.wk_module.proofs.renumber.ElemMovable.shift_item.Goals as goal

pub returns-in_err-shifted_items : goal.returns-in_err-shifted_items
returns-in_err-shifted_items c =
    let e = c.args.self.now in
    let funcs = list_any (is_index_stuck c.args.kind c.args.from Func) e.funcs in
    let p = err_from_is_err_and c.from_residual-in_err-shifted_items.result c.from_residual-in_err-shifted_items.ensures.1 in
    let r = c.in_err-shifted_items.field-0.0 in
    rw (p.1, p.2) (refused_right r (is_index_stuck c.args.kind c.args.from Table e.table) _
    (refused_right r (is_expr_stuck c.args.kind c.args.from e.offset) funcs (rw (sym c.as_slice.ensures) c.in_err-shifted_items.ensures)))
