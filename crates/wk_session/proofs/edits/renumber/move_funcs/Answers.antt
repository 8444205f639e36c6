use Rattle.std.proofs.Common.{◌<◌, ◌∙◌, arith, length}
use Rattle.std.specs.Prelude.{is_some}
use Rattle.std.proofs.lemmas.List.Edits.{map_over_more}
use Rattle.wk_module.specs.Moving.{moved_func, is_code_moving}
use Rattle.wk_session.proofs.Judging.{told_at}
use Rattle.wk_session.proofs.MovedCode.{next_func}
use Rattle.wk_session.proofs.edits.renumber.move_funcs.Goals as goal
use Rattle.wk_session.proofs.edits.renumber.move_funcs.Goals.{In-loop-i}

within : (c : In-loop-i) → c.loop-i.i < length c.args.funcs.now.items
within c = omega (arith, c.loop-i-test.true, c.len-i-end.ensures)

pub move_func-requires-clause-moves : goal.move_func-requires-clause-moves
move_func-requires-clause-moves c =
    let lt = within (goal.at.move_func-requires-clause-moves c).In-loop-i in
    let func = c.index_mut.result.now in
    let here = next_func (moved_func c.args.kind c.args.from) c.args.funcs.now.items c.loop-i.funcs.items c.loop-i.i func lt c.loop-i.invariant
    c.index_mut.ensures.value in
    c.is_some.ensures ∙ told_at is_some (λ f. is_code_moving c.args.kind c.args.from f.body.instrs) c.args.codes.now.items c.args.funcs.now.items
    c.loop-i.i c.index.result.now func c.requires.moves lt c.index.ensures here

pub loop-i-preserved : goal.loop-i-preserved
loop-i-preserved c =
    let lt = within (goal.at.loop-i-preserved c).In-loop-i in
    rw c.move_func.ensures (map_over_more (moved_func c.args.kind c.args.from) c.args.funcs.now.items c.loop-i.funcs.items c.loop-i.i
    c.index_mut.result.now lt c.loop-i.invariant c.index_mut.ensures.value)
