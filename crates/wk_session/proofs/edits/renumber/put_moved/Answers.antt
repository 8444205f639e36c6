use Rattle.std.proofs.Common.{◌≡◌, List, map, ap, sym, ◌∙◌}
use Rattle.std.specs.List.{list_any}
use Rattle.wk_module.specs.declared.types.Func.{Func}
use Rattle.wk_module.specs.declared.types.Parts.{Parts}
use Rattle.wk_module.specs.Moving.{is_code_moving, is_code_stuck}
use Rattle.wk_session.proofs.edits.renumber.put_moved.Goals as goal
use Rattle.wk_session.proofs.edits.renumber.put_moved.Goals.{After-into_vec-all}

same : (c : After-into_vec-all) → c.into_vec-all.result.items ≡ c.args.parts.now.funcs
same c =
    c.into_vec-all.ensures ∙ c.replace.ensures.value ∙ ap (λ (q : Parts). q.funcs) c.put_into-now.ensures
    ∙ ap (λ (q : Parts). q.funcs) c.replace-before.ensures.value

pub move_funcs-requires-clause-moves : goal.move_funcs-requires-clause-moves
move_funcs-requires-clause-moves c =
    c.requires.moves ∙ sym (ap (map (λ (f : Func). is_code_moving c.args.kind c.args.from f.body.instrs))
    (same (goal.at.move_funcs-requires-clause-moves c).After-into_vec-all))

pub move_funcs-requires-clause-free : goal.move_funcs-requires-clause-free
move_funcs-requires-clause-free c =
    ap (λ (fs : List Func). list_any (λ f. is_code_stuck c.args.kind c.args.from f.body.instrs) fs)
    (same (goal.at.move_funcs-requires-clause-free c).After-into_vec-all) ∙ c.requires.free
