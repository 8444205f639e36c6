use Rattle.std.proofs.Common.{◌≡◌, sym, ap, ◌∙◌, arith}
use Rattle.std.proofs.lemmas.Bool.{not-true, not-false}
use Rattle.std.proofs.lemmas.Result.{on_ok_weaker}
use Rattle.wk_body.specs.declared.renumber.Movement.{Movement}
use Rattle.wk_module.specs.declared.types.Kind.{Kind}
use Rattle.wk_module.specs.declared.types.Kind.TheVariants as kinds
use Rattle.wk_module.specs.Moving.{moved_func, is_code_moving}
use Rattle.wk_pieces.specs.Pieces.{code_of}
use Rattle.wk_session.specs.Dependents.{one_if}
use Rattle.wk_session.specs.Kept.{uses_of}
use Rattle.wk_session.proofs.MovedCode.{shifted_is, uses_as_code}
use Rattle.wk_session.proofs.edits.renumber.moved_entry.Goals as goal
use Rattle.wk_session.proofs.edits.renumber.moved_entry.Goals.{After-uses_movement}

-- the kept set tells whether the code moves
told : (c : After-uses_movement) → is_code_moving c.args.kind c.args.from c.args.kept.func.now.body.instrs ≡ c.uses_movement.result.moves
told c = ap (λ (m : Movement). m.moves)
    (sym (uses_as_code c.moving_of_code.ensures.uses c.args.kind c.args.from c.args.kept.func.now c.args.kept.refs.now.keys c.requires.refs)
    ∙ sym c.uses_movement.ensures)

pub returns-then-not-uses_movement-clause-entry : goal.returns-then-not-uses_movement-clause-entry
returns-then-not-uses_movement-clause-entry c =
    let still = told (goal.at.returns-then-not-uses_movement-clause-entry c).After-uses_movement
    ∙ not-true c.uses_movement.result.moves c.if-not-uses_movement.true in
    let stays = (c.moving_of_module.ensures.funcs c.args.kind c.args.from c.args.kept.func.now still).0 in
    record {
      refs = ap uses_of (sym stays);
      code = ap code_of (sym stays);
      moves = sym still;
    }

pub returns-then-not-uses_movement-clause-encoded : goal.returns-then-not-uses_movement-clause-encoded
returns-then-not-uses_movement-clause-encoded c =
    let none = ap one_if (told (goal.at.returns-then-not-uses_movement-clause-encoded c).After-uses_movement
    ∙ not-true c.uses_movement.result.moves c.if-not-uses_movement.true) in
    omega (arith, none)

pub returns-in-Func-clause-entry : goal.returns-in-Func-clause-entry
returns-in-Func-clause-entry c =
    let moves = told (goal.at.returns-in-Func-clause-entry c).After-uses_movement ∙ not-false c.uses_movement.result.moves c.if-not-uses_movement.false in
    let f = c.args.kept.func.now in
    shifted_is c.args.kind c.args.from f (moved_func kinds.Func c.args.from f) c.shifted_entry.result
    (ap (λ (k : Kind). moved_func k c.args.from f) c.in-Func.is) moves c.shifted_entry.ensures.refs c.shifted_entry.ensures.code

pub returns-in-Global-clause-entry : goal.returns-in-Global-clause-entry
returns-in-Global-clause-entry c =
    let moves = told (goal.at.returns-in-Global-clause-entry c).After-uses_movement ∙ not-false c.uses_movement.result.moves c.if-not-uses_movement.false in
    let f = c.args.kept.func.now in
    shifted_is c.args.kind c.args.from f (moved_func kinds.Global c.args.from f) c.shifted_entry-in-Global.result
    (ap (λ (k : Kind). moved_func k c.args.from f) c.in-Global.is) moves c.shifted_entry-in-Global.ensures.refs c.shifted_entry-in-Global.ensures.code

pub returns-in-Func-clause-encoded : goal.returns-in-Func-clause-encoded
returns-in-Func-clause-encoded c =
    let one = ap one_if (told (goal.at.returns-in-Func-clause-encoded c).After-uses_movement
    ∙ not-false c.uses_movement.result.moves c.if-not-uses_movement.false) in
    on_ok_weaker c.shifted_entry.result (λ e. omega (arith, e, one)) c.shifted_entry.ensures.encoded

pub returns-in-Global-clause-encoded : goal.returns-in-Global-clause-encoded
returns-in-Global-clause-encoded c =
    let one = ap one_if (told (goal.at.returns-in-Global-clause-encoded c).After-uses_movement
    ∙ not-false c.uses_movement.result.moves c.if-not-uses_movement.false) in
    on_ok_weaker c.shifted_entry-in-Global.result (λ e. omega (arith, e, one)) c.shifted_entry-in-Global.ensures.encoded
