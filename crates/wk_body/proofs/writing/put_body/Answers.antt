use Rattle.std.proofs.Common.{length, ap, arith}
use Rattle.std.proofs.lemmas.Result.{on_ok_weaker}
use Rattle.wk_body.specs.Spelling.{SpellsExpr}
use Rattle.wk_body.specs.Written.{written_expr}
use Rattle.wk_body.proofs.EncodedSpells.{body_encoded}
use Rattle.wk_body.proofs.writing.put_body.Goals as goal

pub overflow_cast-groups : goal.overflow_cast-groups
overflow_cast-groups c = omega (arith, ap length c.groups-groups.ensures.value)

pub returns-clause-spells : goal.returns-clause-spells
returns-clause-spells c =
    on_ok_weaker c.put_expr.result
    (λ _ profile of.
    let code : SpellsExpr profile c.args.body.now.instrs (written_expr c.args.body.now.instrs) =
    rw (← c.expr.ensures) (c.put_expr.ensures.spells profile (rw c.expr.ensures of)) in
    body_encoded profile c.args.body.now c.groups-groups.ensures.in_range code)
    c.put_expr.ensures.ok
