use Rattle.std.proofs.lemmas.Result.{IfOk-weaker}
use Rattle.wk_typing.proofs.Sound.{valid_derived, derived_valid}
use Rattle.wk_typing.proofs.meter.judge_body.Goals as goal

-- src/meter.rt:55:1
pub returns-clause-sound : goal.returns-clause-sound
returns-clause-sound g c =
    IfOk-weaker c.type_body.result _ _ (λ v e. valid_derived (g.E.Scope.answers c.args.env.now) c.args.own_type c.args.body.now v e) c.type_body.ensures

-- src/meter.rt:55:1
pub returns-clause-complete : goal.returns-clause-complete
returns-clause-complete g c =
    IfOk-weaker c.type_body.result _ _ (λ v e. derived_valid (g.E.Scope.answers c.args.env.now) c.args.own_type c.args.body.now v e) c.type_body.ensures
