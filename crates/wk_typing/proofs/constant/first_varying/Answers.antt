use Rattle.std.proofs.Common.{sym, ◌∙◌, refl}
use Rattle.wk_body.specs.declared.token.Token.TheVariants.{Unreachable}
use Rattle.wk_typing.proofs.Constants.{varying_here, varying_behind, varying_none}
use Rattle.wk_typing.proofs.constant.first_varying.Goals as goal

pub loop-at-init : goal.loop-at-init
loop-at-init g c = refl

pub returns-then-not-is_constant : goal.returns-then-not-is_constant
returns-then-not-is_constant g c =
    varying_here (g.E.Scope.answers c.args.env.now) c.args.tokens.now c.loop-at.at Unreachable c.loop-at-test.true c.loop-at.invariant
    (sym c.is_constant.ensures ∙ c.if-not-is_constant.true)

pub loop-at-preserved : goal.loop-at-preserved
loop-at-preserved g c =
    varying_behind (g.E.Scope.answers c.args.env.now) c.args.tokens.now c.loop-at.at Unreachable c.loop-at-test.true c.loop-at.invariant
    (sym c.is_constant.ensures ∙ c.if-not-is_constant.false)

pub returns : goal.returns
returns g c = varying_none (g.E.Scope.answers c.args.env.now) c.args.tokens.now c.loop-at.at c.loop-at-test.false c.loop-at.invariant
