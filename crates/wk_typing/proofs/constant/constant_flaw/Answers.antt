use Rattle.std.specs.Prelude.{◌≡◌, IfOk, Option}
use Rattle.std.proofs.Common.{ap, sym, subst, ◌∙◌}
use Rattle.wk_typing.specs.declared.fault.Flaw.{Flaw}
use Rattle.wk_typing.specs.Constants.{constant_flaw}
use Rattle.wk_typing.proofs.Constants.{flaw_of, constant_varies, constant_typed}
use Rattle.wk_typing.proofs.constant.constant_flaw.Goals as goal
use Rattle.wk_typing.proofs.constant.constant_flaw.Goals.{in-None, in-Some-2}

pub returns-in-Some : goal.returns-in-Some
returns-in-Some g c = constant_varies (g.E.Scope.answers c.args.env.now) c.args.ty c.args.expr.now c.tokens.result.1.now c.tokens.result.0.now
    c.in-Some.token c.tokens.ensures.tokens c.in-Some.ensures

pub returns : goal.returns
returns g c =
    let flaw : Option Flaw = constant_flaw (g.E.Scope.answers c.args.env.now) c.args.ty c.args.expr.now in
    let typed : flaw_of c.in_ok-type_code.field-0 ≡ flaw = constant_typed (g.E.Scope.answers c.args.env.now) c.args.ty c.args.expr.now
    c.tokens.result.1.now c.tokens.result.0.now c.none.result c.one.result.now c.in_ok-type_code.field-0 c.tokens.ensures.tokens
    c.in_default.ensures c.none.ensures c.one.ensures c.in_ok-type_code.ensures in
    elim c.match-branch-2.branch [
      | in-None w ↦ subst (λ x. IfOk x (λ r. r ≡ flaw)) (sym w.result-is) (ap flaw_of (sym w.in-None.is) ∙ typed)
      | in-Some-2 w ↦ subst (λ x. IfOk x (λ r. r ≡ flaw)) (sym w.result-is) (ap flaw_of (sym w.in-Some-2.is) ∙ typed)
    ]
