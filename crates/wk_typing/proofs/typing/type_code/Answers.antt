use Rattle.std.proofs.Common.{arith}
use Rattle.wk_typing.proofs.Bodies.{code_fault, code_valid, code_ended, length_kept}
use Rattle.wk_typing.proofs.typing.type_code.Goals as goal

pub returns-in-Some : goal.returns-in-Some
returns-in-Some g c =
    code_fault (g.E.Scope.answers c.args.env.now) _ c.args.block c.args.expr.now c.args.f.now.results.now _ c.begin.new.self c.requires
    c.tokens.ensures.tokens c.begin.ensures c.in-Some.fault.0 c.in-Some.fault.1 (rw c.in-Some.is at c.in_ok-fault.ensures)

pub returns-in-Ok : goal.returns-in-Ok
returns-in-Ok g c =
    code_valid (g.E.Scope.answers c.args.env.now) _ c.args.block c.args.expr.now c.args.f.now.results.now _ c.begin.new.self c.requires
    c.tokens.ensures.tokens c.begin.ensures c.type_tokens.new.s (rw c.in_default.is at c.in_ok-fault.ensures) c.in-Ok.ensures.0

pub returns-in-Err : goal.returns-in-Err
returns-in-Err g c =
    code_ended (g.E.Scope.answers c.args.env.now) _ c.args.block c.args.expr.now c.args.f.now.results.now _ c.begin.new.self c.requires
    c.tokens.ensures.tokens c.begin.ensures c.type_tokens.new.s c.in-Err.kind _ (rw c.in_default.is at c.in_ok-fault.ensures) c.in-Err.ensures
    (omega (arith, length_kept c.tokens.result.1.now c.tokens.result.0.now c.args.expr.now c.tokens.ensures.tokens))
