use Rattle.std.proofs.Common.{ap, arith, length, length-append}
use Rattle.std.proofs.lemmas.List.{length-drop}
use Rattle.wk_body.proofs.shifts.behind_bytes.Goals as goal

pub returns-then-code-at-clause-exact : goal.returns-then-code-at-clause-exact
returns-then-code-at-clause-exact c = λ front later long ahead. absurd
    (omega (arith, c.if-code-at.true, long, length-drop c.args.at c.args.code.now, ap length ahead, length-append front later))
