use Rattle.std.proofs.Common.{◌≡◌, ◌++◌, ℕ, length, ap, ◌∙◌, arith}
use Rattle.wk_body.specs.ShiftSteps.{between}
use Rattle.wk_body.proofs.Shifting.{ended}
use Rattle.wk_body.proofs.shifts.put_tokens.Goals as goal

pub returns-then-not-branch-clause-stays : goal.returns-then-not-branch-clause-stays
returns-then-not-branch-clause-stays c = λ is all goal w f. c.in_ok-pass_token.ensures.stays c.if-not-branch.true all goal
    (c.loop-at.invariant.goes all goal w) f

pub returns-clause-goes : goal.returns-clause-goes
returns-clause-goes c = λ is all goal w.
    let code = c.args.code.now in
    let out = c.loop-at.out.items in
    let run = c.loop-at.run in
    let at = c.loop-at.at in
    let last : length code ≡ at = omega (arith, c.loop-at.invariant.within, c.loop-at-test.false) in
    c.in_ok-extend_from_slice.ensures.items ∙ ap (λ (n : ℕ). out ++ between run n code) last
    ∙ ended c.args.shifts all goal code out run at c.loop-at-test.false (c.loop-at.invariant.goes all goal w)
