use Rattle.std.proofs.Common.{refl}
use Rattle.wk_typing.proofs.encoded_constant.next_constant_flaw.Goals as goal

pub returns-then-pass_constant-clause-exact : goal.returns-then-pass_constant-clause-exact
returns-then-pass_constant-clause-exact g c =
    rw c.ahead-ahead.ensures.same at (c.if-pass_constant.ensures (g.E.Scope.answers c.args.env.now) c.args.profile refl)
