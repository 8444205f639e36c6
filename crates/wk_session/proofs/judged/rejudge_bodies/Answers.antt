use Rattle.std.proofs.Common.{◌<◌, ap, arith, length}
use Rattle.wk_session.specs.Kept.{uses_of}
use Rattle.wk_session.proofs.Judging.{told_at}
use Rattle.wk_session.proofs.judged.rejudge_bodies.Goals as goal

pub rejudge_body-requires-clause-refs : goal.rejudge_body-requires-clause-refs
rejudge_body-requires-clause-refs g c =
    let within : c.loop-i.i < length c.args.basis.parts.now.funcs = omega (arith, c.loop-i-test.true, ap length c.as_slice-func-items.ensures) in
    told_at (λ s. s.keys) uses_of c.args.basis.kept.now.refs.items c.args.basis.parts.now.funcs c.loop-i.i c.index.result.now c.func-item.result
    c.requires.refs within c.index.ensures (rw c.as_slice-func-items.ensures at c.func-item.is)
