use Rattle.std.proofs.Common.{◌≡◌, ◌+◌, take, map, count_by}
use Rattle.wk_check.specs.Verdict.{func_verdict}
use Rattle.wk_session.specs.Dependents.{is_retyped_in}
use Rattle.wk_session.proofs.judged.rejudge_bodies.Given as goal

abbrev pub invariant-loop-i : goal.invariant-loop-i
invariant-loop-i g l =
    let before = g.O.Env.answers l.old in
    let now = g.N.Env.answers l.new in
    record {
      judged : l.judged.items ≡ map (func_verdict now) (take l.i l.basis.parts.now.funcs);
      typed : l.meter ≡ l.fn.meter + count_by (is_retyped_in before now) (take l.i l.basis.parts.now.funcs);
    }
