use Rattle.std.proofs.Common.{ap, sym, arith, Some}
use Rattle.wk_body.proofs.IntegerLoop.{integer_begins, integer_ends, integer_more, integer_there}
use Rattle.wk_body.proofs.shifts.behind_integer.Goals as goal

pub loop-end-init : goal.loop-end-init
loop-end-init c = record { from = omega arith; within = c.requires; goes = λ front later h e. integer_begins front later c.args.code.now c.args.at h e }

pub loop-end-preserved : goal.loop-end-preserved
loop-end-preserved c = record {
  from = omega arith;
  within = omega arith;
  goes = λ front later h e. integer_more front later c.args.code.now c.args.at c.loop-end.end c.loop-end-test.true c.if-byte-lt128.false
      (c.loop-end.invariant.goes front later h e);
}

pub returns-then-byte-lt128-clause-exact : goal.returns-then-byte-lt128-clause-exact
returns-then-byte-lt128-clause-exact c = λ front later h e.
    ap Some (sym (integer_ends front later c.args.code.now c.args.at c.loop-end.end c.loop-end-test.true c.if-byte-lt128.true
    (c.loop-end.invariant.goes front later h e)))

pub returns-clause-exact : goal.returns-clause-exact
returns-clause-exact c =
    λ front later h e. absurd
    (integer_there front later c.args.code.now c.args.at c.loop-end.end c.loop-end-test.false (c.loop-end.invariant.goes front later h e))
