use Rattle.std.proofs.Common.{◌≡◌, ◌-◌, ◌+◌, ◌++◌, ℕ, ap, sym, subst, arith, Some, length}
use Rattle.wk_body.proofs.Found.{found_is, not_found}
use Rattle.wk_body.proofs.IntegerLoop.{InIntegers, integers_begin, integers_one, integers_end}
use Rattle.wk_body.proofs.shifts.behind_integers.Goals as goal

pub loop-init : goal.loop-init
loop-init c = record {
  from = omega arith;
  within = c.requires;
  goes =
      λ front later h e. integers_begin front later c.args.code.now c.args.at c.args.count h e;
}

pub returns-in_err-end-clause-exact : goal.returns-in_err-end-clause-exact
returns-in_err-end-clause-exact c = λ front later h e.
    let o = integers_one front later c.args.code.now c.args.at c.args.count c.loop.counter c.loop.end c.loop-test.true
    (c.loop.invariant.goes front later h e) in
    let found = c.in_err-end.ensures.exact o.bytes (o.others ++ later) o.integer o.ahead in
    absurd (not_found (c.loop.end + length o.bytes) found)

pub loop-preserved : goal.loop-preserved
loop-preserved c = record {
  from = omega (arith, c.in_ok-end.ensures.within);
  within = omega (arith, c.in_ok-end.ensures.within);
  goes = λ front later h e.
      let o = integers_one front later c.args.code.now c.args.at c.args.count c.loop.counter c.loop.end c.loop-test.true
      (c.loop.invariant.goes front later h e) in
      let found = c.in_ok-end.ensures.exact o.bytes (o.others ++ later) o.integer o.ahead in
      let there : c.loop.end + length o.bytes ≡ c.in_ok-end.end = sym (found_is c.in_ok-end.end (c.loop.end + length o.bytes) found) in
      subst (λ (n : ℕ). InIntegers front later c.args.code.now c.args.at (c.args.count - (c.loop.counter + 1)) n) there o.then;
}

pub returns-clause-exact : goal.returns-clause-exact
returns-clause-exact c =
    λ front later h e. ap Some
    (integers_end front later c.args.code.now c.args.at c.args.count c.loop.counter c.loop.end c.loop-test.false (c.loop.invariant.goes front later h e))
