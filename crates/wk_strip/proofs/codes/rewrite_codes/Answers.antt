use Rattle.std.proofs.lemmas.Result.{err_from_is_err_and}
use Rattle.wk_strip.proofs.Rewriting.{begun, one_more, stopped, ended, left_over}
use Rattle.wk_strip.proofs.codes.rewrite_codes.Goals as goal

pub loop-init : goal.loop-init
loop-init c = begun c.args.profile c.args.bytes.now c.args.codes c.requires.order c.requires.within

pub returns-in_err-place : goal.returns-in_err-place
returns-in_err-place c =
    let p = err_from_is_err_and c.from_residual.result c.from_residual.ensures.1 in
    rw (p.1, p.2)
    (stopped c.args.profile c.args.bytes.now c.args.codes c.requires.order c.requires.within c.loop.bytes c.loop.counter c.loop.place c.loop.invariant
    c.in_err-place.field-0.0 c.loop-test.true c.in_err-place.ensures)

pub loop-preserved : goal.loop-preserved
loop-preserved c =
    one_more c.args.profile c.args.bytes.now c.args.codes c.requires.order c.requires.within c.loop.bytes c.loop.counter c.loop.place c.loop.invariant
    c.rewrite_code.new.bytes c.in_ok-place.place c.loop-test.true c.in_ok-place.ensures

pub returns-then-place-codes : goal.returns-then-place-codes
returns-then-place-codes c =
    left_over c.args.profile c.args.bytes.now c.args.codes c.requires.order c.requires.within c.loop.bytes c.loop.counter c.loop.place c.loop.invariant
    c.loop-test.false c.if-place-codes.true

pub returns : goal.returns
returns c =
    ended c.args.profile c.args.bytes.now c.args.codes c.requires.order c.requires.within c.loop.bytes c.loop.counter c.loop.place c.loop.invariant
    c.loop-test.false c.if-place-codes.false
