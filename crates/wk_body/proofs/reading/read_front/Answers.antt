use Rattle.std.proofs.Common.{Bool, subst, arith}
use Rattle.std.proofs.lemmas.Result.{err_from_is_err_and}
use Rattle.wk_bytes.specs.LebLaws.{IsBytes}
use Rattle.wk_body.proofs.Loop.{Next, begins, goes_on, fails, ends, keeps, shorter}
use Rattle.wk_body.proofs.reading.read_front.Goals as goal

pub loop-ahead-init : goal.loop-ahead-init
loop-ahead-init c = rw c.ahead-ahead.ensures.same
    (begins c.args.profile c.clear.new.self c.args.cursor.now c.clear.ensures.good c.clear.ensures.toks c.clear.ensures.kinds c.clear.ensures.size)

pub token_of-requires-clause-good : goal.token_of-requires-clause-good
token_of-requires-clause-good c = c.loop-ahead.invariant.good

pub token_of-requires-clause-room : goal.token_of-requires-clause-room
token_of-requires-clause-room c = omega (arith, c.loop-ahead.invariant.room, c.at-at.ensures.end, c.at-at.ensures.small)

pub returns-in_err-token_of : goal.returns-in_err-token_of
returns-in_err-token_of c =
    let p = err_from_is_err_and c.from_residual.result c.from_residual.ensures.1 in
    record {
      exact = rw (p.1, p.2)
          (fails c.args.profile c.args.cursor.now c.loop-ahead.scratch c.loop-ahead.ahead c.in_err-token_of.field-0.0 c.in_err-token_of.ensures
          c.loop-ahead.invariant);
    }

pub copied-requires : goal.copied-requires
copied-requires c =
    let r = subst (λ (last : Bool). Next c.args.profile last c.loop-ahead.scratch c.loop-ahead.ahead c.token_of.new.scratch c.token_of.new.cursor)
    c.if-branch.true c.in_ok-token_of.ensures in
    let fits : IsBytes c.args.cursor.now.rest = subst IsBytes c.rest.ensures c.are_bytes.ensures in
    keeps c.args.profile c.args.cursor.now c.loop-ahead.scratch c.token_of.new.scratch c.loop-ahead.ahead c.token_of.new.cursor fits
    (omega (arith, c.at-at.ensures.end, c.at-at.ensures.small)) r c.loop-ahead.invariant

pub returns-then-branch : goal.returns-then-branch
returns-then-branch c =
    let r = subst (λ (last : Bool). Next c.args.profile last c.loop-ahead.scratch c.loop-ahead.ahead c.token_of.new.scratch c.token_of.new.cursor)
    c.if-branch.true c.in_ok-token_of.ensures in
    record {
      exact = rw c.in_ok-copied.ensures
          (ends c.args.profile c.args.cursor.now c.loop-ahead.scratch c.token_of.new.scratch c.loop-ahead.ahead c.token_of.new.cursor r c.loop-ahead.invariant);
    }

pub loop-ahead-smaller : goal.loop-ahead-smaller
loop-ahead-smaller c = shorter c.args.profile c.loop-ahead.scratch c.token_of.new.scratch c.loop-ahead.ahead c.token_of.new.cursor
    c.in_ok-token_of.field-0 c.in_ok-token_of.ensures

pub loop-ahead-preserved : goal.loop-ahead-preserved
loop-ahead-preserved c =
    let r = subst (λ (last : Bool). Next c.args.profile last c.loop-ahead.scratch c.loop-ahead.ahead c.token_of.new.scratch c.token_of.new.cursor)
    c.if-branch.false c.in_ok-token_of.ensures in
    goes_on c.args.profile c.args.cursor.now c.loop-ahead.scratch c.token_of.new.scratch c.loop-ahead.ahead c.token_of.new.cursor r c.loop-ahead.invariant
