use Rattle.std.proofs.Common.{◌≡◌, ◌%◌, arith}
use Rattle.wk_body.proofs.OpenBlocks.{else_bit, else_kept}
use Rattle.wk_body.proofs.reencode.else_block.Goals as goal

pub returns-then-inner-gt1-clause-takes : goal.returns-then-inner-gt1-clause-takes
returns-then-inner-gt1-clause-takes c = λ ks is.
    let odd : c.args.inner.now % 2 ≡ 1 = omega (arith, c.if-inner-eq0.false) in
    else_bit c.args.inner.now ks c.args.reader.now.kinds is c.if-inner-gt1.true odd

pub returns-clause-takes : goal.returns-clause-takes
returns-clause-takes c = λ ks is. else_kept c.args.inner.now ks c.args.reader.now.kinds c.other.new.self.kinds c.if-inner-gt1.false is
    c.in-Ok.ensures.may c.in-Ok.ensures.kinds
