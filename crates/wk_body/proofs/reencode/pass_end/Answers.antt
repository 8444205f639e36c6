use Rattle.std.proofs.Common.{◌++◌, refl, sym, ap, Bool, List}
use Rattle.wk_body.proofs.OpenBlocks.{none_inner, closes_bit, closes_kept, closes_none}
use Rattle.wk_body.proofs.reencode.pass_end.Goals as goal

pub returns-then-inner-gt1-clause-ends : goal.returns-then-inner-gt1-clause-ends
returns-then-inner-gt1-clause-ends c = λ ks is. closes_bit c.args.inner.now ks c.args.reader.now.kinds c.if-inner-gt1.true is

pub returns-then-not-close_block-clause-ends : goal.returns-then-not-close_block-clause-ends
returns-then-not-close_block-clause-ends c = λ ks is.
    closes_none c.args.inner.now ks c.args.reader.now.kinds c.close_block.new.self.kinds c.if-inner-gt1.false is (c.if-not-close_block.ensures.none refl)

pub returns-then-has_room-clause-ends : goal.returns-then-has_room-clause-ends
returns-then-has_room-clause-ends c = λ ks is.
    let t = c.refill.ensures.taken in
    closes_kept c.args.inner.now c.refill.result ks t.0 c.args.reader.now.kinds c.close_block.new.self.kinds c.refill.new.reader.kinds
    c.if-inner-gt1.false is (c.if-not-close_block.ensures.closed refl).0 t.1 t.2

pub returns-else-has_room-clause-ends : goal.returns-else-has_room-clause-ends
returns-else-has_room-clause-ends c = λ ks is.
    let left = c.close_block.new.self.kinds in
    closes_kept c.args.inner.now c.args.inner.now ks ks c.args.reader.now.kinds left left c.if-inner-gt1.false is
    (c.if-not-close_block.ensures.closed refl).0 is
    (sym (ap (λ (bs : List Bool). bs ++ left) (none_inner c.args.inner.now ks c.if-inner-gt1.false is)))
