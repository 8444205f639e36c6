use Rattle.std.proofs.Common.{◌≡◌, ◌*◌, ◌/◌, Bool, List, ◌++◌, sym, ap, subst, arith}
use Rattle.wk_body.specs.TokenReading.{TokenReading}
use Rattle.wk_body.proofs.OpenBlocks.{Opening, turns, turned_all, opens, none_open}
use Rattle.wk_body.proofs.reencode.spill.Goals as goal

pub loop-left-preserved : goal.loop-left-preserved
loop-left-preserved c = λ ks is.
    let h = c.loop-left.invariant ks is in
    let twice : c.in_ok-turned.field-0 ≡ c.loop-left.turned * 2 = omega (arith, c.in_ok-turned.ensures) in
    turns c.loop-left.turned c.loop-left.left c.in_ok-turned.field-0 h.0 h.1 ks twice c.loop-left-test.true h.2 h.3 h.4

pub loop-turned-init : goal.loop-turned-init
loop-turned-init c = λ ks is. turned_all c.loop-left.turned c.loop-left.left ks c.args.reader.now.kinds c.loop-left-test.false (c.loop-left.invariant ks is)

pub loop-turned-preserved : goal.loop-turned-preserved
loop-turned-preserved c = λ ks is.
    let h = c.loop-turned.invariant ks is in
    let kinds = ap (λ (r : TokenReading). r.kinds) c.in-Ok.ensures.opened in
    let all = opens c.loop-turned.turned h.0 c.loop-turned.reader.kinds (ks ++ c.args.reader.now.kinds) c.loop-turned-test.true h.1 h.2 in
    subst (λ (bs : List Bool). Opening (c.loop-turned.turned / 2) bs (ks ++ c.args.reader.now.kinds)) (sym kinds) all

pub returns : goal.returns
returns c = λ ks is. none_open c.loop-turned.turned c.loop-turned.reader.kinds (ks ++ c.args.reader.now.kinds) c.loop-turned-test.false
    (c.loop-turned.invariant ks is)
