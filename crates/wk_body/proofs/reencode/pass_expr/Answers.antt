use Rattle.std.proofs.Common.{Bool, [], ◌++◌, refl, subst, arith}
use Rattle.wk_body.specs.Reencoding.{Goes}
use Rattle.wk_body.proofs.Rewriting.{expr_begins}
use Rattle.wk_body.proofs.reencode.pass_expr.Goals as goal

pub loop-left-init : goal.loop-left-init
loop-left-init c = record {
  small = omega arith;
  goes =
      ([], refl, expr_begins c.args.profile c.args.out.now.items c.args.coder.now c.begin.new.self.kinds c.begin.ensures.kinds);
}

pub returns-then-branch : goal.returns-then-branch
returns-then-branch c =
    let h = c.loop-left.invariant.goes in
    let p = c.skip_minimal-inner.ensures.goes h.0 h.1 in
    let t = c.in_ok-pass_token.ensures.goes c.args.out.now.items c.args.coder.now p.0 p.1
    (p.2 c.args.profile c.args.out.now.items c.loop-left.out.items c.args.coder.now h.2) in
    subst (λ (last : Bool). Goes last c.args.profile c.args.out.now.items c.args.coder.now
    (t.0 ++ c.pass_token.new.reader.kinds) c.pass_token.new.out.items c.pass_token.new.coder) c.if-branch.true t.2

pub loop-left-preserved : goal.loop-left-preserved
loop-left-preserved c =
    let h = c.loop-left.invariant.goes in
    let p = c.skip_minimal-inner.ensures.goes h.0 h.1 in
    let t = c.in_ok-pass_token.ensures.goes c.args.out.now.items c.args.coder.now p.0 p.1
    (p.2 c.args.profile c.args.out.now.items c.loop-left.out.items c.args.coder.now h.2) in
    record {
      small = c.in_ok-pass_token.ensures.small;
      goes = (
        t.0,
        t.1,
        subst (λ (last : Bool). Goes last c.args.profile c.args.out.now.items c.args.coder.now
            (t.0 ++ c.pass_token.new.reader.kinds) c.pass_token.new.out.items c.pass_token.new.coder) c.if-branch.false t.2,
      );
    }
