use Rattle.std.proofs.Common.{◌≡◌, ◌∙◌, ap, subst, sym}
use Rattle.wk_body.specs.Bodies.{BodyOf}
use Rattle.wk_body.specs.References.{shift_instrs}
use Rattle.wk_body.specs.Shape.{IsOf}
use Rattle.wk_body.proofs.MovedTrees.{moved_of}
use Rattle.wk_body.proofs.renumber.shift.Goals as goal

pub returns-clause-profile : goal.returns-clause-profile
returns-clause-profile c =
    let e : c.of.result.instrs ≡ shift_instrs c.args.kind c.args.from c.args.body.now.instrs =
    ap (λ (b : BodyOf). b.instrs) c.of.ensures ∙ c.in_ok-instrs.ensures.1 ∙ ap (shift_instrs c.args.kind c.args.from) c.expr.ensures in
    λ profile h. subst (IsOf profile) (sym e) (moved_of profile c.args.kind c.args.from c.args.body.now.instrs h)
