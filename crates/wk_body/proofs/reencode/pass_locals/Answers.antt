use Rattle.std.proofs.Common.{List, subst}
use Rattle.wk_body.specs.declared.types.LocalGroup.{LocalGroup}
use Rattle.wk_body.specs.declared.reencoder.Reencoder.{Reencoder}
use Rattle.wk_body.specs.Reencoding.{PassesGroups}
use Rattle.wk_body.proofs.RewrittenBody.{locals_passed}
use Rattle.wk_body.proofs.reencode.pass_locals.Goals as goal

pub returns : goal.returns
returns c =
    let n = c.in_ok-count.count in
    let g =
    subst (λ (w : Reencoder). (groups : List LocalGroup) × PassesGroups n groups c.pass_u32.new.out.items w c.pass_groups.new.out.items c.pass_groups.new.coder)
    c.ahead-own.ensures c.in_ok-pass_groups.ensures in (
      g.0,
      locals_passed c.in_ok-count.count g.0 c.args.out.now.items c.pass_u32.new.out.items c.pass_groups.new.out.items c.args.coder.now
          c.pass_u32.new.self c.pass_groups.new.coder g.1.0 c.in_ok-count.ensures g.1.1,
    )
