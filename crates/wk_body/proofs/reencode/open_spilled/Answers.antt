use Rattle.std.proofs.Common.{List, Bool, sym, ap, subst}
use Rattle.wk_body.specs.TokenReading.{TokenReading}
use Rattle.wk_body.specs.Reencoding.{GoesOn}
use Rattle.wk_body.proofs.Rewriting.{opener_goes}
use Rattle.wk_body.proofs.reencode.open_spilled.Goals as goal

pub returns : goal.returns
returns c = λ before from token ks is b there g.
    let spilled = c.spill.new.reader.kinds in
    let here = subst (λ (bs : List Bool). GoesOn c.args.profile before from bs c.args.out.now.items token) (sym (c.in_ok-spill.ensures ks is)) g in
    opener_goes c.args.profile before c.args.out.now.items c.pass_type.new.out.items from token c.args.coder.now c.pass_type.new.coder spilled
    c.open.new.self.kinds c.args.opcode c.args.at c.in_ok-pass_type.field-0 there c.in_ok-pass_type.ensures here
    c.requires.opener.0 c.requires.opener.1 (ap (λ (r : TokenReading). r.kinds) c.in-Ok.ensures.opened) b
