use Rattle.std.proofs.Common.{refl}
use Rattle.wk_body.proofs.Built.{push_adds}
use Rattle.wk_body.proofs.scratch.Scratch.push.Goals as goal

pub returns : goal.returns
returns c = push_adds c.args.self.now _ c.args.token (record { tokens = c.in_ok-push.ensures.items; labels = refl }) refl c.requires.good
    c.requires.simple c.requires.within
