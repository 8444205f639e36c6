use Rattle.std.proofs.Common.{◌∙◌, sym}
use Rattle.wk_typing.proofs.Frames.{frame}
use Rattle.wk_typing.proofs.carry_verdict.carry.Goals as goal

-- src/carry_verdict.rt:15:1
pub returns : goal.returns
returns g c =
    c.requires.was ∙ sym (frame (g.O.Env.answers c.args._old.now) (g.N.Env.answers c.args._new.now) _ _ c.args._body.now c.requires.own_type c.requires.agree)
