use Rattle.std.proofs.Common.{subst, refl}
use Rattle.wk_bytes.specs.LebLaws.{IsBytes, IsBytes-before}
use Rattle.wk_body.proofs.Walking.{word_kept}
use Rattle.wk_body.proofs.reencoder.Reencoder.pass_word64.Goals as goal

pub returns : goal.returns
returns c =
    let s = c.in-Ok.ensures.spelling in
    word_kept 8 c.in-Ok.word s.0 c.args.self.now _ (IsBytes-before s.0 _ _ s.2 (subst IsBytes c.rest.ensures c.are_bytes.ensures)) s.1
    c.in-Ok.ensures.exact s.2 refl
