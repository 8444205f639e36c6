use Rattle.std.proofs.Common.{◌≡◌, ◌∙◌, length, refl}
use Rattle.wk_bytes.specs.Short.{short}
use Rattle.wk_bytes.specs.ShortLaws.{short-only}
use Rattle.wk_bytes.specs.Span.{u32_at}
use Rattle.wk_body.proofs.Walking.{passed, taken_len}
use Rattle.wk_body.proofs.reencoder.Reencoder.pass_u32.Goals as goal

pub returns-else-left-rest : goal.returns-else-left-rest
returns-else-left-rest c =
    let n = c.in-Ok.n in
    let s = c.in-Ok.ensures.spelling in
    let long : length s.0 ≡ length (short n) =
    taken_len _ _ _ s.0 _ _ c.rest-left.ensures c.rest-rest.ensures s.2 c.if-left-rest.false ∙ c.leb_len_u32.ensures in
    passed u32_at n (short n) s.0 c.args.out.now.items c.args.self.now _ c.in-Ok.ensures.exact s.2 refl (short-only 32 n s.0 s.1 long)
