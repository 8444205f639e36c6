use Rattle.std.proofs.Common.{◌≡◌, ◌∙◌, length, ap, refl, rules, ℤ}
use Rattle.std.specs.Prelude.{FitsSigned}
use Rattle.std.specs.Int.{w32, w64}
use Rattle.std.proofs.lemmas.Int.{to_z-of_z}
use Rattle.wk_bytes.specs.Short.{short_signed}
use Rattle.wk_bytes.specs.ShortLaws.{short_signed-only}
use Rattle.wk_bytes.specs.Span.{signed_at}
use Rattle.wk_body.proofs.Walking.{passed, taken_len}
use Rattle.wk_body.proofs.reencoder.Reencoder.pass_s32.Goals as goal

pub returns-else-left-rest : goal.returns-else-left-rest
returns-else-left-rest c =
    let n = c.in-Ok.n in
    let s = c.in-Ok.ensures.spelling in
    let fits : FitsSigned w64 c.from.result = search rules in
    let fits_here : FitsSigned w32 n = search rules in
    let long : length s.0 ≡ length (short_signed n) =
    taken_len _ _ _ s.0 _ _ c.rest-left.ensures c.rest-rest.ensures s.2 c.if-left-rest.false ∙ c.leb_len_s64.ensures
    ∙ ap (λ (z : ℤ). length (short_signed z)) (to_z-of_z w64 c.from.result fits ∙ c.from.ensures ∙ to_z-of_z w32 n fits_here) in
    rw (to_z-of_z w32 n fits_here)
    (passed (signed_at 32) n (short_signed n) s.0 c.args.out.now.items c.args.self.now
    (record { cursor = c.s32.new.self; pending = c.args.self.now.pending }) c.in-Ok.ensures.exact s.2 refl (short_signed-only 32 n s.0 s.1 long))
