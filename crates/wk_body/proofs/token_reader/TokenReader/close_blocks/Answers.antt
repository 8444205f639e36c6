use Rattle.std.proofs.Common.{◌≤◌, ◌∙◌, Bool, drop, length, reverse, ap, arith}
use Rattle.std.proofs.lemmas.List.{length-reverse}
use Rattle.wk_body.specs.TokenReading.{TokenReading}
use Rattle.wk_body.proofs.OpenBlocks.{left_open}
use Rattle.wk_body.proofs.token_reader.TokenReader.close_blocks.Goals as goal

pub returns : goal.returns
returns c =
    let kinds = ap (λ (r : TokenReading). r.kinds) c.self.view_is in
    let blocks = c.self.inside.blocks.items in
    let within : c.args.count ≤ length blocks = omega (arith, c.requires, ap length kinds, length-reverse blocks) in
    ap (reverse {A = Bool}) c.truncate.ensures.items ∙ left_open blocks c.len.result c.args.count (omega (arith, c.len.ensures)) within
    ∙ ap (drop c.args.count) kinds
