use Rattle.std.proofs.Common.{length, ap, ◌∙◌, List, ℕ, subst}
use Rattle.std.specs.List.{flat_map}
use Rattle.wk_body.specs.Lengths.{GrowsBy}
use Rattle.wk_body.specs.Written.{tok_bytes}
use Rattle.wk_body.proofs.Capped.{grows_capped}
use Rattle.wk_body.proofs.Encoding.{tokens_written}
use Rattle.wk_body.proofs.length.plus_expr.Goals as goal

pub returns : goal.returns
returns c =
    let written = ap (flat_map tok_bytes) c.tokens.ensures.tokens ∙ tokens_written c.args.expr.now in
    let bytes = grows_capped c.tokens_len.result (length (flat_map tok_bytes _)) c.args.total c.plus.result c.tokens_len.ensures c.plus.ensures in
    subst (λ (b : List ℕ). GrowsBy (length b) c.args.total c.plus.result) written bytes
