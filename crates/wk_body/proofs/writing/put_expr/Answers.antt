use Rattle.std.proofs.Common.{◌∙◌, ◌++◌, ap, List, ℕ}
use Rattle.std.specs.List.{flat_map}
use Rattle.std.proofs.lemmas.Result.{on_ok_weaker}
use Rattle.wk_body.specs.Written.{tok_bytes}
use Rattle.wk_body.proofs.Encoding.{tokens_written}
use Rattle.wk_body.proofs.EncodedSpells.{expr_encoded}
use Rattle.wk_body.proofs.writing.put_expr.Goals as goal

pub returns-clause-ok : goal.returns-clause-ok
returns-clause-ok c =
    let written = ap (flat_map tok_bytes) c.tokens.ensures.tokens ∙ tokens_written c.args.expr.now in
    on_ok_weaker c.put_tokens.result (λ e. e ∙ ap (λ (b : List ℕ). c.args.out.now.items ++ b) written) c.put_tokens.ensures.ok

pub returns-clause-spells : goal.returns-clause-spells
returns-clause-spells c = λ profile of. expr_encoded profile c.args.expr.now c.tokens.ensures.shaped of
