use Rattle.wk_body.proofs.Encoding.{tokens_written}
use Rattle.wk_body.proofs.EncodedSpells.{expr_encoded, body_encoded}
use Rattle.wk_body.proofs.Least.{expr_least, body_least}
use Rattle.wk_body.proofs.OnlyShort.{expr_only, body_only}
use Rattle.wk_body.proofs.writing.written_form_of_code.Goals as goal

pub returns : goal.returns
returns c = record {
  expr = expr_encoded;
  body = λ profile b groups shaped of. body_encoded profile b groups (expr_encoded profile b.instrs shaped of);
  least_expr = expr_least;
  least_body = body_least;
  tokens = tokens_written;
  only_expr = expr_only;
  only_body = body_only;
}
