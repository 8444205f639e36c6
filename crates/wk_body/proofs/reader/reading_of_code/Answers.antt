use Rattle.wk_body.proofs.Promised.{exprs_read, all_exprs_read, bodies_read, exprs_never_memory, bodies_never_memory}
use Rattle.wk_body.proofs.Spelled.{expr_shaped, expr_allowed}
use Rattle.wk_body.proofs.reader.reading_of_code.Goals as goal

pub returns : goal.returns
returns c = record {
  expr = exprs_read;
  body = bodies_read;
  all_expr = all_exprs_read;
  expr_shape = λ profile t bytes fits s. (expr_shaped profile t bytes fits s, expr_allowed profile t bytes s);
  never_memory_expr = exprs_never_memory;
  never_memory_body = bodies_never_memory;
}
