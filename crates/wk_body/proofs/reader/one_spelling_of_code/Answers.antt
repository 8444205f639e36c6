use Rattle.wk_body.proofs.Spelled.{expr_once, body_once, expr_alike, body_alike}
use Rattle.wk_body.proofs.reader.one_spelling_of_code.Goals as goal

pub returns : goal.returns
returns c = record { expr = expr_once; body = body_once; same_expr = expr_alike; same_body = body_alike }
