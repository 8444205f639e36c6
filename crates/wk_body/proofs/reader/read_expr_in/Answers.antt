use Rattle.std.proofs.Common.{arith, length, subst}
use Rattle.wk_bytes.specs.Span.{Span}
use Rattle.wk_bytes.specs.LebLaws.{IsBytes}
use Rattle.wk_bytes.specs.Stands.{whole}
use Rattle.wk_body.specs.Reads.{Reads}
use Rattle.wk_body.specs.Reading.{all_expr_at}
use Rattle.wk_body.proofs.Promised.{finds_expr, found_expr_of, expr_stands, stands_in}
use Rattle.wk_body.proofs.reader.read_expr_in.Goals as goal

-- what was read is what reading all of the bytes gives
given : (c : goal.After-expr_whole) → Reads (λ e. e) c.expr_whole.result (all_expr_at c.args.profile (length c.args.bytes.now) c.args.bytes.now)
given c = subst (λ (s : Span). Reads (λ e. e) c.expr_whole.result (all_expr_at c.args.profile s.end s.rest)) c.new.ensures c.expr_whole.ensures

pub returns-clause-only : goal.returns-clause-only
returns-clause-only c =
    let fits : IsBytes c.args.bytes.now = λ i. omega (arith, c.type_inv.bytes i) in
    finds_expr c.args.profile (length c.args.bytes.now) c.args.bytes.now c.expr_whole.result fits (omega arith) (given c)

pub returns-clause-profile : goal.returns-clause-profile
returns-clause-profile c =
    let fits : IsBytes c.args.bytes.now = λ i. omega (arith, c.type_inv.bytes i) in
    found_expr_of c.args.profile c.args.bytes.now c.expr_whole.result
    (finds_expr c.args.profile (length c.args.bytes.now) c.args.bytes.now c.expr_whole.result fits (omega arith) (given c))

pub returns-clause-fault : goal.returns-clause-fault
returns-clause-fault c =
    stands_in c.args.bytes.now c.expr_whole.result (expr_stands c.args.profile (whole c.args.bytes.now) c.expr_whole.result (omega arith) (given c))
