use Rattle.std.proofs.Common.{Ok, Err}
use Rattle.std.proofs.lemmas.Result.{err_from_is_err_and}
use Rattle.wk_bytes.specs.LebLaws.{IsBytes}
use Rattle.wk_body.proofs.Promised.{next_taken, next_refused, next_only, next_stands, expr_of}
use Rattle.wk_body.proofs.scratch.Scratch.next_expr.Goals as goal

pub returns-in_err-expr : goal.returns-in_err-expr
returns-in_err-expr c =
    let p = err_from_is_err_and c.from_residual.result c.from_residual.ensures.1 in
    let old = c.args.cursor.now in
    let e = c.in_err-expr.field-0.0 in
    let fits : IsBytes old.rest = rw (← c.rest.ensures) c.are_bytes.ensures in
    let given = next_refused c.args.profile old c.ahead-ahead.result e c.ahead-ahead.ensures.same c.in_err-expr.ensures.exact in
    rw (p.1, p.2) (record {
      exact = given;
      only = next_only c.args.profile old old (Err e) fits given;
      profile = tt;
      fault =
          next_stands c.args.profile old old (Err e) c.ahead-ahead.ensures.fits given;
    })

pub returns : goal.returns
returns c =
    let old = c.args.cursor.now in
    let t = c.in_ok-expr.expr in
    let new = c.read_front.new.cursor in
    let fits : IsBytes old.rest = rw (← c.rest.ensures) c.are_bytes.ensures in
    let given = next_taken c.args.profile old c.ahead-ahead.result new t c.ahead-ahead.ensures.same c.in_ok-expr.ensures.exact in
    record { exact = given; only = next_only c.args.profile old new (Ok t) fits given; profile = expr_of c.args.profile old new (Ok t) fits given; fault = tt }
