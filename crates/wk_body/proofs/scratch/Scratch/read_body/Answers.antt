use Rattle.std.proofs.Common.{Ok, Err, arith}
use Rattle.std.proofs.lemmas.Result.{err_from_is_err_and}
use Rattle.wk_bytes.specs.LebLaws.{IsBytes}
use Rattle.wk_body.specs.Written.{Fits}
use Rattle.wk_body.proofs.Promised.{finds_body, found_body_of, body_stands, body_whole, body_longer, body_refused}
use Rattle.wk_body.proofs.scratch.Scratch.read_body.Goals as goal

pub returns-in_err-body : goal.returns-in_err-body
returns-in_err-body c =
    let p = err_from_is_err_and c.from_residual.result c.from_residual.ensures.1 in
    let old = c.args.cursor.now in
    let e = c.in_err-body.field-0.0 in
    let fits : IsBytes old.rest = rw (← c.rest.ensures) c.are_bytes.ensures in
    let few : Fits old.rest = omega (arith, c.at-at.ensures.end, c.at-at.ensures.small) in
    let given = body_refused c.args.profile old c.ahead-ahead.result e c.ahead-ahead.ensures.same c.in_err-body.ensures in
    rw (p.1, p.2) (record {
      exact = given;
      only = finds_body c.args.profile old.end old.rest (Err e) fits few given;
      profile = tt;
      fault =
          body_stands c.args.profile old (Err e) c.ahead-ahead.ensures.fits given;
    })

pub returns-in_err-at_end : goal.returns-in_err-at_end
returns-in_err-at_end c =
    let p = err_from_is_err_and c.from_residual-in_err-at_end.result c.from_residual-in_err-at_end.ensures.1 in
    let old = c.args.cursor.now in
    let e = c.in_err-at_end.field-0.0 in
    let fits : IsBytes old.rest = rw (← c.rest.ensures) c.are_bytes.ensures in
    let few : Fits old.rest = omega (arith, c.at-at.ensures.end, c.at-at.ensures.small) in
    let given = body_longer c.args.profile old c.ahead-ahead.result c.body_front.new.cursor c.in_ok-body.body e c.ahead-ahead.ensures.same
    c.in_ok-body.ensures c.in_err-at_end.ensures in
    rw (p.1, p.2) (record {
      exact = given;
      only = finds_body c.args.profile old.end old.rest (Err e) fits few given;
      profile = tt;
      fault =
          body_stands c.args.profile old (Err e) c.ahead-ahead.ensures.fits given;
    })

pub returns : goal.returns
returns c =
    let old = c.args.cursor.now in
    let b = c.in_ok-body.body in
    let fits : IsBytes old.rest = rw (← c.rest.ensures) c.are_bytes.ensures in
    let few : Fits old.rest = omega (arith, c.at-at.ensures.end, c.at-at.ensures.small) in
    let given = body_whole c.args.profile old c.ahead-ahead.result c.body_front.new.cursor b c.ahead-ahead.ensures.same c.in_ok-body.ensures
    c.in_ok-at_end.ensures in
    let found = finds_body c.args.profile old.end old.rest (Ok b) fits few given in
    record { exact = given; only = found; profile = found_body_of c.args.profile old.rest (Ok b) found; fault = tt }
