use Rattle.std.proofs.lemmas.Result.{err_from_is_err_and}
use Rattle.wk_bytes.specs.LebLaws.{IsBytes}
use Rattle.wk_body.specs.TokenReading.{local_groups_at}
use Rattle.wk_body.proofs.Standing.{ReadsFront-local_groups_at}
use Rattle.wk_body.proofs.Promised.{front_stands, groups_taken, groups_refused}
use Rattle.wk_body.proofs.token_reader.next_groups.Goals as goal

pub returns-in_err-take_groups-clause-only : goal.returns-in_err-take_groups-clause-only
returns-in_err-take_groups-clause-only c =
    let p = err_from_is_err_and c.from_residual.result c.from_residual.ensures.1 in
    let from = c.args.cursor.now in
    let fits : IsBytes from.rest = rw (← c.rest.ensures) c.are_bytes.ensures in
    rw (p.1, p.2) (groups_refused c.take_groups.new.groups.items from c.ahead-ahead.result c.in_err-take_groups.field-0.0 fits
    c.ahead-ahead.ensures.same c.in_err-take_groups.ensures.exact)

pub returns-in_err-take_groups-clause-fault : goal.returns-in_err-take_groups-clause-fault
returns-in_err-take_groups-clause-fault c =
    let p = err_from_is_err_and c.from_residual.result c.from_residual.ensures.1 in
    rw (p.1, p.2) (front_stands local_groups_at ReadsFront-local_groups_at c.args.cursor.now c.ahead-ahead.result c.in_err-take_groups.field-0.0
    c.ahead-ahead.ensures.same c.ahead-ahead.ensures.fits c.in_err-take_groups.ensures.exact)

pub returns-clause-only : goal.returns-clause-only
returns-clause-only c =
    let fits : IsBytes c.args.cursor.now.rest = rw (← c.rest.ensures) c.are_bytes.ensures in
    groups_taken c.take_groups.new.groups.items c.args.cursor.now c.ahead-ahead.result c.take_groups.new.cursor fits c.ahead-ahead.ensures.same
    c.in_ok-take_groups.ensures.exact

pub returns-clause-range : goal.returns-clause-range
returns-clause-range c =
    let fits : IsBytes c.args.cursor.now.rest = rw (← c.rest.ensures) c.are_bytes.ensures in
    (groups_taken c.take_groups.new.groups.items c.args.cursor.now c.ahead-ahead.result c.take_groups.new.cursor fits c.ahead-ahead.ensures.same
    c.in_ok-take_groups.ensures.exact).1.are_groups
