use Rattle.std.proofs.Common.{◌≡◌, ◌+◌, ◌-◌, ◌<◌, ◌≤◌, ◌^◌, arith}
use Rattle.std.proofs.lemmas.Result.{err_from_is_err_and}
use Rattle.wk_bytes.specs.Leb.{lastU}
use Rattle.wk_body.specs.ValTypes.{valtype_at}
use Rattle.wk_body.specs.Reading.{groups_at}
use Rattle.wk_body.specs.ReadsLaws.{fails_on}
use Rattle.wk_body.proofs.Faults.{fails_int}
use Rattle.wk_body.proofs.GroupLoop.{groups_uncounted, groups_too_many, groups_untyped, groups_go_on, groups_end}
use Rattle.wk_body.proofs.reader.groups_of.Goals as goal

pub returns-in_err-count : goal.returns-in_err-count
returns-in_err-count c =
    let p = err_from_is_err_and c.from_residual.result c.from_residual.ensures.1 in
    let e = c.in_err-count.field-0.0 in
    let whole = groups_at c.args.count 0 c.args.cursor.now.end c.args.cursor.now.rest in
    rw (p.1, p.2) (fails_int lastU 32 c.loop.cursor.rest e e.kind whole c.in_err-count.ensures.fault.1
    (groups_uncounted c.loop.groups.items c.args.count c.loop.counter c.loop.declared c.args.cursor.now c.loop.cursor whole e c.loop-test.true
    c.loop.invariant c.in_err-count.ensures.exact.0))

pub returns-in_default : goal.returns-in_default
returns-in_default c =
    let whole = groups_at c.args.count 0 c.args.cursor.now.end c.args.cursor.now.rest in
    let many : 2 ^ 32 ≤ c.loop.declared + c.in_ok-count.count = omega (arith, c.in_default.ensures) in
    rw c.at-at.ensures.offset
    (groups_too_many c.loop.groups.items c.args.count c.loop.counter c.loop.declared c.in_ok-count.count c.args.cursor.now c.loop.cursor
    c.u32.new.self.rest whole c.loop-test.true c.loop.invariant c.in_ok-count.ensures.exact.0 many)

pub returns-in_err-ty : goal.returns-in_err-ty
returns-in_err-ty c =
    let p = err_from_is_err_and c.from_residual-in_err-ty.result c.from_residual-in_err-ty.ensures.1 in
    let e = c.in_err-ty.field-0.0 in
    let mid = c.u32.new.self in
    let whole = groups_at c.args.count 0 c.args.cursor.now.end c.args.cursor.now.rest in
    let few : c.loop.declared + c.in_ok-count.count < 2 ^ 32 = c.in-Some.ensures.0 in
    rw (p.1, p.2) (fails_on e e.kind (valtype_at mid.end mid.rest) whole
    (λ bad. groups_untyped c.loop.groups.items c.args.count c.loop.counter c.loop.declared c.in_ok-count.count c.args.cursor.now c.loop.cursor mid whole
    e c.loop-test.true c.loop.invariant c.in_ok-count.ensures.exact.0 c.in_ok-count.ensures.exact.1 few bad)
    c.in_err-ty.ensures)

pub loop-preserved : goal.loop-preserved
loop-preserved c =
    let whole = groups_at c.args.count 0 c.args.cursor.now.end c.args.cursor.now.rest in
    let few : c.loop.declared + c.in_ok-count.count < 2 ^ 32 = c.in-Some.ensures.0 in
    rw (c.in_ok-push.ensures.items, c.in-Some.ensures.1)
    (groups_go_on c.loop.groups.items c.args.count c.loop.counter c.loop.declared c.in_ok-count.count c.in_ok-ty.ty c.args.cursor.now c.loop.cursor
    c.u32.new.self c.local_type.new.cursor whole c.loop-test.true c.loop.invariant
    c.in_ok-count.ensures.exact.0 c.in_ok-count.ensures.exact.1 few c.in_ok-ty.ensures.0 c.in_ok-ty.ensures.1)

pub returns : goal.returns
returns c =
    let none : c.args.count - c.loop.counter ≡ 0 = omega arith in (
      groups_end c.loop.groups.items (c.args.count - c.loop.counter) c.loop.declared c.args.cursor.now c.loop.cursor _ none c.loop.invariant,
      c.loop.invariant.same_end,
    )
