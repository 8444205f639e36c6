use Rattle.std.proofs.Common.{rules, ◌≡◌, ◌<◌, List, ℕ, length, sym, ap, ◌∙◌, arith}
use Rattle.std.proofs.lemmas.Iterator.Adapters.{YieldsList-from_vec}
use Rattle.std.proofs.lemmas.Iterator.Consumers.{YieldsList-turn, YieldsList-end}
use Rattle.std.proofs.lemmas.List.{length_push, map-id}
use Rattle.wk_body.specs.Bodies.{BodyOf}
use Rattle.wk_module.specs.Reading.{zipped}
use Rattle.wk_module.proofs.VectorReading.{zipped_none, zipped_more}
use Rattle.wk_module.proofs.module_read.functions.Goals as goal

pub loop-body-init : goal.loop-body-init
loop-body-init c = record {
  made = c.in_ok-funcs.ensures.items ∙ sym (zipped_none c.as_slice-indices.result.now);
  len = omega (arith, c.in_ok-funcs.ensures.len);
  room = omega (arith, c.in_ok-funcs.ensures.capacity, c.in_ok-funcs.ensures.exact);
}

pub bounds-indices-len : goal.bounds-indices-len
bounds-indices-len c =
    let all = YieldsList-from_vec {s = c.into_iter-body-iterator.result} c.args.bodies (search rules) (search rules) in
    let turn = YieldsList-turn all c.loop-body.yielded c.loop-body.body-iterator c.loop-body.yielded_by c.next.result c.next.new.self c.in-Some.body
    c.in-Some.is c.next.ensures.steps in
    omega (arith, turn.0, c.loop-body.invariant.len, c.len.ensures, c.requires, ap length c.as_slice-indices.ensures)

pub loop-body-preserved : goal.loop-body-preserved
loop-body-preserved c =
    let inv = c.loop-body.invariant in
    let indices = c.as_slice-indices.result.now in
    let yielded = c.loop-body.yielded in
    let body = c.in-Some.body in
    let all = YieldsList-from_vec {s = c.into_iter-body-iterator.result} c.args.bodies (search rules) (search rules) in
    let turn = YieldsList-turn all yielded c.loop-body.body-iterator c.loop-body.yielded_by c.next.result c.next.new.self body c.in-Some.is
    c.next.ensures.steps in
    let within : length yielded < length indices = omega (arith, turn.0, c.requires, ap length c.as_slice-indices.ensures) in
    let place : c.len.result ≡ length yielded = omega (arith, c.len.ensures, inv.len) in
    record {
      made = rw (c.push_reserved.ensures.items, inv.made) (sym (zipped_more indices yielded c.len.result body within place));
      len = omega (arith, c.push_reserved.ensures.len, inv.len, length_push yielded body);
      room = omega (arith, c.push_reserved.ensures.capacity, inv.room);
    }

pub returns : goal.returns
returns c =
    let all = YieldsList-from_vec {s = c.into_iter-body-iterator.result} c.args.bodies (search rules) (search rules) in
    let end = YieldsList-end all c.loop-body.yielded c.loop-body.body-iterator c.loop-body.yielded_by c.next.result c.next.new.self c.in-None.is
    c.next.ensures.steps in
    let whole = sym (map-id c.loop-body.yielded) ∙ end.0 in
    c.from_vec.ensures ∙ c.loop-body.invariant.made ∙ ap (λ (bodies : List BodyOf). zipped c.as_slice-indices.result.now bodies) whole
    ∙ ap (λ (indices : List ℕ). zipped indices c.args.bodies) c.as_slice-indices.ensures
