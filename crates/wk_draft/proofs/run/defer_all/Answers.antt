use Rattle.std.proofs.Common.{◌≡◌, ◌++◌, ◌∷◌, [], List, Bool, true, ap, ◌∙◌, arith}
use Rattle.std.specs.Prelude.{replicate}
use Rattle.wk_draft.proofs.Drafting.{all_deferred_more}
use Rattle.wk_draft.proofs.run.defer_all.Goals as goal

pub loop-init : goal.loop-init
loop-init c = record {
  items = c.in_ok-deferred.ensures.items;
  len = c.in_ok-deferred.ensures.len;
  room = omega (arith, c.in_ok-deferred.ensures.capacity);
}

pub push_reserved-requires : goal.push_reserved-requires
push_reserved-requires c = omega (arith, c.loop-test.true, c.loop.invariant.len, c.loop.invariant.room)

pub loop-preserved : goal.loop-preserved
loop-preserved c = record {
  items = c.push_reserved.ensures.items ∙ ap (λ (bs : List Bool). bs ++ true ∷ []) c.loop.invariant.items ∙ all_deferred_more c.loop.counter;
  len = omega (arith, c.push_reserved.ensures.len, c.loop.invariant.len);
  room = omega (arith, c.push_reserved.ensures.capacity, c.loop.invariant.room);
}

pub returns : goal.returns
returns c = c.loop.invariant.items ∙ ap (λ n. replicate n true)
    (let same : c.loop.counter ≡ c.args.count = omega (arith, c.loop-test.false, c.loop.auto.counter-end) in same)
