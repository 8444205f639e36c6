use Rattle.std.proofs.Common.{rules, ◌≡◌, ◌<◌, ◌∙◌, ℕ, suc, Option, List, [], ◌∷◌, ◌++◌, length, None, Some, get_or, refl, sym, ap, subst, arith}
use Rattle.std.proofs.lemmas.Iterator.Adapters.{YieldsList-from_vec}
use Rattle.std.proofs.lemmas.Iterator.Consumers.{YieldsList-turn, YieldsList-end}
use Rattle.std.proofs.lemmas.List.{length_push}
use Rattle.wk_draft.proofs.DeferredCodes.{AreMade, IsNew, made_none, made_more, made_all}
use Rattle.wk_draft.proofs.put_back.renumber_codes.Goals as goal
use Rattle.wk_draft.proofs.put_back.renumber_codes.Goals.{After-index, In-Some}

pub loop-code-init : goal.loop-code-init
loop-code-init c = record {
  made = made_none c.args.shifts c.args.codes.items c.args.deferred.now.items c.in_ok-news.news.items c.in_ok-news.ensures.items;
  len = omega (arith, c.in_ok-news.ensures.len);
  room = omega (arith, c.in_ok-news.ensures.capacity, c.in_ok-news.ensures.exact);
}

-- the code of this turn is the next one
turn : (c : In-Some) → (length c.loop-code.yielded < length c.args.codes.items)
    × (c.in-Some.code ≡ get_or c.args.codes.items (length c.loop-code.yielded) c.in-Some.code)
turn c =
    let all = YieldsList-from_vec {s = c.into_iter-code-iterator.result} c.args.codes.items (search rules) (search rules) in
    YieldsList-turn all c.loop-code.yielded c.loop-code.code-iterator c.loop-code.yielded_by c.next.result c.next.new.self c.in-Some.code c.in-Some.is
    c.next.ensures.steps

pub index-requires : goal.index-requires
index-requires c =
    let next = turn (goal.at.index-requires c).In-Some in
    omega (arith, next.0, c.loop-code.invariant.len, c.len-in-loop-code.ensures, c.requires, c.args.deferred.now.ok.0)

pub push_reserved-requires : goal.push_reserved-requires
push_reserved-requires c =
    let next = turn (goal.at.push_reserved-requires c).In-Some in
    omega (arith, next.0, c.loop-code.invariant.len, c.loop-code.invariant.room)

pub push_reserved-requires-in-loop-code : goal.push_reserved-requires-in-loop-code
push_reserved-requires-in-loop-code c =
    let next = turn (goal.at.push_reserved-requires-in-loop-code c).In-Some in
    omega (arith, next.0, c.loop-code.invariant.len, c.loop-code.invariant.room)

-- with what comes for it
made_next : (c : After-index) (new : Option (List ℕ)) (after : List (Option (List ℕ))) → (length c.loop-code.yielded < length c.args.codes.items)
    × (c.in-Some.code ≡ get_or c.args.codes.items (length c.loop-code.yielded) c.in-Some.code)
    → after ≡ c.loop-code.news.items ++ new ∷ [] → IsNew c.args.shifts c.in-Some.code new c.index.result.now
    → AreMade c.args.shifts c.args.codes.items c.args.deferred.now.items after (length (c.loop-code.yielded ++ c.in-Some.code ∷ []))
made_next c new after next pushed is =
    let i = length c.loop-code.yielded in
    let deferred = c.args.deferred.now.items in
    let place : c.len-in-loop-code.result ≡ i = omega (arith, c.len-in-loop-code.ensures, c.loop-code.invariant.len) in
    let longer : length (c.loop-code.yielded ++ c.in-Some.code ∷ []) ≡ suc i = omega (arith, length_push c.loop-code.yielded c.in-Some.code) in
    let flag : c.index.result.now ≡ get_or deferred i c.index.result.now = c.index.ensures ∙ ap (λ k. get_or deferred k c.index.result.now) place in
    made_more c.args.shifts c.args.codes.items deferred i _ c.in-Some.code c.index.result.now new c.loop-code.news.items after c.requires next.0 longer
    next.1 flag pushed is c.loop-code.invariant.made

pub loop-code-preserved-then-not-index : goal.loop-code-preserved-then-not-index
loop-code-preserved-then-not-index c =
    let inv = c.loop-code.invariant in
    let at = goal.at.loop-code-preserved-then-not-index c in
    record {
      made = made_next at.After-index None c.push_reserved.new.self.items (turn at.In-Some) c.push_reserved.ensures.items
          (subst (IsNew c.args.shifts c.in-Some.code None) (sym c.if-not-index.true) refl);
      len = omega (arith, c.push_reserved.ensures.len, inv.len, length_push c.loop-code.yielded c.in-Some.code);
      room = omega (arith, c.push_reserved.ensures.capacity, inv.room);
    }

pub loop-code-preserved : goal.loop-code-preserved
loop-code-preserved c =
    let inv = c.loop-code.invariant in
    let at = goal.at.loop-code-preserved c in
    let new = c.in-Some-2.code in
    let is = rw c.in-Some-2.is at c.in_ok-code.ensures in
    record {
      made = made_next at.After-index (Some new) c.push_reserved-in-loop-code.new.self.items (turn at.In-Some) c.push_reserved-in-loop-code.ensures.items
          (subst (IsNew c.args.shifts c.in-Some.code (Some new)) (sym c.if-not-index.false) (λ profile b is_code told. ap Some (is profile b is_code told)));
      len = omega (arith, c.push_reserved-in-loop-code.ensures.len, inv.len, length_push c.loop-code.yielded c.in-Some.code);
      room = omega (arith, c.push_reserved-in-loop-code.ensures.capacity, inv.room);
    }

pub returns : goal.returns
returns c =
    let all = YieldsList-from_vec {s = c.into_iter-code-iterator.result} c.args.codes.items (search rules) (search rules) in
    let end = YieldsList-end all c.loop-code.yielded c.loop-code.code-iterator c.loop-code.yielded_by c.next.result c.next.new.self c.in-None.is
    c.next.ensures.steps in
    made_all c.args.shifts c.args.codes.items c.args.deferred.now.items c.loop-code.news.items (length c.loop-code.yielded)
    (omega (arith, end.1)) c.loop-code.invariant.made
