use Rattle.std.proofs.Common.{◌≡◌, ◌-◌, ◌∙◌, ◌++◌, None, length, map, refl, ap, arith, vec_len}
use Rattle.std.specs.Prelude.{replicate}
use Rattle.wk_check.specs.SpacesLaws.{answers_of}
use Rattle.wk_pieces.specs.Overlays.{with_items}
use Rattle.wk_pieces.specs.Pieces.{code_of}
use Rattle.wk_draft.proofs.DeferredCodes.{deferred_put, filled_none, filled_more}
use Rattle.wk_draft.proofs.put_back.put_back.Goals as goal

pub loop-news-init : goal.loop-news-init
loop-news-init c = record {
  filled = filled_none c.in-Some.news.items c.in-Some.news.items (vec_len c.in-Some.news) (vec_len c.in-Some.news) refl refl;
  longer = omega arith;
  few = omega (arith, c.if-len-count.false, c.len.ensures);
}

pub loop-news-smaller : goal.loop-news-smaller
loop-news-smaller c = omega (arith, c.in_ok-push.ensures.len, c.loop-news-test.true, c.len-in-loop-news.ensures)

pub loop-news-preserved : goal.loop-news-preserved
loop-news-preserved c =
    let inv = c.loop-news.invariant in
    let front = c.in-Some.news in
    record {
      filled = filled_more front.items c.loop-news.news.items c.push.new.self.items (vec_len front) (vec_len c.loop-news.news) (vec_len c.push.new.self)
          inv.longer (omega (arith, c.in_ok-push.ensures.len)) c.in_ok-push.ensures.items inv.filled;
      longer = omega (arith, c.in_ok-push.ensures.len, inv.longer);
      few = omega (arith, c.in_ok-push.ensures.len, c.loop-news-test.true, c.len-in-loop-news.ensures);
    }

pub returns-clause-many : goal.returns-clause-many
returns-clause-many c =
    omega (
      arith,
      c.loop-news.invariant.few,
      c.loop-news-test.false,
      c.len-in-loop-news.ensures,
      c.loop-news.news.ok.0,
      c.len-count.ensures,
      ap (λ m. length m.funcs) c.parts.ensures.value,
    )

pub returns-clause-codes : goal.returns-clause-codes
returns-clause-codes c = λ profile os m told all held.
    let d = c.args.draft.now in
    let k = vec_len c.loop-news.news - vec_len c.in-Some.news in
    let made = rw c.in-Some.is at c.in_ok-news.ensures in
    let news : c.loop-news.news.items ≡ _ ++ replicate k None = c.loop-news.invariant.filled ∙ ap (λ ns. ns ++ replicate k None) (made profile os told all) in
    ap (with_items (map code_of d.session.funcs)) news
    ∙ deferred_put m.profile (answers_of m) d.shifts os d.deferred.items m.funcs d.session.funcs k held.draft.sketch.funcs
