use Rattle.std.proofs.Common.{◌≡◌, ◌-◌, ◌≤◌, ◌++◌, None, vec_len}
use Rattle.std.specs.Prelude.{replicate}
use Rattle.wk_draft.proofs.put_back.put_back.Given as goal

abbrev pub invariant-loop-news : goal.invariant-loop-news
invariant-loop-news l = record {
  filled : l.news.items ≡ l.initial.news.items ++ replicate (vec_len l.news - vec_len l.initial.news) None;
  longer : vec_len l.initial.news ≤ vec_len l.news;
  few : vec_len l.news ≤ l.count;
}

abbrev pub decreases-loop-news : goal.decreases-loop-news
decreases-loop-news l = l.count - vec_len l.news
