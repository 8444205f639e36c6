use Rattle.std.proofs.Common.{◌≡◌, replicate, None}
use Rattle.wk_pieces.proofs.pieces.no_news.Given as goal

abbrev pub invariant-loop : goal.invariant-loop
invariant-loop l = l.news.items ≡ replicate l.counter None
