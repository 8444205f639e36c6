use Rattle.std.proofs.Common.{◌≡◌, ◌≤◌, length, vec_len, vec_capacity}
use Rattle.wk_draft.proofs.DeferredCodes.{AreMade}
use Rattle.wk_draft.proofs.put_back.renumber_codes.Given as goal

abbrev pub invariant-loop-code : goal.invariant-loop-code
invariant-loop-code l = record {
  made : AreMade l.shifts l.fn.codes.items l.deferred.items l.news.items (length l.yielded);
  len : vec_len l.news ≡ length l.yielded;
  room : length l.fn.codes.items ≤ vec_capacity l.news;
}
