use Rattle.wk_strip.proofs.Rewriting.{AreUnderway}
use Rattle.wk_strip.proofs.codes.rewrite_codes.Given as goal

abbrev pub invariant-loop : goal.invariant-loop
invariant-loop l = AreUnderway l.profile l.fn.bytes l.bytes l.codes l.counter l.place
