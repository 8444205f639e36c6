use Rattle.std.proofs.Common.{◌≡◌, ◌≤◌, take, map, if◌then◌else◌}
use Rattle.wk_check.specs.Verdict.{func_verdict}
use Rattle.wk_pieces.specs.Pieces.{code_of}
use Rattle.wk_session.specs.Kept.{uses_of}
use Rattle.wk_session.proofs.cache.entries_in.Given as goal

abbrev pub invariant-loop-i : goal.invariant-loop-i
invariant-loop-i g l = record {
  verdicts : l.verdicts.items ≡ map (func_verdict (g.E.Env.answers l.env)) (take l.i l.funcs);
  refs : map (λ s. s.keys) l.refs.items ≡ map uses_of (take l.i l.funcs);
  codes : l.codes.items ≡ map code_of (if l.is_written then l.funcs else take l.i l.funcs);
  typed : l.meter ≤ l.i;
  encoded : l.encoded ≤ l.i;
}
