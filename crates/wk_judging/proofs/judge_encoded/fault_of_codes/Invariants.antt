use Rattle.std.proofs.Common.{◌≡◌}
use Rattle.wk_judging.proofs.JudgedCodes.{IsAlong}
use Rattle.wk_judging.proofs.judge_encoded.fault_of_codes.Given as goal

abbrev pub invariant-loop-index : goal.invariant-loop-index
invariant-loop-index l = record {
  end : l.codes.end ≡ l.initial.codes.end;
  reads : IsAlong l.profile l.context l.fn.known l.initial.codes l.fault l.index l.codes.end l.codes.rest;
}
