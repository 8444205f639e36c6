use Rattle.wk_typing.proofs.Frames.{frame, renumbered}
use Rattle.wk_typing.proofs.ValidFinds.{valid_finds}
use Rattle.wk_typing.proofs.carry_verdict.verdicts_that_keep.Goals as goal

pub returns : goal.returns
returns c = record { frame = frame; moved = renumbered; there = valid_finds }
