use Rattle.std.proofs.Common.{◌≡◌, take}
use Rattle.std.specs.List.{sum_by}
use Rattle.wk_body.specs.Lengths.{limited}
use Rattle.wk_module.specs.Sizes.{entry_size}
use Rattle.wk_module.proofs.codes.codes_len_by.Given as goal

abbrev pub invariant-loop-size : goal.invariant-loop-size
invariant-loop-size l = l.total ≡ limited (sum_by entry_size (take l.size-index l.sizes))
