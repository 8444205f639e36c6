use Rattle.std.proofs.Common.{◌≡◌, length, drop}
use Rattle.wk_check.specs.Items.{all_within}
use Rattle.wk_check.specs.Spaces.{spaces_of}
use Rattle.wk_check.proofs.rules.are_there.Given as goal

abbrev pub invariant-loop-func : goal.invariant-loop-func
invariant-loop-func l =
    all_within (length (spaces_of l.whole).funcs) l.funcs ≡ all_within (length (spaces_of l.whole).funcs) (drop l.func-index l.funcs)
