use Rattle.std.proofs.Common.{◌≡◌, None, sym, ◌∙◌}
use Rattle.wk_typing.specs.Faults.{body_flaw}
use Rattle.wk_check.specs.Spaces.{answer_in, spaces_of}
use Rattle.wk_check.specs.Verdict.{front_fault, func_verdict}
use Rattle.wk_check.proofs.Flaws.{numbered_map}
use Rattle.wk_check.proofs.judging.fault_up_to_code.Goals as goal

pub returns : goal.returns
returns c =
    let l = c.args.whole.now in
    let fine : front_fault c.args.parts.now.profile l ≡ None = sym c.in_ok-fault.ensures ∙ c.in_default.is in
    rw (fine, ← numbered_map body_flaw (func_verdict (answer_in (spaces_of l))) 0 c.args.parts.now.funcs) (rw c.as_slice.ensures at c.first_fault.ensures)
