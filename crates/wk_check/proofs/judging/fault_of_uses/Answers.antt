use Rattle.std.proofs.Common.{◌≡◌, None, sym, ◌∙◌}
use Rattle.wk_module.specs.Listed.{listed}
use Rattle.wk_check.specs.Flaws.{first_in}
use Rattle.wk_check.specs.Items.{start_flaw, start_flaws}
use Rattle.wk_check.specs.Spaces.{spaces_of}
use Rattle.wk_check.specs.Verdict.{export_flaws}
use Rattle.wk_check.proofs.Flaws.{earlier_none}
use Rattle.wk_check.proofs.judging.fault_of_uses.Goals as goal
use Rattle.wk_check.proofs.judging.fault_of_uses.Goals.{in-Some-start+in_default-flaw_of_start, in_default-start}

pub returns : goal.returns
returns c =
    let l = listed c.lists-lists.result.now in
    let exports : first_in 7 0 (export_flaws l) ≡ None = sym (rw (← c.lists-lists.ensures) at c.in_ok-fault.ensures) ∙ c.in_default.is in
    let start : first_in 8 0 (start_flaws (spaces_of l) l.start) ≡ None = elim c.match-lists.branch [
      | in-Some-start+in_default-flaw_of_start w ↦
          let fine : start_flaw (spaces_of l) w.in-Some-start.start ≡ None =
          rw (← c.lists-lists.ensures) at (sym w.flaw_of_start.ensures ∙ w.in_default-flaw_of_start.is) in
          rw (w.in-Some-start.is, fine)
      | in_default-start w ↦ rw w.in_default-start.is
    ] in
    rw (← c.lists-lists.ensures, exports, start, earlier_none) (rw (← c.lists-lists.ensures) at c.first_fault.ensures)
