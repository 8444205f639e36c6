use Rattle.std.proofs.Common.{List, ℕ, ◌++◌, ap, ◌∙◌, append-nil}
use Rattle.std.proofs.lemmas.List.{drop_all}
use Rattle.wk_module.specs.declared.types.Custom.{Custom}
use Rattle.wk_list.proofs.CustomSteps.{details_at, custom_here, custom_elsewhere}
use Rattle.wk_list.proofs.TakenLemmas.{puts_on, puts_left, refused, stopped}
use Rattle.wk_list.proofs.details.list_customs.Goals as goal
use Rattle.wk_list.proofs.details.list_customs.Goals.{then-custom-place+in_ok-put_custom+in_ok-spill, else-custom-place}

pub returns-in_err-put_custom : goal.returns-in_err-put_custom
returns-in_err-put_custom g c = refused c.loop-custom.invariant c.from_residual.ensures

pub returns-in_err-spill : goal.returns-in_err-spill
returns-in_err-spill g c =
    let step = custom_here c.args.customs.now c.loop-custom.custom-index c.args.place c.custom-item.result c.loop-custom.text.items _
    c.loop-custom-test.true c.custom-item.is c.if-custom-place.true c.in_ok-put_custom.ensures in
    stopped (puts_on _ c.loop-custom.invariant step c.in_err-spill.ensures) c.from_residual-in_err-spill.ensures

pub loop-custom-preserved : goal.loop-custom-preserved
loop-custom-preserved g c =
    let customs = c.args.customs.now in
    let at = c.loop-custom.custom-index in
    elim c.if-custom-place.branch [
      | then-custom-place+in_ok-put_custom+in_ok-spill w ↦ rw (w.text-is, w.out-is)
          (puts_on _ c.loop-custom.invariant (custom_here customs at c.args.place c.custom-item.result c.loop-custom.text.items _ c.loop-custom-test.true
          c.custom-item.is w.if-custom-place.true w.in_ok-put_custom.ensures) w.in_ok-spill.ensures)
      | else-custom-place w ↦ rw (w.text-is, w.out-is)
          (puts_left (ap (λ (r : List ℕ). c.loop-custom.text.items ++ r)
          (custom_elsewhere customs at c.args.place c.custom-item.result c.loop-custom-test.true c.custom-item.is w.if-custom-place.false))
          c.loop-custom.invariant)
    ]

pub returns : goal.returns
returns g c =
    puts_left (ap (λ (ds : List Custom). c.loop-custom.text.items ++ details_at c.args.place ds)
    (drop_all c.loop-custom.custom-index c.args.customs.now c.loop-custom-test.false) ∙ append-nil c.loop-custom.text.items) c.loop-custom.invariant
