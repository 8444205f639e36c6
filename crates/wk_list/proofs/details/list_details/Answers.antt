use Rattle.std.proofs.Common.{ℕ, List, ◌++◌, ◌<◌, ◌≤◌, ◌∙◌, ap, refl, sym, arith, append_assoc, append-nil}
use Rattle.std.specs.List.{flat_map}
use Rattle.std.proofs.lemmas.List.{drop_all}
use Rattle.wk_module.specs.Writing.{ids}
use Rattle.wk_list.specs.Details.{details_of}
use Rattle.wk_list.proofs.IdSteps.{section_next}
use Rattle.wk_list.proofs.TakenLemmas.{all_left, puts_left, puts_on, stopped}
use Rattle.wk_list.proofs.details.list_details.Goals as goal

pub loop-id-init : goal.loop-id-init
loop-id-init g c = all_left refl

pub list_section-requires : goal.list_section-requires
list_section-requires g c = record { room = rw c.loop-id.invariant.failures c.requires.room }

pub returns-in_err-list_section : goal.returns-in_err-list_section
returns-in_err-list_section g c =
    let lt : c.loop-id.id < 12 = omega arith in
    let step = section_next (g.S.Sketch.seen c.args.sketch.now) c.parts-parts.result.now c.loop-id.id c.loop-id.text.items lt c.parts-parts.ensures.value in
    stopped (puts_on _ c.loop-id.invariant step c.in_err-list_section.ensures) c.from_residual.ensures

pub list_customs-requires : goal.list_customs-requires
list_customs-requires g c = record { room = rw (c.in_ok-list_section.ensures.failures, c.loop-id.invariant.failures) c.requires.room }

pub returns-in_err-list_customs : goal.returns-in_err-list_customs
returns-in_err-list_customs g c =
    let lt : c.loop-id.id < 12 = omega arith in
    let step = section_next (g.S.Sketch.seen c.args.sketch.now) c.parts-parts.result.now c.loop-id.id c.loop-id.text.items lt c.parts-parts.ensures.value in
    stopped (puts_on _ (puts_on _ c.loop-id.invariant step c.in_ok-list_section.ensures) (sym (append_assoc c.list_section.new.text.items _ _))
    (rw c.as_slice.ensures at c.in_err-list_customs.ensures)) c.from_residual-in_err-list_customs.ensures

pub loop-id-preserved : goal.loop-id-preserved
loop-id-preserved g c =
    let lt : c.loop-id.id < 12 = omega arith in
    let step = section_next (g.S.Sketch.seen c.args.sketch.now) c.parts-parts.result.now c.loop-id.id c.loop-id.text.items lt c.parts-parts.ensures.value in
    puts_on _ (puts_on _ c.loop-id.invariant step c.in_ok-list_section.ensures) (sym (append_assoc c.list_section.new.text.items _ _))
    (rw c.as_slice.ensures at c.in_ok-list_customs.ensures)

pub returns : goal.returns
returns g c =
    let done : 12 ≤ c.loop-id.id = omega arith in
    puts_left (ap (λ (rest : List ℕ). c.loop-id.text.items ++ flat_map (details_of (g.S.Sketch.seen c.args.sketch.now)) rest)
    (drop_all c.loop-id.id ids done) ∙ append-nil c.loop-id.text.items) c.loop-id.invariant
