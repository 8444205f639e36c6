use Rattle.std.proofs.Common.{◌∷◌, Result, ap, ◌∙◌}
use Rattle.std.proofs.lemmas.Result.{err_from_is_err_and}
use Rattle.wk_bytes.specs.declared.fault.ReadFault.{ReadFault}
use Rattle.wk_bytes.specs.declared.raw.RawSection.{RawSection}
use Rattle.wk_bytes.specs.Raw.{raw_view, item_view}
use Rattle.wk_judging.proofs.JudgedSteps.{may_find, front_begins, front_breaks, front_ends, front_meets, front_stops, front_goes_on}
use Rattle.wk_judging.proofs.judge_sections.Workspace.judge_front.Goals as goal

pub loop-section-init : goal.loop-section-init
loop-section-init c = record {
  can = tt;
  ends = tt;
  on_way = front_begins c.args.profile c.args.left.now c.clear.new.self c.clear.ensures c.requires.rise;
}

pub returns-in_err-section : goal.returns-in_err-section
returns-in_err-section c =
    let p = err_from_is_err_and c.from_residual.result c.from_residual.ensures.1 in
    let e = c.in_err-section.field-0.0 in
    let here = c.loop-section in
    let first = c.in-Some.ensures.steps ∙ ap (λ (r : Result RawSection ReadFault). item_view r ∷ c.next.new.self) c.in_err-section.was in
    rw (p.1, p.2) (front_breaks c.args.profile c.args.left.now here.left c.next.new.self here.self.context here.fault here.invariant.on_way e first)

pub returns-then-section-eq-CODE : goal.returns-then-section-eq-CODE
returns-then-section-eq-CODE c =
    let here = c.loop-section in
    let first = c.in-Some.ensures.steps ∙ ap (λ (r : Result RawSection ReadFault). item_view r ∷ c.next.new.self) c.in_ok-section.was in
    front_meets c.args.profile c.args.left.now here.left c.next.new.self here.self.context here.fault here.invariant.on_way c.in_ok-section.section
    first c.if-section-eq-CODE.true

pub returns-in_err-fault : goal.returns-in_err-fault
returns-in_err-fault c =
    let p = err_from_is_err_and c.from_residual-in_err-fault.result c.from_residual-in_err-fault.ensures.1 in
    let e = c.in_err-fault.field-0.0 in
    let here = c.loop-section in
    let so = here.invariant.on_way in
    let s = raw_view c.in_ok-section.section in
    let first = c.in-Some.ensures.steps ∙ ap (λ (r : Result RawSection ReadFault). item_view r ∷ c.next.new.self) c.in_ok-section.was in
    rw (p.1, p.2) (front_stops c.args.profile c.args.left.now here.left c.next.new.self here.self.context here.fault so s first e
    (c.in_err-fault.ensures so.lists so.context_is (may_find so.last s so.lists here.left c.next.new.self first so.rise so.omitted)))

pub loop-section-preserved : goal.loop-section-preserved
loop-section-preserved c =
    let here = c.loop-section in
    let so = here.invariant.on_way in
    let s = raw_view c.in_ok-section.section in
    let first = c.in-Some.ensures.steps ∙ ap (λ (r : Result RawSection ReadFault). item_view r ∷ c.next.new.self) c.in_ok-section.was in
    record {
      can = tt;
      ends = tt;
      on_way = front_goes_on c.args.profile c.args.left.now here.left c.next.new.self here.self.context here.fault so s first
          c.judge_section.new.self.context c.in_ok-fault.fault c.if-section-eq-CODE.false
          (c.in_ok-fault.ensures so.lists so.context_is (may_find so.last s so.lists here.left c.next.new.self first so.rise so.omitted));
    }

pub returns : goal.returns
returns c =
    let here = c.loop-section in
    front_ends c.args.profile c.args.left.now here.left c.next.new.self here.self.context here.fault here.invariant.on_way c.in_default.ensures.steps.0
