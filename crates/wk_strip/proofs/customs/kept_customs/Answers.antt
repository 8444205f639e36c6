use Rattle.std.proofs.Common.{◌≡◌, Some, None, true, false, refl, sym}
use Rattle.wk_bytes.specs.Raw.{raw_view}
use Rattle.wk_module.proofs.SectionSteps.{next_item}
use Rattle.wk_strip.proofs.Staying.{left_first, left_last, left_faulty, left_custom, left_empty, left_full, none_kept}
use Rattle.wk_strip.proofs.customs.kept_customs.Goals as goal

no_true : false ≡ true → ⊥
no_true h = absurd cc

pub returns-in_default : goal.returns-in_default
returns-in_default c = λ fs cs framing customs. rw (c.in_default.is, c.new-kept.ensures.items) (sym (none_kept cs))

pub loop-section-init : goal.loop-section-init
loop-section-init c =
    record {
      can = tt;
      ends = tt;
      left = rw (c.into_iter-section-iterator.ensures.into_iter_gives, c.new-kept.ensures.items)
          (left_first c.in-Some.name.now c.args.bytes.now _ c.new-section-items.ensures.only);
    }

pub returns-in_default-section : goal.returns-in_default-section
returns-in_default-section c =
    let first = next_item c.in-Some-section.ensures.steps c.in_default-section.is in
    rw c.in-Some.is (left_faulty c.in-Some.name.now c.args.bytes.now c.loop-section.place c.loop-section.kept.items _ _ _ first c.loop-section.invariant.left)

pub loop-section-preserved-in-Continue-branch-2 : goal.loop-section-preserved-in-Continue-branch-2
loop-section-preserved-in-Continue-branch-2 c =
    let first = next_item c.in-Some-section.ensures.steps c.in-Ok.is in
    record {
      can = tt;
      ends = tt;
      left = rw c.in_ok-push.ensures.items
          (left_custom c.in-Some.name.now c.args.bytes.now c.loop-section.place c.loop-section.kept.items
          (raw_view c.in-Ok.section) _ _ first c.loop-section.invariant.left (Some c.in-Some-found.custom) c.if-section-eq-CUSTOM.true
          (rw c.in-Some-found.is at c.in_ok-found.ensures));
    }

pub loop-section-preserved-in_default-found : goal.loop-section-preserved-in_default-found
loop-section-preserved-in_default-found c =
    let first = next_item c.in-Some-section.ensures.steps c.in-Ok.is in
    record {
      can = tt;
      ends = tt;
      left = left_custom c.in-Some.name.now c.args.bytes.now c.loop-section.place c.loop-section.kept.items
          (raw_view c.in-Ok.section) _ _ first c.loop-section.invariant.left None c.if-section-eq-CUSTOM.true
          (rw c.in_default-found.is at c.in_ok-found.ensures);
    }

pub loop-section-preserved-then-not-is_empty : goal.loop-section-preserved-then-not-is_empty
loop-section-preserved-then-not-is_empty c =
    let first = next_item c.in-Some-section.ensures.steps c.in-Ok.is in
    record {
      can = tt;
      ends = tt;
      left = left_full c.in-Some.name.now c.args.bytes.now c.loop-section.place c.loop-section.kept.items
          (raw_view c.in-Ok.section) _ _ first c.loop-section.invariant.left c.if-section-eq-CUSTOM.false
          (λ empty. absurd (no_true (c.if-not-is_empty.ensures.1 empty)));
    }

pub loop-section-preserved : goal.loop-section-preserved
loop-section-preserved c =
    let first = next_item c.in-Some-section.ensures.steps c.in-Ok.is in
    record {
      can = tt;
      ends = tt;
      left = left_empty c.in-Some.name.now c.args.bytes.now c.loop-section.place c.loop-section.kept.items
          (raw_view c.in-Ok.section) _ _ first c.loop-section.invariant.left c.if-section-eq-CUSTOM.false (c.if-not-is_empty.ensures.0 refl);
    }

pub returns : goal.returns
returns c =
    rw c.in-Some.is (left_last c.in-Some.name.now c.args.bytes.now c.loop-section.place c.loop-section.kept.items _ c.in-None.ensures.steps.0
    c.loop-section.invariant.left)
