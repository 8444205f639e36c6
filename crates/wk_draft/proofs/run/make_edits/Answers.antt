use Rattle.std.proofs.Common.{◌≡◌, List, [], Result, take, arith, sym, subst}
use Rattle.std.proofs.lemmas.List.{take_all}
use Rattle.wk_module.specs.declared.types.Func.{Func}
use Rattle.wk_module.specs.declared.types.Parts.{Parts}
use Rattle.wk_session.specs.declared.edit.Edit.{Edit}
use Rattle.wk_session.specs.declared.edit.EditFault.{EditFault}
use Rattle.wk_session.specs.Runs.{after, replies_of}
use Rattle.wk_draft.specs.Drafts.{deferred_room}
use Rattle.wk_draft.specs.Runs.{AreAlike, IsHeld, IsStepped}
use Rattle.wk_draft.proofs.RunSteps.{held_more, alike_more}
use Rattle.wk_draft.proofs.run.make_edits.Goals as goal

pub loop-edit-init : goal.loop-edit-init
loop-edit-init c = record {
  held = λ os m room is. is;
  alike = λ os m room is. subst (λ (rs : List (Result (Unit {0}) EditFault)). AreAlike rs []) (sym c.in_ok-replies.ensures.items) tt;
  count = c.in_ok-replies.ensures.len;
  capacity = c.in_ok-replies.ensures.capacity;
}

pub push_reserved-requires : goal.push_reserved-requires
push_reserved-requires c = omega (arith, c.loop-edit.invariant.count, c.loop-edit.invariant.capacity)

pub loop-edit-preserved : goal.loop-edit-preserved
loop-edit-preserved c =
    let es = c.args.edits.now in
    let i = c.loop-edit.edit-index in
    let inv = c.loop-edit.invariant in
    let stepped : (os : List Func) (m : Parts) → c.args.room ≡ deferred_room os → IsHeld os m c.args.draft.now
    → IsStepped c.args.keep c.edit-item.result os (after c.args.keep (take i es) [] m) c.in-Some.answer c.step.new.draft
    = λ os m room is. rw c.in-Some.is at (c.in_ok-answer.ensures os (after c.args.keep (take i es) [] m) room (inv.held os m room is)) in
    record {
      held = λ os m room is. held_more c.args.keep es i c.edit-item.result c.loop-edit-test.true c.edit-item.is os m c.in-Some.answer c.step.new.draft
          (stepped os m room is);
      alike = λ os m room is.
          alike_more c.args.keep es i c.edit-item.result c.loop-edit-test.true c.edit-item.is os m c.loop-edit.replies.items
          c.push_reserved.new.self.items c.in-Some.answer c.step.new.draft (stepped os m room is)
          c.push_reserved.ensures.items (inv.alike os m room is);
      count = omega (arith, c.push_reserved.ensures.len, inv.count);
      capacity = omega (arith, c.push_reserved.ensures.capacity, inv.capacity);
    }

pub returns : goal.returns
returns c =
    let es = c.args.edits.now in
    let all : take c.loop-edit.edit-index es ≡ es = take_all c.loop-edit.edit-index es c.loop-edit-test.false in
    λ os m room is. (
      subst (λ (ds : List Edit). IsHeld os (after c.args.keep ds [] m) c.loop-edit.draft) all (c.loop-edit.invariant.held os m room is),
      subst (λ (ds : List Edit). AreAlike c.loop-edit.replies.items (replies_of c.args.keep ds [] m)) all (c.loop-edit.invariant.alike os m room is),
    )
