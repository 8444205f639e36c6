use Rattle.std.proofs.Common.{◌≡◌, ◌≤◌, List, [], length, take, vec_len, vec_capacity}
use Rattle.wk_module.specs.declared.types.Func.{Func}
use Rattle.wk_module.specs.declared.types.Parts.{Parts}
use Rattle.wk_session.specs.Runs.{after, replies_of}
use Rattle.wk_draft.specs.Drafts.{deferred_room}
use Rattle.wk_draft.specs.Runs.{AreAlike, IsHeld}
use Rattle.wk_draft.proofs.run.make_edits.Given as goal

abbrev pub invariant-loop-edit : goal.invariant-loop-edit
invariant-loop-edit l = record {
  held : (os : List Func) (m : Parts) → l.room ≡ deferred_room os → IsHeld os m l.initial.draft
      → IsHeld os (after l.keep (take l.edit-index l.edits) [] m) l.draft;
  alike : (os : List Func) (m : Parts) → l.room ≡ deferred_room os → IsHeld os m l.initial.draft
      → AreAlike l.replies.items (replies_of l.keep (take l.edit-index l.edits) [] m);
  count : vec_len l.replies ≡ l.edit-index;
  capacity : length l.edits ≤ vec_capacity l.replies;
}
