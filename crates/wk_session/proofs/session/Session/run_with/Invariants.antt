use Rattle.std.proofs.Common.{◌≡◌, ◌≤◌, length, take, vec_len, vec_capacity}
use Rattle.wk_session.specs.Runs.{replies_of, after, refused_for_memory, AreUndecided}
use Rattle.wk_session.specs.Making.{AreMade}
use Rattle.wk_session.specs.Told.{AreTold}
use Rattle.wk_session.proofs.session.Session.run_with.Given as goal

abbrev pub invariant-loop-edit : goal.invariant-loop-edit
invariant-loop-edit l = record {
  replies : l.replies.items ≡ replies_of l.keep (take l.edit-index l.edits) (refused_for_memory l.replies.items) l.initial.self;
  module_is : l.self ≡ after l.keep (take l.edit-index l.edits) (refused_for_memory l.replies.items) l.initial.self;
  decided : AreUndecided l.keep (take l.edit-index l.edits) (refused_for_memory l.replies.items) l.initial.self;
  made : AreMade (take l.edit-index l.edits) l.replies.items l.initial.self l.self;
  told : AreTold l.initial.self.profile (take l.edit-index l.edits) l.replies.items;
  count : vec_len l.replies ≡ l.edit-index;
  room : length l.edits ≤ vec_capacity l.replies;
}
