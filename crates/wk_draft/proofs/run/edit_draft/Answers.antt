use Rattle.std.proofs.Common.{[]}
use Rattle.wk_module.specs.declared.types.Parts.{Parts}
use Rattle.wk_session.specs.Runs.{after, replies_of}
use Rattle.wk_draft.specs.Runs.{AreAlike, IsHeld}
use Rattle.wk_draft.proofs.run.edit_draft.Goals as goal

pub returns : goal.returns
returns c = λ m opened.
    let d = c.make_edits.new.draft in
    let n : Parts = after c.args.keep c.args.edits.now [] m in
    let room = c.in-Some.ensures m.funcs opened.codes in
    let first : IsHeld m.funcs m c.begin_draft.new.draft = c.in_ok-begin_draft.ensures m opened.outline opened.shaped opened.valid room c.if-not-branch.false in
    let made : IsHeld m.funcs n d × AreAlike c.in-Some-2.replies.items (replies_of c.args.keep c.args.edits.now [] m) =
    rw c.in-Some-2.is at (c.in_ok-replies.ensures m.funcs m room first) in
    record {
      held = made.0;
      many = rw c.in-Some-3.is at c.in_ok-codes.ensures.many;
      codes = rw c.in-Some-3.is at (c.in_ok-codes.ensures.codes m.profile m.funcs n opened.codes opened.formed made.0);
      alike = made.1;
    }
