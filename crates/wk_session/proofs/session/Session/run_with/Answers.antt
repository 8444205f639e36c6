use Rattle.std.proofs.Common.{◌≡◌, ◌+◌, length, take, arith, sym, ◌∙◌}
use Rattle.wk_session.specs.ToldLaws.{ReadsCode}
use Rattle.wk_session.proofs.RunSteps.{was_undecided, told_by, replies_more, made_end, after_more, undecided_more}
use Rattle.wk_session.proofs.session.Session.run_with.Goals as goal

pub loop-edit-preserved : goal.loop-edit-preserved
loop-edit-preserved c =
    let es = c.args.edits.now in
    let i = c.loop-edit.edit-index in
    let inv = c.loop-edit.invariant in
    let len : length c.loop-edit.replies.items ≡ i = sym c.loop-edit.replies.ok.0 ∙ inv.count in
    let reads : ReadsCode = record {
      body = c.reading_of_code.ensures.body;
      expr = c.reading_of_code.ensures.all_expr;
      body_never = c.reading_of_code.ensures.never_memory_body;
      expr_never = c.reading_of_code.ensures.never_memory_expr;
    } in
    let replies = replies_more c.args.keep es i c.edit-item.result c.loop-edit.replies.items c.push_reserved.new.self.items c.apply_with-reply.result
    c.args.self.now c.loop-edit.self c.apply_with-reply.new.self c.loop-edit-test.true c.edit-item.is len c.push_reserved.ensures.items
    inv.module_is c.apply_with-reply.ensures.reply inv.replies in
    record {
      replies = replies;
      told = told_by reads c.args.keep (take (i + 1) es) c.args.self.now c.push_reserved.new.self.items replies;
      made = made_end es i c.edit-item.result c.loop-edit.replies.items c.push_reserved.new.self.items c.apply_with-reply.result c.args.self.now
          c.loop-edit.self c.apply_with-reply.new.self c.loop-edit-test.true c.edit-item.is c.push_reserved.ensures.items inv.made
          c.apply_with-reply.ensures.made;
      module_is = after_more c.args.keep es i c.edit-item.result c.loop-edit.replies.items c.push_reserved.new.self.items c.apply_with-reply.result
          c.args.self.now c.loop-edit.self c.apply_with-reply.new.self c.loop-edit-test.true c.edit-item.is len c.push_reserved.ensures.items
          inv.module_is c.apply_with-reply.ensures.module_is;
      decided = undecided_more c.args.keep es i c.edit-item.result c.loop-edit.replies.items c.push_reserved.new.self.items c.apply_with-reply.result
          c.args.self.now c.loop-edit.self c.apply_with-reply.new.self c.loop-edit-test.true c.edit-item.is len c.push_reserved.ensures.items
          inv.module_is (was_undecided c.edit-item.result c.loop-edit.self c.apply_with-reply.result c.apply_with-reply.ensures.decided) inv.decided;
      count = omega (arith, c.push_reserved.ensures.len, inv.count);
      room = omega (arith, c.push_reserved.ensures.capacity, inv.room);
    }
