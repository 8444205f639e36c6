use Rattle.std.proofs.Common.{rules, ◌∙◌, ◌≤◌, length}
use Rattle.wk_edit.proofs.ReportSteps.{more, last}
use Rattle.wk_edit.proofs.lines.report.Goals as goal

pub loop-reply-init : goal.loop-reply-init
loop-reply-init g c = record {
  said = λ told alike. search rules;
  count = search rules;
}

pub loop-reply-preserved : goal.loop-reply-preserved
loop-reply-preserved g c = record {
  said = λ told alike. more _ _ _ _ _ _ told c.reply-item.result _ c.loop-reply-test.true c.reply-item.is alike c.in_ok-put_reply.ensures
      (c.loop-reply.invariant.said told alike);
  count = search rules;
}

pub returns : goal.returns
returns g c = λ told alike.
    let past : length c.args.replies.now ≤ c.loop-reply.reply-index = search rules in
    last _ _ _ _ _ _ _ told _ past alike c.in_ok-push_str.ensures.bytes (c.as_str.ensures.value ∙ c.in_ok-last.ensures) (c.loop-reply.invariant.said told alike)
