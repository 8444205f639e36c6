use Rattle.wk_body.proofs.RewrittenBody.{pending_written}
use Rattle.wk_body.proofs.reencode.rewrite.Goals as goal

pub returns : goal.returns
returns c =
    let walked = c.in_ok-pending.ensures in
    (walked.0, walked.1, pending_written c.in_ok-pending.pending.now c.walk_body.new.out.items _ _ walked.2 c.in_ok-write_pending.ensures)
