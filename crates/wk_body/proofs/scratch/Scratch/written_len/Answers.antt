use Rattle.std.proofs.Common.{ap, arith, length, length-append, subst}
use Rattle.wk_bytes.specs.LebLaws.{IsBytes}
use Rattle.wk_body.proofs.RewrittenBody.{no_longer}
use Rattle.wk_body.proofs.scratch.Scratch.written_len.Goals as goal

pub overflow_cast-result : goal.overflow_cast-result
overflow_cast-result c =
    let walked = c.in-Some.ensures in
    let fits = subst IsBytes c.rest.ensures c.are_bytes.ensures in
    let at = c.at-at.ensures in
    let few = no_longer c.args.profile walked.0 c.args.cursor.now fits at.small (omega (arith, at.end)) (c.reading_of_code.ensures.body c.args.profile)
    (λ bytes spelled. c.written_form_of_code.ensures.least_body c.args.profile walked.0 bytes spelled) walked.1 in
    omega (arith, few, ap length walked.2, length-append c.walk_body.new.out.items c.in-Some.pending.now, c.len.ensures)

pub overflow_cast-result-2 : goal.overflow_cast-result-2
overflow_cast-result-2 c =
    let written = c.in_ok-written.ensures.exact in
    let fits = subst IsBytes c.rest.ensures c.are_bytes.ensures in
    let at = c.at-at.ensures in
    let few = no_longer c.args.profile written.0 c.args.cursor.now fits at.small (omega (arith, at.end)) (c.reading_of_code.ensures.body c.args.profile)
    (λ bytes spelled. c.written_form_of_code.ensures.least_body c.args.profile written.0 bytes spelled) written.1 in
    omega (arith, few, ap length written.2)
