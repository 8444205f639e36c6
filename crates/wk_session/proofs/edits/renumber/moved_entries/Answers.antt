use Rattle.std.proofs.Common.{◌<◌, ap, arith, length, ◌∙◌}
use Rattle.wk_session.specs.Kept.{uses_of}
use Rattle.wk_session.proofs.Judging.{told_at}
use Rattle.wk_session.proofs.MovedCode.{entries_more}
use Rattle.wk_session.proofs.edits.renumber.moved_entries.Goals as goal

pub moved_entry-requires-clause-refs : goal.moved_entry-requires-clause-refs
moved_entry-requires-clause-refs c =
    let within : c.loop-i.i < length c.args.funcs.now = omega (arith, c.loop-i-test.true, ap length c.as_slice-func-items.ensures) in
    told_at (λ s. s.keys) uses_of c.args.refs.now.items c.args.funcs.now c.loop-i.i c.index.result.now c.func-item.result c.requires.refs within
    c.index.ensures (rw c.as_slice-func-items.ensures at c.func-item.is)

pub loop-i-preserved : goal.loop-i-preserved
loop-i-preserved c =
    let within : c.loop-i.i < length c.args.funcs.now = omega (arith, c.loop-i-test.true, ap length c.as_slice-func-items.ensures) in
    let put = c.in_ok-push_entry.ensures in
    entries_more c.args.kind c.args.from c.args.funcs.now c.loop-i.i c.func-item.result c.loop-i.entries c.push_entry.new.entries c.in_ok-entry.entry
    within (rw c.as_slice-func-items.ensures at c.func-item.is) put.refs put.codes
    (put.encoded ∙ c.in_ok-entry.ensures.encoded) c.in_ok-entry.ensures.entry c.loop-i.invariant
