use Rattle.std.proofs.Common.{◌+◌, ◌≤◌, suc, ◌++◌, length, take, drop, sym, ap, ◌∙◌, arith, length-append}
use Rattle.std.specs.List.{flat_map}
use Rattle.wk_bytes.specs.Frames.{limit}
use Rattle.wk_body.specs.LengthsLaws.{limited_none, limited_some}
use Rattle.wk_module.specs.Items.{written_export}
use Rattle.wk_pieces.proofs.Putting.{flat_split}
use Rattle.wk_session.proofs.edits.export.written_len.Goals as goal
use Rattle.wk_session.proofs.edits.export.written_len.Goals.{After-export_len}

-- the exports up to this one are no longer than all
within : (c : After-export_len) → c.loop-export.total + length (written_export c.export-item.result) ≤ limit
within c =
    let es = c.args.exports.now in
    let i = c.loop-export.export-index in
    let e = c.export-item.result in
    let rest = flat_map written_export (drop (suc i) es) in
    let before = flat_map written_export (take i es) in
    omega (
      arith,
      c.requires,
      c.loop-export.invariant,
      ap length (flat_split written_export es i e c.loop-export-test.true c.export-item.is),
      length-append before (written_export e ++ rest),
      length-append (written_export e) rest,
    )

pub unreachable-requires : goal.unreachable-requires
unreachable-requires c =
    omega (
      arith,
      limited_none (length (written_export c.export-item.result)) (sym c.in_default.is ∙ c.export_len.ensures),
      within (goal.at.unreachable-requires c).After-export_len,
    )

pub overflow_add-total : goal.overflow_add-total
overflow_add-total c =
    omega (
      arith,
      (limited_some c.in-Some.len (length (written_export c.export-item.result)) (sym c.in-Some.is ∙ c.export_len.ensures)).0,
      within (goal.at.overflow_add-total c).After-export_len,
    )
