use Rattle.std.proofs.Common.{◌≡◌, ℕ, List, [], None}
use Rattle.wk_bytes.specs.Raw.{raw_view}
use Rattle.wk_module.specs.Items.{export_at}
use Rattle.wk_module.specs.Reading.{section_end}
use Rattle.wk_judging.specs.Contexts.{next_export_flaw, add_export}
use Rattle.wk_judging.specs.Names.{AreKnown}
use Rattle.wk_judging.proofs.MadeReading.{InSection}
use Rattle.wk_judging.proofs.judge_exports.judge_exports.Given as goal

-- the names that were read are known up to the first fault
abbrev pub invariant-loop-index : goal.invariant-loop-index
invariant-loop-index l =
    (names : List (List ℕ)) × (l.fault ≡ None → AreKnown l.names names)
    × InSection export_at next_export_flaw add_export 7 (section_end (raw_view l.section)) l.section.contents.now
    (record { context = l.context; names = [] }) l.fn.before l.count l.index l.cursor (record { context = l.context; names = names }) l.fault
