use Rattle.wk_bytes.specs.Raw.{raw_view}
use Rattle.wk_module.specs.Reading.{section_end}
use Rattle.wk_judging.proofs.MadeReading.{InSection}
use Rattle.wk_judging.proofs.judge_items.judge_items.Given as goal

abbrev pub invariant-loop-index : goal.invariant-loop-index
invariant-loop-index g l =
    InSection (g.K.ItemKind.read_at l.profile) (g.K.ItemKind.wrong l.profile) g.K.ItemKind.add l.section.id (section_end (raw_view l.section))
    l.section.contents.now l.fn.state l.fn.before l.count l.index l.cursor l.state l.fault
