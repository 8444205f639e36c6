use Rattle.wk_module.specs.NumberedLaws.{no_lists_numbered}
use Rattle.wk_module.proofs.ListReading.{some_rise}
use Rattle.wk_module.proofs.section_reader.SectionReader.new.Goals as goal

pub invariant_of-result : goal.invariant_of-result
invariant_of-result c = rw (c.new-2.ensures.items, c.new.ensures) (record { rise = some_rise c.args.bytes.now; few = no_lists_numbered })
