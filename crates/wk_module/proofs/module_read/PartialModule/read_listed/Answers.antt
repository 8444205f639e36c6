use Rattle.wk_bytes.specs.Raw.{raw_view}
use Rattle.wk_module.proofs.ListReading.{reads_listed, codes_kept}
use Rattle.wk_module.proofs.NumberedReading.{numbered_kept}
use Rattle.wk_module.proofs.module_read.PartialModule.read_listed.Goals as goal

pub returns-in-1-to-11-clause-read : goal.returns-in-1-to-11-clause-read
returns-in-1-to-11-clause-read c = reads_listed c.args.profile c.args.self.now (raw_view c.args.section.now)
    (λ u. c.read_known_section.new.self) c.read_known_section.result c.read_known_section.ensures

pub returns-in-1-to-11-clause-codes : goal.returns-in-1-to-11-clause-codes
returns-in-1-to-11-clause-codes c = codes_kept c.args.profile c.args.self.now.lists (raw_view c.args.section.now)
    (λ u. c.read_known_section.new.self.lists) c.read_known_section.result (returns-in-1-to-11-clause-read c)

pub returns-in-1-to-11-clause-few : goal.returns-in-1-to-11-clause-few
returns-in-1-to-11-clause-few c = numbered_kept c.args.profile c.args.self.now.lists (raw_view c.args.section.now)
    (λ u. c.read_known_section.new.self.lists) c.read_known_section.result (returns-in-1-to-11-clause-read c) c.are_bytes.ensures
