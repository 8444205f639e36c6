use Rattle.wk_module.proofs.Standing.{left_over_stands}
use Rattle.wk_module.proofs.section_reader.CodeReader.end.Goals as goal

pub returns-clause-stands : goal.returns-clause-stands
returns-clause-stands c = left_over_stands c.args.self.now c.at_end.result (rw (← c.self.view_is) c.at_end.ensures)
