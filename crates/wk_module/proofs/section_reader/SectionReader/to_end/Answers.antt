use Rattle.std.proofs.Common.{sym}
use Rattle.wk_module.proofs.Standing.{lists_stand, told_stands}
use Rattle.wk_module.proofs.section_reader.SectionReader.to_end.Goals as goal

pub returns-in-Err-clause-fault : goal.returns-in-Err-clause-fault
returns-in-Err-clause-fault c =
    let r = c.self.inside in
    rw (sym c.self.view_is) (λ input lie. told_stands input c.in-Err.fault _
    (λ e. lists_stand r.profile (c.laws_of_sections.ensures r.profile) input r.so_far.lists r.left e lie) c.in-Err.ensures.read)
