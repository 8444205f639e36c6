use Rattle.std.proofs.Common.{Ok, sym}
use Rattle.wk_module.specs.ListReading.{PartlyRead}
use Rattle.wk_module.proofs.FrontStands.{answer_lies}
use Rattle.wk_module.proofs.Standing.{lists_stand, told_stands}
use Rattle.wk_module.proofs.section_reader.SectionReader.up_to_code.Goals as goal

pub returns-in-Err-clause-fault : goal.returns-in-Err-clause-fault
returns-in-Err-clause-fault c =
    let r = c.self.inside in
    rw (sym c.self.view_is) (λ input lie. told_stands input c.in-Err.fault _
    (λ e. lists_stand r.profile (c.laws_of_sections.ensures r.profile) input r.so_far.lists r.left e lie) c.in-Err.ensures.goes)

pub returns-in-Ok-clause-within : goal.returns-in-Ok-clause-within
returns-in-Ok-clause-within c =
    let r = c.self.inside in
    let old : PartlyRead = record { profile = r.profile; lists = r.so_far.lists; left = r.left } in
    let new : PartlyRead = record { profile = r.profile; lists = c.read_up_to_code.new.self.lists; left = c.read_up_to_code.new.left } in
    rw (sym c.self.view_is) (λ input lie. answer_lies input old (Ok (new, c.in-Ok.code)) lie c.in-Ok.ensures.exact)
