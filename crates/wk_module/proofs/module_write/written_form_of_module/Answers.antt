use Rattle.std.proofs.Common.{refl}
use Rattle.wk_module.proofs.WrittenSpells.{written_spells}
use Rattle.wk_module.proofs.module_write.written_form_of_module.Goals as goal

pub returns : goal.returns
returns c = record { spells = λ m shaped fits. written_spells m.profile (c.laws_of_sections.ensures m.profile) m refl shaped fits }
