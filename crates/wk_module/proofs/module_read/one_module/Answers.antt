use Rattle.wk_module.proofs.ModuleReading.{spell_one}
use Rattle.wk_module.proofs.Alike.{module_alike}
use Rattle.wk_module.proofs.module_read.one_module.Goals as goal

pub returns-clause-one : goal.returns-clause-one
returns-clause-one c = spell_one c.laws_of_sections.ensures

pub returns-clause-alike : goal.returns-clause-alike
returns-clause-alike c = module_alike c.one_spelling_of_code.ensures.same_expr c.one_spelling_of_code.ensures.same_body
