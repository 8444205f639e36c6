use Rattle.wk_bytes.specs.LebLaws.{one_SpellsU, one_SpellsS}
use Rattle.wk_bytes.proofs.leb.one_spelling.Goals as goal

pub returns-clause-unsigned : goal.returns-clause-unsigned
returns-clause-unsigned c = one_SpellsU

pub returns-clause-signed : goal.returns-clause-signed
returns-clause-signed c = one_SpellsS
