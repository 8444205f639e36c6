use Rattle.wk_edit.proofs.EditLaws.{import_short}
use Rattle.wk_edit.proofs.edits.read_import.Goals as goal

pub returns-in_default : goal.returns-in_default
returns-in_default c = import_short _ _ c.in_default.len_below
