use Rattle.wk_edit.proofs.ScriptLaws.{found, only, refused, fault_of}
use Rattle.wk_edit.proofs.script.read_script.Goals as goal

pub returns-clause-found : goal.returns-clause-found
returns-clause-found c = found _ _ _ c.read_lines.ensures

pub returns-clause-only : goal.returns-clause-only
returns-clause-only c = only _ _ _ c.read_lines.ensures

pub returns-clause-refused : goal.returns-clause-refused
returns-clause-refused c = refused _ _ _ c.read_lines.ensures

pub returns-clause-fault : goal.returns-clause-fault
returns-clause-fault c = fault_of _ _ _ c.read_lines.ensures
