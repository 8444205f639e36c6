use Rattle.std.proofs.Common.{[]}
use Rattle.wasmkit.specs.Runs.{Dumps, Edits, Frames, Judges, Strips}
use Rattle.wasmkit.proofs.Steps.{quietly}
use Rattle.wasmkit.proofs.Telling.{unheard}
use Rattle.wasmkit.proofs.commands.run.Goals as goal

pub returns-in-Edit : goal.returns-in-Edit
returns-in-Edit g c = rw c.in-Edit.is ([], quietly (Edits c.in-Edit.command) _ _ _ _ c.run_edit.ensures, unheard _ _)

pub returns-in-Objdump : goal.returns-in-Objdump
returns-in-Objdump g c = rw c.in-Objdump.is ([], quietly (Dumps c.in-Objdump.command) _ _ _ _ c.run_objdump.ensures, unheard _ _)

pub returns-in-Sections : goal.returns-in-Sections
returns-in-Sections g c = rw c.in-Sections.is ([], quietly (Frames c.in-Sections.file.now) _ _ _ _ c.run_sections.ensures, unheard _ _)

pub returns-in-Strip : goal.returns-in-Strip
returns-in-Strip g c = rw c.in-Strip.is ([], quietly (Strips c.in-Strip.command) _ _ _ _ c.run_strip.ensures, unheard _ _)

pub returns-in-Validate : goal.returns-in-Validate
returns-in-Validate g c = rw c.in-Validate.is ([], quietly (Judges c.in-Validate.command) _ _ _ _ c.run_validate.ensures, unheard _ _)
