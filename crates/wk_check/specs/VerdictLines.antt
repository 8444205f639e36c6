-- The lines that tell a verdict, or that bytes are no module, each with its LF.
use Rattle.std.specs.Prelude.{ℕ, List, ◌++◌, codes}
use Rattle.wk_bytes.specs.declared.fault.ReadFault.{ReadFault}
use Rattle.wk_bytes.specs.FaultText.{read_fault_text}
use Rattle.wk_typing.specs.declared.fault.Verdict.{Verdict}
use Rattle.wk_typing.specs.VerdictText.{verdict_text}

abbrev pub verdict_line : Verdict → List ℕ
verdict_line verdict = verdict_text verdict ++ codes "\n"

-- the report of a module that cannot be read
abbrev pub malformed_text : ReadFault → List ℕ
malformed_text fault = codes "malformed " ++ (read_fault_text fault ++ codes "\n")
