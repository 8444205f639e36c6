-- The texts of faults.
use Rattle.std.specs.Prelude.{ℕ, List, codes}
use Rattle.wk_list.specs.declared.fault.ListFault.{ListFault}
use Rattle.wk_list.specs.declared.fault.ListFault.TheVariants.{Write, Memory}

-- why a listing stopped
abbrev pub list_fault_text : ListFault → List ℕ
list_fault_text Write = codes "write failed"
list_fault_text Memory = codes "out of memory"
