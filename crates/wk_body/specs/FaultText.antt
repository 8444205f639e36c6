-- The texts of faults.
use Rattle.std.specs.Prelude.{ℕ, List, codes}
use Rattle.wk_body.specs.declared.fault.EncodeFault.{EncodeFault}
use Rattle.wk_body.specs.declared.fault.EncodeFault.TheVariants as encoding
use Rattle.wk_body.specs.declared.renumber.ShiftFault.{ShiftFault}
use Rattle.wk_body.specs.declared.renumber.ShiftFault.TheVariants as shifting

-- why there are no bytes
abbrev pub encode_fault_text : EncodeFault → List ℕ
encode_fault_text encoding.TooLarge = codes "too large"
encode_fault_text encoding.Memory = codes "out of memory"

-- why references did not move
abbrev pub shift_fault_text : ShiftFault → List ℕ
shift_fault_text shifting.Overflow = codes "index overflow"
shift_fault_text shifting.Memory = codes "out of memory"
