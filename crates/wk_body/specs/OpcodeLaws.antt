-- Each load, store and numeric instruction is the one of its opcode.
use Rattle.std.specs.Prelude.{◌≡◌, Some}
use Rattle.std.proofs.Common.{refl}
use Rattle.wk_body.specs.declared.memory.MemoryOp.{MemoryOp}
use Rattle.wk_body.specs.declared.memory.MemoryOp.TheVariants.{I32Load}
use Rattle.wk_body.specs.declared.numeric.NumericOp.{NumericOp}
use Rattle.wk_body.specs.declared.numeric.NumericOp.TheVariants.{I32Eqz}
use Rattle.wk_body.specs.Numeric.{numeric_opcode}
use Rattle.wk_body.specs.MemoryOps.{memory_opcode}
use Rattle.wk_body.specs.Instructions.{Alone, WithMemarg, Access, Numeric, any_form}

pub any_form-memory : (op : MemoryOp) → any_form (memory_opcode op) ≡ Some (WithMemarg (Access op))
any_form-memory I32Load = refl
any_form-memory op = refl

pub any_form-numeric : (op : NumericOp) → any_form (numeric_opcode op) ≡ Some (Alone (Numeric op))
any_form-numeric I32Eqz = refl
any_form-numeric op = refl
