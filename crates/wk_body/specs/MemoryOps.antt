-- Loads and stores (2.4.4, 3.3.4, 5.4.4): opcodes, types, widths and names.
use Rattle.std.specs.Prelude.{ℕ, ◌-◌, Bool, Option, None, slice_get, List, [], ◌∷◌, codes, nat_le, if◌then◌else◌}
use Rattle.wk_body.specs.declared.types.ValType.{ValType}
use Rattle.wk_body.specs.declared.types.ValType.TheVariants.{I32, I64, F32, F64}
use Rattle.wk_body.specs.declared.memory.MemoryOp.{MemoryOp}
use Rattle.wk_body.specs.declared.memory.MemoryOp.TheVariants.{I32Load, I64Load, F32Load, F64Load, I32Load8S, I32Load8U, I32Load16S, I32Load16U, I64Load8S}
use Rattle.wk_body.specs.declared.memory.MemoryOp.TheVariants.{I64Load8U, I64Load16S, I64Load16U, I64Load32S, I64Load32U, I32Store, I64Store, F32Store}
use Rattle.wk_body.specs.declared.memory.MemoryOp.TheVariants.{F64Store, I32Store8, I32Store16, I64Store8, I64Store16, I64Store32}

abbrev pub memory_opcode : MemoryOp → ℕ
memory_opcode I32Load = 0x28
memory_opcode I64Load = 0x29
memory_opcode F32Load = 0x2A
memory_opcode F64Load = 0x2B
memory_opcode I32Load8S = 0x2C
memory_opcode I32Load8U = 0x2D
memory_opcode I32Load16S = 0x2E
memory_opcode I32Load16U = 0x2F
memory_opcode I64Load8S = 0x30
memory_opcode I64Load8U = 0x31
memory_opcode I64Load16S = 0x32
memory_opcode I64Load16U = 0x33
memory_opcode I64Load32S = 0x34
memory_opcode I64Load32U = 0x35
memory_opcode I32Store = 0x36
memory_opcode I64Store = 0x37
memory_opcode F32Store = 0x38
memory_opcode F64Store = 0x39
memory_opcode I32Store8 = 0x3A
memory_opcode I32Store16 = 0x3B
memory_opcode I64Store8 = 0x3C
memory_opcode I64Store16 = 0x3D
memory_opcode I64Store32 = 0x3E

-- the type of the value that is loaded or stored
abbrev pub memory_type : MemoryOp → ValType
memory_type I32Load = I32
memory_type I64Load = I64
memory_type F32Load = F32
memory_type F64Load = F64
memory_type I32Load8S = I32
memory_type I32Load8U = I32
memory_type I32Load16S = I32
memory_type I32Load16U = I32
memory_type I64Load8S = I64
memory_type I64Load8U = I64
memory_type I64Load16S = I64
memory_type I64Load16U = I64
memory_type I64Load32S = I64
memory_type I64Load32U = I64
memory_type I32Store = I32
memory_type I64Store = I64
memory_type F32Store = F32
memory_type F64Store = F64
memory_type I32Store8 = I32
memory_type I32Store16 = I32
memory_type I64Store8 = I64
memory_type I64Store16 = I64
memory_type I64Store32 = I64

-- how many bytes of memory are read or written
abbrev pub memory_width : MemoryOp → ℕ
memory_width I32Load = 4
memory_width I64Load = 8
memory_width F32Load = 4
memory_width F64Load = 8
memory_width I32Load8S = 1
memory_width I32Load8U = 1
memory_width I32Load16S = 2
memory_width I32Load16U = 2
memory_width I64Load8S = 1
memory_width I64Load8U = 1
memory_width I64Load16S = 2
memory_width I64Load16U = 2
memory_width I64Load32S = 4
memory_width I64Load32U = 4
memory_width I32Store = 4
memory_width I64Store = 8
memory_width F32Store = 4
memory_width F64Store = 8
memory_width I32Store8 = 1
memory_width I32Store16 = 2
memory_width I64Store8 = 1
memory_width I64Store16 = 2
memory_width I64Store32 = 4

abbrev pub memory_name : MemoryOp → List ℕ
memory_name I32Load = codes "i32.load"
memory_name I64Load = codes "i64.load"
memory_name F32Load = codes "f32.load"
memory_name F64Load = codes "f64.load"
memory_name I32Load8S = codes "i32.load8_s"
memory_name I32Load8U = codes "i32.load8_u"
memory_name I32Load16S = codes "i32.load16_s"
memory_name I32Load16U = codes "i32.load16_u"
memory_name I64Load8S = codes "i64.load8_s"
memory_name I64Load8U = codes "i64.load8_u"
memory_name I64Load16S = codes "i64.load16_s"
memory_name I64Load16U = codes "i64.load16_u"
memory_name I64Load32S = codes "i64.load32_s"
memory_name I64Load32U = codes "i64.load32_u"
memory_name I32Store = codes "i32.store"
memory_name I64Store = codes "i64.store"
memory_name F32Store = codes "f32.store"
memory_name F64Store = codes "f64.store"
memory_name I32Store8 = codes "i32.store8"
memory_name I32Store16 = codes "i32.store16"
memory_name I64Store8 = codes "i64.store8"
memory_name I64Store16 = codes "i64.store16"
memory_name I64Store32 = codes "i64.store32"

-- the stores come last
abbrev pub memory_stores : MemoryOp → Bool
memory_stores op = nat_le 0x36 (memory_opcode op)

-- the loads and stores in the order of their opcodes, from 28 on
abbrev pub memory_ops : List MemoryOp
memory_ops =
    I32Load ∷ I64Load ∷ F32Load ∷ F64Load ∷ I32Load8S ∷ I32Load8U ∷
    I32Load16S ∷ I32Load16U ∷ I64Load8S ∷ I64Load8U ∷ I64Load16S ∷ I64Load16U ∷
    I64Load32S ∷ I64Load32U ∷ I32Store ∷ I64Store ∷ F32Store ∷ F64Store ∷
    I32Store8 ∷ I32Store16 ∷ I64Store8 ∷ I64Store16 ∷ I64Store32 ∷ []

-- the load or store of an opcode
abbrev pub memory_of : ℕ → Option MemoryOp
memory_of x = if nat_le 0x28 x then slice_get memory_ops (x - 0x28) else None
