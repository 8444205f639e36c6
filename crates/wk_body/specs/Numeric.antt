-- Numeric instructions (2.4.1, 3.3.1, 5.4.5): opcodes, types and names.
use Rattle.std.specs.Prelude.{ℕ, ◌-◌, Option, None, slice_get, List, [], ◌∷◌, codes, nat_le, if◌then◌else◌}
use Rattle.wk_body.specs.declared.types.ValType.TheVariants.{I32, I64, F32, F64}
use Rattle.wk_body.specs.declared.numeric.NumericOp.{NumericOp}
use Rattle.wk_body.specs.declared.numeric.NumericOp.TheVariants.{I32Eqz, I32Eq, I32Ne, I32LtS, I32LtU, I32GtS, I32GtU, I32LeS, I32LeU, I32GeS, I32GeU, I64Eqz}
use Rattle.wk_body.specs.declared.numeric.NumericOp.TheVariants.{I64Eq, I64Ne, I64LtS, I64LtU, I64GtS, I64GtU, I64LeS, I64LeU, I64GeS, I64GeU, F32Eq, F32Ne}
use Rattle.wk_body.specs.declared.numeric.NumericOp.TheVariants.{F32Lt, F32Gt, F32Le, F32Ge, F64Eq, F64Ne, F64Lt, F64Gt, F64Le, F64Ge, I32Clz, I32Ctz}
use Rattle.wk_body.specs.declared.numeric.NumericOp.TheVariants.{I32Popcnt, I32Add, I32Sub, I32Mul, I32DivS, I32DivU, I32RemS, I32RemU, I32And, I32Or, I32Xor}
use Rattle.wk_body.specs.declared.numeric.NumericOp.TheVariants.{I32Shl, I32ShrS, I32ShrU, I32Rotl, I32Rotr, I64Clz, I64Ctz, I64Popcnt, I64Add, I64Sub, I64Mul}
use Rattle.wk_body.specs.declared.numeric.NumericOp.TheVariants.{I64DivS, I64DivU, I64RemS, I64RemU, I64And, I64Or, I64Xor, I64Shl, I64ShrS, I64ShrU, I64Rotl}
use Rattle.wk_body.specs.declared.numeric.NumericOp.TheVariants.{I64Rotr, F32Abs, F32Neg, F32Ceil, F32Floor, F32Trunc, F32Nearest, F32Sqrt, F32Add, F32Sub}
use Rattle.wk_body.specs.declared.numeric.NumericOp.TheVariants.{F32Mul, F32Div, F32Min, F32Max, F32Copysign, F64Abs, F64Neg, F64Ceil, F64Floor, F64Trunc}
use Rattle.wk_body.specs.declared.numeric.NumericOp.TheVariants.{F64Nearest, F64Sqrt, F64Add, F64Sub, F64Mul, F64Div, F64Min, F64Max, F64Copysign, I32WrapI64}
use Rattle.wk_body.specs.declared.numeric.NumericOp.TheVariants.{I32TruncF32S, I32TruncF32U, I32TruncF64S, I32TruncF64U, I64ExtendI32S, I64ExtendI32U}
use Rattle.wk_body.specs.declared.numeric.NumericOp.TheVariants.{I64TruncF32S, I64TruncF32U, I64TruncF64S, I64TruncF64U, F32ConvertI32S, F32ConvertI32U}
use Rattle.wk_body.specs.declared.numeric.NumericOp.TheVariants.{F32ConvertI64S, F32ConvertI64U, F32DemoteF64, F64ConvertI32S, F64ConvertI32U, F64ConvertI64S}
use Rattle.wk_body.specs.declared.numeric.NumericOp.TheVariants.{F64ConvertI64U, F64PromoteF32, I32ReinterpretF32, I64ReinterpretF64, F32ReinterpretI32}
use Rattle.wk_body.specs.declared.numeric.NumericOp.TheVariants.{F64ReinterpretI64, I32Extend8S, I32Extend16S, I64Extend8S, I64Extend16S, I64Extend32S}
use Rattle.wk_body.specs.declared.numeric.NumericType.{NumericType}
use Rattle.wk_body.specs.declared.numeric.NumericType.TheVariants.{Unary, Binary}

abbrev pub numeric_opcode : NumericOp → ℕ
numeric_opcode I32Eqz = 0x45
numeric_opcode I32Eq = 0x46
numeric_opcode I32Ne = 0x47
numeric_opcode I32LtS = 0x48
numeric_opcode I32LtU = 0x49
numeric_opcode I32GtS = 0x4A
numeric_opcode I32GtU = 0x4B
numeric_opcode I32LeS = 0x4C
numeric_opcode I32LeU = 0x4D
numeric_opcode I32GeS = 0x4E
numeric_opcode I32GeU = 0x4F
numeric_opcode I64Eqz = 0x50
numeric_opcode I64Eq = 0x51
numeric_opcode I64Ne = 0x52
numeric_opcode I64LtS = 0x53
numeric_opcode I64LtU = 0x54
numeric_opcode I64GtS = 0x55
numeric_opcode I64GtU = 0x56
numeric_opcode I64LeS = 0x57
numeric_opcode I64LeU = 0x58
numeric_opcode I64GeS = 0x59
numeric_opcode I64GeU = 0x5A
numeric_opcode F32Eq = 0x5B
numeric_opcode F32Ne = 0x5C
numeric_opcode F32Lt = 0x5D
numeric_opcode F32Gt = 0x5E
numeric_opcode F32Le = 0x5F
numeric_opcode F32Ge = 0x60
numeric_opcode F64Eq = 0x61
numeric_opcode F64Ne = 0x62
numeric_opcode F64Lt = 0x63
numeric_opcode F64Gt = 0x64
numeric_opcode F64Le = 0x65
numeric_opcode F64Ge = 0x66
numeric_opcode I32Clz = 0x67
numeric_opcode I32Ctz = 0x68
numeric_opcode I32Popcnt = 0x69
numeric_opcode I32Add = 0x6A
numeric_opcode I32Sub = 0x6B
numeric_opcode I32Mul = 0x6C
numeric_opcode I32DivS = 0x6D
numeric_opcode I32DivU = 0x6E
numeric_opcode I32RemS = 0x6F
numeric_opcode I32RemU = 0x70
numeric_opcode I32And = 0x71
numeric_opcode I32Or = 0x72
numeric_opcode I32Xor = 0x73
numeric_opcode I32Shl = 0x74
numeric_opcode I32ShrS = 0x75
numeric_opcode I32ShrU = 0x76
numeric_opcode I32Rotl = 0x77
numeric_opcode I32Rotr = 0x78
numeric_opcode I64Clz = 0x79
numeric_opcode I64Ctz = 0x7A
numeric_opcode I64Popcnt = 0x7B
numeric_opcode I64Add = 0x7C
numeric_opcode I64Sub = 0x7D
numeric_opcode I64Mul = 0x7E
numeric_opcode I64DivS = 0x7F
numeric_opcode I64DivU = 0x80
numeric_opcode I64RemS = 0x81
numeric_opcode I64RemU = 0x82
numeric_opcode I64And = 0x83
numeric_opcode I64Or = 0x84
numeric_opcode I64Xor = 0x85
numeric_opcode I64Shl = 0x86
numeric_opcode I64ShrS = 0x87
numeric_opcode I64ShrU = 0x88
numeric_opcode I64Rotl = 0x89
numeric_opcode I64Rotr = 0x8A
numeric_opcode F32Abs = 0x8B
numeric_opcode F32Neg = 0x8C
numeric_opcode F32Ceil = 0x8D
numeric_opcode F32Floor = 0x8E
numeric_opcode F32Trunc = 0x8F
numeric_opcode F32Nearest = 0x90
numeric_opcode F32Sqrt = 0x91
numeric_opcode F32Add = 0x92
numeric_opcode F32Sub = 0x93
numeric_opcode F32Mul = 0x94
numeric_opcode F32Div = 0x95
numeric_opcode F32Min = 0x96
numeric_opcode F32Max = 0x97
numeric_opcode F32Copysign = 0x98
numeric_opcode F64Abs = 0x99
numeric_opcode F64Neg = 0x9A
numeric_opcode F64Ceil = 0x9B
numeric_opcode F64Floor = 0x9C
numeric_opcode F64Trunc = 0x9D
numeric_opcode F64Nearest = 0x9E
numeric_opcode F64Sqrt = 0x9F
numeric_opcode F64Add = 0xA0
numeric_opcode F64Sub = 0xA1
numeric_opcode F64Mul = 0xA2
numeric_opcode F64Div = 0xA3
numeric_opcode F64Min = 0xA4
numeric_opcode F64Max = 0xA5
numeric_opcode F64Copysign = 0xA6
numeric_opcode I32WrapI64 = 0xA7
numeric_opcode I32TruncF32S = 0xA8
numeric_opcode I32TruncF32U = 0xA9
numeric_opcode I32TruncF64S = 0xAA
numeric_opcode I32TruncF64U = 0xAB
numeric_opcode I64ExtendI32S = 0xAC
numeric_opcode I64ExtendI32U = 0xAD
numeric_opcode I64TruncF32S = 0xAE
numeric_opcode I64TruncF32U = 0xAF
numeric_opcode I64TruncF64S = 0xB0
numeric_opcode I64TruncF64U = 0xB1
numeric_opcode F32ConvertI32S = 0xB2
numeric_opcode F32ConvertI32U = 0xB3
numeric_opcode F32ConvertI64S = 0xB4
numeric_opcode F32ConvertI64U = 0xB5
numeric_opcode F32DemoteF64 = 0xB6
numeric_opcode F64ConvertI32S = 0xB7
numeric_opcode F64ConvertI32U = 0xB8
numeric_opcode F64ConvertI64S = 0xB9
numeric_opcode F64ConvertI64U = 0xBA
numeric_opcode F64PromoteF32 = 0xBB
numeric_opcode I32ReinterpretF32 = 0xBC
numeric_opcode I64ReinterpretF64 = 0xBD
numeric_opcode F32ReinterpretI32 = 0xBE
numeric_opcode F64ReinterpretI64 = 0xBF
numeric_opcode I32Extend8S = 0xC0
numeric_opcode I32Extend16S = 0xC1
numeric_opcode I64Extend8S = 0xC2
numeric_opcode I64Extend16S = 0xC3
numeric_opcode I64Extend32S = 0xC4

-- the type of the instruction of an opcode
abbrev pub type_of_opcode : ℕ → NumericType
type_of_opcode x =
    if nat_le x 0x45 then Unary I32 I32
    else if nat_le x 0x4F then Binary I32 I32
    else if nat_le x 0x50 then Unary I64 I32
    else if nat_le x 0x5A then Binary I64 I32
    else if nat_le x 0x60 then Binary F32 I32
    else if nat_le x 0x66 then Binary F64 I32
    else if nat_le x 0x69 then Unary I32 I32
    else if nat_le x 0x78 then Binary I32 I32
    else if nat_le x 0x7B then Unary I64 I64
    else if nat_le x 0x8A then Binary I64 I64
    else if nat_le x 0x91 then Unary F32 F32
    else if nat_le x 0x98 then Binary F32 F32
    else if nat_le x 0x9F then Unary F64 F64
    else if nat_le x 0xA6 then Binary F64 F64
    else if nat_le x 0xA7 then Unary I64 I32
    else if nat_le x 0xA9 then Unary F32 I32
    else if nat_le x 0xAB then Unary F64 I32
    else if nat_le x 0xAD then Unary I32 I64
    else if nat_le x 0xAF then Unary F32 I64
    else if nat_le x 0xB1 then Unary F64 I64
    else if nat_le x 0xB3 then Unary I32 F32
    else if nat_le x 0xB5 then Unary I64 F32
    else if nat_le x 0xB6 then Unary F64 F32
    else if nat_le x 0xB8 then Unary I32 F64
    else if nat_le x 0xBA then Unary I64 F64
    else if nat_le x 0xBB then Unary F32 F64
    else if nat_le x 0xBC then Unary F32 I32
    else if nat_le x 0xBD then Unary F64 I64
    else if nat_le x 0xBE then Unary I32 F32
    else if nat_le x 0xBF then Unary I64 F64
    else if nat_le x 0xC1 then Unary I32 I32
    else Unary I64 I64

abbrev pub numeric_type : NumericOp → NumericType
numeric_type op = type_of_opcode (numeric_opcode op)

abbrev pub numeric_name : NumericOp → List ℕ
numeric_name I32Eqz = codes "i32.eqz"
numeric_name I32Eq = codes "i32.eq"
numeric_name I32Ne = codes "i32.ne"
numeric_name I32LtS = codes "i32.lt_s"
numeric_name I32LtU = codes "i32.lt_u"
numeric_name I32GtS = codes "i32.gt_s"
numeric_name I32GtU = codes "i32.gt_u"
numeric_name I32LeS = codes "i32.le_s"
numeric_name I32LeU = codes "i32.le_u"
numeric_name I32GeS = codes "i32.ge_s"
numeric_name I32GeU = codes "i32.ge_u"
numeric_name I64Eqz = codes "i64.eqz"
numeric_name I64Eq = codes "i64.eq"
numeric_name I64Ne = codes "i64.ne"
numeric_name I64LtS = codes "i64.lt_s"
numeric_name I64LtU = codes "i64.lt_u"
numeric_name I64GtS = codes "i64.gt_s"
numeric_name I64GtU = codes "i64.gt_u"
numeric_name I64LeS = codes "i64.le_s"
numeric_name I64LeU = codes "i64.le_u"
numeric_name I64GeS = codes "i64.ge_s"
numeric_name I64GeU = codes "i64.ge_u"
numeric_name F32Eq = codes "f32.eq"
numeric_name F32Ne = codes "f32.ne"
numeric_name F32Lt = codes "f32.lt"
numeric_name F32Gt = codes "f32.gt"
numeric_name F32Le = codes "f32.le"
numeric_name F32Ge = codes "f32.ge"
numeric_name F64Eq = codes "f64.eq"
numeric_name F64Ne = codes "f64.ne"
numeric_name F64Lt = codes "f64.lt"
numeric_name F64Gt = codes "f64.gt"
numeric_name F64Le = codes "f64.le"
numeric_name F64Ge = codes "f64.ge"
numeric_name I32Clz = codes "i32.clz"
numeric_name I32Ctz = codes "i32.ctz"
numeric_name I32Popcnt = codes "i32.popcnt"
numeric_name I32Add = codes "i32.add"
numeric_name I32Sub = codes "i32.sub"
numeric_name I32Mul = codes "i32.mul"
numeric_name I32DivS = codes "i32.div_s"
numeric_name I32DivU = codes "i32.div_u"
numeric_name I32RemS = codes "i32.rem_s"
numeric_name I32RemU = codes "i32.rem_u"
numeric_name I32And = codes "i32.and"
numeric_name I32Or = codes "i32.or"
numeric_name I32Xor = codes "i32.xor"
numeric_name I32Shl = codes "i32.shl"
numeric_name I32ShrS = codes "i32.shr_s"
numeric_name I32ShrU = codes "i32.shr_u"
numeric_name I32Rotl = codes "i32.rotl"
numeric_name I32Rotr = codes "i32.rotr"
numeric_name I64Clz = codes "i64.clz"
numeric_name I64Ctz = codes "i64.ctz"
numeric_name I64Popcnt = codes "i64.popcnt"
numeric_name I64Add = codes "i64.add"
numeric_name I64Sub = codes "i64.sub"
numeric_name I64Mul = codes "i64.mul"
numeric_name I64DivS = codes "i64.div_s"
numeric_name I64DivU = codes "i64.div_u"
numeric_name I64RemS = codes "i64.rem_s"
numeric_name I64RemU = codes "i64.rem_u"
numeric_name I64And = codes "i64.and"
numeric_name I64Or = codes "i64.or"
numeric_name I64Xor = codes "i64.xor"
numeric_name I64Shl = codes "i64.shl"
numeric_name I64ShrS = codes "i64.shr_s"
numeric_name I64ShrU = codes "i64.shr_u"
numeric_name I64Rotl = codes "i64.rotl"
numeric_name I64Rotr = codes "i64.rotr"
numeric_name F32Abs = codes "f32.abs"
numeric_name F32Neg = codes "f32.neg"
numeric_name F32Ceil = codes "f32.ceil"
numeric_name F32Floor = codes "f32.floor"
numeric_name F32Trunc = codes "f32.trunc"
numeric_name F32Nearest = codes "f32.nearest"
numeric_name F32Sqrt = codes "f32.sqrt"
numeric_name F32Add = codes "f32.add"
numeric_name F32Sub = codes "f32.sub"
numeric_name F32Mul = codes "f32.mul"
numeric_name F32Div = codes "f32.div"
numeric_name F32Min = codes "f32.min"
numeric_name F32Max = codes "f32.max"
numeric_name F32Copysign = codes "f32.copysign"
numeric_name F64Abs = codes "f64.abs"
numeric_name F64Neg = codes "f64.neg"
numeric_name F64Ceil = codes "f64.ceil"
numeric_name F64Floor = codes "f64.floor"
numeric_name F64Trunc = codes "f64.trunc"
numeric_name F64Nearest = codes "f64.nearest"
numeric_name F64Sqrt = codes "f64.sqrt"
numeric_name F64Add = codes "f64.add"
numeric_name F64Sub = codes "f64.sub"
numeric_name F64Mul = codes "f64.mul"
numeric_name F64Div = codes "f64.div"
numeric_name F64Min = codes "f64.min"
numeric_name F64Max = codes "f64.max"
numeric_name F64Copysign = codes "f64.copysign"
numeric_name I32WrapI64 = codes "i32.wrap_i64"
numeric_name I32TruncF32S = codes "i32.trunc_f32_s"
numeric_name I32TruncF32U = codes "i32.trunc_f32_u"
numeric_name I32TruncF64S = codes "i32.trunc_f64_s"
numeric_name I32TruncF64U = codes "i32.trunc_f64_u"
numeric_name I64ExtendI32S = codes "i64.extend_i32_s"
numeric_name I64ExtendI32U = codes "i64.extend_i32_u"
numeric_name I64TruncF32S = codes "i64.trunc_f32_s"
numeric_name I64TruncF32U = codes "i64.trunc_f32_u"
numeric_name I64TruncF64S = codes "i64.trunc_f64_s"
numeric_name I64TruncF64U = codes "i64.trunc_f64_u"
numeric_name F32ConvertI32S = codes "f32.convert_i32_s"
numeric_name F32ConvertI32U = codes "f32.convert_i32_u"
numeric_name F32ConvertI64S = codes "f32.convert_i64_s"
numeric_name F32ConvertI64U = codes "f32.convert_i64_u"
numeric_name F32DemoteF64 = codes "f32.demote_f64"
numeric_name F64ConvertI32S = codes "f64.convert_i32_s"
numeric_name F64ConvertI32U = codes "f64.convert_i32_u"
numeric_name F64ConvertI64S = codes "f64.convert_i64_s"
numeric_name F64ConvertI64U = codes "f64.convert_i64_u"
numeric_name F64PromoteF32 = codes "f64.promote_f32"
numeric_name I32ReinterpretF32 = codes "i32.reinterpret_f32"
numeric_name I64ReinterpretF64 = codes "i64.reinterpret_f64"
numeric_name F32ReinterpretI32 = codes "f32.reinterpret_i32"
numeric_name F64ReinterpretI64 = codes "f64.reinterpret_i64"
numeric_name I32Extend8S = codes "i32.extend8_s"
numeric_name I32Extend16S = codes "i32.extend16_s"
numeric_name I64Extend8S = codes "i64.extend8_s"
numeric_name I64Extend16S = codes "i64.extend16_s"
numeric_name I64Extend32S = codes "i64.extend32_s"

-- the instructions in the order of their opcodes, from 45 on
abbrev pub numeric_ops : List NumericOp
numeric_ops =
    I32Eqz ∷ I32Eq ∷ I32Ne ∷ I32LtS ∷ I32LtU ∷ I32GtS ∷ I32GtU ∷ I32LeS ∷
    I32LeU ∷ I32GeS ∷ I32GeU ∷ I64Eqz ∷ I64Eq ∷ I64Ne ∷ I64LtS ∷ I64LtU ∷
    I64GtS ∷ I64GtU ∷ I64LeS ∷ I64LeU ∷ I64GeS ∷ I64GeU ∷ F32Eq ∷ F32Ne ∷
    F32Lt ∷ F32Gt ∷ F32Le ∷ F32Ge ∷ F64Eq ∷ F64Ne ∷ F64Lt ∷ F64Gt ∷
    F64Le ∷ F64Ge ∷ I32Clz ∷ I32Ctz ∷ I32Popcnt ∷ I32Add ∷ I32Sub ∷ I32Mul ∷
    I32DivS ∷ I32DivU ∷ I32RemS ∷ I32RemU ∷ I32And ∷ I32Or ∷ I32Xor ∷ I32Shl ∷
    I32ShrS ∷ I32ShrU ∷ I32Rotl ∷ I32Rotr ∷ I64Clz ∷ I64Ctz ∷ I64Popcnt ∷ I64Add ∷
    I64Sub ∷ I64Mul ∷ I64DivS ∷ I64DivU ∷ I64RemS ∷ I64RemU ∷ I64And ∷ I64Or ∷
    I64Xor ∷ I64Shl ∷ I64ShrS ∷ I64ShrU ∷ I64Rotl ∷ I64Rotr ∷ F32Abs ∷ F32Neg ∷
    F32Ceil ∷ F32Floor ∷ F32Trunc ∷ F32Nearest ∷ F32Sqrt ∷ F32Add ∷ F32Sub ∷ F32Mul ∷
    F32Div ∷ F32Min ∷ F32Max ∷ F32Copysign ∷ F64Abs ∷ F64Neg ∷ F64Ceil ∷ F64Floor ∷
    F64Trunc ∷ F64Nearest ∷ F64Sqrt ∷ F64Add ∷ F64Sub ∷ F64Mul ∷ F64Div ∷ F64Min ∷
    F64Max ∷ F64Copysign ∷ I32WrapI64 ∷ I32TruncF32S ∷ I32TruncF32U ∷ I32TruncF64S ∷ I32TruncF64U ∷ I64ExtendI32S ∷
    I64ExtendI32U ∷ I64TruncF32S ∷ I64TruncF32U ∷ I64TruncF64S ∷ I64TruncF64U ∷ F32ConvertI32S ∷ F32ConvertI32U ∷ F32ConvertI64S ∷
    F32ConvertI64U ∷ F32DemoteF64 ∷ F64ConvertI32S ∷ F64ConvertI32U ∷ F64ConvertI64S ∷ F64ConvertI64U ∷ F64PromoteF32 ∷ I32ReinterpretF32 ∷
    I64ReinterpretF64 ∷ F32ReinterpretI32 ∷ F64ReinterpretI64 ∷ I32Extend8S ∷ I32Extend16S ∷ I64Extend8S ∷ I64Extend16S ∷ I64Extend32S ∷ []

-- the instruction of an opcode
abbrev pub numeric_of : ℕ → Option NumericOp
numeric_of x = if nat_le 0x45 x then slice_get numeric_ops (x - 0x45) else None
