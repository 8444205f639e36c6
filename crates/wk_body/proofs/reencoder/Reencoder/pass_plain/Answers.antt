use Rattle.wk_body.proofs.Immediates.{nothing_passed, reserved_passed, index_passed, index_reserved_passed, labels_passed, memarg_passed, signed32_passed}
use Rattle.wk_body.proofs.Immediates.{signed64_passed, word32_passed, word64_passed}
use Rattle.wk_body.proofs.reencoder.Reencoder.pass_plain.Goals as goal

pub returns-in-Nothing : goal.returns-in-Nothing
returns-in-Nothing c = nothing_passed c.args.profile c.args.opcode (rw c.in-Nothing.is at c.in_ok-imm_kind.ensures) c.args.out.now.items c.args.self.now

pub returns-in_ok-pass_reserved-in-Reserved : goal.returns-in_ok-pass_reserved-in-Reserved
returns-in_ok-pass_reserved-in-Reserved c =
    reserved_passed c.args.profile c.args.opcode (rw c.in-Reserved.is at c.in_ok-imm_kind.ensures) c.in_ok-pass_reserved-in-Reserved.field-0
    c.args.out.now.items c.args.self.now c.pass_reserved.new.self c.in_ok-pass_reserved-in-Reserved.ensures

pub returns-in_ok-pass_u32-in-Index : goal.returns-in_ok-pass_u32-in-Index
returns-in_ok-pass_u32-in-Index c =
    index_passed c.args.profile c.args.opcode (rw c.in-Index.is at c.in_ok-imm_kind.ensures) c.in_ok-pass_u32-in-Index.field-0 c.args.out.now.items
    c.pass_u32.new.out.items c.args.self.now c.pass_u32.new.self c.in_ok-pass_u32-in-Index.ensures

pub returns-in_ok-pass_reserved-in-IndexReserved : goal.returns-in_ok-pass_reserved-in-IndexReserved
returns-in_ok-pass_reserved-in-IndexReserved c =
    index_reserved_passed c.args.profile c.args.opcode (rw c.in-IndexReserved.is at c.in_ok-imm_kind.ensures) c.in_ok-pass_u32-in-IndexReserved.field-0
    c.in_ok-pass_reserved-in-IndexReserved.field-0 c.args.out.now.items c.pass_u32-in-IndexReserved.new.out.items
    c.args.self.now c.pass_u32-in-IndexReserved.new.self c.pass_reserved-in-IndexReserved.new.self c.in_ok-pass_u32-in-IndexReserved.ensures
    c.in_ok-pass_reserved-in-IndexReserved.ensures

pub returns-in_ok-pass_table-in-Labels : goal.returns-in_ok-pass_table-in-Labels
returns-in_ok-pass_table-in-Labels c =
    let t = c.in_ok-pass_table-in-Labels.ensures in
    labels_passed c.args.profile c.args.opcode (rw c.in-Labels.is at c.in_ok-imm_kind.ensures) t.0 c.args.out.now.items c.pass_table.new.out.items
    c.args.self.now c.pass_table.new.self t.1

pub returns-in_ok-pass_u32-in-Memarg-2 : goal.returns-in_ok-pass_u32-in-Memarg-2
returns-in_ok-pass_u32-in-Memarg-2 c =
    memarg_passed c.args.profile c.args.opcode (rw c.in-Memarg.is at c.in_ok-imm_kind.ensures) c.in_ok-pass_u32-in-Memarg.field-0
    c.in_ok-pass_u32-in-Memarg-2.field-0 c.args.out.now.items c.pass_u32-in-Memarg.new.out.items c.pass_u32-in-Memarg-2.new.out.items
    c.args.self.now c.pass_u32-in-Memarg.new.self c.pass_u32-in-Memarg-2.new.self c.in_ok-pass_u32-in-Memarg.ensures c.in_ok-pass_u32-in-Memarg-2.ensures

pub returns-in_ok-pass_s32-in-Signed32 : goal.returns-in_ok-pass_s32-in-Signed32
returns-in_ok-pass_s32-in-Signed32 c =
    signed32_passed c.args.profile c.args.opcode (rw c.in-Signed32.is at c.in_ok-imm_kind.ensures) c.in_ok-pass_s32-in-Signed32.field-0
    c.args.out.now.items c.pass_s32.new.out.items c.args.self.now c.pass_s32.new.self c.in_ok-pass_s32-in-Signed32.ensures

pub returns-in_ok-pass_s64-in-Signed64 : goal.returns-in_ok-pass_s64-in-Signed64
returns-in_ok-pass_s64-in-Signed64 c =
    signed64_passed c.args.profile c.args.opcode (rw c.in-Signed64.is at c.in_ok-imm_kind.ensures) c.in_ok-pass_s64-in-Signed64.field-0
    c.args.out.now.items c.pass_s64.new.out.items c.args.self.now c.pass_s64.new.self c.in_ok-pass_s64-in-Signed64.ensures

pub returns-in_ok-pass_word32-in-Word32 : goal.returns-in_ok-pass_word32-in-Word32
returns-in_ok-pass_word32-in-Word32 c =
    word32_passed c.args.profile c.args.opcode (rw c.in-Word32.is at c.in_ok-imm_kind.ensures) c.in_ok-pass_word32-in-Word32.field-0
    c.args.out.now.items c.args.self.now c.pass_word32.new.self c.in_ok-pass_word32-in-Word32.ensures

pub returns-in_ok-pass_word64-in-Word64 : goal.returns-in_ok-pass_word64-in-Word64
returns-in_ok-pass_word64-in-Word64 c =
    word64_passed c.args.profile c.args.opcode (rw c.in-Word64.is at c.in_ok-imm_kind.ensures) c.in_ok-pass_word64-in-Word64.field-0
    c.args.out.now.items c.args.self.now c.pass_word64.new.self c.in_ok-pass_word64-in-Word64.ensures
