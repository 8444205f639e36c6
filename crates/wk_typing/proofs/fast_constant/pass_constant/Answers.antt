use Rattle.std.proofs.Common.{refl, ◌∙◌}
use Rattle.wk_typing.proofs.FastConstants.{passed}
use Rattle.wk_typing.proofs.fast_constant.pass_constant.Goals as goal

pub returns-in-Ok-eq11 : goal.returns-in-Ok-eq11
returns-in-Ok-eq11 c A profile success =
    let head = c.in-Ok.ensures.exact in
    let tail = c.in-Ok-eq11.ensures.exact in
    passed A profile c.args.ty c.args.cursor.now c.byte.new.self c.pass_value.new.cursor c.byte-2.new.self c.in-Ok.opcode head.0 head.1
    (c.if-opcode-constant_opcode.false ∙ c.constant_opcode.ensures) (λ e. c.if-not-pass_value.ensures profile e refl)
    (rw c.in-Ok-eq11.field-0-test at tail.0) tail.1
