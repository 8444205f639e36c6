use Rattle.std.proofs.Common.{sym, ◌∙◌}
use Rattle.wk_typing.proofs.FastConstants.{passes_s32, passes_s64, passes_word32, passes_word64}
use Rattle.wk_typing.proofs.fast_constant.pass_value.Goals as goal

pub returns-in-I32 : goal.returns-in-I32
returns-in-I32 c profile e success =
    rw c.in-I32.is (passes_s32 profile e c.args.cursor.now c.s32.new.self c.s32.result (sym c.is_ok.ensures.value ∙ success) c.s32.ensures.exact)

pub returns-in-I64 : goal.returns-in-I64
returns-in-I64 c profile e success =
    rw c.in-I64.is (passes_s64 profile e c.args.cursor.now c.s64.new.self c.s64.result (sym c.is_ok-in-I64.ensures.value ∙ success) c.s64.ensures.exact)

pub returns-in-F32 : goal.returns-in-F32
returns-in-F32 c profile e success =
    rw c.in-F32.is (passes_word32 profile e c.args.cursor.now c.word32.new.self c.word32.result (sym c.is_ok-in-F32.ensures.value ∙ success)
    c.word32.ensures.exact)

pub returns-in-F64 : goal.returns-in-F64
returns-in-F64 c profile e success =
    rw c.in-F64.is (passes_word64 profile e c.args.cursor.now c.word64.new.self c.word64.result (sym c.is_ok-in-F64.ensures.value ∙ success)
    c.word64.ensures.exact)
