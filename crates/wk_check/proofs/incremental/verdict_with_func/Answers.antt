use Rattle.std.proofs.Common.{◌∙◌, Some, sym, ap, arith}
use Rattle.wk_typing.specs.Faults.{body_flaw}
use Rattle.wk_check.proofs.ValidGrowth.{func_of_no_type, func_of_type, told_at}
use Rattle.wk_check.proofs.incremental.verdict_with_func.Goals as goal

pub returns-then-ty-types : goal.returns-then-ty-types
returns-then-ty-types c = λ m b types place valid own.
    c.verdict_by_flaw.ensures
    ∙ told_at 3 c.args.place _ _ _ (ap (λ w. Some w) c.of.ensures) (sym place)
    ∙ sym (func_of_no_type m c.args.ty b valid (omega (arith, types, c.if-ty-types.true)))

pub returns : goal.returns
returns c = λ m b types place valid own.
    c.verdict_by_flaw-2.ensures
    ∙ told_at 10 c.args.place _ _ _ (c.flaw.ensures ∙ ap body_flaw own) (sym place)
    ∙ sym (func_of_type m c.args.ty b valid (omega (arith, types, c.if-ty-types.false)))
