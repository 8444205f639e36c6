use Rattle.std.proofs.Common.{◌∙◌, sym, ap, refl}
use Rattle.wk_typing.specs.Faults.{body_flaw}
use Rattle.wk_check.proofs.ValidGrowth.{valid_with_body, told_at}
use Rattle.wk_check.proofs.incremental.verdict_with_body.Goals as goal

pub returns : goal.returns
returns c = λ m ty b is valid own.
    c.verdict_by_flaw.ensures
    ∙ told_at 10 c.args.place c.args.place _ _ (c.flaw.ensures ∙ ap body_flaw own) refl
    ∙ sym (valid_with_body m c.args.place ty b is valid)
