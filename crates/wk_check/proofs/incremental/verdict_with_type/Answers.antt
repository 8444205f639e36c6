use Rattle.std.proofs.Common.{◌∙◌, sym, ap}
use Rattle.wk_check.specs.Items.{type_flaw}
use Rattle.wk_check.proofs.ValidGrowth.{valid_with_type, told_at}
use Rattle.wk_check.proofs.incremental.verdict_with_type.Goals as goal

pub returns : goal.returns
returns c = λ m profile place valid.
    c.verdict_by_flaw.ensures
    ∙ told_at 1 c.args.place _ _ (type_flaw m.profile c.args.ty.now)
    (c.flaw_of_type.ensures ∙ ap (type_flaw c.args.profile) c.as_ref.ensures ∙ ap (λ p. type_flaw p c.args.ty.now) (sym profile)) (sym place)
    ∙ sym (valid_with_type m c.args.ty.now valid)
