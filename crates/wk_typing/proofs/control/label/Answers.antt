use Rattle.std.proofs.Common.{◌∙◌, ap, sym, Some}
use Rattle.wk_typing.proofs.Labels.{label_at}
use Rattle.wk_typing.proofs.control.label.Goals as goal

pub returns-in-Some : goal.returns-in-Some
returns-in-Some g c =
    label_at (g.E.Scope.answers c.args.env.now) c.args.s.now c.args.label _ (sym c.in-Some.is ∙ c.head.ensures) ∙ ap Some (sym c.branch_types.ensures)

pub returns-in-None : goal.returns-in-None
returns-in-None g c =
    label_at (g.E.Scope.answers c.args.env.now) c.args.s.now c.args.label _ (sym c.in-None.is ∙ c.head.ensures)
