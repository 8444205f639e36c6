use Rattle.std.proofs.Common.{ap, sym, ◌∙◌}
use Rattle.wk_typing.specs.Effects.{has_types}
use Rattle.wk_typing.proofs.Labels.{label_at, label_none, no_types}
use Rattle.wk_typing.proofs.control.has_types.Goals as goal

pub returns-in-Some-default-Empty : goal.returns-in-Some-default-Empty
returns-in-Some-default-Empty g c =
    let to = c.in-Some-default-Empty in
    c.is_empty.ensures ∙ no_types c.args.types.now
    ∙ sym (ap (has_types c.args.types.now)
    (label_none (g.E.Scope.answers c.args.env.now) c.args.s.now c.args.to to.field-0-0 (rw to.field-0-1-is at (sym to.is ∙ c.head.ensures))))

pub returns-in-Some : goal.returns-in-Some
returns-in-Some g c =
    rw c.branch_types.ensures at c.are_same.ensures
    ∙ sym (ap (has_types c.args.types.now) (label_at (g.E.Scope.answers c.args.env.now) c.args.s.now c.args.to _ (sym c.in-Some.is ∙ c.head.ensures)))

pub returns-in-None : goal.returns-in-None
returns-in-None g c =
    sym (ap (has_types c.args.types.now) (label_at (g.E.Scope.answers c.args.env.now) c.args.s.now c.args.to _ (sym c.in-None.is ∙ c.head.ensures)))
