use Rattle.std.proofs.Common.{refl, ◌∙◌, ap, ◌++◌, ◌∷◌, [], ℕ}
use Rattle.wk_body.specs.declared.scratch.Opened.{Opened}
use Rattle.wk_body.specs.declared.scratch.Opened.TheVariants.{Else}
use Rattle.wk_body.proofs.Closing.{else_adds}
use Rattle.wk_body.proofs.scratch.Scratch.start_else.Goals as goal

pub returns : goal.returns
returns c = else_adds c.args.self.now _ c.pop.new.self.items c.in-Some-Then.opened c.requires.good
    (c.in-Some-Then.ensures.items ∙ ap (λ (o : Opened). c.pop.new.self.items ++ o ∷ []) c.in-Some-Then.field-0-is) refl c.in_ok-push.ensures.items
    (c.in_ok-push-2.ensures.items ∙ ap (λ (n : ℕ). c.pop.new.self.items ++ Else c.in-Some-Then.opened n ∷ [])
    (c.len-place.ensures ∙ c.args.self.now.tokens.ok.0))
