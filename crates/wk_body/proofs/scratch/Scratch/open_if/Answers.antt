use Rattle.std.proofs.Common.{refl, ap, ◌∙◌, ◌++◌, ◌∷◌, [], ℕ}
use Rattle.wk_body.specs.declared.scratch.Opened.TheVariants.{Then}
use Rattle.wk_body.proofs.Built.{opening_adds, opens_if}
use Rattle.wk_body.proofs.scratch.Scratch.open_if.Goals as goal

pub returns : goal.returns
returns c = opening_adds c.args.self.now _ _ _ _ _ (opens_if c.args.ty) (record { tokens = c.in_ok-push.ensures.items; labels = refl })
    (c.in_ok-push-2.ensures.items ∙ ap (λ (n : ℕ). c.args.self.now.blocks.items ++ Then n ∷ []) (c.len-place.ensures ∙ c.args.self.now.tokens.ok.0))
    c.requires.good
