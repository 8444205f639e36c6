use Rattle.std.proofs.Common.{refl, ap, ◌∙◌, ◌++◌, ◌∷◌, [], ℕ}
use Rattle.wk_body.specs.declared.token.Token.{Token}
use Rattle.wk_body.specs.declared.scratch.Opened.TheVariants.{Block}
use Rattle.wk_body.proofs.Built.{opening_adds, opens_block, opens_loop}
use Rattle.wk_body.proofs.scratch.Scratch.open_block.Goals as goal
use Rattle.wk_body.proofs.scratch.Scratch.open_block.Goals.{in-Block, in-Loop}

pub returns : goal.returns
returns c =
    let pushed = λ (token : Token). c.args.self.now.tokens.items ++ token ∷ [] in
    let more = c.in_ok-push-2.ensures.items ∙ ap (λ (n : ℕ). c.args.self.now.blocks.items ++ Block n ∷ [])
    (c.len-place.ensures ∙ c.args.self.now.tokens.ok.0) in
    elim c.match-kind.branch [
      | in-Block w ↦ rw w.in-Block.is
          (opening_adds c.args.self.now _ _ _ _ _ (opens_block c.args.ty)
          (record { tokens = c.in_ok-push.ensures.items ∙ ap pushed w.push-is; labels = refl }) more c.requires.good)
      | in-Loop w ↦ rw w.in-Loop.is
          (opening_adds c.args.self.now _ _ _ _ _ (opens_loop c.args.ty)
          (record { tokens = c.in_ok-push.ensures.items ∙ ap pushed w.push-is; labels = refl }) more c.requires.good)
    ]
