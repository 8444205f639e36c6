use Rattle.std.proofs.Common.{refl, ◌∷◌, []}
use Rattle.wk_body.proofs.Labels.{more_labels}
use Rattle.wk_body.proofs.scratch.Scratch.add_label.Goals as goal

pub returns : goal.returns
returns c = more_labels c.args.self.now _ (c.args.label ∷ []) c.requires refl c.in_ok-push.ensures.items refl
