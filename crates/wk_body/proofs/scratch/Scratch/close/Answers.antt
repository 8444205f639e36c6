use Rattle.std.proofs.Common.{refl, ◌∙◌, sym}
use Rattle.std.proofs.lemmas.List.{nil_from_length}
use Rattle.wk_body.proofs.Closing.{ends_all}
use Rattle.wk_body.proofs.scratch.Scratch.close.Goals as goal

pub returns-in_ok-push-in-None : goal.returns-in_ok-push-in-None
returns-in_ok-push-in-None c = ends_all c.args.self.now _ c.requires.good refl
    (nil_from_length c.args.self.now.blocks.items (sym c.args.self.now.blocks.ok.0 ∙ c.in-None.ensures.cases.0)) c.in_ok-push-in-None.ensures.items
