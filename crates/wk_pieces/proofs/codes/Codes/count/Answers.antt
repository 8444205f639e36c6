use Rattle.std.proofs.Common.{length, ap, ◌∙◌, sym}
use Rattle.wk_pieces.proofs.Replacing.{length-with_items}
use Rattle.wk_pieces.proofs.codes.Codes.count.Goals as goal

pub returns : goal.returns
returns c =
    let fields = c.self.inside in
    c.len.ensures ∙ fields.kept.now.ok.0 ∙ sym (length-with_items fields.kept.now.items fields.news.now) ∙ ap length c.self.view_is
