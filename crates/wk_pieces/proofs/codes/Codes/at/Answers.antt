use Rattle.std.proofs.Common.{length, ap, arith}
use Rattle.wk_pieces.proofs.Replacing.{length-with_items}
use Rattle.wk_pieces.proofs.codes.Codes.at.Goals as goal

pub item_at-requires : goal.item_at-requires
item_at-requires c =
    omega (arith, c.requires, length-with_items c.self.inside.kept.now.items c.self.inside.news.now, ap length c.self.view_is)
