use Rattle.wk_bytes.specs.Raw.{raw_view}
use Rattle.wk_module.specs.Reading.{section_end}
use Rattle.wk_place.proofs.Passing.{seeks}
use Rattle.wk_place.proofs.items.ItemReader.seek_item.Goals as goal

pub returns : goal.returns
returns c =
    let s = raw_view c.args.section.now in
    seeks c.args.self.now.profile s.id c.args.item c.in_ok-count.count (section_end s) s.contents c.cursor-cursor.result c.item_count.new.cursor
    c.pass_items.new.cursor c.cursor-cursor.ensures c.in_ok-count.ensures.0 c.in_ok-count.ensures.1 c.if-item-count.false c.in_ok-pass_items.ensures.0
    c.in_ok-pass_items.ensures.1
