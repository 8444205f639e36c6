use Rattle.wk_list.proofs.Headings.{start_put}
use Rattle.wk_list.proofs.details.put_start.Goals as goal

pub returns : goal.returns
returns c =
    start_put c.args.start c.in-Some.index c.from.result c.args.text.now.items _ _ _ c.in-Some.is c.from.ensures c.in_ok-extend_from_slice.ensures.items
    c.in_ok-put_number.ensures c.in_ok-extend_from_slice-2.ensures.items
