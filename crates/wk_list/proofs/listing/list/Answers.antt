use Rattle.wk_list.proofs.Listings.{stops_last}
use Rattle.wk_list.proofs.listing.list.Goals as goal

pub returns-clause-err : goal.returns-clause-err
returns-clause-err g c =
    stops_last c.flush.new.out c.flush.result _ c.new-text.ensures.items c.in_ok-list_part.ensures c.deref.ensures.value c.flush.ensures.err
