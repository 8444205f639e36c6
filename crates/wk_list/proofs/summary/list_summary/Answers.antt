use Rattle.wk_list.proofs.Listings.{stops_last}
use Rattle.wk_list.proofs.summary.list_summary.Goals as goal

pub returns-clause-err : goal.returns-clause-err
returns-clause-err g c =
    stops_last c.flush.new.out c.flush.result _ c.new-text.ensures.items c.in_ok-list_summary_part.ensures c.deref.ensures.value c.flush.ensures.err
