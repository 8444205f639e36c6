use Rattle.wk_list.proofs.summary.list_summary_part.Goals as goal

pub returns-in-Headers : goal.returns-in-Headers
returns-in-Headers g c = rw c.in-Headers.is c.list_headers.ensures

pub returns-in-Details : goal.returns-in-Details
returns-in-Details g c = rw c.in-Details.is c.list_details.ensures
