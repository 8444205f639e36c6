use Rattle.wk_list.proofs.summary.Summary.read.Goals as goal

pub returns-clause-only : goal.returns-clause-only
returns-clause-only c =
    let at = c.in_ok-skeleton.ensures.exact.1 in
    let is = rw at at c.reading_of_module.ensures.is in
    rw at is.2
