use Rattle.wk_judging.proofs.item_kinds.next_initialiser_flaw.Goals as goal

pub returns : goal.returns
returns c = rw c.imported_globals.ensures at c.next_flaw.ensures
