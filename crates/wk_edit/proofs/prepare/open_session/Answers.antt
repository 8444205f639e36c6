use Rattle.wk_edit.proofs.prepare.open_session.Goals as goal

pub open_judged-requires : goal.open_judged-requires
open_judged-requires c = λ m at. rw c.in-None-Some.is-1 at (c.requires.judged m at)

pub open_outlined-requires-clause-codes : goal.open_outlined-requires-clause-codes
open_outlined-requires-clause-codes c = λ m at. rw c.in-Some-default.is-0 at (c.requires.codes m at)
