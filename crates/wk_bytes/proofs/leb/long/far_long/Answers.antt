use Rattle.wk_bytes.specs.LebLaws.{SpellsS-fits}
use Rattle.wk_bytes.proofs.LebShort.{front_signed}
use Rattle.wk_bytes.proofs.leb.long.far_long.Goals as goal

pub returns-in-Some-clause-found : goal.returns-in-Some-clause-found
returns-in-Some-clause-found c = λ some. front_signed c.args.bits c.in-Some.found.1 c.args.bytes.now _ (rw c.if-bits-eq64.true c.in-Some.ensures.2)

pub returns-in-Some-clause-range : goal.returns-in-Some-clause-range
returns-in-Some-clause-range c = λ some. rw c.if-bits-eq64.true (SpellsS-fits 64 _ _ c.in-Some.ensures.2)

pub returns-in-Some-five_to_eight-clause-found : goal.returns-in-Some-five_to_eight-clause-found
returns-in-Some-five_to_eight-clause-found c = λ some. front_signed c.args.bits c.in-Some-five_to_eight.found.1 c.args.bytes.now _
    (rw c.if-bits-eq64.true c.in-Some-five_to_eight.ensures.2)

pub returns-in-Some-five_to_eight-clause-range : goal.returns-in-Some-five_to_eight-clause-range
returns-in-Some-five_to_eight-clause-range c = λ some. rw c.if-bits-eq64.true (SpellsS-fits 64 _ _ c.in-Some-five_to_eight.ensures.2)
