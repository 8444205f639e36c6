use Rattle.std.proofs.Common.{arith}
use Rattle.wk_bytes.specs.LebLaws.{IsBytes}
use Rattle.wk_body.proofs.TokenSteps.{groups_range}
use Rattle.wk_body.proofs.reader.body_front.Goals as goal

pub of-requires : goal.of-requires
of-requires c =
    let rest = c.u32.new.self.rest in
    let fits : IsBytes rest = rw (← c.rest.ensures) c.are_bytes.ensures in
    groups_range c.in_ok-count.count c.u32.new.self.end rest c.groups_of.new.groups.items c.groups_of.new.cursor.rest
    (omega arith) fits c.in_ok-groups_of.ensures.0
