use Rattle.std.proofs.Common.{length, refl}
use Rattle.wk_module.specs.Formats.{made_at}
use Rattle.wk_module.proofs.TypeLists.{packed_push, one_more}
use Rattle.wk_module.proofs.type_list.TypeList.read_next.Goals as goal

pub invariant_of-self-in-Ok : goal.invariant_of-self-in-Ok
invariant_of-self-in-Ok c =
    rw (c.push_reserved.ensures.items, c.in_ok-reserve.ensures.items)
    (packed_push 0 c.self.inside.bounds.items (length c.self.inside.lists.items) (length c.append_func_type.new.lists.items) c.in-Ok.bounds
    c.self.invariant c.in-Ok.ensures.between)

pub returns-in-Ok-clause-exact : goal.returns-in-Ok-clause-exact
unfolding made_at
returns-in-Ok-clause-exact c =
    rw (
      c.push_reserved.ensures.items,
      c.in_ok-reserve.ensures.items,
      one_more c.self.inside.lists.items c.append_func_type.new.lists.items c.self.inside.bounds.items c.in-Ok.bounds c.in-Ok.ensures.stays c.self.invariant,
      c.self.view_is,
      ← c.ahead-ahead.ensures.same,
      c.in-Ok.ensures.read.0,
    ) (refl, c.in-Ok.ensures.read.1)
