use Rattle.std.proofs.Common.{◌-◌, List, length, subst, arith}
use Rattle.std.proofs.lemmas.List.{length-map}
use Rattle.wk_module.specs.declared.type_list.TypeBounds.{TypeBounds}
use Rattle.wk_module.specs.InPlace.{type_within}
use Rattle.wk_module.proofs.TypeLists.{AreAt, within_at, type_at}
use Rattle.wk_module.proofs.type_list.TypeList.last.Goals as goal

pub lend-requires : goal.lend-requires
lend-requires c =
    rw c.deref.ensures.value
    (within_at c.self.inside.bounds.items (length c.self.inside.lists.items) (length c.self.inside.bounds.items - 1) c.in-Some.bounds.now c.self.invariant
    (subst (λ (xs : List TypeBounds). AreAt xs (length xs - 1) c.in-Some.bounds.now) c.as_slice.ensures
    (omega (arith, c.in-Some.ensures.item.3.0), c.in-Some.ensures.item.1)))

pub returns-in-Some : goal.returns-in-Some
returns-in-Some c =
    rw (← c.self.view_is, length-map c.self.inside.bounds.items (type_within c.self.inside.lists.items), c.lend.ensures, c.deref.ensures.value)
    (type_at c.self.inside.lists.items c.self.inside.bounds.items (length c.self.inside.bounds.items - 1) c.in-Some.bounds.now
    (subst (λ (xs : List TypeBounds). AreAt xs (length xs - 1) c.in-Some.bounds.now) c.as_slice.ensures
    (omega (arith, c.in-Some.ensures.item.3.0), c.in-Some.ensures.item.1)))
