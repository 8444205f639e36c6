use Rattle.std.proofs.Common.{List, length, subst, ap, arith}
use Rattle.std.proofs.lemmas.List.{length-map}
use Rattle.std.proofs.lemmas.Option.{slice_get_past}
use Rattle.wk_module.specs.declared.type_list.TypeBounds.{TypeBounds}
use Rattle.wk_module.specs.InPlace.{type_within, types_within}
use Rattle.wk_module.proofs.TypeLists.{AreAt, within_at, type_at}
use Rattle.wk_module.proofs.type_list.TypeList.get.Goals as goal

pub lend-requires : goal.lend-requires
lend-requires c =
    rw c.deref.ensures.value
    (within_at c.self.inside.bounds.items (length c.self.inside.lists.items) c.args.index c.in-Some.bounds.now c.self.invariant
    (subst (λ (xs : List TypeBounds). AreAt xs c.args.index c.in-Some.bounds.now) c.as_slice.ensures
    (c.in-Some.ensures.lookup.3.0, c.in-Some.ensures.lookup.1)))

pub returns-in-Some : goal.returns-in-Some
returns-in-Some c =
    rw (← c.self.view_is, c.lend.ensures, c.deref.ensures.value)
    (type_at c.self.inside.lists.items c.self.inside.bounds.items c.args.index c.in-Some.bounds.now
    (subst (λ (xs : List TypeBounds). AreAt xs c.args.index c.in-Some.bounds.now) c.as_slice.ensures
    (c.in-Some.ensures.lookup.3.0, c.in-Some.ensures.lookup.1)))

pub returns-in-None : goal.returns-in-None
returns-in-None c =
    let lists = c.self.inside.lists.items in
    let bounds = c.self.inside.bounds.items in
    rw (← c.self.view_is)
    (slice_get_past (types_within lists bounds) c.args.index
    (omega (arith, length-map bounds (type_within lists), ap length c.as_slice.ensures, c.in-None.ensures.lookup.3)))
