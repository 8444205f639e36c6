use Rattle.std.proofs.Common.{◌≡◌, ◌-◌, ◌≤◌, leb, length, subst, rules, option_map, slice_get, sym, List, ℕ}
use Rattle.std.specs.List.Sorted.{IsNonDecreasingBy}
use Rattle.std.proofs.lemmas.Bool.{le-ltb}
use Rattle.std.proofs.lemmas.List.Sorted.{IsPartitionPoint-from_clause, IsPartitionedBy-leb}
use Rattle.wk_body.specs.declared.types.LocalGroup.{LocalGroup}
use Rattle.wk_typing.specs.Effects.{type_in_groups}
use Rattle.wk_typing.proofs.LocalEnds.{type_of_group, ends_in_order, group_found}
use Rattle.wk_typing.proofs.locals.Locals.far_ty.Goals as goal

pub returns : goal.returns
returns c =
    let first = c.self.inside.first.now in
    let groups = c.self.inside.far.now in
    let ends = c.self.inside.ends.now in
    let at = c.args.x - length first in
    let sorted : IsNonDecreasingBy (λ x. x) ends = subst (λ (es : List ℕ). IsNonDecreasingBy (λ x. x) es) (sym c.self.invariant) (ends_in_order groups) in
    let point = IsPartitionPoint-from_clause (λ y. leb y at) ends c.partition_point-group.result c.partition_point-group.ensures.partitioned
    (IsPartitionedBy-leb (λ x. x) ends at sorted) (λ a r q k. search rules) in
    let found : type_in_groups groups at ≡ option_map (λ (g : LocalGroup). g.ty) (slice_get groups c.partition_point-group.result) =
    group_found groups ends at c.partition_point-group.result c.self.invariant point in
    let past : length first ≤ c.args.x = rw (← c.self.view_is) at c.requires in
    rw (← c.self.view_is, le-ltb c.args.x (length first) past, found)
    (type_of_group groups c.partition_point-group.result c.get.result c.map.result c.get.ensures.lookup c.map.ensures.cases (λ b t k. search rules))
