use Rattle.std.proofs.Common.{◌≡◌, ◌++◌, ◌∷◌, List, [], map, sym, ap, subst, ◌∙◌}
use Rattle.std.proofs.lemmas.Bool.{or_parts}
use Rattle.std.proofs.lemmas.List.{append-nil}
use Rattle.wk_body.specs.declared.references.Ref.{Ref}
use Rattle.wk_body.specs.Moved.{moved_ref}
use Rattle.wk_body.specs.References.{is_stuck, any_stuck, AreSame, Gains}
use Rattle.wk_body.proofs.MovedRefs.{same_step, uses_moved}
use Rattle.wk_body.proofs.renumber_code.shift_uses.Goals as goal

pub loop-reference-preserved : goal.loop-reference-preserved
loop-reference-preserved c =
    let kind = c.args.kind in
    let from = c.args.from in
    let move = moved_ref kind from in
    let x = c.in-Some.reference.now in
    let rest = c.next.new.self in
    let old = c.loop-reference.found.keys in
    let new = c.add.new.found.keys in
    let was = c.loop-reference.invariant in
    let steps : c.loop-reference.reference-iterator ≡ x ∷ rest = c.in-Some.ensures.steps in
    let gains : Gains old new (move x ∷ []) = subst (λ (r : Ref). Gains old new (r ∷ [])) c.shifted_ref.ensures c.in_ok-add.ensures in
    record {
      rising = gains.rising was.rising;
      same = same_step move x rest old new (map move c.args.uses.now.keys) gains
          (subst (λ (rs : List Ref). AreSame (old ++ map move rs) (map move c.args.uses.now.keys)) steps was.same);
      free = (or_parts (is_stuck kind from x) (any_stuck kind from rest) (ap (any_stuck kind from) (sym steps) ∙ was.free)).1;
    }

pub returns-clause-exact : goal.returns-clause-exact
returns-clause-exact c = λ own_type t before.
    let move = moved_ref c.args.kind c.args.from in
    let keys = c.loop-reference.found.keys in
    let ended : c.loop-reference.reference-iterator ≡ [] = c.in-None.ensures.steps.0 in
    let same : AreSame keys (map move c.args.uses.now.keys) =
    subst (λ (rs : List Ref). AreSame rs (map move c.args.uses.now.keys))
    (ap (λ (rs : List Ref). keys ++ map move rs) ended ∙ append-nil keys) c.loop-reference.invariant.same in
    uses_moved c.args.kind c.args.from own_type t c.args.uses.now.keys keys before same
