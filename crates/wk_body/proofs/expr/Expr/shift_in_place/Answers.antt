use Rattle.std.proofs.Common.{◌≡◌, List, [], length, map, drop, ap, subst, sym, ◌∙◌, false}
use Rattle.std.specs.List.{flat_map, refill}
use Rattle.std.proofs.Math.Seq.{take-append_seam}
use Rattle.wk_body.specs.declared.token.Token.{Token}
use Rattle.wk_body.specs.Kept.{IsKept, tree_kept, all_told}
use Rattle.wk_body.specs.Moved.{moved_kept}
use Rattle.wk_body.specs.References.{any_stuck, refs_of, tok_refs, shift_instrs}
use Rattle.wk_body.specs.Tree.{Instrs}
use Rattle.wk_body.proofs.MovedTrees.{kept_moved, kept_tokens}
use Rattle.wk_body.proofs.TreeRefs.{kept_refs}
use Rattle.wk_body.proofs.expr.Expr.shift_in_place.Goals as goal
use Rattle.wk_body.proofs.expr.Expr.shift_in_place.Goals.{After-self, After-shift_tokens}

free : (c : After-self) → any_stuck c.args.kind c.args.from (flat_map tok_refs (all_told [] c.self.inside.tokens.items)) ≡ false
free c =
    let pool = c.self.inside.labels.items in
    let ts = c.self.inside.tokens.items in
    ap (any_stuck c.args.kind c.args.from) (kept_refs pool ts (tree_kept pool ts) c.self.invariant.written)
    ∙ ap (λ (t : Instrs). any_stuck c.args.kind c.args.from (refs_of t)) c.self.view_is
    ∙ c.requires

-- what is written back
moved : (c : After-shift_tokens) → refill (length c.self.inside.tokens.items) c.self.inside.tokens.items c.shift_tokens.new.tokens
    ≡ map (moved_kept c.args.kind c.args.from) c.self.inside.tokens.items
moved c =
    let now = c.shift_tokens.new.tokens in
    let ts = c.self.inside.tokens.items in
    let len : length ts ≡ length now = sym (c.shift_tokens.auto.tokens ∙ ap (λ (xs : List Token). length xs) c.as_mut_slice.ensures.value) in
    rw len (take-append_seam now (drop (length now) ts)) ∙ c.shift_tokens.ensures ∙ ap (map (moved_kept c.args.kind c.args.from)) c.as_mut_slice.ensures.value

kept : (c : After-shift_tokens) → any_stuck c.args.kind c.args.from (flat_map tok_refs (all_told [] c.self.inside.tokens.items)) ≡ false
    → let ms = map (moved_kept c.args.kind c.args.from) c.self.inside.tokens.items in
    IsKept c.self.inside.labels.items ms × (tree_kept c.self.inside.labels.items ms ≡ shift_instrs c.args.kind c.args.from c.args.self.now)
kept c none =
    let pool = c.self.inside.labels.items in
    let ts = c.self.inside.tokens.items in
    let was = c.self.invariant in
    let k = kept_moved c.args.kind c.args.from pool ts (map (moved_kept c.args.kind c.args.from) ts)
    (tree_kept pool ts) was.written was.within was.few was.shaped (kept_tokens c.args.kind c.args.from ts none) in
    (k.0, k.1 ∙ ap (shift_instrs c.args.kind c.args.from) c.self.view_is)

pub shift_tokens-requires : goal.shift_tokens-requires
shift_tokens-requires c = rw c.as_mut_slice.ensures.value (free (goal.at.shift_tokens-requires c).After-self)

pub invariant_of-self : goal.invariant_of-self
invariant_of-self c =
    let at = (goal.at.invariant_of-self c).After-shift_tokens in
    let none = free (goal.at.invariant_of-self c).After-self in
    subst (IsKept c.self.inside.labels.items) (sym (moved at)) (kept at none).0

pub returns : goal.returns
returns c =
    let at = (goal.at.returns c).After-shift_tokens in
    let none = free (goal.at.returns c).After-self in
    ap (tree_kept c.self.inside.labels.items) (moved at) ∙ (kept at none).1
