-- The sets of references, by their code entries.
use Rattle.std.proofs.Common.{◌≡◌, ℕ, Result, Ok, Err, Option, Some, None, List, ◌∷◌, length, map, refl, sym, ap, subst, ◌∙◌, Bor}
use Rattle.std.specs.BTreeSet.{BTreeSet}
use Rattle.std.specs.Prelude.{option_map, slice_get, IfOk}
use Rattle.std.specs.Slice.{IsItemAt}
use Rattle.std.proofs.lemmas.Option.{slice_get_past, slice_get_read, slice_get-map}
use Rattle.wk_body.specs.declared.references.Ref.{Ref}
use Rattle.wk_body.specs.declared.references.Ref.TheVariants as refs
use Rattle.wk_body.specs.Bodies.{BodyOf}
use Rattle.wk_body.specs.References.{AreRising, AreSame, refs_of}
use Rattle.wk_module.specs.declared.types.Func.{Func}
use Rattle.wk_list.specs.Uses.{in_order}
use Rattle.wk_body.specs.declared.renumber.Moving.{Moving}
use Rattle.wk_body.specs.References.{shift_instrs}
use Rattle.wk_body.specs.Tree.{Instrs}
use Rattle.wk_list.specs.UsesLaws.{in_order_is, in_order_same}
use Rattle.wk_session.specs.Dependents.{held}
use Rattle.wk_session.specs.MovedEntries.{shifted_func}
use Rattle.wk_session.specs.Kept.{uses_of}

read_at : {X : Type 0} (xs : List X) (i : ℕ) (r : Option (Bor X)) → IsItemAt xs i r → slice_get xs i ≡ option_map (λ b. b.now) r
read_at xs i None h = slice_get_past xs i h.3
read_at xs i (Some x) h = slice_get_read xs (length xs) i x.now refl h.3.0 h.1

twice : {X Y Z : Type 0} (f : X → Y) (g : Y → Z) (o : Option X) → option_map g (option_map f o) ≡ option_map (λ x. g (f x)) o
twice f g None = refl
twice f g (Some x) = refl

-- what is told of an item that is kept is what is told of the one that it is kept for
pub told_of : {X Y Z : Type 0} (f : X → Z) (g : Y → Z) (xs : List X) (ys : List Y) (i : ℕ) (r : Option (Bor X)) → IsItemAt xs i r → map f xs ≡ map g ys
    → option_map (λ b. f b.now) r ≡ option_map g (slice_get ys i)
told_of f g xs ys i r at same =
    sym (twice (λ b. b.now) f r) ∙ ap (option_map f) (sym (read_at xs i r at)) ∙ sym (slice_get-map f xs i) ∙ ap (λ (zs : List _). slice_get zs i) same
    ∙ slice_get-map g ys i

both_ok : {A E : Type 0} {P Q R : A → Type 0} (r : Result A E) → ((a : A) → P a → Q a → R a) → IfOk r P → IfOk r Q → IfOk r R
both_ok (Ok a) h p q = h a p q
both_ok (Err e) h p q = tt

-- a rising set of what a function refers to is all of it in order
pub uses_in_order : {E : Type 0} (r : Result (BTreeSet Ref) E) (own_type : ℕ) (b : BodyOf) → IfOk r (λ s. AreRising s.keys)
    → IfOk r (λ s. AreSame s.keys (refs.Ty own_type ∷ refs_of b.instrs))
    → IfOk r (λ s. (f : Func) → f.ty ≡ own_type → f.body ≡ b → s.keys ≡ uses_of f)
uses_in_order r own_type b =
    both_ok r (λ s rising same f ty body. in_order_is s.keys (refs.Ty own_type ∷ refs_of b.instrs) rising same
    ∙ sym (ap (λ (t : ℕ). in_order (refs.Ty t ∷ refs_of f.body.instrs)) ty ∙ ap (λ (c : BodyOf). in_order (refs.Ty own_type ∷ refs_of c.instrs)) body))

-- so is one of what it refers to after its body moved, by what it refers to before
pub moved_in_order : {E : Type 0} (r : Result (BTreeSet Ref) E) (kind : Moving) (from : ℕ) (before : List Ref) → IfOk r (λ s. AreRising s.keys)
    → IfOk r (λ s. (own_type : ℕ) (t : Instrs) → AreSame before (refs.Ty own_type ∷ refs_of t)
    → AreSame s.keys (refs.Ty own_type ∷ refs_of (shift_instrs kind from t)))
    → IfOk r (λ s. (f : Func) → before ≡ uses_of f → s.keys ≡ uses_of (shifted_func kind from f))
moved_in_order r kind from before =
    both_ok r (λ s rising same f e.
    let was : AreSame before (held f) = subst (λ (ks : List Ref). AreSame ks (held f)) (sym e) (in_order_same (held f)) in
    in_order_is s.keys (held (shifted_func kind from f)) rising (same f.ty f.body.instrs was))
