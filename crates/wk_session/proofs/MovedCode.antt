-- What an import moves of code entries.
use Rattle.std.proofs.Common.{◌≡◌, ℕ, ◌+◌, ◌<◌, Bool, true, false, cond, ◌||◌, List, [], ◌∷◌, ◌++◌, length, map, take, drop, get_or, count_by, Option, Some}
use Rattle.std.proofs.Common.{unwrap_or, Global, refl, ap, sym, subst, ◌∙◌, arith, length-append}
use Rattle.std.specs.Prelude.{option_map, is_some, IfOk, Result, Ok, Err}
use Rattle.std.specs.declared.collections.BTreeSet.{BTreeSet}
use Rattle.std.specs.List.{list_any}
use Rattle.std.proofs.lemmas.List.{take_more, drop_more, map_push, length-map, length-take-le, get_or_at}
use Rattle.std.proofs.lemmas.List.Sums.{sum_by-append}
use Rattle.wk_body.specs.declared.renumber.Moving.{Moving}
use Rattle.wk_body.specs.declared.renumber.Moving.TheVariants as moving
use Rattle.wk_body.specs.declared.renumber.Movement.{Movement}
use Rattle.wk_body.specs.declared.references.Ref.{Ref}
use Rattle.wk_body.specs.Moves.{MoveAlike}
use Rattle.wk_body.specs.References.{refs_of, any_stuck, AreSame}
use Rattle.wk_module.specs.declared.types.Func.{Func}
use Rattle.wk_module.specs.declared.types.Kind.{Kind}
use Rattle.wk_module.specs.declared.types.Kind.TheVariants as kinds
use Rattle.wk_module.specs.Moving.{moved_func, is_code_moving, is_code_stuck}
use Rattle.wk_list.specs.UsesLaws.{in_order_same}
use Rattle.wk_pieces.specs.Overlays.{with_items}
use Rattle.wk_pieces.specs.Pieces.{code_of}
use Rattle.wk_pieces.proofs.Replacing.{with_items_push}
use Rattle.wk_session.specs.declared.edits.renumber.MovedEntry.{MovedEntry}
use Rattle.wk_session.specs.declared.edits.renumber.MovedEntries.{MovedEntries}
use Rattle.wk_session.specs.Dependents.{held, one_if}
use Rattle.wk_session.specs.Kept.{uses_of}
use Rattle.wk_session.specs.MovedEntries.{uses_movement, IsMovedEntry, AreMovedEntries}

-- ---- sets

-- what moves of a function's code
abbrev code_movement : Kind → ℕ → Func → Movement
code_movement kind from f = record { moves = is_code_moving kind from f.body.instrs; stuck = is_code_stuck kind from f.body.instrs }

-- of what a function refers to, its own type too, there moves what moves of its code
pub uses_as_code : MoveAlike → (kind : Kind) (from : ℕ) (f : Func) (keys : List Ref) → keys ≡ uses_of f
    → uses_movement kind from keys ≡ code_movement kind from f
uses_as_code alike kinds.Func from f keys e = alike moving.Func from keys (refs_of f.body.instrs) f.ty
    (subst (λ (ks : List Ref). AreSame ks (held f)) (sym e) (in_order_same (held f)))
uses_as_code alike kinds.Global from f keys e = alike moving.Global from keys (refs_of f.body.instrs) f.ty
    (subst (λ (ks : List Ref). AreSame ks (held f)) (sym e) (in_order_same (held f)))
uses_as_code alike kinds.Table from f keys e = refl
uses_as_code alike kinds.Memory from f keys e = refl

-- nor is more of it stuck
pub uses_free : MoveAlike → (kind : Moving) (from : ℕ) (f : Func) (keys : List Ref) → keys ≡ uses_of f
    → any_stuck kind from (refs_of f.body.instrs) ≡ false → any_stuck kind from keys ≡ false
uses_free alike kind from f keys e free =
    ap (λ (m : Movement). m.stuck)
    (alike kind from keys (refs_of f.body.instrs) f.ty (subst (λ (ks : List Ref). AreSame ks (held f)) (sym e) (in_order_same (held f)))) ∙ free

-- the place that a loop over functions comes to is as it was
pub next_func : (change : Func → Func) (fs now : List Func) (i : ℕ) (f : Func) → i < length fs → now ≡ map change (take i fs) ++ drop i fs
    → f ≡ get_or now i f → f ≡ get_or fs i f
next_func change fs now i f lt is at =
    at ∙ ap (λ (gs : List Func). get_or gs i f) (is ∙ ap (λ (gs : List Func). map change (take i fs) ++ gs) (drop_more fs i f lt))
    ∙ get_or_at (map change (take i fs)) (get_or fs i f) (drop (i + 1) fs) f i (length-map (take i fs) change ∙ length-take-le i fs (omega (arith, lt)))

module _ {A B C : Type 0} (f : A → C) (g : B → C) (p : C → Bool) (q : B → Bool) (same : (y : B) → p (g y) ≡ q y) where
  -- two lists of which the same is told, and a test that is told too
  pub any_told : (xs : List A) (ys : List B) → map f xs ≡ map g ys → list_any (λ x. p (f x)) xs ≡ list_any q ys
  any_told [] [] e = refl
  any_told [] (y ∷ ys) e = absurd cc
  any_told (x ∷ xs) [] e = absurd cc
  any_told (x ∷ xs) (y ∷ ys) e =
      let first : f x ≡ g y = cc in
      let rest : map f xs ≡ map g ys = cc in
      ap (λ (b : Bool). b || list_any (λ x. p (f x)) xs) (ap p first ∙ same y) ∙ ap (λ (b : Bool). q y || b) (any_told xs ys rest)

-- ---- one entry

abbrev pub set_keys : BTreeSet Ref Global → List Ref
set_keys s = s.keys

-- what is kept of an entry that moves
pub shifted_is : {E : Type 0} (kind : Kind) (from : ℕ) (f g : Func) (r : Result MovedEntry E) → moved_func kind from f ≡ g
    → is_code_moving kind from f.body.instrs ≡ true
    → IfOk r (λ e. option_map set_keys e.refs ≡ Some (uses_of g)) → IfOk r (λ e. e.code ≡ Some (code_of g)) → IfOk r (IsMovedEntry kind from f)
shifted_is kind from f g (Ok e) is moves refs code = record {
  refs = ap (λ (o : Option (List Ref)). unwrap_or o (uses_of f)) refs ∙ ap uses_of (sym is);
  code = ap (λ (o : Option (List ℕ)). unwrap_or o (code_of f)) code ∙ ap code_of (sym is);
  moves = ap is_some code ∙ sym moves;
}
shifted_is kind from f g (Err x) is moves refs code = tt

-- ---- one entry more

one_cond : (b : Bool) → one_if b ≡ cond {A = ℕ} b 1 0
one_cond true = refl
one_cond false = refl

count_push : {A : Type 0} (p : A → Bool) (xs : List A) (x : A) → count_by p (xs ++ x ∷ []) ≡ count_by p xs + one_if (p x)
count_push p xs x =
    let one : count_by p (x ∷ []) ≡ cond {A = ℕ} (p x) 1 0 = omega arith in
    sum_by-append (λ y. cond (p y) 1 0) xs (x ∷ []) ∙ ap (λ (n : ℕ). count_by p xs + n) (one ∙ sym (one_cond (p x)))

module _ {A B : Type 0} (part : A → B) (change : A → A) where
  -- part is what is kept of each, and change what becomes of it
  part_push : (xs : List A) (x : A) (ns : List (Option B)) (n : Option B) → length ns ≡ length xs → unwrap_or n (part x) ≡ part (change x)
      → with_items (map part xs) ns ≡ map part (map change xs) → with_items (map part (xs ++ x ∷ [])) (ns ++ n ∷ []) ≡ map part (map change (xs ++ x ∷ []))
  part_push xs x ns n count is all =
      let aligned : length ns ≡ length (map part xs) = count ∙ sym (length-map xs part) in
      ap (λ (ys : List B). with_items ys (ns ++ n ∷ [])) (map_push part xs x)
      ∙ with_items_push (map part xs) ns (part x) n aligned
      ∙ ap (λ (y : B). with_items (map part xs) ns ++ y ∷ []) is
      ∙ ap (λ (ys : List B). ys ++ part (change x) ∷ []) all
      ∙ sym (map_push part (map change xs) (change x))
      ∙ ap (map part) (sym (map_push change xs x))

module _ (kind : Kind) (from : ℕ) where
  abbrev shifted : Func → Func
  shifted f = moved_func kind from f

  abbrev is_moving : Func → Bool
  is_moving f = is_code_moving kind from f.body.instrs

  entries_push : (xs : List Func) (f : Func) (e n : MovedEntries) (m : MovedEntry)
      → n.refs.items ≡ e.refs.items ++ m.refs ∷ [] → n.codes.items ≡ e.codes.items ++ m.code ∷ []
      → n.encoded ≡ e.encoded + one_if (is_moving f) → IsMovedEntry kind from f m → AreMovedEntries kind from xs e → AreMovedEntries kind from (xs ++ f ∷ []) n
  entries_push xs f e n m refs codes encoded is all = record {
    refs =
        ap (λ (sets : List (Option (BTreeSet Ref Global))). with_items (map uses_of (xs ++ f ∷ [])) (map (option_map set_keys) sets)) refs
        ∙ ap (with_items (map uses_of (xs ++ f ∷ []))) (map_push (option_map set_keys) e.refs.items m.refs)
        ∙ part_push uses_of shifted xs f (map (option_map set_keys) e.refs.items) (option_map set_keys m.refs)
        (length-map e.refs.items (option_map set_keys) ∙ all.ref_count) is.refs all.refs;
    codes = ap (with_items (map code_of (xs ++ f ∷ []))) codes ∙ part_push code_of shifted xs f e.codes.items m.code all.code_count is.code all.codes;
    encoded = encoded ∙ ap (λ (k : ℕ). k + one_if (is_moving f)) all.encoded ∙ sym (count_push is_moving xs f);
    ref_count = omega (arith, all.ref_count, ap length refs, length-append e.refs.items (m.refs ∷ []), length-append xs (f ∷ []));
    code_count = omega (arith, all.code_count, ap length codes, length-append e.codes.items (m.code ∷ []), length-append xs (f ∷ []));
    moves =
        ap (λ (cs : List (Option (List ℕ))). map is_some cs) codes
        ∙ map_push is_some e.codes.items m.code
        ∙ ap (λ (bs : List Bool). bs ++ is_some m.code ∷ []) all.moves
        ∙ ap (λ (b : Bool). map is_moving xs ++ b ∷ []) is.moves
        ∙ sym (map_push is_moving xs f);
  }

  pub entries_more : (fs : List Func) (i : ℕ) (f : Func) (e n : MovedEntries) (m : MovedEntry) → i < length fs → f ≡ get_or fs i f
      → n.refs.items ≡ e.refs.items ++ m.refs ∷ [] → n.codes.items ≡ e.codes.items ++ m.code ∷ []
      → n.encoded ≡ e.encoded + one_if (is_moving f) → IsMovedEntry kind from f m → AreMovedEntries kind from (take i fs) e
      → AreMovedEntries kind from (take (i + 1) fs) n
  entries_more fs i f e n m within at refs codes encoded is all =
      let more : take (i + 1) fs ≡ take i fs ++ f ∷ [] = take_more fs i f within ∙ ap (λ (y : Func). take i fs ++ y ∷ []) (sym at) in
      subst (λ (xs : List Func). AreMovedEntries kind from xs n) (sym more) (entries_push (take i fs) f e n m refs codes encoded is all)
