-- Exports in order, and the names of those before.
use Rattle.std.proofs.Common.{◌≡◌, ℕ, ◌+◌, ◌<◌, ◌≤◌, Bool, true, false, not, ◌||◌, List, [], ◌∷◌, ◌++◌, length, take, drop, get_or, Option, Some, None, Bor}
use Rattle.std.proofs.Common.{if◌then◌else◌, refl, sym, ap, subst, ◌∙◌}
use Rattle.std.specs.List.{list_any}
use Rattle.std.specs.Str.{bytes_eq}
use Rattle.std.specs.BTreeSet.{insert_key}
use Rattle.std.specs.Cmp.Lexicographic.{slice_cmp}
use Rattle.std.specs.Ordering.{is_eq, nat_cmp, match_ordering}
use Rattle.std.specs.declared.cmp.Ordering.{Ordering}
use Rattle.std.specs.declared.cmp.Ordering.TheVariants.{Less, Equal, Greater}
use Rattle.std.proofs.lemmas.List.{at_drop_more, at_drop_all, take_more}
use Rattle.std.proofs.lemmas.List.Folds.{list_any-append}
use Rattle.std.proofs.lemmas.Map.Text.{is_eq-slice_cmp}
use Rattle.std.proofs.lemmas.Slice.Eq.{bytes_eq-Decides}
use Rattle.wk_module.specs.declared.types.Export.{Export}
use Rattle.wk_typing.specs.declared.fault.FaultKind.TheVariants.{DuplicateExport}
use Rattle.wk_typing.specs.declared.fault.Flaw.{Flaw}
use Rattle.wk_typing.specs.Faults.{fault_at}
use Rattle.wk_check.specs.Flaws.{numbered, first_in}
use Rattle.wk_check.specs.Items.{earlier, flaw, index_flaw, export_flaw}
use Rattle.wk_check.specs.Spaces.{Spaces}

-- ---- the keys of a set of names

abbrev pub Name : Type 0
Name = Bor (List ℕ)

abbrev pub order : Name → Name → Ordering
order x y = slice_cmp nat_cmp x.now y.now

-- a name has these bytes
abbrev pub has_bytes : List ℕ → Name → Bool
has_bytes bs k = is_eq (slice_cmp nat_cmp bs k.now)

pub bytes_eq-sym : (xs ys : List ℕ) → bytes_eq xs ys ≡ bytes_eq ys xs
bytes_eq-sym xs ys = go (bytes_eq xs ys) (bytes_eq ys xs) (λ e. (bytes_eq-Decides ys xs).1 (sym ((bytes_eq-Decides xs ys).0 e)))
    (λ e. (bytes_eq-Decides xs ys).1 (sym ((bytes_eq-Decides ys xs).0 e)))
  where
    go : (a b : Bool) → (a ≡ true → b ≡ true) → (b ≡ true → a ≡ true) → a ≡ b
    go true true f g = refl
    go true false f g = sym (f refl)
    go false true f g = g refl
    go false false f g = refl

-- whose bytes are those of these items
abbrev pub AreNamesOf : {X : Type 0} → (X → List ℕ) → List X → List Name → Type 0
AreNamesOf bytes_of items names = (bs : List ℕ) → list_any (has_bytes bs) names ≡ list_any (λ x. bytes_eq (bytes_of x) bs) items

by_order : (test : Name → Bool) (k x : Name) (xs : List Name) (o : Ordering) → (o ≡ Equal → test x ≡ test k)
    → list_any test (insert_key order xs k) ≡ (test k || list_any test xs)
    → list_any test (match_ordering o (k ∷ x ∷ xs) (x ∷ xs) (x ∷ insert_key order xs k)) ≡ (test k || (test x || list_any test xs))
by_order test k x xs Less same rest = refl
by_order test k x xs Equal same rest = go (test k) (test x) (list_any test xs) (same refl)
  where
    go : (a b c : Bool) → b ≡ a → (b || c) ≡ (a || (b || c))
    go true b c e = ap (λ (v : Bool). v || c) e
    go false b c e = refl
by_order test k x xs Greater same rest = ap (λ (v : Bool). test x || v) rest ∙ go (test x) (test k) (list_any test xs)
  where
    go : (a b c : Bool) → (a || (b || c)) ≡ (b || (a || c))
    go true true c = refl
    go true false c = refl
    go false b c = refl

same_bytes : (xs ys : List ℕ) → slice_cmp nat_cmp xs ys ≡ Equal → xs ≡ ys
same_bytes xs ys e = (bytes_eq-Decides xs ys).0 (sym (is_eq-slice_cmp xs ys) ∙ ap is_eq e)

pub any_inserted : (bs : List ℕ) (k : Name) (names : List Name) → list_any (has_bytes bs) (insert_key order names k)
    ≡ (has_bytes bs k || list_any (has_bytes bs) names)
any_inserted bs k [] = refl
any_inserted bs k (x ∷ xs) =
    by_order (has_bytes bs) k x xs (order k x) (λ e. ap (λ (ys : List ℕ). is_eq (slice_cmp nat_cmp bs ys)) (sym (same_bytes k.now x.now e)))
    (any_inserted bs k xs)

-- the name of the next item is put in
pub named_more : {X : Type 0} (bytes_of : X → List ℕ) (items : List X) (x : X) (names new : List Name) (k : Name) → new ≡ insert_key order names k
    → k.now ≡ bytes_of x → AreNamesOf bytes_of items names → AreNamesOf bytes_of (items ++ x ∷ []) new
named_more {X} bytes_of items x names new k put named known = λ bs.
    ap (list_any (has_bytes bs)) put ∙ any_inserted bs k names
    ∙ go (has_bytes bs k) (bytes_eq (bytes_of x) bs) (list_any (has_bytes bs) names) (list_any (λ (y : X). bytes_eq (bytes_of y) bs) items)
    (is_eq-slice_cmp bs k.now ∙ bytes_eq-sym bs k.now ∙ ap (λ (ys : List ℕ). bytes_eq ys bs) named) (known bs)
    ∙ sym (list_any-append (λ (y : X). bytes_eq (bytes_of y) bs) items (x ∷ []))
  where
    go : (a b c d : Bool) → a ≡ b → c ≡ d → (a || c) ≡ (d || (b || false))
    go true true c true p q = refl
    go true true c false p q = refl
    go false false true true p q = refl
    go false false false false p q = refl
    go true false c d p q = cc
    go false true c d p q = cc
    go false false true false p q = cc
    go false false false true p q = cc

-- whether the name was there, by what the set answers
pub was_there : (answer had : Bool) → answer ≡ not had → answer ≡ false → had ≡ true
was_there answer true e f = refl
was_there answer false e f = sym f ∙ e

pub was_new : (answer had : Bool) → answer ≡ not had → answer ≡ true → had ≡ false
was_new answer false e f = refl
was_new answer true e f = sym f ∙ e

-- ---- what is wrong with an export

-- whose bytes are the names of the exports
abbrev AreNamed : List Name → List Export → Type 0
AreNamed names exports = AreNamesOf (λ (e : Export). e.name) exports names

abbrev pub rule : Spaces → List Export → ℕ → Export → Option Flaw
rule s exports item e = export_flaw s (take item exports) e

-- The exports in front of an index are fine, and their names are known.
pub record InExports (s : Spaces) (exports : List Export) (at : ℕ) (names : List Name) : Type 0 where
  pub walk : first_in 7 at (numbered (rule s exports) at (drop at exports)) ≡ first_in 7 0 (numbered (rule s exports) 0 exports)
  pub known : AreNamed names (take at exports)

pub exports_begin : (s : Spaces) (exports : List Export) (names : List Name) → names ≡ [] → InExports s exports 0 names
exports_begin s exports names e = record { walk = refl; known = λ bs. ap (list_any (has_bytes bs)) e }

pub exports_end : (s : Spaces) (exports : List Export) (at : ℕ) (names : List Name) → length exports ≤ at → InExports s exports at names
    → None ≡ first_in 7 0 (numbered (rule s exports) 0 exports)
exports_end s exports at names past i =
    sym (at_drop_all (λ (es : List Export). first_in 7 at (numbered (rule s exports) at es)) exports at past) ∙ i.walk

-- what comes next
here : (s : Spaces) (exports : List Export) (at : ℕ) (e : Export) → at < length exports → e ≡ get_or exports at e
    → first_in 7 at (numbered (rule s exports) at (drop at exports))
    ≡ first_in 7 at (rule s exports at e ∷ numbered (rule s exports) (at + 1) (drop (at + 1) exports))
here s exports at e inside is =
    at_drop_more (λ (es : List Export). first_in 7 at (numbered (rule s exports) at es)) exports at e inside
    ∙ ap (λ (x : Export). first_in 7 at (rule s exports at x ∷ numbered (rule s exports) (at + 1) (drop (at + 1) exports))) (sym is)

-- the name is that of an export before
abbrev is_taken : List Export → ℕ → Export → Bool
is_taken exports at e = list_any (λ (d : Export). bytes_eq d.name e.name) (take at exports)

abbrev by_name : Bool → Option Flaw
by_name b = if b then flaw DuplicateExport else None

wrong_here : (s : Spaces) (exports : List Export) (at : ℕ) (names : List Name) (e : Export) (w : Flaw) → at < length exports → e ≡ get_or exports at e
    → InExports s exports at names → rule s exports at e ≡ Some w
    → Some (fault_at 7 at w) ≡ first_in 7 0 (numbered (rule s exports) 0 exports)
wrong_here s exports at names e w inside is i wrong =
    sym (ap (λ (o : Option Flaw). first_in 7 at (o ∷ numbered (rule s exports) (at + 1) (drop (at + 1) exports))) wrong)
    ∙ sym (here s exports at e inside is) ∙ i.walk

-- the index is that of nothing
pub index_wrong : (s : Spaces) (exports : List Export) (at : ℕ) (names : List Name) (e : Export) (w : Flaw) → at < length exports
    → e ≡ get_or exports at e → InExports s exports at names → index_flaw s e.kind e.index ≡ Some w
    → Some (fault_at 7 at w) ≡ first_in 7 0 (numbered (rule s exports) 0 exports)
index_wrong s exports at names e w inside is i wrong = wrong_here s exports at names e w inside is i
    (ap (λ (o : Option Flaw). earlier o (by_name (is_taken exports at e))) wrong)

-- what is wrong where the index is fine
by_known : (s : Spaces) (exports : List Export) (at : ℕ) (names : List Name) (e : Export) (k : Name) (b : Bool) → InExports s exports at names
    → index_flaw s e.kind e.index ≡ None → k.now ≡ e.name → list_any (has_bytes k.now) names ≡ b
    → rule s exports at e ≡ by_name b
by_known s exports at names e k b i fine named taken =
    ap (λ (o : Option Flaw). earlier o (by_name (is_taken exports at e))) fine
    ∙ ap by_name (sym (i.known e.name) ∙ ap (λ (bs : List ℕ). list_any (has_bytes bs) names) (sym named) ∙ taken)

-- the name is that of an export before
pub name_wrong : (s : Spaces) (exports : List Export) (at : ℕ) (names : List Name) (e : Export) (k : Name) → at < length exports
    → e ≡ get_or exports at e → InExports s exports at names → index_flaw s e.kind e.index ≡ None → k.now ≡ e.name
    → list_any (has_bytes k.now) names ≡ true → Some (fault_at 7 at (record { kind = DuplicateExport; token = None }))
    ≡ first_in 7 0 (numbered (rule s exports) 0 exports)
name_wrong s exports at names e k inside is i fine named taken =
    wrong_here s exports at names e (record { kind = DuplicateExport; token = None }) inside is i (by_known s exports at names e k true i fine named taken)

-- nothing is wrong, and the name is put in
pub export_fine : (s : Spaces) (exports : List Export) (at : ℕ) (names new : List Name) (e : Export) (k : Name) → at < length exports
    → e ≡ get_or exports at e → InExports s exports at names → index_flaw s e.kind e.index ≡ None → k.now ≡ e.name
    → list_any (has_bytes k.now) names ≡ false → new ≡ insert_key order names k → InExports s exports (at + 1) new
export_fine s exports at names new e k inside is i fine named free put = record {
  walk =
      sym (ap (λ (o : Option Flaw). first_in 7 at (o ∷ numbered (rule s exports) (at + 1) (drop (at + 1) exports)))
      (by_known s exports at names e k false i fine named free))
      ∙ sym (here s exports at e inside is) ∙ i.walk;
  known =
      subst (AreNamed new) (sym (take_more exports at e inside))
      (named_more (λ (x : Export). x.name) (take at exports) (get_or exports at e) names new k put (named ∙ ap (λ (x : Export). x.name) is) i.known);
}
