-- Names that came before, which all stand among a few or all lie in a set.
use Rattle.std.proofs.Common.{◌≡◌, ℕ, ◌≢◌, true, false, ◌||◌, List, [], ◌∷◌, ◌++◌, length, Result, Ok, Err, refl, sym, ap, ◌∙◌}
use Rattle.std.specs.List.{list_any}
use Rattle.std.specs.Result.{is_ok, OnOk, OnErr}
use Rattle.std.specs.Str.{bytes_eq}
use Rattle.std.specs.BTreeSet.{insert_key}
use Rattle.std.specs.Ordering.{eq_by_cmp}
use Rattle.std.specs.Set as set
use Rattle.std.proofs.lemmas.List.{nil_from_length}
use Rattle.std.proofs.lemmas.List.Folds.{list_any-append}
use Rattle.std.proofs.lemmas.Map.Text.{is_eq-slice_cmp}
use Rattle.wk_judging.specs.Names.{has_name, has_lent, searched}
use Rattle.wk_check.proofs.ExportNames.{Name, order, has_bytes, AreNamesOf, named_more, bytes_eq-sym}

-- ---- what is so where a call succeeds, or is refused

pub on_ok : {T E : Type 0} (r : Result T E) (P : Type 0) → is_ok r ≡ true → OnOk r P → P
on_ok (Ok x) P is given = given
on_ok (Err e) P is given = absurd cc

pub on_err : {T E : Type 0} (r : Result T E) (P : Type 0) → is_ok r ≡ false → OnErr r P → P
on_err (Ok x) P is given = absurd cc
on_err (Err e) P is given = given

-- ---- names that are lent

-- as the set compares them
as_lent : (names : List Name) (bs : List ℕ) → list_any (has_bytes bs) names ≡ has_lent names bs
as_lent [] bs = refl
as_lent (k ∷ names) bs =
    ap (λ v. v || list_any (has_bytes bs) names) (is_eq-slice_cmp bs k.now ∙ bytes_eq-sym bs k.now) ∙ ap (λ v. bytes_eq k.now bs || v) (as_lent names bs)

-- where they are sought, by how many the set has
by_few : (few many : List Name) → length many ≡ 0 → searched few many ≡ few
by_few few many none = rw (nil_from_length many none) refl

by_set : (few many : List Name) → length many ≢ 0 → searched few many ≡ many
by_set few [] some = absurd (some refl)
by_set few (k ∷ many) some = refl

-- ---- what is known of these names

-- the names that came before are these
abbrev AreThese : List Name → List (List ℕ) → Type 0
AreThese names before = (bs : List ℕ) → has_lent names bs ≡ has_name before bs

-- the same, as the set compares them
abbrev pub InSet : List Name → List (List ℕ) → Type 0
InSet names before = AreNamesOf (λ (bs : List ℕ). bs) before names

-- the set got the few
abbrev pub AreMoved : List Name → List Name → List Name → Type 0
AreMoved few many all = set.IsUnion (eq_by_cmp order) many few all

module _ (few many : List Name) (before : List (List ℕ)) (known : AreThese (searched few many) before) where
  pub all_few : length many ≡ 0 → AreThese few before
  all_few none bs = ap (λ ks. has_lent ks bs) (sym (by_few few many none)) ∙ known bs

  pub all_in_set : length many ≢ 0 → InSet many before
  all_in_set some bs = as_lent many bs ∙ ap (λ ks. has_lent ks bs) (sym (by_set few many some)) ∙ known bs

  pub all_moved : (all : List Name) → length many ≡ 0 → AreMoved few many all → InSet all before
  all_moved all none moved bs =
      moved (record { ref_ptr = (0, 0); now = bs }) ∙ ap (λ ks. list_any (has_bytes bs) ks || list_any (has_bytes bs) few) (nil_from_length many none)
      ∙ as_lent few bs ∙ all_few none bs

module _ (few many : List Name) (before : List (List ℕ)) (k : Name) (more : List Name) where
  -- a name comes to the few
  pub few_more : more ≡ few ++ k ∷ [] → length many ≡ 0 → AreThese few before → AreThese (searched more many) (before ++ k.now ∷ [])
  few_more is none these bs =
      ap (λ ks. has_lent ks bs) (by_few more many none ∙ is) ∙ list_any-append (λ (n : Name). bytes_eq n.now bs) few (k ∷ [])
      ∙ ap (λ v. v || (bytes_eq k.now bs || false)) (these bs) ∙ sym (list_any-append (λ (n : List ℕ). bytes_eq n bs) before (k.now ∷ []))

  -- or to the set
  pub set_more : more ≡ insert_key order many k → length more ≢ 0 → InSet many before → AreThese (searched few more) (before ++ k.now ∷ [])
  set_more is some these bs =
      ap (λ ks. has_lent ks bs) (by_set few more some) ∙ sym (as_lent more bs)
      ∙ named_more (λ (bs : List ℕ). bs) before k.now many more k is refl these bs
