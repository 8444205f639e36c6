-- Sections in which nothing is wrong, or nothing but with one item.
use Rattle.std.proofs.Common.{◌≡◌, ℕ, zero, suc, ◌+◌, List, [], ◌∷◌, ◌++◌, length, map, take, Option, Some, None, refl, sym, ap, subst, ◌∙◌, add-zero, arith}
use Rattle.std.proofs.Common.{length-append}
use Rattle.std.proofs.Math.Seq.{take-append_seam}
use Rattle.std.proofs.lemmas.List.{append-nil, append_assoc, map-id}
use Rattle.std.specs.Prelude.{remove}
use Rattle.std.specs.List.{AllByRecursion}
use Rattle.wk_typing.specs.declared.fault.Flaw.{Flaw}
use Rattle.wk_typing.specs.declared.fault.Fault.{Fault}
use Rattle.wk_check.specs.Flaws.{numbered, first_in, first_fault, AreFine}
use Rattle.wk_check.specs.Items.{earlier}

-- ---- the first flaw of sections

pub none_in : (section item : ℕ) (ws : List (Option Flaw)) → AreFine ws → first_in section item ws ≡ None
none_in section item [] fine = refl
none_in section item (None ∷ ws) fine = none_in section (item + 1) ws fine.1
none_in section item (Some w ∷ ws) fine = let e : Some w ≡ None = fine.0 in absurd cc

pub none_from : (section : ℕ) (wss : List (List (Option Flaw))) → AllByRecursion AreFine wss → first_fault section wss ≡ None
none_from section [] fine = refl
none_from section (ws ∷ wss) fine = rw (none_in section 0 ws fine.0) (none_from (section + 1) wss fine.1)

-- where nothing is wrong with the sections in front
pub first_behind : (section : ℕ) (front back : List (List (Option Flaw))) → AllByRecursion AreFine front
    → first_fault section (front ++ back) ≡ first_fault (section + length front) back
first_behind section [] back fine = rw add-zero refl
first_behind section (ws ∷ front) back fine =
    let next : section + 1 + length front ≡ section + suc (length front) = omega arith in
    rw (none_in section 0 ws fine.0) (first_behind (section + 1) front back fine.1 ∙ ap (λ n. first_fault n back) next)

-- nor with those behind
pub first_alone : (section : ℕ) (ws : List (Option Flaw)) (back : List (List (Option Flaw))) → AllByRecursion AreFine back
    → first_fault section (ws ∷ back) ≡ first_in section 0 ws
first_alone section ws back fine = ap (earlier (first_in section 0 ws)) (none_from (section + 1) back fine) ∙ end (first_in section 0 ws)
  where
    end : (a : Option Fault) → earlier a None ≡ a
    end None = refl
    end (Some x) = refl

-- one item more
pub first_last : (section item : ℕ) (ws : List (Option Flaw)) (w : Option Flaw) → AreFine ws
    → first_in section item (ws ++ w ∷ []) ≡ first_in section (item + length ws) (w ∷ [])
first_last section item [] w fine = rw add-zero refl
first_last section item (None ∷ ws) w fine =
    let next : item + 1 + length ws ≡ item + suc (length ws) = omega arith in
    first_last section (item + 1) ws w fine.1 ∙ ap (λ n. first_in section n (w ∷ [])) next
first_last section item (Some v ∷ ws) w fine = let e : Some v ≡ None = fine.0 in absurd cc

-- ---- the flaws of one section by a rule

pub length-numbered : {X : Type 0} (rule : ℕ → X → Option Flaw) (item : ℕ) (xs : List X) → length (numbered rule item xs) ≡ length xs
length-numbered rule item [] = refl
length-numbered rule item (x ∷ xs) = ap suc (length-numbered rule (item + 1) xs)

pub numbered_push : {X : Type 0} (rule : ℕ → X → Option Flaw) (item : ℕ) (xs : List X) (x : X)
    → numbered rule item (xs ++ x ∷ []) ≡ numbered rule item xs ++ rule (item + length xs) x ∷ []
numbered_push rule item [] x = rw add-zero refl
numbered_push rule item (y ∷ xs) x =
    let next : item + 1 + length xs ≡ item + suc (length xs) = omega arith in
    ap (λ ws. rule item y ∷ ws) (numbered_push rule (item + 1) xs x ∙ ap (λ n. numbered rule (item + 1) xs ++ rule n x ∷ []) next)

-- other items by another rule that finds nothing where the first found nothing
pub fine_map : {X : Type 0} (rule rule' : ℕ → X → Option Flaw) (h : X → X) → ((item : ℕ) (x : X) → rule item x ≡ None → rule' item (h x) ≡ None)
    → (item : ℕ) (xs : List X) → AreFine (numbered rule item xs) → AreFine (numbered rule' item (map h xs))
fine_map rule rule' h each item [] fine = tt
fine_map rule rule' h each item (x ∷ xs) fine = (each item x fine.0, fine_map rule rule' h each (item + 1) xs fine.1)

-- the same items
pub still_fine : {X : Type 0} (rule rule' : ℕ → X → Option Flaw) → ((item : ℕ) (x : X) → rule item x ≡ None → rule' item x ≡ None)
    → (item : ℕ) (xs : List X) → AreFine (numbered rule item xs) → AreFine (numbered rule' item xs)
still_fine rule rule' each item xs fine =
    subst (λ ys. AreFine (numbered rule' item ys)) (map-id xs) (fine_map rule rule' (λ x. x) each item xs fine)

-- ---- by a rule that looks at the items before

module _ {X : Type 0} (rule : List X → X → Option Flaw) where
  -- what it finds at each item, where these come before
  abbrev pub behind : List X → List X → List (Option Flaw)
  behind before [] = []
  behind before (x ∷ xs) = rule before x ∷ behind (before ++ x ∷ []) xs

  pub numbered_behind : (before xs all : List X) → all ≡ before ++ xs → numbered (λ item x. rule (take item all) x) (length before) xs ≡ behind before xs
  numbered_behind before [] all is = refl
  numbered_behind before (x ∷ xs) all is =
      let here : take (length before) all ≡ before = ap (take (length before)) is ∙ take-append_seam before (x ∷ xs) in
      let next : length before + 1 ≡ length (before ++ x ∷ []) = sym (length-append before (x ∷ [])) in
      ap (λ ys. rule ys x ∷ numbered (λ item y. rule (take item all) y) (length before + 1) xs) here
      ∙ ap (λ ws. rule before x ∷ ws)
      (ap (λ n. numbered (λ item y. rule (take item all) y) n xs) next
      ∙ numbered_behind (before ++ x ∷ []) xs all (is ∙ sym (append_assoc before (x ∷ []) xs)))

  pub behind_push : (before xs : List X) (x : X) → behind before (xs ++ x ∷ []) ≡ behind before xs ++ rule (before ++ xs) x ∷ []
  behind_push before [] x = ap (λ ys. rule ys x ∷ []) (sym (append-nil before))
  behind_push before (y ∷ xs) x =
      ap (λ ws. rule before y ∷ ws)
      (behind_push (before ++ y ∷ []) xs x ∙ ap (λ ys. behind (before ++ y ∷ []) xs ++ rule ys x ∷ []) (append_assoc before (y ∷ []) xs))

  pub length-behind : (before xs : List X) → length (behind before xs) ≡ length xs
  length-behind before [] = refl
  length-behind before (x ∷ xs) = ap suc (length-behind (before ++ x ∷ []) xs)

  -- which finds nothing where fewer come before
  module _ (less : (front : List X) (y : X) (back : List X) (x : X) → rule (front ++ y ∷ back) x ≡ None → rule (front ++ back) x ≡ None) where
    fewer_before : (front : List X) (y : X) (back xs : List X) → AreFine (behind (front ++ y ∷ back) xs) → AreFine (behind (front ++ back) xs)
    fewer_before front y back [] fine = tt
    fewer_before front y back (x ∷ xs) fine =
        let rest : AreFine (behind (front ++ y ∷ (back ++ x ∷ [])) xs) = rw (append_assoc front (y ∷ back) (x ∷ [])) at fine.1 in
        (less front y back x fine.0, rw (append_assoc front back (x ∷ [])) (fewer_before front y (back ++ x ∷ []) xs rest))

    pub without_one : (before xs : List X) (place : ℕ) → AreFine (behind before xs) → AreFine (behind before (remove xs place))
    without_one before [] zero fine = tt
    without_one before [] (suc place) fine = tt
    without_one before (x ∷ xs) zero fine =
        let rest : AreFine (behind (before ++ []) xs) = fewer_before before x [] xs fine.1 in
        rw (append-nil before) at rest
    without_one before (x ∷ xs) (suc place) fine = (fine.0, without_one (before ++ x ∷ []) xs place fine.1)
