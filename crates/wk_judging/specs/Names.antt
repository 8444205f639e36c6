-- The names of exports that came before.
use Rattle.std.specs.Prelude.{◌≡◌, ℕ, Bool, List, [], ◌∷◌}
use Rattle.std.specs.Borrow.{Bor}
use Rattle.std.specs.List.{list_any}
use Rattle.std.specs.Str.{bytes_eq}
use Rattle.wk_judging.specs.declared.names.Names.{Names}

-- one of these names has the bytes
abbrev pub has_name : List (List ℕ) → List ℕ → Bool
has_name names bs = list_any (λ n. bytes_eq n bs) names

-- the same, of names that are lent
abbrev pub has_lent : List (Bor (List ℕ)) → List ℕ → Bool
has_lent names bs = list_any (λ n. bytes_eq n.now bs) names

-- where a name is sought: among the few, or in the set as soon as it has any
abbrev pub searched : List (Bor (List ℕ)) → List (Bor (List ℕ)) → List (Bor (List ℕ))
searched few [] = few
searched few (name ∷ names) = name ∷ names

-- The names that came before are these. It is a record so that a search hands it on as one fact.
pub record AreKnown (n : Names) (names : List (List ℕ)) : Type 0 where
  pub known : (bs : List ℕ) → has_lent (searched n.few.items n.many.keys) bs ≡ has_name names bs
