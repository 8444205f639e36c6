-- Locals by groups: where each group ends.
use Rattle.std.specs.Prelude.{◌≡◌, ℕ, ◌+◌, ◌^◌, Bool, nat_lt, List, [], ◌∷◌, drop}
use Rattle.wk_body.specs.declared.types.ValType.{ValType}
use Rattle.wk_body.specs.declared.types.LocalGroup.{LocalGroup}
use Rattle.wk_typing.specs.Effects.{local_type}

-- types one by one, of the parameters or of more of the first locals, and the groups of locals behind them
pub record LocalsOf : Type 0 where
  pub params : List ValType
  pub groups : List LocalGroup

-- behind the locals of each group, from a number of locals before them on
abbrev pub ends_from : ℕ → List LocalGroup → List ℕ
ends_from n [] = []
ends_from n (g ∷ gs) = (n + g.count) ∷ ends_from (n + g.count) gs

-- the locals of these types, with the groups from an index on behind them, are those of the parameters with all groups behind them
abbrev pub AreFirst : List ValType → List LocalGroup → ℕ → List ValType → Type 0
AreFirst params groups at first = (x : ℕ) → local_type first (drop at groups) x ≡ local_type params groups x

-- a power of two is above a number
abbrev pub is_over : ℕ → ℕ → Bool
is_over n exponent = nat_lt n (2 ^ exponent)
