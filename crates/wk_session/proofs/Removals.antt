-- The first export of a name, taken out and put back.
use Rattle.std.proofs.Common.{◌≡◌, ℕ, suc, ◌+◌, ◌<◌, Bool, true, false, cond, if◌then◌else◌, Option, Some, None, List, [], ◌∷◌, length, refl, ap, ◌∙◌, arith}
use Rattle.std.specs.Prelude.{remove, option_map}
use Rattle.std.specs.List.{position_from}
use Rattle.std.specs.Str.{bytes_eq}
use Rattle.wk_bytes.specs.LebLaws.{some_is}
use Rattle.wk_module.specs.declared.types.Export.{Export}
use Rattle.wk_module.specs.Changes.{without_first}

-- the exports without the one at a place, which stands there where the list starts at index `from`
record IsFound (es : List Export) (from i : ℕ) (o : Option (List Export)) : Type 0 where
  place : ℕ
  at : i ≡ from + place
  within : place < length es
  without : o ≡ Some (remove es place)

abbrev named : List ℕ → Export → Bool
named name e = bytes_eq e.name name

found_by : (e : Export) (es : List Export) (from i : ℕ) (here : Bool) (pos : Option ℕ) (o : Option (List Export))
    → (pos ≡ Some i → IsFound es (from + 1) i o) → cond here (Some from) pos ≡ Some i
    → IsFound (e ∷ es) from i (if here then Some es else option_map (λ rest. e ∷ rest) o)
found_by e es from i true pos o later is =
    let same : Some from ≡ Some i = is in
    record { place = 0; at = omega (arith, some_is from i same); within = omega arith; without = refl }
found_by e es from i false pos o later is =
    let l = later is in
    record {
      place = suc l.place;
      at = omega (arith, l.at);
      within = omega (arith, l.within);
      without = ap (option_map (λ rest. e ∷ rest)) l.without;
    }

found_from : (name : List ℕ) (es : List Export) (from i : ℕ) → position_from (named name) from es ≡ Some i → IsFound es from i (without_first name es)
found_from name [] from i is = absurd cc
found_from name (e ∷ es) from i is =
    found_by e es from i (named name e) (position_from (named name) (from + 1) es) (without_first name es) (λ later. found_from name es (from + 1) i later) is

missing_by : (e : Export) (es : List Export) (from : ℕ) (here : Bool) (pos : Option ℕ) (o : Option (List Export)) → (pos ≡ None → o ≡ None)
    → cond here (Some from) pos ≡ None → (if here then Some es else option_map (λ rest. e ∷ rest) o) ≡ None
missing_by e es from true pos o later is = absurd cc
missing_by e es from false pos o later is = ap (option_map (λ rest. e ∷ rest)) (later is)

missing_from : (name : List ℕ) (es : List Export) (from : ℕ) → position_from (named name) from es ≡ None → without_first name es ≡ None
missing_from name [] from is = refl
missing_from name (e ∷ es) from is =
    missing_by e es from (named name e) (position_from (named name) (from + 1) es) (without_first name es) (λ later. missing_from name es (from + 1) later) is

-- ---- by the place that is found

pub found_within : (name : List ℕ) (es : List Export) (i : ℕ) → position_from (λ e. bytes_eq e.name name) 0 es ≡ Some i → i < length es
found_within name es i is = let f = found_from name es 0 i is in omega (arith, f.at, f.within)

pub without_found : (name : List ℕ) (es : List Export) (i : ℕ) → position_from (λ e. bytes_eq e.name name) 0 es ≡ Some i
    → without_first name es ≡ Some (remove es i)
without_found name es i is =
    let f = found_from name es 0 i is in
    let same : f.place ≡ i = omega (arith, f.at) in
    f.without ∙ ap (λ (k : ℕ). let rest : Option (List Export) = Some (remove es k) in rest) same

pub without_missing : (name : List ℕ) (es : List Export) → position_from (λ e. bytes_eq e.name name) 0 es ≡ None → without_first name es ≡ None
without_missing name es is = missing_from name es 0 is
