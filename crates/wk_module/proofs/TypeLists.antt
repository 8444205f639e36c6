-- Function types whose lists lie in one list of value types: they stay where more comes behind them.
use Rattle.std.proofs.Common.{◌≡◌, ℕ, ◌-◌, ◌<◌, ◌≤◌, min, List, [], ◌∷◌, ◌++◌, length, take, drop, get_or, slice_get, slice_range}
use Rattle.std.proofs.Common.{Option, Some, refl, sym, subst, ap, ◌∙◌, arith}
use Rattle.std.proofs.lemmas.List.{length-drop, length-take, map-append, drop-append-le, take-append-le, take-append-drop}
use Rattle.std.proofs.lemmas.List.Elements.{All-get_or, All-from_recursion}
use Rattle.std.proofs.lemmas.Option.{slice_get-map, slice_get_read}
use Rattle.std.specs.Option.{option_map}
use Rattle.std.specs.List.{AllByRecursion}
use Rattle.wk_body.specs.declared.types.ValType.{ValType}
use Rattle.wk_module.specs.declared.type_list.TypeBounds.{TypeBounds}
use Rattle.wk_module.specs.InPlace.{type_within, types_within, AreWithin, AreBetween, ArePacked, AreTypesOf}

-- what lies within a list lies there where more is behind it
slice_stays : {A : Type 0} (xs more : List A) (i j : ℕ) → i ≤ j → j ≤ length xs → slice_range (xs ++ more) i j ≡ slice_range xs i j
slice_stays xs more i j le fits =
    rw (drop-append-le i xs more (omega arith)) (take-append-le (j - i) (drop i xs) more (rw (length-drop i xs) (omega arith)))

-- what stands in front stays there where more comes
pub front_stays : {A : Type 0} (front xs more : List A) → take (length front) xs ≡ front → take (length front) (xs ++ more) ≡ front
front_stays front xs more is =
    let l : min (length front) (length xs) ≡ length front = sym (length-take (length front) xs) ∙ ap length is in
    take-append-le (length front) xs more (omega (arith, l)) ∙ is

-- ---- bounds

packed_rises : (from : ℕ) (bounds : List TypeBounds) (to : ℕ) → ArePacked from bounds to → from ≤ to
packed_rises from [] to packed = omega (arith, packed)
packed_rises from (b ∷ bounds) to packed =
    omega (arith, packed.0.begins, packed.0.params, packed.0.results, packed_rises b.end bounds to packed.1)

-- bounds that are packed lie within as many value types
packed_within : (from : ℕ) (bounds : List TypeBounds) (to : ℕ) → ArePacked from bounds to → AllByRecursion (AreWithin to) bounds
packed_within from [] to packed = tt
packed_within from (b ∷ bounds) to packed =
    (record { params = packed.0.params; results = packed.0.results; fits = packed_rises b.end bounds to packed.1 }, packed_within b.end bounds to packed.1)

-- the bounds at a place of a list
abbrev pub AreAt : List TypeBounds → ℕ → TypeBounds → Type 0
AreAt bounds i b = (i < length bounds) × (b ≡ get_or bounds i b)

pub within_at : (bounds : List TypeBounds) (to i : ℕ) (b : TypeBounds) → ArePacked 0 bounds to → AreAt bounds i b → AreWithin to b
within_at bounds to i b packed at =
    subst (λ (c : TypeBounds). AreWithin to c) (sym at.1)
    (All-get_or (AreWithin to) bounds i b at.0 (All-from_recursion (AreWithin to) bounds (packed_within 0 bounds to packed)))

pub packed_push : (from : ℕ) (bounds : List TypeBounds) (mid to : ℕ) (b : TypeBounds) → ArePacked from bounds mid → AreBetween mid to b
    → ArePacked from (bounds ++ b ∷ []) to
packed_push from [] mid to b packed is =
    (record { begins = is.begins ∙ sym packed; params = is.params; results = is.results; ends = refl }, is.ends)
packed_push from (c ∷ bounds) mid to b packed is = (packed.0, packed_push c.end bounds mid to b packed.1 is)

-- ---- types

module _ (lists more : List ValType) where
  type_stays : (b : TypeBounds) → AreWithin (length lists) b → type_within (lists ++ more) b ≡ type_within lists b
  type_stays b w =
      rw (slice_stays lists more b.start b.results w.params (omega arith), slice_stays lists more b.results b.end w.results w.fits) refl

  types_stay : (bounds : List TypeBounds) → AllByRecursion (AreWithin (length lists)) bounds → types_within (lists ++ more) bounds ≡ types_within lists bounds
  types_stay [] all = refl
  types_stay (b ∷ bounds) all = rw (type_stays b all.0, types_stay bounds all.1) refl

-- the type between the bounds at a place
pub type_at : (lists : List ValType) (bounds : List TypeBounds) (i : ℕ) (b : TypeBounds) → AreAt bounds i b
    → slice_get (types_within lists bounds) i ≡ Some (type_within lists b)
type_at lists bounds i b at =
    slice_get-map (type_within lists) bounds i
    ∙ ap (λ (o : Option TypeBounds). option_map (type_within lists) o) (slice_get_read bounds (length bounds) i b refl at.0 at.1)

-- types stay as they are in front of one more
pub one_more : (lists longer : List ValType) (bounds : List TypeBounds) (b : TypeBounds) → take (length lists) longer ≡ lists → AreTypesOf lists bounds
    → types_within longer (bounds ++ b ∷ []) ≡ types_within lists bounds ++ type_within longer b ∷ []
one_more lists longer bounds b stays packed =
    let split : lists ++ drop (length lists) longer ≡ longer =
    subst (λ (front : List ValType). front ++ drop (length lists) longer ≡ longer) stays (take-append-drop (length lists) longer) in
    let kept : types_within longer bounds ≡ types_within lists bounds =
    subst (λ (l : List ValType). types_within l bounds ≡ types_within lists bounds) split
    (types_stay lists (drop (length lists) longer) bounds (packed_within 0 bounds (length lists) packed)) in
    rw (map-append (type_within longer) bounds (b ∷ []), kept) refl
