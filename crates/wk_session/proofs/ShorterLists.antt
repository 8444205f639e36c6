-- The contents of a list without one of its items, by those of the list with it.
use Rattle.std.proofs.Common.{◌≡◌, ℕ, suc, ◌+◌, ◌-◌, ◌<◌, ◌≤◌, inl, inr, Bool, if◌then◌else◌, List, [], ◌∷◌, ◌++◌, get_or, length, take, drop, set, refl, sym}
use Rattle.std.proofs.Common.{ap, ◌∙◌, arith, length-append}
use Rattle.std.proofs.Math.Seq.{drop-append_seam}
use Rattle.std.proofs.lemmas.Bool.{cases_eq, eq-eqb, ne_eqb}
use Rattle.std.proofs.lemmas.List.{drop-drop, take-append-drop}
use Rattle.std.proofs.lemmas.List.Concat.{flat_map-append}
use Rattle.std.proofs.lemmas.List.Edits.{length-remove}
use Rattle.std.specs.List.{flat_map}
use Rattle.std.specs.Prelude.{remove}
use Rattle.wk_bytes.specs.Short.{short}
use Rattle.wk_module.specs.declared.types.Parts.{Parts}
use Rattle.wk_module.specs.Items.{written_export}
use Rattle.wk_module.specs.Writing.{list_contents}
use Rattle.wk_pieces.specs.Pieces.{section_pieces}
use Rattle.wk_pieces.specs.Shorter.{cut, without_item}
use Rattle.wk_pieces.proofs.Gaps.{cut_at}
use Rattle.wk_pieces.proofs.Replacing.{empty_list}

module _ {A : Type 0} (written : A → List ℕ) where
  -- what stands before an item, and it
  abbrev pub before : ℕ → List A → List ℕ
  before i xs = flat_map written (take i xs)

  abbrev pub itself : ℕ → List A → List ℕ
  itself i xs = flat_map written (take 1 (drop i xs))

  abbrev behind : ℕ → List A → List ℕ
  behind i xs = flat_map written (drop (i + 1) xs)

  parted : (xs : List A) (i : ℕ) → i < length xs → flat_map written xs ≡ before i xs ++ (itself i xs ++ behind i xs)
  parted xs i within =
      ap (flat_map written) (sym (take-append-drop i xs))
      ∙ flat_map-append written (take i xs) (drop i xs)
      ∙ ap (λ (ys : List A). before i xs ++ flat_map written ys) (sym (take-append-drop 1 (drop i xs)))
      ∙ ap (λ (bytes : List ℕ). before i xs ++ bytes) (flat_map-append written (take 1 (drop i xs)) (drop 1 (drop i xs)))
      ∙ ap (λ (ys : List A). before i xs ++ (itself i xs ++ flat_map written ys)) (drop-drop 1 i xs)

  items_are : (xs : List A) (i : ℕ) → i < length xs → cut (length (before i xs)) (length (itself i xs)) (flat_map written xs) ≡ flat_map written (remove xs i)
  items_are xs i within =
      ap (λ (bytes : List ℕ). cut (length (before i xs)) (length (itself i xs)) bytes) (parted xs i within)
      ∙ cut_at (before i xs) (itself i xs) (behind i xs)
      ∙ sym (flat_map-append written (take i xs) (drop (i + 1) xs))
      ∙ ap (λ (n : ℕ). flat_map written (take i xs ++ drop n xs)) next
    where
      next : i + 1 ≡ suc i
      next = omega arith

  some_contents : (xs : List A) → 0 < length xs → list_contents written xs ≡ short (length xs) ++ flat_map written xs
  some_contents [] some = absurd (omega arith)
  some_contents (x ∷ xs) some = refl

  -- what stands behind the count
  items_behind : (xs : List A) → 0 < length xs → drop (length (short (length xs))) (list_contents written xs) ≡ flat_map written xs
  items_behind xs some =
      ap (drop (length (short (length xs)))) (some_contents xs some) ∙ drop-append_seam (short (length xs)) (flat_map written xs)

  shorter_is : (xs : List A) (i : ℕ) → i < length xs → without_item (list_contents written xs) (length xs) (length (before i xs)) (length (itself i xs))
      ≡ list_contents written (remove xs i)
  shorter_is xs i within =
      let rest = remove xs i in
      let none : List ℕ = [] in
      let less = length-remove xs i within in
      let items : List ℕ = cut (length (before i xs)) (length (itself i xs)) (drop (length (short (length xs))) (list_contents written xs)) in
      elim (cases_eq (length xs) 1) [
        | inl one ↦
            ap (λ (b : Bool). if b then none else short (length xs - 1) ++ items) (eq-eqb (length xs) 1 one)
            ∙ ap (list_contents written) (sym (empty_list rest (omega (arith, less, one))))
        | inr more ↦
            let count : length xs - 1 ≡ length rest = omega (arith, less) in
            ap (λ (b : Bool). if b then none else short (length xs - 1) ++ items) (ne_eqb (length xs) 1 more)
            ∙ ap (λ (n : ℕ). short n ++ items) count
            ∙ ap (λ (bytes : List ℕ). short (length rest) ++ cut (length (before i xs)) (length (itself i xs)) bytes) (items_behind xs (omega (arith, within)))
            ∙ ap (λ (bytes : List ℕ). short (length rest) ++ bytes) (items_are xs i within)
            ∙ sym (some_contents rest (omega (arith, less, more, within)))
      ]

  pub span_inside : (xs : List A) (i : ℕ) → i < length xs → length (before i xs) + length (itself i xs) ≤ length (flat_map written xs)
  span_inside xs i within =
      omega (arith, ap length (parted xs i within), length-append (before i xs) (itself i xs ++ behind i xs), length-append (itself i xs) (behind i xs))

  -- it stands in the contents
  pub span_within : (xs : List A) (i : ℕ) → i < length xs → length (short (length xs)) + length (before i xs) + length (itself i xs)
      ≤ length (list_contents written xs)
  span_within xs i within =
      omega (
        arith,
        ap length (some_contents xs (omega (arith, within))),
        length-append (short (length xs)) (flat_map written xs),
        ap length (parted xs i within),
        length-append (before i xs) (itself i xs ++ behind i xs),
        length-append (itself i xs) (behind i xs),
      )

  pub items_within : (xs : List A) → length (flat_map written xs) ≤ length (list_contents written xs)
  items_within [] = omega arith
  items_within (x ∷ xs) =
      omega (arith, length-append (short (length (x ∷ xs))) (flat_map written (x ∷ xs)))

-- ---- of a module

pub export_shorter : (i : ℕ) (m : Parts) (pieces : List (List ℕ)) → pieces ≡ section_pieces m → i < length m.exports
    → set pieces 7 (without_item (get_or pieces 7 []) (length m.exports) (length (before written_export i m.exports))
    (length (itself written_export i m.exports))) ≡ section_pieces (record m { exports = remove m.exports i })
export_shorter i m pieces is within =
    ap (λ (ps : List (List ℕ)). set ps 7
    (without_item (get_or ps 7 []) (length m.exports) (length (before written_export i m.exports)) (length (itself written_export i m.exports)))) is
    ∙ ap (λ (bytes : List ℕ). set (section_pieces m) 7 bytes) (shorter_is written_export m.exports i within)
