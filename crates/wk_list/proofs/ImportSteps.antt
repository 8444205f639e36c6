-- The lines of imports, one after the other.
use Rattle.std.proofs.Common.{◌≡◌, ℕ, ◌+◌, ◌<◌, List, [], ◌∷◌, ◌++◌, length, get_or, take, drop, sym, ap, ◌∙◌, arith, append_assoc}
use Rattle.std.proofs.lemmas.List.{at_drop_more, take_more, length-take-le}
use Rattle.wk_module.specs.declared.types.Import.{Import}
use Rattle.wk_list.specs.Details.{import_line, import_lines}

-- so many are before the import at an index
pub before_are : (is : List Import) (at : ℕ) → at < length is → at ≡ length (take at is)
before_are is at within = sym (length-take-le at is (omega arith))

-- one more is before the next one
pub before_next : (is : List Import) (at : ℕ) (i : Import) → at < length is → i ≡ get_or is at i → take (at + 1) is ≡ take at is ++ i ∷ []
before_next is at i within found = take_more is at i within ∙ ap (λ (j : Import). take at is ++ j ∷ []) (sym found)

-- the lines from an index on, the first of which was gathered
pub imports_step : (is : List Import) (at : ℕ) (i : Import) (t new : List ℕ) → at < length is → i ≡ get_or is at i → new ≡ t ++ import_line (take at is) i
    → t ++ import_lines (take at is) (drop at is) ≡ new ++ import_lines (take (at + 1) is) (drop (at + 1) is)
imports_step is at i t new within found put =
    let later = import_lines (take (at + 1) is) (drop (at + 1) is) in
    ap (λ (r : List ℕ). t ++ r) (at_drop_more (import_lines (take at is)) is at i within
    ∙ ap (λ (j : Import). import_line (take at is) j ++ import_lines (take at is ++ j ∷ []) (drop (at + 1) is)) (sym found)
    ∙ ap (λ (before : List Import). import_line (take at is) i ++ import_lines before (drop (at + 1) is)) (sym (before_next is at i within found)))
    ∙ sym (ap (λ (r : List ℕ). r ++ later) put ∙ append_assoc t (import_line (take at is) i) later)
