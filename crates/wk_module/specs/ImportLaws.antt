-- Laws of the number of imports of a kind.
use Rattle.std.proofs.Common.{◌≡◌, ℕ, ◌+◌, ◌≤◌, Bool, true, false, if◌then◌else◌, List, [], ◌∷◌, ◌++◌, length, ap, ◌∙◌, arith}
use Rattle.wk_module.specs.declared.types.Import.{Import}
use Rattle.wk_module.specs.declared.types.Kind.{Kind}
use Rattle.wk_module.specs.Imports.{is_of_kind, import_count}

-- whatever counts one for each import of the kind gives that number, as the length of what is picked of each does
pub counts_imports : (kind : Kind) (count : List Import → ℕ) → count [] ≡ 0
    → ((i : Import) (is : List Import) → count (i ∷ is) ≡ (if is_of_kind kind i.desc then 1 else 0) + count is)
    → (is : List Import) → count is ≡ import_count kind is
counts_imports kind count none more [] = none
counts_imports kind count none more (i ∷ is) =
    more i is ∙ ap (λ n. (if is_of_kind kind i.desc then 1 else 0) + n) (counts_imports kind count none more is)

one_or_none : (b : Bool) → (if b then 1 else 0) ≤ 1
one_or_none true = omega arith
one_or_none false = omega arith

pub import_count_le : (kind : Kind) (is : List Import) → import_count kind is ≤ length is
import_count_le kind [] = omega arith
import_count_le kind (i ∷ is) = omega (arith, one_or_none (is_of_kind kind i.desc), import_count_le kind is)

-- one more import of the kind, or of another
pub import_count_push : (kind : Kind) (is : List Import) (i : Import)
    → import_count kind (is ++ i ∷ []) ≡ import_count kind is + (if is_of_kind kind i.desc then 1 else 0)
import_count_push kind [] i = omega arith
import_count_push kind (j ∷ is) i = omega (arith, import_count_push kind is i)
