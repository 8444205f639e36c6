-- Counts of imports.
use Rattle.std.proofs.Common.{◌≡◌, ℕ, ◌+◌, ◌≤◌, Bool, true, false, if◌then◌else◌, List, [], ◌∷◌, ◌++◌, length, refl, sym, ap, arith}
use Rattle.wk_module.specs.declared.types.Import.{Import}
use Rattle.wk_module.specs.declared.types.ImportDesc.{ImportDesc}
use Rattle.wk_module.specs.declared.types.ImportDesc.TheVariants as desc
use Rattle.wk_module.specs.declared.types.Kind.{Kind}
use Rattle.wk_module.specs.declared.types.Kind.TheVariants.{Func, Table, Memory, Global}
use Rattle.wk_module.specs.Imports.{is_of_kind, import_count}
use Rattle.wk_module.specs.ImportLaws.{counts_imports}
use Rattle.wk_list.specs.declared.spaces.Counts.{Counts}
use Rattle.wk_list.specs.Spaces.{is_of, count_of, AreCounted}

-- what one more counts
abbrev pub once : Bool → ℕ
once b = if b then 1 else 0

once_le : (b : Bool) → once b ≤ 1
once_le true = omega arith
once_le false = omega arith

-- one import more
pub count_behind : (kind : Kind) (before : List Import) (i : Import) → count_of kind (before ++ i ∷ []) ≡ count_of kind before + once (is_of kind i.desc)
count_behind kind [] i = omega arith
count_behind kind (j ∷ js) i = omega (arith, count_behind kind js i)

-- no more imports are of a kind than there are
pub count_le : (kind : Kind) (is : List Import) → count_of kind is ≤ length is
count_le kind [] = omega arith
count_le kind (i ∷ is) = omega (arith, once_le (is_of kind i.desc), count_le kind is)

-- they are those that are counted of a module
is_of_same : (kind : Kind) (d : ImportDesc) → is_of kind d ≡ is_of_kind kind d
is_of_same Func = elim [ desc.Func x ↦ refl | desc.Table x ↦ refl | desc.Memory x ↦ refl | desc.Global x ↦ refl ]
is_of_same Table = elim [ desc.Func x ↦ refl | desc.Table x ↦ refl | desc.Memory x ↦ refl | desc.Global x ↦ refl ]
is_of_same Memory = elim [ desc.Func x ↦ refl | desc.Table x ↦ refl | desc.Memory x ↦ refl | desc.Global x ↦ refl ]
is_of_same Global = elim [ desc.Func x ↦ refl | desc.Table x ↦ refl | desc.Memory x ↦ refl | desc.Global x ↦ refl ]

pub counted_of : (kind : Kind) (is : List Import) → import_count kind is ≡ count_of kind is
counted_of kind is =
    sym (counts_imports kind (count_of kind) refl (λ i js. ap (λ b. once b + count_of kind js) (is_of_same kind i.desc)) is)

-- a count with one import more
counted_behind : (kind : Kind) (before : List Import) (i : Import) (d : ImportDesc) (old new : ℕ) → i.desc ≡ d → old ≡ count_of kind before
    → new ≡ old + once (is_of kind d)
    → new ≡ count_of kind (before ++ i ∷ [])
counted_behind kind before i d old new same counted one = omega (arith, count_behind kind before i, ap (λ (e : ImportDesc). once (is_of kind e)) same)

-- all counts with one import more, by what is added to each
pub counted_on : (old new : Counts) (before : List Import) (i : Import) (d : ImportDesc) → i.desc ≡ d → AreCounted old before
    → new.funcs ≡ old.funcs + once (is_of Func d) → new.tables ≡ old.tables + once (is_of Table d)
    → new.memories ≡ old.memories + once (is_of Memory d) → new.globals ≡ old.globals + once (is_of Global d) → AreCounted new (before ++ i ∷ [])
counted_on old new before i d same counted funcs tables memories globals = record {
  funcs_are = counted_behind Func before i d _ _ same counted.funcs_are funcs;
  tables_are = counted_behind Table before i d _ _ same counted.tables_are tables;
  memories_are = counted_behind Memory before i d _ _ same counted.memories_are memories;
  globals_are = counted_behind Global before i d _ _ same counted.globals_are globals;
}
