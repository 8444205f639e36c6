-- What is imported of each kind, import by import.
use Rattle.std.proofs.Common.{◌≡◌, ℕ, ◌+◌, ◌<◌, ◌≤◌, nat_lt, if◌then◌else◌, List, [], ◌∷◌, ◌++◌, length, take, get_or, Option, Some, None}
use Rattle.std.proofs.Common.{refl, sym, ap, ◌∙◌, arith, length-append}
use Rattle.std.proofs.lemmas.Bool.{lt-ltb}
use Rattle.std.proofs.lemmas.List.{take_more, length-take-le}
use Rattle.wk_module.specs.declared.types.GlobalType.{GlobalType}
use Rattle.wk_module.specs.declared.types.Import.{Import}
use Rattle.wk_module.specs.declared.types.ImportDesc.{ImportDesc}
use Rattle.wk_module.specs.declared.types.ImportDesc.TheVariants as desc
use Rattle.wk_module.specs.declared.types.Kind.TheVariants as kinds
use Rattle.wk_module.specs.declared.types.Limits.{Limits}
use Rattle.wk_module.specs.Imports.{is_of_kind, import_count}
use Rattle.wk_typing.specs.declared.fault.FaultKind.{FaultKind}
use Rattle.wk_typing.specs.declared.fault.Flaw.{Flaw}
use Rattle.wk_typing.specs.Answers.{IsPresent, IsAbsent}
use Rattle.wk_check.specs.Items.{unless, within}
use Rattle.wk_check.specs.Spaces.{and_more, imported, func_in, table_in, memory_in, global_in, any_found}
use Rattle.wk_check.specs.SpacesLaws.{imported_push, counted}
use Rattle.wk_check.specs.Whole.{AreImported}

-- ---- one import more

imported_more : {X : Type 0} (pick : ImportDesc → Option X) (is : List Import) (n : ℕ) (i : Import) (d : ImportDesc) → n < length is → i ≡ get_or is n i
    → i.desc ≡ d
    → imported pick (take (n + 1) is) ≡ imported pick (take n is) ++ and_more (pick d) []
imported_more pick is n i d inside at e =
    ap (imported pick) (take_more is n i inside) ∙ imported_push pick (take n is) (get_or is n i)
    ∙ ap (λ (x : Import). imported pick (take n is) ++ and_more (pick x.desc) []) (sym at)
    ∙ ap (λ (x : ImportDesc). imported pick (take n is) ++ and_more (pick x) []) e

-- what is counted of the imports in front, with one more
pub and_next : (is : List Import) (n : ℕ) (i : Import) (d : ImportDesc) (funcs funcs' : List ℕ) (globals globals' : List GlobalType)
    (tables tables' memories memories' : ℕ) → n < length is → i ≡ get_or is n i → i.desc ≡ d
    → AreImported (take n is) funcs globals tables memories → funcs ++ and_more (func_in d) [] ≡ funcs'
    → globals ++ and_more (global_in d) [] ≡ globals' → tables + length (and_more (table_in d) []) ≡ tables'
    → memories + length (and_more (memory_in d) []) ≡ memories'
    → AreImported (take (n + 1) is) funcs' globals' tables' memories'
and_next is n i d funcs funcs' globals globals' tables tables' memories memories' inside at e p fs gs ts ms =
    let all_tables = imported_more table_in is n i d inside at e in
    let all_memories = imported_more memory_in is n i d inside at e in
    record {
      funcs_are = sym fs ∙ ap (λ (xs : List ℕ). xs ++ and_more (func_in d) []) p.funcs_are ∙ sym (imported_more func_in is n i d inside at e);
      globals_are = sym gs ∙ ap (λ (xs : List GlobalType). xs ++ and_more (global_in d) []) p.globals_are ∙ sym (imported_more global_in is n i d inside at e);
      tables_are = rw all_tables (omega (arith, ts, p.tables_are, length-append (imported table_in (take n is)) (and_more (table_in d) [])));
      memories_are = rw all_memories (omega (arith, ms, p.memories_are, length-append (imported memory_in (take n is)) (and_more (memory_in d) [])));
    }

-- ---- no more are counted than there are imports

and_more_longer : {X : Type 0} (o : Option X) (xs : List X) (n : ℕ) → length xs ≤ n → length (and_more o xs) ≤ n + 1
and_more_longer None xs n h = omega arith
and_more_longer (Some x) xs n h = omega arith

imported_within : {X : Type 0} (pick : ImportDesc → Option X) (is : List Import) → length (imported pick is) ≤ length is
imported_within pick [] = omega arith
imported_within pick (i ∷ is) =
    let h = and_more_longer (pick i.desc) (imported pick is) (length is) (imported_within pick is) in
    omega arith

pub few_imported : {X : Type 0} (pick : ImportDesc → Option X) (is : List Import) (n k : ℕ) → n ≤ length is → k ≡ length (imported pick (take n is)) → k ≤ n
few_imported pick is n k h e =
    let w = imported_within pick (take n is) in
    let t = length-take-le n is h in
    omega arith

-- ---- whether a space has anything in it

pub first_found : {X : Type 0} (xs : List X) → (if nat_lt 0 (length xs) then IsPresent else IsAbsent) ≡ any_found xs
first_found [] = refl
first_found (x ∷ xs) = rw (lt-ltb 0 (length (x ∷ xs)) (omega arith)) refl

-- ---- how many are imported of each kind

count_table : (d : ImportDesc) (ls : List Limits) → length (and_more (table_in d) ls) ≡ (if is_of_kind kinds.Table d then 1 else 0) + length ls
count_table (desc.Table l) ls = omega arith
count_table _ ls = omega arith

count_memory : (d : ImportDesc) (ls : List Limits) → length (and_more (memory_in d) ls) ≡ (if is_of_kind kinds.Memory d then 1 else 0) + length ls
count_memory (desc.Memory l) ls = omega arith
count_memory _ ls = omega arith

pub imported_tables : (is : List Import) → length (imported table_in is) ≡ import_count kinds.Table is
imported_tables is = counted kinds.Table table_in count_table is

pub imported_memories : (is : List Import) → length (imported memory_in is) ≡ import_count kinds.Memory is
imported_memories is = counted kinds.Memory memory_in count_memory is

-- what is wrong with an index, where so many items of its space are imported and so many defined
pub flaw_beyond_is : {X : Type 0} (fault : FaultKind) (imports own : List X) (x n k : ℕ) (w : Option Flaw) → w ≡ unless fault (nat_lt x (n + k))
    → length imports ≡ n → length own ≡ k → w ≡ within fault (imports ++ own) x
flaw_beyond_is fault imports own x n k w is few many =
    let count : n + k ≡ length (imports ++ own) = omega (arith, few, many, length-append imports own) in
    is ∙ ap (λ (all : ℕ). unless fault (nat_lt x all)) count
