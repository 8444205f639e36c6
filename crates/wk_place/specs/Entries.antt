-- Which entry of an element segment names a function that the module has not (3.4.5).
use Rattle.std.specs.Prelude.{◌≡◌, ◌<◌, ◌≤◌, ℕ, Option, Some, None, List, ◌∷◌, ◌++◌, length}
use Rattle.std.specs.List.{AllByRecursion}
use Rattle.wk_module.specs.declared.types.Elem.{Elem}
use Rattle.wk_module.specs.declared.types.Parts.{Parts}
use Rattle.wk_module.specs.Sections.{ElementSection, number}
use Rattle.wk_module.specs.Shape.{lists_of}
use Rattle.wk_typing.specs.declared.fault.Fault.{Fault}
use Rattle.wk_typing.specs.declared.fault.FaultKind.TheVariants.{UnknownFunc}
use Rattle.wk_check.specs.Spaces.{spaces_of}

-- Of these indices the one of that number, counted from 0, is the first that is not below the count.
pub record IsFirstUnknown (count : ℕ) (funcs : List ℕ) (entry : ℕ) : Type 0 where
  pub front : List ℕ
  pub func : ℕ
  pub later : List ℕ
  pub parts : funcs ≡ front ++ func ∷ later
  pub number : length front ≡ entry
  pub known : AllByRecursion (λ x. x < count) front
  pub unknown : count ≤ func

-- how many functions a module has, imported and defined (2.5.1)
abbrev pub func_count : Parts → ℕ
func_count m = length (spaces_of (lists_of m)).funcs

-- The fault is that the module has not a function of an element segment.
pub record IsOfFuncs (f : Fault) : Type 0 where
  pub kind : f.kind ≡ UnknownFunc
  pub section : f.place.section ≡ number ElementSection
  pub whole : f.place.token ≡ None

-- It is that of a segment of several functions, and the entry is the first of them that the module has not.
pub record MeansEntry (m : Parts) (f : Fault) (entry : ℕ) : Type 0 where
  pub of_funcs : IsOfFuncs f
  pub before : List Elem
  pub segment : Elem
  pub behind : List Elem
  pub parts : m.elems ≡ before ++ segment ∷ behind
  pub item : length before ≡ f.place.item
  pub several : 1 < length segment.funcs
  pub first : IsFirstUnknown (func_count m) segment.funcs entry

-- the entry that a fault of a module means, or nothing where it means none
abbrev pub IsEntry : Parts → Fault → Option ℕ → Type 0
IsEntry m f None = (entry : ℕ) → MeansEntry m f entry → ⊥
IsEntry m f (Some entry) = MeansEntry m f entry
