-- The index spaces of a module (2.5.1) and what references find in them.
use Rattle.std.specs.Prelude.{ℕ, List, [], ◌∷◌, ◌++◌, map, Option, Some, None, slice_get}
use Rattle.wk_body.specs.declared.references.Ref.{Ref}
use Rattle.wk_body.specs.declared.references.Ref.TheVariants.{Ty, Func, Global, Table, Memory}
use Rattle.wk_module.specs.declared.types.FuncType.{FuncType}
use Rattle.wk_module.specs.declared.types.GlobalType.{GlobalType}
use Rattle.wk_module.specs.declared.types.Import.{Import}
use Rattle.wk_module.specs.declared.types.ImportDesc.{ImportDesc}
use Rattle.wk_module.specs.declared.types.ImportDesc.TheVariants as desc
use Rattle.wk_module.specs.declared.types.Limits.{Limits}
use Rattle.wk_module.specs.Sections.{SectionLists}
use Rattle.wk_typing.specs.Answers.{Found, TypeIs, NoType, FuncIs, FuncOfNoType, NoFunc, GlobalIs, NoGlobal, IsPresent, IsAbsent, IsOfKind}

-- ---- what is imported of a kind, in order

abbrev pub and_more : {X : Type 0} → Option X → List X → List X
and_more None xs = xs
and_more (Some x) xs = x ∷ xs

-- of each import what is picked of it, if anything is
abbrev pub imported : {X : Type 0} → (ImportDesc → Option X) → List Import → List X
imported pick [] = []
imported pick (i ∷ is) = and_more (pick i.desc) (imported pick is)

abbrev pub func_in : ImportDesc → Option ℕ
func_in (desc.Func x) = Some x
func_in _ = None

abbrev pub table_in : ImportDesc → Option Limits
table_in (desc.Table l) = Some l
table_in _ = None

abbrev pub memory_in : ImportDesc → Option Limits
memory_in (desc.Memory l) = Some l
memory_in _ = None

abbrev pub global_in : ImportDesc → Option GlobalType
global_in (desc.Global g) = Some g
global_in _ = None

-- ---- the spaces: imports come first, then what the module defines. Functions stand as the indexes of their types.

pub record Spaces : Type 0 where
  pub types : List FuncType
  pub funcs : List ℕ
  pub tables : List Limits
  pub memories : List Limits
  pub globals : List GlobalType

abbrev pub spaces_of : SectionLists → Spaces
spaces_of l = record {
  types = l.types;
  funcs = imported func_in l.imports ++ l.funcs;
  tables = imported table_in l.imports ++ l.tables;
  memories = imported memory_in l.imports ++ l.memories;
  globals = imported global_in l.imports ++ map (λ g. g.ty) l.globals;
}

-- the same, with imported globals alone: what an initialiser sees (3.4.10)
abbrev pub initial_spaces : SectionLists → Spaces
initial_spaces l = record (spaces_of l) { globals = imported global_in l.imports }

-- the same spaces with other globals
abbrev pub with_globals : List GlobalType → Spaces → Spaces
with_globals globals s = record s { globals = globals }

-- ---- answers

abbrev pub type_found : Option FuncType → Found
type_found None = NoType
type_found (Some t) = TypeIs t

abbrev pub typed_found : Option FuncType → Found
typed_found None = FuncOfNoType
typed_found (Some t) = FuncIs t

abbrev pub func_found : List FuncType → Option ℕ → Found
func_found types None = NoFunc
func_found types (Some x) = typed_found (slice_get types x)

abbrev pub global_found : Option GlobalType → Found
global_found None = NoGlobal
global_found (Some g) = GlobalIs g

abbrev pub any_found : {X : Type 0} → List X → Found
any_found [] = IsAbsent
any_found (x ∷ xs) = IsPresent

abbrev pub answer_in : Spaces → Ref → Found
answer_in s (Ty x) = type_found (slice_get s.types x)
answer_in s (Func x) = func_found s.types (slice_get s.funcs x)
answer_in s (Global x) = global_found (slice_get s.globals x)
answer_in s Table = any_found s.tables
answer_in s Memory = any_found s.memories

-- ---- each answer is of the kind of its reference

type_of_kind : (x : ℕ) (o : Option FuncType) → IsOfKind (Ty x) (type_found o)
type_of_kind x None = tt
type_of_kind x (Some t) = tt

typed_of_kind : (x : ℕ) (o : Option FuncType) → IsOfKind (Func x) (typed_found o)
typed_of_kind x None = tt
typed_of_kind x (Some t) = tt

func_of_kind : (types : List FuncType) (x : ℕ) (o : Option ℕ) → IsOfKind (Func x) (func_found types o)
func_of_kind types x None = tt
func_of_kind types x (Some t) = typed_of_kind x (slice_get types t)

global_of_kind : (x : ℕ) (o : Option GlobalType) → IsOfKind (Global x) (global_found o)
global_of_kind x None = tt
global_of_kind x (Some g) = tt

table_of_kind : (ls : List Limits) → IsOfKind Table (any_found ls)
table_of_kind [] = tt
table_of_kind (l ∷ ls) = tt

memory_of_kind : (ls : List Limits) → IsOfKind Memory (any_found ls)
memory_of_kind [] = tt
memory_of_kind (l ∷ ls) = tt

pub answers_of_kind : (s : Spaces) (r : Ref) → IsOfKind r (answer_in s r)
answers_of_kind s (Ty x) = type_of_kind x (slice_get s.types x)
answers_of_kind s (Func x) = func_of_kind s.types x (slice_get s.funcs x)
answers_of_kind s (Global x) = global_of_kind x (slice_get s.globals x)
answers_of_kind s Table = table_of_kind s.tables
answers_of_kind s Memory = memory_of_kind s.memories
