-- The shape of a module: what every value of the type `Module` keeps.
use Rattle.std.specs.Prelude.{◌≡◌, ◌≤◌, ℕ, zero, suc, Bool, false, if◌then◌else◌, None, List, [], ◌∷◌, map, slice_index_or}
use Rattle.std.specs.Str.{IsUtf8}
use Rattle.wk_body.specs.declared.types.Profile.{Profile}
use Rattle.wk_module.specs.declared.types.Parts.{Parts}
use Rattle.wk_module.specs.declared.types.Custom.{Custom}
use Rattle.wk_module.specs.Sections.{SectionId, TypeSection, ImportSection, FunctionSection, TableSection, MemorySection, GlobalSection, ExportSection}
use Rattle.wk_module.specs.Sections.{StartSection, ElementSection, CodeSection, DataSection, SectionLists, contents, is_full, AreValid}

-- the contents of the sections of a module but its custom ones
abbrev pub lists_of : Parts → SectionLists
lists_of m = record {
  types = m.types;
  imports = m.imports;
  funcs = map (λ f. f.ty) m.funcs;
  tables = m.tables;
  memories = m.memories;
  globals = m.globals;
  exports = m.exports;
  start = m.start;
  elems = m.elems;
  codes = map (λ f. f.body) m.funcs;
  datas = m.datas;
}

abbrev pub is_written : Parts → SectionId → Bool
is_written m k = is_full k (contents (lists_of m) k)

-- for each id from 0 on, whether the section with that id is one that is written: not a custom one, and not empty
abbrev pub filled_ids : Parts → List Bool
filled_ids m =
    false ∷ is_written m TypeSection ∷ is_written m ImportSection ∷ is_written m FunctionSection ∷ is_written m TableSection ∷ is_written m MemorySection
    ∷ is_written m GlobalSection ∷ is_written m ExportSection ∷ is_written m StartSection ∷ is_written m ElementSection ∷ is_written m CodeSection
    ∷ is_written m DataSection ∷ []

abbrev pub is_filled : Parts → ℕ → Bool
is_filled m id = slice_index_or (filled_ids m) id false

-- the greatest id up to p that passes, or 0
abbrev pub lowered : (ℕ → Bool) → ℕ → ℕ
lowered passes zero = 0
lowered passes (suc p) = if passes (suc p) then suc p else lowered passes p

abbrev pub settled_custom : (ℕ → Bool) → Custom → Custom
settled_custom passes c = record c { place = lowered passes c.place }

-- m with each custom at the greatest id, up to its place, of a section that is not empty
abbrev pub settle : Parts → Parts
settle m = record m { customs = map (settled_custom (is_filled m)) m.customs }

-- the places never fall, from a least one on
abbrev pub IsInOrderFrom : ℕ → List Custom → Type 0
IsInOrderFrom least [] = Unit {0}
IsInOrderFrom least (c ∷ cs) = (least ≤ c.place) × (c.place ≤ 11) × IsInOrderFrom c.place cs

-- the names are UTF-8
abbrev pub AreNamed : List Custom → Type 0
AreNamed [] = Unit {0}
AreNamed (c ∷ cs) = IsUtf8 c.name × AreNamed cs

-- what the lists of a module keep, settled or not
pub record IsFormed (m : Parts) : Type 0 where
  pub valid : (k : SectionId) → AreValid m.profile k (contents (lists_of m) k)
  pub order : IsInOrderFrom 0 m.customs
  pub names : AreNamed m.customs

-- what a module keeps
pub record IsShaped (m : Parts) : Type 0 where
  pub formed : IsFormed m
  pub settled : settle m ≡ m

-- a module of a profile with nothing
abbrev pub nothing : Profile → Parts
nothing profile = record {
  profile = profile;
  types = [];
  imports = [];
  funcs = [];
  tables = [];
  memories = [];
  globals = [];
  exports = [];
  start = None;
  elems = [];
  datas = [];
  customs = [];
}
