-- Laws of lists that hold fewer items than there are numbers of 32 bits.
use Rattle.std.proofs.Common.{◌<◌, ◌^◌, ℕ, inl, inr, List, length, sym, subst, arith}
use Rattle.std.proofs.lemmas.List.{length-map}
use Rattle.wk_body.specs.declared.types.Profile.{Profile}
use Rattle.wk_body.specs.Shape.{IsU32}
use Rattle.wk_module.specs.declared.types.Parts.{Parts}
use Rattle.wk_module.specs.Listed.{AreNumbered, listed_with}
use Rattle.wk_module.specs.SectionLaws.{same_or_other, contents-here, contents-elsewhere}
use Rattle.wk_module.specs.Sections.{SectionId, TypeSection, ImportSection, FunctionSection, TableSection, MemorySection, GlobalSection, ExportSection}
use Rattle.wk_module.specs.Sections.{StartSection, ElementSection, CodeSection, DataSection, ContentsOf, SectionLists, contents, no_lists, with_contents}
use Rattle.wk_module.specs.Sections.{AreValid}
use Rattle.wk_module.specs.Shape.{lists_of, IsFormed}

-- the same of one section. Of the codes, which are no list that is lent, nothing is said.
abbrev pub IsNumbered : (k : SectionId) → ContentsOf k → Type 0
IsNumbered StartSection x = Unit {0}
IsNumbered CodeSection xs = Unit {0}
IsNumbered _ xs = IsU32 (length xs)

pub all_numbered : (l : SectionLists) → ((k : SectionId) → IsNumbered k (contents l k)) → AreNumbered l
all_numbered l each = record {
  types = each TypeSection;
  imports = each ImportSection;
  funcs = each FunctionSection;
  tables = each TableSection;
  memories = each MemorySection;
  globals = each GlobalSection;
  exports = each ExportSection;
  elems = each ElementSection;
  datas = each DataSection;
}

pub each_numbered : (l : SectionLists) → AreNumbered l → (k : SectionId) → IsNumbered k (contents l k)
each_numbered l few TypeSection = few.types
each_numbered l few ImportSection = few.imports
each_numbered l few FunctionSection = few.funcs
each_numbered l few TableSection = few.tables
each_numbered l few MemorySection = few.memories
each_numbered l few GlobalSection = few.globals
each_numbered l few ExportSection = few.exports
each_numbered l few StartSection = tt
each_numbered l few ElementSection = few.elems
each_numbered l few CodeSection = tt
each_numbered l few DataSection = few.datas

none_numbered : (k : SectionId) → IsNumbered k (contents no_lists k)
none_numbered StartSection = tt
none_numbered CodeSection = tt
none_numbered _ = omega arith

pub no_lists_numbered : AreNumbered no_lists
no_lists_numbered = all_numbered no_lists none_numbered

-- other contents of one section leave the others
pub numbered_with : (j : SectionId) (x : ContentsOf j) (l : SectionLists) → IsNumbered j x → AreNumbered l → AreNumbered (with_contents j x l)
numbered_with j x l here few =
    all_numbered (with_contents j x l)
    (λ k. elim (same_or_other j k) [
      | inl same ↦ subst (λ (i : SectionId). IsNumbered i (contents (with_contents j x l) i)) same (subst (IsNumbered j) (sym (contents-here j x l)) here)
      | inr other ↦ subst (IsNumbered k) (sym (contents-elsewhere j k x l other)) (each_numbered l few k)
    ])

-- what is valid is numbered
pub valid_numbered : (profile : Profile) (k : SectionId) (x : ContentsOf k) → AreValid profile k x → IsNumbered k x
valid_numbered profile TypeSection x valid = valid
valid_numbered profile StartSection x valid = tt
valid_numbered profile CodeSection x valid = tt
valid_numbered profile k x valid = valid.0

-- the lists of a module
pub module_numbered : (m : Parts) → IsFormed m → AreNumbered (lists_of m)
module_numbered m formed =
    all_numbered (lists_of m) (λ k. valid_numbered m.profile k (contents (lists_of m) k) (formed.valid k))

-- the functions of a module
pub funcs_numbered : (m : Parts) → IsFormed m → length m.funcs < 2 ^ 32
funcs_numbered m formed = rw length-map at (formed.valid FunctionSection).0

-- the lists of a module, with the types of functions that an edit would give it
pub module_numbered_with : (funcs : List ℕ) (m : Parts) → length funcs < 2 ^ 32 → IsFormed m → AreNumbered (listed_with funcs m)
module_numbered_with funcs m few formed =
    let all = module_numbered m formed in
    record {
      types = all.types;
      imports = all.imports;
      funcs = few;
      tables = all.tables;
      memories = all.memories;
      globals = all.globals;
      exports = all.exports;
      elems = all.elems;
      datas = all.datas;
    }
