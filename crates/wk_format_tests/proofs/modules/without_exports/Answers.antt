use Rattle.std.proofs.Common.{[], arith}
use Rattle.wk_module.specs.declared.types.Parts.{Parts}
use Rattle.wk_module.specs.Sections.{SectionId, TypeSection, ImportSection, FunctionSection, TableSection, MemorySection, GlobalSection, ExportSection}
use Rattle.wk_module.specs.Sections.{StartSection, ElementSection, CodeSection, DataSection, contents, AreValid}
use Rattle.wk_module.specs.Shape.{lists_of, IsFormed}
use Rattle.wk_format_tests.proofs.modules.without_exports.Goals as goal

-- the lists of a module are valid without its exports
valid_without : (m : Parts) → ((k : SectionId) → AreValid m.profile k (contents (lists_of m) k)) → (k : SectionId)
    → AreValid m.profile k (contents (lists_of (record m { exports = [] })) k)
valid_without m valid TypeSection = valid TypeSection
valid_without m valid ImportSection = valid ImportSection
valid_without m valid FunctionSection = valid FunctionSection
valid_without m valid TableSection = valid TableSection
valid_without m valid MemorySection = valid MemorySection
valid_without m valid GlobalSection = valid GlobalSection
valid_without m valid ExportSection = (omega arith, tt)
valid_without m valid StartSection = valid StartSection
valid_without m valid ElementSection = valid ElementSection
valid_without m valid CodeSection = valid CodeSection
valid_without m valid DataSection = valid DataSection

pub of-requires : goal.of-requires
of-requires c =
    let parts = c.into_parts-parts.result in
    let formed : IsFormed parts = rw (c.into_parts-parts.ensures.value) c.into_parts-parts.ensures.shaped.formed in
    rw (c.new.ensures) (record {
      valid = valid_without parts formed.valid;
      order = formed.order;
      names = formed.names;
    })
