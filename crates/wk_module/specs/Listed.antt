-- The lists that are lent, as those of sections; that each has fewer than 2^32 items; and the ids of sections that hold lists.
use Rattle.std.specs.Prelude.{◌<◌, ◌≤◌, ◌≢◌, ◌^◌, ℕ, List, [], length}
use Rattle.wk_module.specs.declared.lists.Lists.{Lists}
use Rattle.wk_module.specs.declared.types.Parts.{Parts}
use Rattle.wk_module.specs.Sections.{SectionLists}
use Rattle.wk_module.specs.Shape.{lists_of}

abbrev pub listed : Lists → SectionLists
listed l = record {
  types = l.types.now;
  imports = l.imports.now;
  funcs = l.funcs.now;
  tables = l.tables.now;
  memories = l.memories.now;
  globals = l.globals.now;
  exports = l.exports.now;
  start = l.start;
  elems = l.elems.now;
  codes = [];
  datas = l.datas.now;
}

-- the lists of a module whose functions have these types, but for its codes
abbrev pub listed_with : List ℕ → Parts → SectionLists
listed_with funcs m = record (lists_of m) { funcs = funcs; codes = [] }

-- Each list holds fewer items than there are numbers of 32 bits, as the lists of a module do. Codes are as many as functions.
pub record AreNumbered (l : SectionLists) : Type 0 where
  pub types : length l.types < 2 ^ 32
  pub imports : length l.imports < 2 ^ 32
  pub funcs : length l.funcs < 2 ^ 32
  pub tables : length l.tables < 2 ^ 32
  pub memories : length l.memories < 2 ^ 32
  pub globals : length l.globals < 2 ^ 32
  pub exports : length l.exports < 2 ^ 32
  pub elems : length l.elems < 2 ^ 32
  pub datas : length l.datas < 2 ^ 32

-- the id is one of a section that holds lists, and not codes
pub record IsListId (id : ℕ) : Type 0 where
  pub least : 1 ≤ id
  pub most : id ≤ 11
  pub no_code : id ≢ 10
