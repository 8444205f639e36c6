-- What a valid module is (3.4.10), its bodies, its initialisers and its offsets by declarative rules, which are the standard's for 1.0.
use Rattle.std.specs.Prelude.{◌<◌, length}
use Rattle.std.specs.List.{AllByRecursion}
use Rattle.wk_body.specs.declared.types.ValType.TheVariants.{I32}
use Rattle.wk_module.specs.declared.types.Func.{Func}
use Rattle.wk_module.specs.declared.types.GlobalDef.{GlobalDef}
use Rattle.wk_module.specs.declared.types.Elem.{Elem}
use Rattle.wk_module.specs.declared.types.DataSeg.{DataSeg}
use Rattle.wk_module.specs.declared.types.Parts.{Parts}
use Rattle.wk_module.specs.Shape.{lists_of}
use Rattle.wk_check.specs.ConstantRules.{IsConstantOf}
use Rattle.wk_typing.specs.Derives.{IsDerived}
use Rattle.wk_check.specs.Flaws.{AreFine}
use Rattle.wk_check.specs.Spaces.{Spaces, answer_in, spaces_of, initial_spaces}
use Rattle.wk_check.specs.Verdict.{type_flaws, import_flaws, func_flaws, table_flaws, memory_flaws, export_flaws}
use Rattle.wk_check.specs.Items.{start_flaws}

-- An element segment (3.4.5): its table is there, its offset is a constant i32, and its functions are there.
pub record IsValidElem (s : Spaces) (e : Elem) : Type 0 where
  pub table : e.table < length s.tables
  pub offset : IsConstantOf (answer_in s) I32 e.offset
  pub funcs : AllByRecursion (λ x. x < length s.funcs) e.funcs

-- A data segment (3.4.6): its memory is there, and its offset is a constant i32.
pub record IsValidData (s : Spaces) (d : DataSeg) : Type 0 where
  pub memory : d.memory < length s.memories
  pub offset : IsConstantOf (answer_in s) I32 d.offset

-- The types, the imports, the functions, the tables, the memories, the exports and the start function have no flaw. The initialiser of
-- each global is a constant of the global's type, where of the globals only the imported ones are found. Each segment is valid, and
-- each body is derived under the type of its function, where references find what the index spaces of the module hold.
pub record IsValidModule (m : Parts) : Type 0 where
  pub types : AreFine (type_flaws m.profile (lists_of m))
  pub imports : AreFine (import_flaws (lists_of m))
  pub funcs : AreFine (func_flaws (lists_of m))
  pub tables : AreFine (table_flaws (lists_of m))
  pub memories : AreFine (memory_flaws (lists_of m))
  pub globals : AllByRecursion (λ (g : GlobalDef). IsConstantOf (answer_in (initial_spaces (lists_of m))) g.ty.val g.init) m.globals
  pub exports : AreFine (export_flaws (lists_of m))
  pub start : AreFine (start_flaws (spaces_of (lists_of m)) m.start)
  pub elems : AllByRecursion (IsValidElem (spaces_of (lists_of m))) m.elems
  pub bodies : AllByRecursion (λ (f : Func). IsDerived (answer_in (spaces_of (lists_of m))) f.ty f.body) m.funcs
  pub datas : AllByRecursion (IsValidData (spaces_of (lists_of m))) m.datas
