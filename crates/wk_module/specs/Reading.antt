-- A module as it is read, from left to right: the module, or the first fault.
use Rattle.std.specs.Prelude.{◌+◌, ◌==◌, ℕ, if◌then◌else◌, Option, Some, None, List, [], ◌∷◌, ◌++◌, length, Result, Ok, Err}
use Rattle.wk_bytes.specs.declared.fault.ReadKind.TheVariants.{FuncCodeCount}
use Rattle.wk_bytes.specs.declared.fault.ReadFault.{ReadFault}
use Rattle.wk_bytes.specs.Leb.{◌>>=◌}
use Rattle.wk_bytes.specs.Frames.{Section, sections_of}
use Rattle.wk_body.specs.declared.types.Profile.{Profile}
use Rattle.wk_body.specs.Bodies.{BodyOf}
use Rattle.wk_module.specs.declared.types.Custom.{Custom}
use Rattle.wk_module.specs.declared.types.Func.{Func}
use Rattle.wk_module.specs.declared.types.Parts.{Parts}
use Rattle.wk_module.specs.Customs.{custom_at}
use Rattle.wk_module.specs.Formats.{all_at}
use Rattle.wk_module.specs.Sections.{SectionId, number, of_number, ContentsOf, SectionLists, with_contents, no_lists, is_full, contents_at}

-- what was read so far: the lists, the customs, and the id of the last section that is not empty
pub record Progress : Type 0 where
  pub lists : SectionLists
  pub customs : List Custom
  pub place : ℕ

abbrev pub at_start : Progress
at_start = record { lists = no_lists; customs = []; place = 0 }

-- where a section ends
abbrev pub section_end : Section → ℕ
section_end s = s.at + length s.contents

abbrev pub with_custom : Progress → Custom → Progress
with_custom p c = record p { customs = p.customs ++ c ∷ [] }

abbrev pub with_lists : (k : SectionId) → Progress → ContentsOf k → Progress
with_lists k p x = record p { lists = with_contents k x p.lists; place = if is_full k x then number k else p.place }

-- one more section: a custom one, or that of an id
unfoldable pub section_by : Profile → Progress → Section → Option SectionId → Result Progress ReadFault
section_by profile p s None = custom_at p.place (section_end s) s.contents >>= λ c. Ok (with_custom p c)
section_by profile p s (Some k) = all_at (contents_at profile (length p.lists.funcs) k) (section_end s) s.contents >>= λ x. Ok (with_lists k p x)

abbrev pub with_section : Profile → Progress → Section → Result Progress ReadFault
with_section profile p s = section_by profile p s (of_number s.id)

unfoldable pub sections_read : Profile → Progress → List (Result Section ReadFault) → Result Progress ReadFault
sections_read profile p [] = Ok p
sections_read profile p (Err e ∷ items) = Err e
sections_read profile p (Ok s ∷ items) = with_section profile p s >>= λ q. sections_read profile q items

-- each function's type and code
abbrev pub zipped : List ℕ → List BodyOf → List Func
zipped [] bodies = []
zipped (t ∷ types) [] = []
zipped (t ∷ types) (body ∷ bodies) = record { ty = t; body = body } ∷ zipped types bodies

abbrev pub module_of : Profile → Progress → Parts
module_of profile p = record {
  profile = profile;
  types = p.lists.types;
  imports = p.lists.imports;
  funcs = zipped p.lists.funcs p.lists.codes;
  tables = p.lists.tables;
  memories = p.lists.memories;
  globals = p.lists.globals;
  exports = p.lists.exports;
  start = p.lists.start;
  elems = p.lists.elems;
  datas = p.lists.datas;
  customs = p.customs;
}

-- The module of all that was read. Where there is no code section for the functions, that is a fault at the end of the input.
abbrev pub joined : Profile → ℕ → Progress → Result Parts ReadFault
joined profile end p =
    if length p.lists.funcs == length p.lists.codes then Ok (module_of profile p) else Err (record { kind = FuncCodeCount; at = end })

-- the module that the bytes spell, or the first fault
unfoldable pub module_at : Profile → List ℕ → Result Parts ReadFault
module_at profile bytes = sections_read profile at_start (sections_of bytes) >>= joined profile (length bytes)
