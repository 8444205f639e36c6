-- The verdict of a module (3.4.10): the first fault by section, item, what is looked at, and number.
use Rattle.std.specs.Prelude.{◌≢◌, ◌+◌, Option, List, [], ◌∷◌, ◌++◌, length, map, take}
use Rattle.wk_body.specs.declared.references.Ref.{Ref}
use Rattle.wk_body.specs.declared.types.Profile.{Profile}
use Rattle.wk_body.specs.declared.types.Profile.TheVariants.{Extended}
use Rattle.wk_module.specs.declared.types.Func.{Func}
use Rattle.wk_module.specs.declared.types.Parts.{Parts}
use Rattle.wk_module.specs.Sections.{SectionLists}
use Rattle.wk_module.specs.Shape.{lists_of}
use Rattle.wk_typing.specs.declared.fault.FaultKind.TheVariants.{TypeArity, UnknownType}
use Rattle.wk_typing.specs.declared.fault.Flaw.{Flaw}
use Rattle.wk_typing.specs.declared.fault.Fault.{Fault}
use Rattle.wk_typing.specs.declared.fault.Verdict.{Verdict}
use Rattle.wk_typing.specs.declared.fault.Verdict.TheVariants.{Valid, Invalid}
use Rattle.wk_typing.specs.declared.fault.BodyVerdict.{BodyVerdict}
use Rattle.wk_typing.specs.Answers.{Found}
use Rattle.wk_typing.specs.Typing.{body_verdict}
use Rattle.wk_check.specs.Spaces.{answer_in, spaces_of, initial_spaces, imported, table_in, memory_in}
use Rattle.wk_check.specs.Items.{earlier, within, type_flaw, import_flaw, table_flaw, memory_flaw, global_flaw, export_flaw, start_flaws, elem_flaw, data_flaw}
use Rattle.wk_typing.specs.Faults.{body_flaw}
use Rattle.wk_check.specs.Flaws.{numbered, first_in, first_fault, verdict_by, IsVerdictOn}

-- ---- the flaws of the items of each section

abbrev pub type_flaws : Profile → SectionLists → List (Option Flaw)
type_flaws profile l = numbered (λ item t. type_flaw profile t) 0 l.types

abbrev pub import_flaws : SectionLists → List (Option Flaw)
import_flaws l = numbered (λ item i. import_flaw l.types (take item l.imports) i.desc) 0 l.imports

abbrev pub func_flaws : SectionLists → List (Option Flaw)
func_flaws l = numbered (λ item x. within UnknownType l.types x) 0 l.funcs

-- the imported tables come before all others in their space
abbrev pub table_flaws : SectionLists → List (Option Flaw)
table_flaws l = numbered (λ item t. table_flaw (length (imported table_in l.imports) + item) t) 0 l.tables

abbrev pub memory_flaws : SectionLists → List (Option Flaw)
memory_flaws l = numbered (λ item m. memory_flaw (length (imported memory_in l.imports) + item) m) 0 l.memories

abbrev pub global_flaws : SectionLists → List (Option Flaw)
global_flaws l = numbered (λ item g. global_flaw (answer_in (initial_spaces l)) g) 0 l.globals

abbrev pub export_flaws : SectionLists → List (Option Flaw)
export_flaws l = numbered (λ item e. export_flaw (spaces_of l) (take item l.exports) e) 0 l.exports

abbrev pub elem_flaws : SectionLists → List (Option Flaw)
elem_flaws l = numbered (λ item e. elem_flaw (spaces_of l) e) 0 l.elems

-- the verdict of a function's body under the function's type, where references find A
abbrev pub func_verdict : (Ref → Found) → Func → BodyVerdict
func_verdict A f = body_verdict A f.ty f.body

-- the functions that the module defines
abbrev pub code_flaws : SectionLists → List Func → List (Option Flaw)
code_flaws l funcs = map body_flaw (map (func_verdict (answer_in (spaces_of l))) funcs)

abbrev pub data_flaws : SectionLists → List (Option Flaw)
data_flaws l = numbered (λ item d. data_flaw (spaces_of l) d) 0 l.datas

-- ---- the verdict

-- the sections in front of the code section, by their ids from 1 on
abbrev pub flaws_before_code : Profile → SectionLists → List (List (Option Flaw))
flaws_before_code profile l =
    type_flaws profile l ∷ import_flaws l ∷ func_flaws l ∷ table_flaws l ∷ memory_flaws l ∷ global_flaws l ∷ export_flaws l
    ∷ start_flaws (spaces_of l) l.start ∷ elem_flaws l ∷ []

-- the first fault in the sections in front of the code section
abbrev pub front_fault : Profile → SectionLists → Option Fault
front_fault profile l = first_fault 1 (flaws_before_code profile l)

-- the verdict of a module with these lists, where this is the first fault of the sections up to the code section
abbrev pub verdict_from : SectionLists → Option Fault → Verdict
verdict_from l before = verdict_by (earlier before (first_in 11 0 (data_flaws l)))

-- the verdict of a module with these lists, whose first fault in the code section is this
abbrev pub verdict_around : Profile → SectionLists → Option Fault → Verdict
verdict_around profile l code =
    verdict_by (earlier (front_fault profile l) (earlier code (first_in 11 0 (data_flaws l))))

-- the first fault in the code section of a module
abbrev pub code_fault : Parts → Option Fault
code_fault m = first_in 10 0 (code_flaws (lists_of m) m.funcs)

-- the verdict of a module; customs have no say in it
abbrev pub module_verdict : Parts → Verdict
module_verdict m = verdict_around m.profile (lists_of m) (code_fault m)

-- ---- in words

-- the flaws of all sections
abbrev pub module_flaws : Parts → List (List (Option Flaw))
module_flaws m = flaws_before_code m.profile (lists_of m) ++ code_flaws (lists_of m) m.funcs ∷ data_flaws (lists_of m) ∷ []

-- valid where no section has a flaw; else the fault is the first one
abbrev pub IsVerdict : Parts → Verdict → Type 0
IsVerdict m verdict = IsVerdictOn (module_flaws m) verdict

-- the same module under the rules of the other profile
abbrev pub extended : Parts → Parts
extended m = record m { profile = Extended }

-- the fault is not that of a type with many results
abbrev pub IsNotArity : Verdict → Type 0
IsNotArity Valid = Unit {0}
IsNotArity (Invalid fault) = fault.kind ≢ TypeArity
