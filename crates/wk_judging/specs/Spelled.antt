-- The verdict of the module that bytes spell, and of bodies that are judged while they are read.
use Rattle.std.specs.Prelude.{ℕ, Option, List, [], ◌∷◌, length, map, Result, Ok, Err}
use Rattle.wk_bytes.specs.declared.fault.ReadFault.{ReadFault}
use Rattle.wk_bytes.specs.Leb.{◌>>=◌}
use Rattle.wk_bytes.specs.Span.{Span}
use Rattle.wk_bytes.specs.Frames.{Section}
use Rattle.wk_body.specs.declared.types.Profile.{Profile}
use Rattle.wk_body.specs.Reading.{all_body_at}
use Rattle.wk_body.specs.Vectors.{items_at}
use Rattle.wk_module.specs.declared.types.Func.{Func}
use Rattle.wk_module.specs.declared.types.Parts.{Parts}
use Rattle.wk_module.specs.Formats.{all_at}
use Rattle.wk_module.specs.Items.{code_at}
use Rattle.wk_module.specs.Reading.{section_end, zipped}
use Rattle.wk_module.specs.Sections.{codes_at}
use Rattle.wk_typing.specs.declared.fault.Fault.{Fault}
use Rattle.wk_typing.specs.declared.fault.Verdict.{Verdict}
use Rattle.wk_typing.specs.Faults.{body_flaw}
use Rattle.wk_judging.specs.Contexts.{ModuleContext, spaces_in}
use Rattle.wk_check.specs.Flaws.{first_in}
use Rattle.wk_check.specs.Items.{earlier}
use Rattle.wk_check.specs.Spaces.{Spaces, answer_in}
use Rattle.wk_check.specs.Valid.{IsValidModule}
use Rattle.wk_check.specs.Verdict.{func_verdict, module_verdict, IsVerdict}

-- the verdict of what reading gives, or its fault
abbrev pub judged : Result Parts ReadFault → Result Verdict ReadFault
judged (Ok m) = Ok (module_verdict m)
judged (Err e) = Err e

-- a verdict of the module that is read, as words tell it
abbrev pub IsVerdictOf : Result Parts ReadFault → Verdict → Type 0
IsVerdictOf (Ok m) verdict = IsVerdict m verdict
IsVerdictOf (Err e) verdict = ⊥

-- the module that is read is valid
abbrev pub IsValidRead : Result Parts ReadFault → Type 0
IsValidRead (Ok m) = IsValidModule m
IsValidRead (Err e) = ⊥

-- the first fault of functions, from an index on, where references find what is in these spaces
abbrev pub first_of : Spaces → ℕ → List Func → Option Fault
first_of s item funcs = first_in 10 item (map body_flaw (map (func_verdict (answer_in s)) funcs))

-- The first fault of the functions up to one of this type whose code is all of the bytes, where that of those before it is given;
-- or the fault of reading it.
abbrev pub fault_read : Profile → Spaces → Option Fault → ℕ → ℕ → Span → Result (Option Fault) ReadFault
fault_read profile s before item ty code =
    all_body_at profile code.end code.rest >>= λ body. Ok (earlier before (first_of s item (record { ty = ty; body = body } ∷ [])))

-- The first fault of the sections up to a code section, where the functions of this context were declared and this is the first fault of
-- the sections in front of it; or the fault of reading it.
abbrev pub codes_judged : Profile → ModuleContext → Option Fault → Section → Result (Option Fault) ReadFault
codes_judged profile c known s =
    all_at (codes_at profile (length c.funcs)) (section_end s) s.contents >>= λ bodies. Ok (earlier known (first_of (spaces_in c) 0 (zipped c.funcs bodies)))

-- the same, where the code section was opened and its codes are still to be read
abbrev pub opened_judged : Profile → ModuleContext → Option Fault → Span → Result (Option Fault) ReadFault
opened_judged profile c known left =
    all_at (items_at (code_at profile) (length c.funcs)) left.end left.rest >>= λ bodies. Ok
    (earlier known (first_of (spaces_in c) 0 (zipped c.funcs bodies)))
