-- A module as it is read where each code stands aside, as what is kept of its body.
use Rattle.std.specs.Prelude.{ℕ, List, [], map, Result, Ok}
use Rattle.wk_bytes.specs.declared.fault.ReadFault.{ReadFault}
use Rattle.wk_bytes.specs.Leb.{◌>>=◌}
use Rattle.wk_body.specs.declared.types.Profile.{Profile}
use Rattle.wk_body.specs.Bodies.{BodyOf}
use Rattle.wk_module.specs.declared.types.Func.{Func}
use Rattle.wk_module.specs.declared.types.Parts.{Parts}
use Rattle.wk_module.specs.Formats.{Reader, made_at}
use Rattle.wk_module.specs.Items.{code_at}
use Rattle.wk_module.specs.Outlines.{outlined, stub}
use Rattle.wk_module.specs.Reading.{Progress}
use Rattle.wk_module.specs.Sections.{codes_at}

-- what was read so far: all but the codes, and what is kept of each code
pub record PartialOutline (K : Type 0) : Type 0 where
  pub rest : Progress
  pub codes : List K

abbrev pub partial : {K : Type 0} → Progress → List K → PartialOutline K
partial rest codes = record { rest = rest; codes = codes }

abbrev pub without_codes : Progress → Progress
without_codes p = record p { lists = record p.lists { codes = [] } }

-- what was read so far, where each code stands aside, as what is made of its body
abbrev pub aside : {K : Type 0} → (BodyOf → K) → Progress → PartialOutline K
aside make p = record { rest = without_codes p; codes = map make p.lists.codes }

-- ... or the first fault
abbrev pub read_aside : {K : Type 0} → (BodyOf → K) → Result Progress ReadFault → Result (PartialOutline K) ReadFault
read_aside make read = read >>= λ p. Ok (aside make p)

-- a code, as what is made of its body
abbrev pub code_aside_at : {K : Type 0} → (BodyOf → K) → Profile → Reader K
code_aside_at make profile = made_at make (code_at profile)

-- the codes of a section, where that many functions were declared
abbrev pub codes_aside_at : {K : Type 0} → (BodyOf → K) → Profile → ℕ → Reader (List K)
codes_aside_at make profile funcs = made_at (map make) (codes_at profile funcs)

-- a function of a type, with a stub in the place of its body
abbrev pub stub_of : ℕ → Func
stub_of t = record { ty = t; body = stub }

-- the module of what was read, with a stub in the place of each body, or the first fault
abbrev pub read_outlined : Result Parts ReadFault → Result Parts ReadFault
read_outlined read = read >>= λ m. Ok (outlined m)
