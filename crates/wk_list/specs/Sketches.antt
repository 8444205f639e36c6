-- A module, but for the bodies of its functions.
use Rattle.std.specs.Prelude.{◌≡◌, ℕ, List, length, map, Result, Ok, Err}
use Rattle.wk_bytes.specs.declared.fault.ReadFault.{ReadFault}
use Rattle.wk_body.specs.declared.types.Profile.{Profile}
use Rattle.wk_module.specs.declared.skeleton.Skeleton.{Skeleton}
use Rattle.wk_module.specs.declared.types.Func.{Func}
use Rattle.wk_module.specs.declared.types.Parts.{Parts}
use Rattle.wk_module.specs.Codes.{body_sizes, code_contents}
use Rattle.wk_module.specs.Outlines.{outlined}
use Rattle.wk_module.specs.Reading.{module_at}
use Rattle.wk_module.specs.Shape.{nothing, IsShaped}
use Rattle.wk_module.specs.Writing.{Fits}

-- d is m with any bodies
pub record IsSketch (m d : Parts) : Type 0 where
  pub rest : d ≡ record m { funcs = d.funcs }
  pub types : map (λ (f : Func). f.ty) d.funcs ≡ map (λ (f : Func). f.ty) m.funcs

-- the module that was read, or one with nothing
abbrev pub found_in : Profile → Result Parts ReadFault → Parts
found_in profile (Ok m) = m
found_in profile (Err e) = nothing profile

-- the module of a profile that the bytes spell, or one with nothing where they spell none
abbrev pub spelled : Profile → List ℕ → Parts
spelled profile bytes = found_in profile (module_at profile bytes)

-- m was read without its bodies, which were measured
pub record IsMeasured (m : Parts) (s : Skeleton) : Type 0 where
  pub shaped : IsShaped m
  pub fits : Fits m
  pub lists : s.«module» ≡ outlined m
  pub bodies : s.bodies.items ≡ body_sizes m.funcs
  pub codes : s.codes ≡ length (code_contents m.funcs)
