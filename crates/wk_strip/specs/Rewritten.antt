-- Codes that are written over the bytes that they were read of.
use Rattle.std.specs.Prelude.{◌≡◌, ◌+◌, ◌≤◌, ℕ, List, ◌++◌, length, take, drop, Result, Ok}
use Rattle.std.specs.List.{between, flat_map}
use Rattle.wk_bytes.specs.declared.fault.ReadFault.{ReadFault}
use Rattle.wk_bytes.specs.Frames.{Section}
use Rattle.wk_bytes.specs.Short.{short}
use Rattle.wk_bytes.specs.Span.{Span}
use Rattle.wk_body.specs.declared.types.Profile.{Profile}
use Rattle.wk_body.specs.Bodies.{BodyOf}
use Rattle.wk_body.specs.Vectors.{items_at}
use Rattle.wk_module.specs.Formats.{all_at, bytes_at}
use Rattle.wk_module.specs.Items.{code_at, written_code}
use Rattle.wk_module.specs.Reading.{section_end}
use Rattle.wk_module.specs.Sections.{codes_at}
use Rattle.wk_strip.specs.declared.codes.Codes.{Codes}
use Rattle.wk_strip.specs.declared.codes.Place.{Place}

-- the codes that stand there in the input, up to the end of their section
abbrev pub codes_in : Profile → List ℕ → Codes → Result (List BodyOf) ReadFault
codes_in profile b c = all_at (items_at (code_at profile) c.count) c.end (between c.first c.end b)

-- the codes of a section, where that many functions were declared: they begin behind their number
pub record BeginsCodes (s : Section) (funcs : ℕ) (c : Codes) : Type 0 where
  pub front : List ℕ
  pub rest : List ℕ
  pub parts : s.contents ≡ front ++ rest
  pub first : c.first ≡ s.at + length front
  pub end : c.end ≡ section_end s
  pub opened : (profile : Profile) → codes_at profile funcs (section_end s) s.contents ≡ items_at (code_at profile) c.count c.end rest

-- a code that stands at an offset, behind its size, in a section that ends at another
pub record IsTaken (b : List ℕ) (read end : ℕ) (code : Span) : Type 0 where
  pub taken : bytes_at end (between read end b) ≡ Ok (code.rest, between code.end end b)
  pub room : read + length (short (length code.rest)) + length code.rest ≤ code.end
  pub within : code.end ≤ end

-- one code was read at a place, and written
pub record IsRewritten (profile : Profile) (old new : List ℕ) (from to : Place) : Type 0 where
  pub body : BodyOf
  pub read : code_at profile from.end (between from.read from.end old) ≡ Ok (body, between to.read to.end old)
  pub written : to.write ≡ from.write + length (written_code body)
  pub behind : to.write ≤ to.read
  pub order : to.read ≤ to.end
  pub end : to.end ≡ from.end
  pub bytes : new ≡ take from.write old ++ (written_code body ++ drop to.write old)

-- all of them were, and end there
pub record AreRewritten (profile : Profile) (old new : List ℕ) (c : Codes) (end : ℕ) : Type 0 where
  pub bodies : List BodyOf
  pub read : codes_in profile old c ≡ Ok bodies
  pub least : c.first ≤ end
  pub most : end ≤ length new
  pub written : drop c.first (take end new) ≡ flat_map written_code bodies
