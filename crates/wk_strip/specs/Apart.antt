-- A module of which the codes are still to be read, and all other sections are.
use Rattle.std.specs.Prelude.{◌≡◌, ◌≤◌, ℕ, List, [], ◌∷◌, length, Result, Ok, Err, MatchResult}
use Rattle.wk_bytes.specs.declared.fault.ReadFault.{ReadFault}
use Rattle.wk_bytes.specs.Frames.{Section, limit, sections_of}
use Rattle.wk_bytes.specs.Stands.{LiesIn}
use Rattle.wk_body.specs.declared.types.Profile.{Profile}
use Rattle.wk_body.specs.Bodies.{BodyOf}
use Rattle.wk_body.specs.Reads.{FailsAs}
use Rattle.wk_module.specs.declared.types.Parts.{Parts}
use Rattle.wk_module.specs.ListReading.{AllRead, PartlyRead, Rise, lists_read}
use Rattle.wk_module.specs.Reading.{module_at}
use Rattle.wk_module.specs.Sections.{SectionLists, no_lists}
use Rattle.wk_module.specs.Shape.{lists_of}
use Rattle.wk_strip.specs.declared.codes.Codes.{Codes}
use Rattle.wk_strip.specs.declared.strip.Apart.{Apart}
use Rattle.wk_strip.specs.declared.strip.Apart.TheVariants.{WithCodes, WithoutCode}
use Rattle.wk_strip.specs.Rewritten.{codes_in}

-- the bytes are read as a module of these bodies and these other lists
pub record IsReadWith (profile : Profile) (b : List ℕ) (bodies : List BodyOf) (l : SectionLists) : Type 0 where
  pub whole : Parts
  pub read : module_at profile b ≡ Ok whole
  pub lists : lists_of whole ≡ record l { codes = bodies }
  pub many : length bodies ≡ length l.funcs

-- What the bytes are read as, by what the codes are and what the other sections were read as: a fault of the codes is the first one.
pub record IsApart (profile : Profile) (b : List ℕ) (codes : Result (List BodyOf) ReadFault) (others : Result AllRead ReadFault) : Type 0 where
  pub refused : (e : ReadFault) → codes ≡ Err e → module_at profile b ≡ Err e
  pub read : (bodies : List BodyOf) → codes ≡ Ok bodies → MatchResult others (λ r. IsReadWith profile b bodies r.lists)
      (λ e. FailsAs e e.kind (module_at profile b))

-- what was read up to the section of codes, that section, and what is left
pub record IsFront (profile : Profile) (b : List ℕ) (r : PartlyRead) (s : Section) : Type 0 where
  pub profile_is : r.profile ≡ profile
  pub code_is : s.id ≡ 10
  pub none : r.lists.codes ≡ []
  pub rise : Rise 10 r.left
  pub read : lists_read profile no_lists (sections_of b) ≡ lists_read profile r.lists (Ok s ∷ r.left)
  pub lies : LiesIn b s

-- codes that are still to be read stand in the bytes, and the other sections were read as these
pub record HasCodes (profile : Profile) (b : List ℕ) (c : Codes) (others : Result AllRead ReadFault) : Type 0 where
  pub order : c.first ≤ c.end
  pub within : c.end ≤ length b
  pub few : c.end ≤ limit
  pub apart : IsApart profile b (codes_in profile b c) others

-- there is no code section, and all sections were read as these
pub record HasNoCodes (profile : Profile) (b : List ℕ) (all : AllRead) : Type 0 where
  pub none : all.lists.codes ≡ []
  pub read : lists_read profile no_lists (sections_of b) ≡ Ok all.lists

-- what all sections but that of the codes were read as
abbrev pub IsReadApart : Profile → List ℕ → Apart → Type 0
IsReadApart profile b (WithCodes c others) = HasCodes profile b c others
IsReadApart profile b (WithoutCode all) = HasNoCodes profile b all
