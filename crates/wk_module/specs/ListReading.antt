-- The lists of a module as they are read where its custom sections are let go, which sections may still come, and what reading a whole
-- module says of its bytes (`IsReading`).
use Rattle.std.specs.Prelude.{◌≡◌, ◌==◌, ℕ, max, if◌then◌else◌, Option, Some, None, List, [], ◌∷◌, length, Result, Ok, Err}
use Rattle.wk_bytes.specs.declared.raw.RawSection.{RawSection}
use Rattle.wk_bytes.specs.declared.fault.ReadKind.{ReadKind}
use Rattle.wk_bytes.specs.declared.fault.ReadKind.TheVariants.{FuncCodeCount, Memory}
use Rattle.wk_bytes.specs.declared.fault.ReadFault.{ReadFault}
use Rattle.wk_bytes.specs.Leb.{◌>>=◌}
use Rattle.wk_bytes.specs.Raw.{raw_view}
use Rattle.wk_bytes.specs.Span.{fault, u32_at, name_at}
use Rattle.wk_bytes.specs.Frames.{Section, MayCome, sections_of}
use Rattle.wk_bytes.specs.Stands.{StandsIn}
use Rattle.wk_body.specs.declared.types.Profile.{Profile}
use Rattle.wk_body.specs.Bodies.{BodyOf}
use Rattle.wk_module.specs.declared.types.Parts.{Parts}
use Rattle.wk_module.specs.FirstFaults.{IsFirstFault}
use Rattle.wk_module.specs.Formats.{all_at}
use Rattle.wk_module.specs.Listed.{AreNumbered}
use Rattle.wk_module.specs.Modules.{Spells, SpellsNone}
use Rattle.wk_module.specs.Reading.{section_end, module_at}
use Rattle.wk_module.specs.Sections.{SectionId, of_number, SectionLists, with_contents, no_lists, codes_at, contents_at}
use Rattle.wk_module.specs.Shape.{lists_of, IsShaped}

-- what is read in front of the code section
pub record Front : Type 0 where
  pub lists : SectionLists
  pub code : Option Section
  pub behind : List (Result Section ReadFault)

-- one more section: a custom one, of which the name is read and nothing is kept, or that of an id
unfoldable pub listed_by : Profile → SectionLists → Section → Option SectionId → Result SectionLists ReadFault
listed_by profile l s None = name_at (section_end s) s.contents >>= λ name. Ok l
listed_by profile l s (Some k) = all_at (contents_at profile (length l.funcs) k) (section_end s) s.contents >>= λ x. Ok (with_contents k x l)

abbrev pub with_listed : Profile → SectionLists → Section → Result SectionLists ReadFault
with_listed profile l s = listed_by profile l s (of_number s.id)

-- the lists after some sections, or the first fault
unfoldable pub lists_read : Profile → SectionLists → List (Result Section ReadFault) → Result SectionLists ReadFault
lists_read profile l [] = Ok l
lists_read profile l (Err e ∷ items) = Err e
lists_read profile l (Ok s ∷ items) = with_listed profile l s >>= λ q. lists_read profile q items

-- a fault as a reader may answer it: where it is want of memory it lies at 0
abbrev pub IsFair : ReadFault → ReadKind → Type 0
IsFair e Memory = e.at ≡ 0
IsFair e _ = Unit {0}

-- Of the sections to come, those that are not custom rise from above an id on. A fault that comes is one that bytes may have.
abbrev pub Rise : ℕ → List (Result Section ReadFault) → Type 0
Rise last [] = Unit {0}
Rise last (Err e ∷ items) = IsFair e e.kind
Rise last (Ok s ∷ items) = MayCome last s.id × Rise (max last s.id) items

-- lists that are read, of which each is numbered, and the sections that are left, which rise
pub record IsUnderway (lists : SectionLists) (left : List (Result Section ReadFault)) : Type 0 where
  pub rise : (last : ℕ) × Rise last left
  pub few : AreNumbered lists

-- The lists of the sections in front of the code section, that section unread, and what is left behind it; or all lists, where
-- there is no code section; or the first fault.
unfoldable pub front_read : Profile → SectionLists → List (Result Section ReadFault) → Result Front ReadFault
front_read profile l [] = Ok (record { lists = l; code = None; behind = [] })
front_read profile l (Err e ∷ items) = Err e
front_read profile l (Ok s ∷ items) = if s.id == 10 then Ok (record { lists = l; code = Some s; behind = items })
    else (with_listed profile l s >>= λ q. front_read profile q items)

-- where the codes begin, if the count is that of the functions
unfoldable pub opened_at : ℕ → ℕ → List ℕ → Result (List ℕ) ReadFault
opened_at funcs end bytes = do
  n ← u32_at end bytes
  if n.0 == funcs then Ok n.1 else Err (fault FuncCodeCount end bytes)

-- all the codes of a section, where that many functions were declared
abbrev pub codes_of : Profile → ℕ → Section → Result (List BodyOf) ReadFault
codes_of profile funcs s = all_at (codes_at profile funcs) (section_end s) s.contents

-- ---- a module of which some sections are read

pub record PartlyRead : Type 0 where
  pub profile : Profile
  pub lists : SectionLists
  pub left : List (Result Section ReadFault)

-- lists that are read, and the sections that are left let go
pub record AllRead : Type 0 where
  pub profile : Profile
  pub lists : SectionLists

-- what reading the sections that are left gives
abbrev pub rest_read : PartlyRead → Result SectionLists ReadFault
rest_read r = lists_read r.profile r.lists r.left

-- A section without where it lies in memory, if there is one.
abbrev pub code_view : Option RawSection → Option Section
code_view None = None
code_view (Some s) = Some (raw_view s)

abbrev pub front_of : PartlyRead → Option RawSection → Front
front_of r s = record { lists = r.lists; code = code_view s; behind = r.left }

-- What follows from it, of the sections in front read: no codes were read, and reading on from there gives what reading all gives.
abbrev pub GoesTo : PartlyRead → PartlyRead → Option RawSection → Type 0
GoesTo old new None = (new.profile ≡ old.profile) × (new.lists.codes ≡ old.lists.codes) × (new.left ≡ []) × (rest_read old ≡ Ok new.lists)
GoesTo old new (Some s) =
    (new.profile ≡ old.profile) × (new.lists.codes ≡ old.lists.codes) × (s.id ≡ 10)
    × (rest_read old ≡ lists_read new.profile new.lists (Ok (raw_view s) ∷ new.left))
    × Rise 10 new.left

-- ---- what that has to do with modules

-- The lists of all that was read. Where there is no code section for the functions, that is a fault at the end of the input.
abbrev pub joined_lists : ℕ → SectionLists → Result SectionLists ReadFault
joined_lists end l = if length l.funcs == length l.codes then Ok l else Err (record { kind = FuncCodeCount; at = end })

-- the lists that are read are those of the module that the bytes spell, and the fault is the same
abbrev pub AreListsOfModule : Profile → List ℕ → Type 0
AreListsOfModule profile b = (module_at profile b >>= λ m. Ok (lists_of m)) ≡ (lists_read profile no_lists (sections_of b) >>= joined_lists (length b))

-- What is read is the one module of the profile that the bytes spell. Where there is a fault they spell none, and it is the first.
abbrev pub IsReading : Profile → List ℕ → Result Parts ReadFault → Type 0
IsReading profile b (Ok m) = (m.profile ≡ profile) × Spells b m × ((n : Parts) → n.profile ≡ profile → Spells b n → n ≡ m) × IsShaped m
IsReading profile b (Err e) = SpellsNone profile b × StandsIn b e × IsFirstFault profile b e
