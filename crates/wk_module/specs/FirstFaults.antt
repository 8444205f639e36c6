-- The first fault of an input that spells no module, in the words of the grammar (5.5.2 to 5.5.15): how far the bytes go as those of a
-- module do, and why nothing that comes there goes on so.
use Rattle.std.specs.Prelude.{◌≡◌, ◌≢◌, ◌⊎◌, ℕ, ◌-◌, ◌<◌, ◌≤◌, max, List, [], ◌∷◌, ◌++◌, length, All}
use Rattle.wk_bytes.specs.declared.fault.ReadKind.TheVariants.{BadMagic, BadVersion, UnexpectedEnd, UnknownSection, SectionOrder, SectionSize}
use Rattle.wk_bytes.specs.declared.fault.ReadKind.TheVariants.{FuncCodeCount}
use Rattle.wk_bytes.specs.declared.fault.ReadFault.{ReadFault}
use Rattle.wk_bytes.specs.Fault.{long_input}
use Rattle.wk_bytes.specs.Leb.{SpellsU}
use Rattle.wk_bytes.specs.Span.{Span, offset}
use Rattle.wk_bytes.specs.Frames.{Frame, Section, MayCome, SpellsFrames, limit, magic, version}
use Rattle.wk_bytes.specs.Stands.{Stands, contents_of}
use Rattle.wk_body.specs.declared.types.Profile.{Profile}
use Rattle.wk_module.specs.declared.types.Custom.{Custom}
use Rattle.wk_module.specs.ContentsFaults.{IsAt, IsSizeFault, IsNameFault, BreaksIn}
use Rattle.wk_module.specs.Customs.{SpellsCustom, SpellsCustoms}
use Rattle.wk_module.specs.FormatLaws.{CountIs}
use Rattle.wk_module.specs.Modules.{SpellsSection}
use Rattle.wk_module.specs.Sections.{SectionId, number, ContentsOf, SectionLists, contents, omitted, SpellsContents}

-- the last bytes of an input, and the offset at which they begin
abbrev pub last_of : List ℕ → List ℕ → Span
last_of b rest = record { rest = rest; end = length b }

abbrev pub start_of : List ℕ → List ℕ → ℕ
start_of b rest = offset (last_of b rest)

-- ---- the header (5.5.15)

-- The first four bytes are not `magic`, or the next four are not `version`; or there are fewer.
abbrev pub IsHeaderFault : List ℕ → ReadFault → Type 0
IsHeaderFault b e =
    ((length b < 4) × IsAt e UnexpectedEnd 0)
    ⊎ ((first later : List ℕ) × (b ≡ first ++ later) × (length first ≡ 4) × (first ≢ magic) × IsAt e BadMagic 0)
    ⊎ ((later : List ℕ) × (b ≡ magic ++ later) × (length later < 4) × IsAt e UnexpectedEnd 4)
    ⊎ ((second later : List ℕ) × (b ≡ magic ++ (second ++ later)) × (length second ≡ 4) × (second ≢ version) × IsAt e BadVersion 4)

-- ---- the sections in front of the fault

-- The bytes are the header, these frames, and then `rest`. As of a module, the contents of the frames spell these lists and custom
-- sections, and a code section has as many codes as functions are declared.
pub record BeginsWith (profile : Profile) (b : List ℕ) (frames : List Frame) (lists : SectionLists) (rest : List ℕ) : Type 0 where
  pub front : List ℕ
  pub parts : b ≡ (magic ++ version) ++ (front ++ rest)
  pub framed : SpellsFrames 0 front frames
  pub sections : (k : SectionId) → SpellsSection (number k) (SpellsContents profile k) (omitted k) frames (contents lists k)
  pub customs : List Custom
  pub named : SpellsCustoms 0 frames customs
  pub counted : All (λ f. f.id ≢ 10) frames ⊎ (length lists.codes ≡ length lists.funcs)

-- The greatest id of some frames, or 0. As ids rise, but for those of custom sections, it is that of the last section that is no custom one.
abbrev pub last_id : List Frame → ℕ
last_id [] = 0
last_id (f ∷ frames) = max f.id (last_id frames)

-- ---- a section that may not come there, or whose size is wrong (5.5.2)

-- An id is of no section, or its section comes too late: after one of the same or a greater id.
abbrev pub IsIdFault : ℕ → ℕ → ℕ → ReadFault → Type 0
IsIdFault last id at e = ((11 < id) × IsAt e UnknownSection at) ⊎ ((1 ≤ id) × (id ≤ last) × IsAt e SectionOrder at)

-- After some sections comes an id that may not come there; or one that may, and then no size, or fewer bytes than it says.
pub record IsFrameFault (profile : Profile) (b : List ℕ) (e : ReadFault) : Type 0 where
  pub frames : List Frame
  pub lists : SectionLists
  pub id : ℕ
  pub after_id : List ℕ
  pub begins : BeginsWith profile b frames lists (id ∷ after_id)
  pub wrong : IsIdFault (last_id frames) id (start_of b (id ∷ after_id)) e ⊎ (MayCome (last_id frames) id × IsSizeFault (last_of b after_id) e)

-- ---- a section with wrong contents (5.5.3 to 5.5.14)

-- What the section holds is spelled, and then bytes are left over.
pub record IsLeftOver (profile : Profile) (funcs : ℕ) (k : SectionId) (s : Span) (e : ReadFault) : Type 0 where
  pub front : List ℕ
  pub left : List ℕ
  pub holds : ContentsOf k
  pub parts : s.rest ≡ front ++ left
  pub spelled : SpellsContents profile k front holds
  pub counted : CountIs k funcs holds
  pub some : 0 < length left
  pub there : IsAt e SectionSize (s.end - length left)

-- The section is a custom one, and its contents do not begin with a name.
pub record IsCustomFault (s : Section) (e : ReadFault) : Type 0 where
  pub id : s.id ≡ 0
  pub none : (c : Custom) → SpellsCustom s.contents c → ⊥
  pub name : IsNameFault (contents_of s) e

-- The section is another, and its contents are not what it holds: of the code section that is as many codes as functions were declared.
pub record IsListFault (profile : Profile) (funcs : ℕ) (s : Section) (e : ReadFault) : Type 0 where
  pub id : SectionId
  pub is : s.id ≡ number id
  pub none : (x : ContentsOf id) → CountIs id funcs x → SpellsContents profile id s.contents x → ⊥
  pub wrong : BreaksIn profile funcs id (contents_of s) e ⊎ IsLeftOver profile funcs id (contents_of s) e

-- After some sections comes one that may come there, whole, and the fault is in its contents.
pub record IsContentsFault (profile : Profile) (b : List ℕ) (e : ReadFault) : Type 0 where
  pub frames : List Frame
  pub lists : SectionLists
  pub section : Section
  pub size : List ℕ
  pub later : List ℕ
  pub begins : BeginsWith profile b frames lists (section.id ∷ (size ++ (section.contents ++ later)))
  pub may : MayCome (last_id frames) section.id
  pub counts : SpellsU 32 size (length section.contents)
  pub place : section.at ≡ start_of b (section.contents ++ later)
  pub wrong : IsCustomFault section e ⊎ IsListFault profile (length lists.funcs) section e
  pub within : Stands (contents_of section) e

-- ---- functions without a code section (5.5.15)

-- All of the bytes are sections, functions are declared, and none of the sections is the code section.
pub record IsEndFault (profile : Profile) (b : List ℕ) (e : ReadFault) : Type 0 where
  pub frames : List Frame
  pub lists : SectionLists
  pub begins : BeginsWith profile b frames lists []
  pub none : All (λ f. f.id ≢ 10) frames
  pub declared : 0 < length lists.funcs
  pub at_end : IsAt e FuncCodeCount (length b)

-- ---- any of them

-- The first fault of an input: it is longer than any module may be; or its header is wrong; or after some sections comes an id or a size
-- that is wrong; or a section with wrong contents; or the sections end, and the codes of their functions are missing.
abbrev pub IsFirstFault : Profile → List ℕ → ReadFault → Type 0
IsFirstFault profile b e =
    ((limit < length b) × (e ≡ long_input))
    ⊎ ((length b ≤ limit) × (IsHeaderFault b e ⊎ IsFrameFault profile b e ⊎ IsContentsFault profile b e ⊎ IsEndFault profile b e))
