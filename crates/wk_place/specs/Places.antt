-- Where an item of a section, or a token of its instructions, lies in the bytes of a module (5.5).
use Rattle.std.specs.Prelude.{◌≡◌, ℕ, suc, ◌+◌, ◌==◌, if◌then◌else◌, ◌-◌, ◌<◌, ◌≤◌, Bool, List, [], ◌∷◌, ◌++◌, length, drop, ◌⊎◌, Option, Some, None, Err}
use Rattle.wk_bytes.specs.declared.fault.ReadFault.{ReadFault}
use Rattle.wk_bytes.specs.Frames.{Frame, Section, MayCome, SpellsFrames, limit, magic, version}
use Rattle.wk_bytes.specs.Leb.{SpellsU}
use Rattle.wk_bytes.specs.Span.{Span, offset}
use Rattle.wk_body.specs.declared.types.LocalGroup.{LocalGroup}
use Rattle.wk_body.specs.declared.types.Profile.{Profile}
use Rattle.wk_body.specs.declared.token.Token.{Token}
use Rattle.wk_body.specs.Kept.{told}
use Rattle.wk_body.specs.Kept as pool
use Rattle.wk_body.specs.Bodies.{BodyOf}
use Rattle.wk_body.specs.Reading.{after, all_body_at}
use Rattle.wk_body.specs.Spelling.{SpellsGroups, SpellsBody}
use Rattle.wk_body.specs.Tree.{Tok, Otherwise, Close}
use Rattle.wk_body.specs.Vectors.{SpellsItems, SpellsVector}
use Rattle.wk_body.proofs.GrammarTokens.{SpellsTok}
use Rattle.wk_body.proofs.GrammarTokens as tokens
use Rattle.wk_module.specs.declared.types.DataSeg.{DataSeg}
use Rattle.wk_module.specs.declared.types.Elem.{Elem}
use Rattle.wk_module.specs.declared.types.Export.{Export}
use Rattle.wk_module.specs.declared.types.FuncType.{FuncType}
use Rattle.wk_module.specs.declared.types.GlobalDef.{GlobalDef}
use Rattle.wk_module.specs.declared.types.Import.{Import}
use Rattle.wk_module.specs.declared.types.Limits.{Limits}
use Rattle.wk_module.specs.declared.types.Kind.TheVariants as kinds
use Rattle.wk_module.specs.declared.types.Parts.{Parts}
use Rattle.wk_module.specs.FirstFaults.{last_id}
use Rattle.wk_module.specs.Formats.{SpellsBytes}
use Rattle.wk_module.specs.Imports.{import_count}
use Rattle.wk_module.specs.Items.{SpellsImport, SpellsGlobal, SpellsExport, SpellsElem, SpellsData}
use Rattle.wk_module.specs.Reading.{section_end}
use Rattle.wk_module.specs.Sections.{SectionId, TypeSection, ImportSection, FunctionSection, TableSection, MemorySection, GlobalSection, ExportSection}
use Rattle.wk_module.specs.Sections.{StartSection, ElementSection, CodeSection, DataSection, number}
use Rattle.wk_module.specs.Types.{SpellsFuncType, SpellsLimits, SpellsTableType, SpellsGlobalType}
use Rattle.wk_typing.specs.declared.fault.Place.{Place}
use Rattle.wk_place.specs.declared.place.Located.{Located}

-- ---- sections (5.5.2)

-- The bytes are the header, frames, and then this section: its id, its size, and its contents, which lie at `at`. What comes behind it is
-- not looked at.
pub record IsSectionAt (b : List ℕ) (s : Section) : Type 0 where
  pub frames : List Frame
  pub front : List ℕ
  pub size : List ℕ
  pub later : List ℕ
  pub fits : length b ≤ limit
  pub parts : b ≡ (magic ++ version) ++ (front ++ (s.id ∷ (size ++ (s.contents ++ later))))
  pub framed : SpellsFrames 0 front frames
  pub may : MayCome (last_id frames) s.id
  pub counts : SpellsU 32 size (length s.contents)
  pub place : s.at ≡ length b - length (s.contents ++ later)

-- ---- items

-- What the items of a section are. A code is a size and that many bytes: which body these spell is not asked.
abbrev pub ItemOf : SectionId → Type 0
ItemOf TypeSection = FuncType
ItemOf ImportSection = Import
ItemOf FunctionSection = ℕ
ItemOf TableSection = Limits
ItemOf MemorySection = Limits
ItemOf GlobalSection = GlobalDef
ItemOf ExportSection = Export
ItemOf StartSection = ℕ
ItemOf ElementSection = Elem
ItemOf CodeSection = List ℕ
ItemOf DataSection = DataSeg

abbrev pub SpellsItem : Profile → (k : SectionId) → List ℕ → ItemOf k → Type 0
SpellsItem profile TypeSection = SpellsFuncType
SpellsItem profile ImportSection = SpellsImport
SpellsItem profile FunctionSection = SpellsU 32
SpellsItem profile TableSection = SpellsTableType
SpellsItem profile MemorySection = SpellsLimits
SpellsItem profile GlobalSection = SpellsGlobal profile
SpellsItem profile ExportSection = SpellsExport
SpellsItem profile StartSection = SpellsU 32
SpellsItem profile ElementSection = SpellsElem profile
SpellsItem profile CodeSection = SpellsBytes
SpellsItem profile DataSection = SpellsData profile

-- The contents are a count, that many items as `item` says, which is below the count, and then the rest.
pub record IsBehindItems {A : Type 0} (Spells : List ℕ → A → Type 0) (item : ℕ) (contents rest : List ℕ) : Type 0 where
  pub count : List ℕ
  pub items : List ℕ
  pub n : ℕ
  pub before : List A
  pub parts : contents ≡ count ++ (items ++ rest)
  pub counts : SpellsU 32 count n
  pub spelled : SpellsItems Spells items before
  pub number : length before ≡ item
  pub within : item < n

-- The rest of the contents from an item on. The start section has no count, and one index.
abbrev pub ReachesItem : Profile → SectionId → ℕ → List ℕ → List ℕ → Type 0
ReachesItem profile StartSection item contents rest = (item ≡ 0) × (rest ≡ contents)
ReachesItem profile k item contents rest = IsBehindItems (SpellsItem profile k) item contents rest

-- The bytes of a section from the first of an item on. They end where the section does.
pub record IsItemAt (profile : Profile) (b : List ℕ) (k : SectionId) (item : ℕ) (place : Span) : Type 0 where
  pub section : Section
  pub is_section : IsSectionAt b section
  pub id : section.id ≡ number k
  pub reaches : ReachesItem profile k item section.contents place.rest
  pub ends : place.end ≡ section_end section

-- ---- the instructions of an item

-- What comes first is spelled, and then come the instructions.
abbrev pub IsBehind : {A : Type 0} → (List ℕ → A → Type 0) → Span → Span → Type 0
IsBehind {A = A} Spells item code = (front : List ℕ) × (x : A) × Spells front x × (item.rest ≡ front ++ code.rest) × (code.end ≡ item.end)

-- A code is its size, and as many bytes: local groups, and then the instructions (5.5.13).
pub record IsInBody (item code : Span) : Type 0 where
  pub size : List ℕ
  pub locals : List ℕ
  pub later : List ℕ
  pub groups : List LocalGroup
  pub parts : item.rest ≡ size ++ ((locals ++ code.rest) ++ later)
  pub counts : SpellsU 32 size (length (locals ++ code.rest))
  pub grouped : SpellsGroups groups locals
  pub ends : code.end ≡ item.end - length later

-- the bytes of an item, and those from its first instruction on
abbrev pub HoldsInstrs : SectionId → Span → Span → Type 0
HoldsInstrs GlobalSection item code = IsBehind SpellsGlobalType item code
HoldsInstrs ElementSection item code = IsBehind (SpellsU 32) item code
HoldsInstrs CodeSection item code = IsInBody item code
HoldsInstrs DataSection item code = IsBehind (SpellsU 32) item code
HoldsInstrs _ item code = ⊥

-- ---- tokens (5.4)

-- The bytes spell the tokens one after the other. Of each open block, the innermost first, it is known whether an else may still come: `ks`
-- before them and `ls` behind them. None of them ends the expression.
abbrev pub SpellsToks : Profile → List Bool → List Tok → List ℕ → List Bool → Type 0
SpellsToks profile ks [] b ls = (b ≡ []) × (ls ≡ ks)
SpellsToks profile ks (t ∷ ts) b ls =
    (front later : List ℕ) × (next : List Bool) × (b ≡ front ++ later) × SpellsTok profile t front × tokens.MayCome ks t × (after t ks ≡ Some next)
    × SpellsToks profile next ts later ls

-- The tokens that are counted: an else whose branch holds no instruction is not, since its tree has none.
abbrev pub counted : List Tok → List Tok
counted [] = []
counted (Otherwise skip ∷ Close ∷ ts) = Close ∷ counted ts
counted (t ∷ ts) = t ∷ counted ts

-- The bytes are an end, or begin with one.
abbrev pub BeginsWithEnd : List ℕ → Type 0
BeginsWithEnd b = (rest : List ℕ) × (b ≡ 0x0B ∷ rest)

-- The token is an else, and an end comes next.
abbrev pub IsEmptyElse : Tok → List ℕ → Type 0
IsEmptyElse (Otherwise skip) later = BeginsWithEnd later
IsEmptyElse t later = ⊥

-- The token of that number, counted from 0, stands there: in front of it are tokens of which that many are counted, and it is counted itself.
pub record IsTokenAt (profile : Profile) (code : Span) (n : ℕ) (t : Tok) (place : Span) : Type 0 where
  pub before : List Tok
  pub front : List ℕ
  pub blocks : List Bool
  pub bytes : List ℕ
  pub later : List ℕ
  pub parts : code.rest ≡ front ++ place.rest
  pub here : place.rest ≡ bytes ++ later
  pub spelled : SpellsToks profile [] before front blocks
  pub token : SpellsTok profile t bytes
  pub may : tokens.MayCome blocks t
  pub number : length (counted (before ++ t ∷ [])) ≡ suc n
  pub full : IsEmptyElse t later → ⊥
  pub ends : place.end ≡ code.end

-- ---- places

-- the item, or a token of its instructions
abbrev pub IsWithin : Profile → SectionId → Option ℕ → Span → Span → Type 0
IsWithin profile k None item place = place ≡ item
IsWithin profile k (Some n) item place = (code : Span) × (t : Tok) × HoldsInstrs k item code × IsTokenAt profile code n t place

-- The bytes from a place of a verdict on: the offset of the place is that of the first of them.
pub record IsPlaceAt (profile : Profile) (b : List ℕ) (p : Place) (place : Span) : Type 0 where
  pub id : SectionId
  pub is : p.section ≡ number id
  pub item : Span
  pub reached : IsItemAt profile b id p.item item
  pub within : IsWithin profile id p.token item place

-- The bytes stand in the input at their offset.
pub record LiesAt (b : List ℕ) (s : Span) : Type 0 where
  pub front : List ℕ
  pub later : List ℕ
  pub parts : b ≡ front ++ (s.rest ++ later)
  pub place : length front ≡ offset s
  pub fits : length s.rest ≤ s.end

-- the bytes have no such place
abbrev pub IsNowhere : Profile → List ℕ → Place → Type 0
IsNowhere profile b p = (place : Span) → IsPlaceAt profile b p place → ⊥

-- the place lies at that offset
abbrev pub LiesThere : Profile → List ℕ → Place → Located → Type 0
LiesThere profile b p l = (place : Span) × IsPlaceAt profile b p place × LiesAt b place × (l.offset ≡ offset place)

-- The index of the function whose body an item of a module is, in the function index space (2.5.1): imported functions come first.
abbrev pub func_index : Parts → Place → Option ℕ
func_index m p = if p.section == 10 then Some (import_count kinds.Func m.imports + p.item) else None

-- ---- a token at an offset

-- no token is spelled at the offset
abbrev pub IsNoToken : Profile → List ℕ → ℕ → Type 0
IsNoToken profile b at = (t : Tok) (own later : List ℕ) → SpellsTok profile t own → drop at b ≡ own ++ later → ⊥

-- the token is spelled there, with its labels in the pool
abbrev pub IsTokenThere : Profile → List ℕ → ℕ → List ℕ → Token → Type 0
IsTokenThere profile b at labels token =
    (own later : List ℕ) × SpellsTok profile (told labels token) own × (drop at b ≡ own ++ later) × pool.IsWithin (length labels) token

-- ---- the body in which a first fault lies

-- The bytes of a code, behind its size.
pub record IsCodeAt (profile : Profile) (b : List ℕ) (item : ℕ) (code : Span) : Type 0 where
  pub place : Span
  pub size : List ℕ
  pub later : List ℕ
  pub reached : IsItemAt profile b CodeSection item place
  pub parts : place.rest ≡ size ++ (code.rest ++ later)
  pub counts : SpellsU 32 size (length code.rest)
  pub ends : code.end ≡ place.end - length later

-- So many functions are imported: by the imports that the contents of the import section begin with, or none where there is no such section.
abbrev pub AreImported : List ℕ → ℕ → Type 0
AreImported b n =
    (((s : Section) → IsSectionAt b s → s.id ≡ number ImportSection → ⊥) × (n ≡ 0))
    ⊎ ((s : Section) × (front later : List ℕ) × (is : List Import) × IsSectionAt b s × (s.id ≡ number ImportSection) × (s.contents ≡ front ++ later)
    × SpellsVector SpellsImport front is × (n ≡ import_count kinds.Func is))

-- The code of that number spells no body, and this is the fault that reading it meets; those in front of it spell bodies.
pub record IsBodyFault (profile : Profile) (b : List ℕ) (e : ReadFault) (item : ℕ) : Type 0 where
  pub code : Span
  pub there : IsCodeAt profile b item code
  pub met : all_body_at profile code.end code.rest ≡ Err e
  pub sound : (i : ℕ) (c : Span) → i < item → IsCodeAt profile b i c → (body : BodyOf) × SpellsBody profile body c.rest

-- the fault is that of no body
abbrev pub IsInNoBody : Profile → List ℕ → ReadFault → Type 0
IsInNoBody profile b e = (n item : ℕ) → AreImported b n → IsBodyFault profile b e item → ⊥

-- it is that of the body of this function
abbrev pub IsInBodyOf : Profile → List ℕ → ReadFault → ℕ → Type 0
IsInBodyOf profile b e func = (n item : ℕ) × AreImported b n × IsBodyFault profile b e item × (func ≡ n + item)
