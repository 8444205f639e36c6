-- The first fault of a module, section by section.
use Rattle.std.proofs.Common.{◌≡◌, ℕ, ◌+◌, ◌≤◌, max, nat_le, Bool, true, false, if◌then◌else◌, List, [], ◌∷◌, ◌++◌, length, take, Option, Some, None}
use Rattle.std.proofs.Common.{Result, Ok, Err, refl, sym, ap, subst, ◌∙◌, inl, inr, arith}
use Rattle.std.proofs.lemmas.Bool.{leb-true}
use Rattle.wk_bytes.specs.declared.fault.ReadFault.{ReadFault}
use Rattle.wk_bytes.specs.Leb.{◌>>=◌}
use Rattle.wk_bytes.specs.LebLaws.{bind_ok, done}
use Rattle.wk_bytes.specs.SpanLaws.{ok_is}
use Rattle.wk_bytes.specs.Span.{name_at}
use Rattle.wk_bytes.specs.Frames.{Section, MayCome}
use Rattle.wk_body.specs.declared.types.Profile.{Profile}
use Rattle.wk_module.specs.declared.types.DataSeg.{DataSeg}
use Rattle.wk_module.specs.Formats.{all_at}
use Rattle.wk_module.specs.ListReading.{listed_by, with_listed}
use Rattle.wk_module.specs.Reading.{section_end}
use Rattle.wk_module.specs.Sections.{SectionId, number, of_number, ContentsOf, SectionLists, contents, omitted, no_lists, with_contents, contents_at}
use Rattle.wk_module.specs.Sections.{TypeSection, ImportSection, FunctionSection, TableSection, MemorySection, GlobalSection, ExportSection}
use Rattle.wk_module.specs.Sections.{StartSection, ElementSection, CodeSection, DataSection}
use Rattle.wk_module.specs.SectionLaws.{number-of_number, number_some, contents-elsewhere, contents-none, same_number, same_lists}
use Rattle.wk_typing.specs.declared.fault.Fault.{Fault}
use Rattle.wk_check.specs.Flaws.{numbered, first_in, verdict_by}
use Rattle.wk_check.specs.Items.{earlier, data_flaw}
use Rattle.wk_check.specs.Spaces.{spaces_of}
use Rattle.wk_check.specs.Verdict.{data_flaws, front_fault, verdict_around}
use Rattle.wk_judging.specs.Contexts.{ModuleContext, context_of, section_flaws, fault_with, section_judged, lists_fault, AreOmittedFrom}
use Rattle.wk_check.proofs.Flaws.{earlier_none, earlier_assoc}

-- ---- lists of which the sections from an id on are left out

pub omitted_at_first : AreOmittedFrom 1 no_lists
omitted_at_first k above = contents-none k

fewer_omitted : (m n : ℕ) (l : SectionLists) → m ≤ n → AreOmittedFrom m l → AreOmittedFrom n l
fewer_omitted m n l le none k above = none k (omega (arith, le, above))

abbrev emptied : ℕ → SectionLists → SectionLists
emptied id l = record {
  types = if nat_le id 1 then [] else l.types;
  imports = if nat_le id 2 then [] else l.imports;
  funcs = if nat_le id 3 then [] else l.funcs;
  tables = if nat_le id 4 then [] else l.tables;
  memories = if nat_le id 5 then [] else l.memories;
  globals = if nat_le id 6 then [] else l.globals;
  exports = if nat_le id 7 then [] else l.exports;
  start = if nat_le id 8 then None else l.start;
  elems = if nat_le id 9 then [] else l.elems;
  codes = if nat_le id 10 then [] else l.codes;
  datas = if nat_le id 11 then [] else l.datas;
}

contents_emptied : (id : ℕ) (l : SectionLists) (k : SectionId) → contents (emptied id l) k ≡ (if nat_le id (number k) then omitted k else contents l k)
contents_emptied id l TypeSection = refl
contents_emptied id l k = refl

emptied_by : (id : ℕ) (l : SectionLists) (k : SectionId) (b : Bool) → AreOmittedFrom id l → nat_le id (number k) ≡ b
    → contents l k ≡ (if b then omitted k else contents l k)
emptied_by id l k true none is = none k (leb-true id (number k) is)
emptied_by id l k false none is = refl

emptied_is : (id : ℕ) (l : SectionLists) → AreOmittedFrom id l → l ≡ emptied id l
emptied_is id l none = same_lists l (emptied id l) (λ k. emptied_by id l k (nat_le id (number k)) none refl ∙ sym (contents_emptied id l k))

-- ---- one section more

-- the first of several
abbrev first_of_all : List (Option Fault) → Option Fault
first_of_all [] = None
first_of_all (a ∷ behind) = earlier a (first_of_all behind)

with_last : (front : List (Option Fault)) (a : Option Fault) → first_of_all (front ++ a ∷ []) ≡ earlier (first_of_all front) a
with_last [] a = earlier_none a
with_last (b ∷ front) a = ap (earlier b) (with_last front a) ∙ sym (earlier_assoc b (first_of_all front) a)

-- the same, with no data section
last_section : (front : List (Option Fault)) (a : Option Fault)
    → earlier (first_of_all (front ++ a ∷ [])) None ≡ earlier (earlier (first_of_all front) None) a
last_section front a =
    earlier_none (first_of_all (front ++ a ∷ [])) ∙ with_last front a ∙ ap (λ (o : Option Fault). earlier o a) (sym (earlier_none (first_of_all front)))

-- the first fault of a section
abbrev fault_in : Profile → SectionLists → SectionId → Option Fault
fault_in profile l k = first_in (number k) 0 (section_flaws profile l k)

-- of the first so many sections
abbrev faults_up_to : ℕ → Profile → SectionLists → List (Option Fault)
faults_up_to n profile l = take n
    (fault_in profile l TypeSection ∷ fault_in profile l ImportSection ∷ fault_in profile l FunctionSection ∷ fault_in profile l TableSection
    ∷ fault_in profile l MemorySection ∷ fault_in profile l GlobalSection ∷ fault_in profile l ExportSection ∷ fault_in profile l StartSection
    ∷ fault_in profile l ElementSection ∷ [])

-- the first fault of lists that get a section is that of those in front, or else its own
abbrev IsBehind : Profile → (k : SectionId) → ContentsOf k → SectionLists → Type 0
IsBehind profile k x l = lists_fault profile (with_contents k x l) ≡ earlier (lists_fault profile l) (fault_in profile (with_contents k x l) k)

-- of a section with so many in front
behind_some : (n : ℕ) (profile : Profile) (k : SectionId) (x : ContentsOf k) (l : SectionLists)
    → earlier (first_of_all (faults_up_to n profile l ++ fault_in profile (with_contents k x l) k ∷ [])) None
    ≡ earlier (earlier (first_of_all (faults_up_to n profile l)) None) (fault_in profile (with_contents k x l) k)
behind_some n profile k x l = last_section (faults_up_to n profile l) (fault_in profile (with_contents k x l) k)

behind_emptied : (profile : Profile) (k : SectionId) (x : ContentsOf k) (l : SectionLists) → IsBehind profile k x (emptied (number k) l)
behind_emptied profile TypeSection x l = behind_some 0 profile TypeSection x (emptied 1 l)
behind_emptied profile ImportSection x l = behind_some 1 profile ImportSection x (emptied 2 l)
behind_emptied profile FunctionSection x l = behind_some 2 profile FunctionSection x (emptied 3 l)
behind_emptied profile TableSection x l = behind_some 3 profile TableSection x (emptied 4 l)
behind_emptied profile MemorySection x l = behind_some 4 profile MemorySection x (emptied 5 l)
behind_emptied profile GlobalSection x l = behind_some 5 profile GlobalSection x (emptied 6 l)
behind_emptied profile ExportSection x l = behind_some 6 profile ExportSection x (emptied 7 l)
behind_emptied profile StartSection x l = behind_some 7 profile StartSection x (emptied 8 l)
behind_emptied profile ElementSection x l = behind_some 8 profile ElementSection x (emptied 9 l)
behind_emptied profile CodeSection x l = sym (earlier_none (lists_fault profile (emptied 10 l)))
behind_emptied profile DataSection x l =
    ap (λ (o : Option Fault). earlier o (fault_in profile (with_contents DataSection x (emptied 11 l)) DataSection))
    (sym (earlier_none (front_fault profile (emptied 11 l))))

pub fault_behind : (profile : Profile) (k : SectionId) (x : ContentsOf k) (l : SectionLists) → AreOmittedFrom (number k) l
    → lists_fault profile (with_contents k x l)
    ≡ earlier (lists_fault profile l) (first_in (number k) 0 (section_flaws profile (with_contents k x l) k))
fault_behind profile k x l none = subst (IsBehind profile k x) (sym (emptied_is (number k) l none)) (behind_emptied profile k x l)

-- ---- sections as they come

pub omitted_here : (last : ℕ) (s : Section) (k : SectionId) (l : SectionLists) → MayCome last s.id → of_number s.id ≡ Some k
    → AreOmittedFrom (last + 1) l → AreOmittedFrom (number k) l
omitted_here last s k l (inl custom) is none =
    let id : s.id ≡ number k = number-of_number s.id k is in
    absurd (omega (arith, id, custom, number_some k))
omitted_here last s k l (inr above) is none =
    let id : s.id ≡ number k = number-of_number s.id k is in
    fewer_omitted (last + 1) (number k) l (omega (arith, id, above.0)) none

omitted_with : (last id : ℕ) (j : SectionId) (x : ContentsOf j) (l : SectionLists) → id ≡ number j → AreOmittedFrom (last + 1) l
    → AreOmittedFrom (max last id + 1) (with_contents j x l)
omitted_with last id j x l is none k above =
    contents-elsewhere j k x l (λ same. absurd (omega (arith, is, above, ap number same))) ∙ none k (omega (arith, above))

omitted_by : (profile : Profile) (last : ℕ) (l q : SectionLists) (s : Section) (o : Option SectionId) → AreOmittedFrom (last + 1) l
    → of_number s.id ≡ o → listed_by profile l s o ≡ Ok q → AreOmittedFrom (max last s.id + 1) q
unfolding listed_by
omitted_by profile last l q s None none is read =
    let a = bind_ok (name_at (section_end s) s.contents) (λ name. done l) q read in
    subst (AreOmittedFrom (max last s.id + 1)) (ok_is l q a.2) (fewer_omitted (last + 1) (max last s.id + 1) l (omega arith) none)
omitted_by profile last l q s (Some k) none is read =
    let a = bind_ok (all_at (contents_at profile (length l.funcs) k) (section_end s) s.contents) (λ x. done (with_contents k x l)) q read in
    subst (AreOmittedFrom (max last s.id + 1)) (ok_is (with_contents k a.0 l) q a.2)
    (omitted_with last s.id k a.0 l (number-of_number s.id k is) none)

pub omitted_behind : (profile : Profile) (last : ℕ) (s : Section) (l q : SectionLists) → MayCome last s.id → AreOmittedFrom (last + 1) l
    → with_listed profile l s ≡ Ok q → AreOmittedFrom (max last s.id + 1) q
omitted_behind profile last s l q may none read = omitted_by profile last l q s (of_number s.id) none refl read

-- what a section that is read and judged comes to, by the first fault of the lists with it
abbrev as_judged : (SectionLists → Option Fault) → Result SectionLists ReadFault → Result (ModuleContext × Option Fault) ReadFault
as_judged fault_of read = read >>= λ q. Ok (context_of q, fault_of q)

same_fault : {X : Type 0} (put : X → SectionLists) (f g : SectionLists → Option Fault) (r : Result X ReadFault) → ((x : X) → f (put x) ≡ g (put x))
    → as_judged f (r >>= λ x. Ok (put x)) ≡ as_judged g (r >>= λ x. Ok (put x))
same_fault put f g (Ok x) same = ap (λ (o : Option Fault). done (context_of (put x), o)) (same x)
same_fault put f g (Err e) same = refl

-- where that is so for a custom section and for those that may come
judged_by : (profile : Profile) (l : SectionLists) (before : Option Fault) (f : SectionLists → Option Fault) (s : Section) (o : Option SectionId)
    → before ≡ f l → ((k : SectionId) (x : ContentsOf k) → o ≡ Some k → fault_with profile (with_contents k x l) before s.id o ≡ f (with_contents k x l))
    → (listed_by profile l s o >>= λ q. Ok (context_of q, fault_with profile q before s.id o)) ≡ as_judged f (listed_by profile l s o)
unfolding listed_by
judged_by profile l before f s None here each =
    same_fault (λ name. l) (λ q. before) f (name_at (section_end s) s.contents) (λ name. here)
judged_by profile l before f s (Some k) here each =
    same_fault (λ x. with_contents k x l) (λ q. fault_with profile q before s.id (Some k)) f
    (all_at (contents_at profile (length l.funcs) k) (section_end s) s.contents) (λ x. each k x refl)

at_number : (profile : Profile) (l : SectionLists) (before : Option Fault) (id : ℕ) (o : Option SectionId) (k : SectionId) → o ≡ Some k → id ≡ number k
    → fault_with profile l before id o ≡ earlier before (first_in (number k) 0 (section_flaws profile l k))
at_number profile l before id o k is same = rw (is, same) refl

-- one section more, in front of the code section or behind it
pub section_step : (profile : Profile) (last : ℕ) (s : Section) (l : SectionLists) → MayCome last s.id → AreOmittedFrom (last + 1) l
    → section_judged profile l (lists_fault profile l) s ≡ (with_listed profile l s >>= λ q. Ok (context_of q, lists_fault profile q))
section_step profile last s l may none =
    judged_by profile l (lists_fault profile l) (lists_fault profile) s (of_number s.id) refl
    (λ k x is. at_number profile (with_contents k x l) (lists_fault profile l) s.id (of_number s.id) k is (number-of_number s.id k is)
    ∙ sym (fault_behind profile k x l (omitted_here last s k l may is none)))

-- ---- up to the code section, and behind it

pub no_datas : (profile : Profile) (l : SectionLists) (before : Option Fault) → l.datas ≡ [] → earlier before (first_in 11 0 (data_flaws l)) ≡ before
no_datas profile l before none =
    ap (λ (ds : List DataSeg). earlier before (first_in 11 0 (numbered (λ item d. data_flaw (spaces_of l) d) 0 ds))) none ∙ earlier_none before

pub front_is : (profile : Profile) (l : SectionLists) → AreOmittedFrom 10 l → lists_fault profile l ≡ front_fault profile l
front_is profile l none = no_datas profile l (front_fault profile l) (none DataSection (omega arith))

behind_codes : (last id : ℕ) (k : SectionId) → MayCome last id → 10 ≤ last → id ≡ number k → (last ≡ 10) × (k ≡ DataSection)
behind_codes last id k (inl custom) le is = absurd (omega (arith, is, custom, number_some k))
behind_codes last id k (inr above) le is =
    (omega (arith, above.0, above.1, le), same_number k DataSection (omega (arith, above.0, above.1, le, is)))

data_step : (profile : Profile) (l : SectionLists) (f before : Option Fault) (k : SectionId) (x : ContentsOf k)
    → f ≡ earlier before (first_in 11 0 (data_flaws l)) → k ≡ DataSection → l.datas ≡ []
    → earlier f (first_in (number k) 0 (section_flaws profile (with_contents k x l) k)) ≡ earlier before (first_in 11 0 (data_flaws (with_contents k x l)))
data_step profile l f before DataSection x f_is is none =
    ap (λ (o : Option Fault). earlier o (first_in 11 0 (data_flaws (with_contents DataSection x l)))) (f_is ∙ no_datas profile l before none)
data_step profile l f before k x f_is is none = let e : number k ≡ 11 = ap number is in absurd (omega (arith, e))

pub behind_step : (profile : Profile) (last : ℕ) (s : Section) (l : SectionLists) (f before : Option Fault)
    → f ≡ earlier before (first_in 11 0 (data_flaws l)) → MayCome last s.id → 10 ≤ last → AreOmittedFrom (last + 1) l
    → section_judged profile l f s ≡ (with_listed profile l s >>= λ q. Ok (context_of q, earlier before (first_in 11 0 (data_flaws q))))
behind_step profile last s l f before f_is may le none =
    judged_by profile l f (λ q. earlier before (first_in 11 0 (data_flaws q))) s (of_number s.id) f_is
    (λ k x is.
    let id : s.id ≡ number k = number-of_number s.id k is in
    let place = behind_codes last s.id k may le id in
    at_number profile (with_contents k x l) f s.id (of_number s.id) k is id
    ∙ data_step profile l f before k x f_is place.1 (none DataSection (omega (arith, place.0))))

-- the verdict of a module with no bodies
pub fault_of_lists : (profile : Profile) (l : SectionLists) → verdict_by (lists_fault profile l) ≡ verdict_around profile (record l { codes = [] }) None
fault_of_lists profile l = refl
