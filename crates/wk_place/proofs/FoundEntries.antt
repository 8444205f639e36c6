-- The entry that is looked for is the first unknown function of the segment that stands at the place.
use Rattle.std.proofs.Common.{◌≡◌, ◌≢◌, ◌⊎◌, ℕ, zero, suc, ◌+◌, ◌<◌, ◌≤◌, Bool, true, false, ltb, cond, inl, inr, List, [], ◌∷◌, ◌++◌, length, map}
use Rattle.std.proofs.Common.{Option, Some, None, Result, Ok, Err, refl, sym, ap, subst, ◌∙◌, length-append, arith}
use Rattle.std.proofs.lemmas.Bool.{cases_lt, ltb-true, ltb-false, lt-ltb, le-ltb}
use Rattle.std.specs.List.{AllByRecursion}
use Rattle.wk_bytes.specs.declared.fault.ReadFault.{ReadFault}
use Rattle.wk_bytes.specs.Frames.{Frame, Section, SpellsFrames, frame_of, sections_of}
use Rattle.wk_bytes.specs.FrameLaws.{sections_of-again}
use Rattle.wk_bytes.specs.Leb.{SpellsU}
use Rattle.wk_bytes.specs.LebLaws.{IsBytes, chosen, some_is, ok_is}
use Rattle.wk_bytes.specs.PieceLaws.{u32_at-again}
use Rattle.wk_bytes.specs.Span.{Span, u32_at}
use Rattle.wk_bytes.specs.SpanLaws.{not_both}
use Rattle.wk_body.specs.declared.types.Profile.{Profile}
use Rattle.wk_body.specs.Reading.{expr_at}
use Rattle.wk_body.specs.Vectors.{SpellsItems, SpellsVector}
use Rattle.wk_module.specs.declared.types.Elem.{Elem}
use Rattle.wk_module.specs.declared.types.Kind.TheVariants as kinds
use Rattle.wk_module.specs.declared.types.Parts.{Parts}
use Rattle.wk_module.specs.Imports.{import_count}
use Rattle.wk_module.specs.Items.{SpellsElem}
use Rattle.wk_module.specs.Modules.{Spells, SpellsSection}
use Rattle.wk_module.specs.Reading.{section_end}
use Rattle.wk_module.specs.SectionLaws.{number_some}
use Rattle.wk_module.specs.Sections.{SectionId, FunctionSection, ElementSection, number}
use Rattle.wk_module.proofs.Formats.{both_parts}
use Rattle.wk_typing.specs.declared.fault.Fault.{Fault}
use Rattle.wk_typing.specs.declared.fault.Place.{Place}
use Rattle.wk_check.specs.Spaces.{imported, func_in}
use Rattle.wk_check.specs.SpacesLaws.{imported_funcs}
use Rattle.wk_place.specs.Entries.{IsFirstUnknown, IsOfFuncs, MeansEntry, IsEntry, func_count}
use Rattle.wk_place.specs.Places.{IsItemAt, IsWithin}
use Rattle.wk_place.specs.Seeking.{first_with, passed, seek_at, then_at, item_at, place_at, unknown_from, unknown_at, defined_in, defined_at, known_at}
use Rattle.wk_place.specs.Seeking.{entry_at}
use Rattle.wk_place.proofs.EntrySteps.{EntryFound}
use Rattle.wk_place.proofs.FoundFuncs.{section_of, imported_is}
use Rattle.wk_place.proofs.FoundInstrs.{some_span}
use Rattle.wk_place.proofs.FoundItems.{code_laws, passed_again}
use Rattle.wk_place.proofs.FoundPlaces.{place_again}
use Rattle.wk_place.proofs.FoundSections.{section_found}
use Rattle.wk_place.proofs.ModulePlaces.{section_there, standing}

-- ---- the first of a list that is not below a count

abbrev pub first_from : ℕ → ℕ → List ℕ → Option ℕ
first_from known entry [] = None
first_from known entry (x ∷ xs) = cond (ltb x known) (first_from known (entry + 1) xs) (Some entry)

-- the same of the functions of a segment
abbrev pub entry_in : ℕ → List ℕ → Option ℕ
entry_in known funcs = cond (ltb (length funcs) 2) None (first_from known 0 funcs)

first_is : (known entry func : ℕ) (front later : List ℕ) → AllByRecursion (λ x. x < known) front → known ≤ func
    → first_from known entry (front ++ func ∷ later) ≡ Some (entry + length front)
first_is known entry func [] later all unknown =
    let same : entry ≡ entry + 0 = omega arith in
    rw (le-ltb func known unknown) (ap (λ (n : ℕ). Some n) same)
first_is known entry func (x ∷ xs) later all unknown =
    let same : entry + 1 + length xs ≡ entry + length (x ∷ xs) = omega arith in
    rw (lt-ltb x known all.0) (first_is known (entry + 1) func xs later all.1 unknown ∙ ap (λ (n : ℕ). Some n) same)

record First (known entry : ℕ) (funcs : List ℕ) (found : ℕ) : Type 0 where
  front : List ℕ
  func : ℕ
  later : List ℕ
  parts : funcs ≡ front ++ func ∷ later
  number : entry + length front ≡ found
  known_front : AllByRecursion (λ x. x < known) front
  unknown : known ≤ func

is_first : (known entry found : ℕ) (funcs : List ℕ) → first_from known entry funcs ≡ Some found → First known entry funcs found
is_first known entry found [] h = absurd cc
is_first known entry found (x ∷ xs) h =
    elim (chosen (ltb x known) (first_from known (entry + 1) xs) (Some entry) (Some found) h) [
      | inl p ↦
          let f = is_first known (entry + 1) found xs p.1 in
          record {
            front = x ∷ f.front;
            func = f.func;
            later = f.later;
            parts = ap (λ (ys : List ℕ). x ∷ ys) f.parts;
            number = omega (arith, f.number);
            known_front = (ltb-true x known p.0, f.known_front);
            unknown = f.unknown;
          }
      | inr p ↦
          let same : entry + 0 ≡ entry = omega arith in
          record {
            front = [];
            func = x;
            later = xs;
            parts = refl;
            number = same ∙ some_is entry found p.1;
            known_front = tt;
            unknown = ltb-false x known p.0;
          }
    ]

entry_is : (known entry : ℕ) (funcs : List ℕ) → 1 < length funcs → IsFirstUnknown known funcs entry → entry_in known funcs ≡ Some entry
entry_is known entry funcs several h =
    let same : 0 + length h.front ≡ entry = omega (arith, h.number) in
    rw (le-ltb (length funcs) 2 several) (
    ap (first_from known 0) h.parts ∙ first_is known 0 h.func h.front h.later h.known h.unknown ∙ ap (λ (n : ℕ). Some n) same
    )

is_entry : (known entry : ℕ) (funcs : List ℕ) → entry_in known funcs ≡ Some entry → (1 < length funcs) × IsFirstUnknown known funcs entry
is_entry known entry funcs h =
    elim (chosen (ltb (length funcs) 2) None (first_from known 0 funcs) (Some entry) h) [
      | inl p ↦ absurd cc
      | inr p ↦
          let f = is_first known 0 entry funcs p.1 in (
            ltb-false (length funcs) 2 p.0,
            record {
              front = f.front;
              func = f.func;
              later = f.later;
              parts = f.parts;
              number = omega (arith, f.number);
              known = f.known_front;
              unknown = f.unknown;
            },
          )
    ]

-- ---- a segment as it is read

abbrev done_as : Option ℕ → EntryFound
done_as x = Ok x

-- what is found, in both cases of a test
pushed : (b : Bool) (x y : Option ℕ) → cond b (Ok x) (Ok y) ≡ done_as (cond b x y)
pushed true x y = refl
pushed false x y = refl

none_some : (n : ℕ) → done_as None ≡ done_as (Some n) → ⊥
none_some n e = absurd cc

funcs_read : (known entry end : ℕ) (b later : List ℕ) (xs : List ℕ) → SpellsItems (SpellsU 32) b xs
    → unknown_from known entry (length xs) end (b ++ later) ≡ Ok (first_from known entry xs)
funcs_read known entry end b later [] s = refl
funcs_read known entry end b later (x ∷ xs) s =
    let one : u32_at end (b ++ later) ≡ Ok (x, s.1 ++ later) =
    ap (u32_at end) (both_parts b s.0 s.1 later s.2) ∙ u32_at-again end s.0 x (s.1 ++ later) s.3 in
    rw one (
    ap (λ (r : EntryFound). cond (ltb x known) r (Ok (Some entry))) (funcs_read known (entry + 1) end s.1 later xs s.4)
    ∙ pushed (ltb x known) (first_from known (entry + 1) xs) (Some entry)
    )

segment_read : (profile : Profile) (known end : ℕ) (own more : List ℕ) (e : Elem) → SpellsElem profile own e
    → unknown_at profile known end (own ++ more) ≡ Ok (entry_in known e.funcs)
unfolding unknown_at
segment_read profile known end own more e s =
    let t = s.second in
    let v = t.second in
    let table : u32_at end (own ++ more) ≡ Ok (e.table, s.later ++ more) =
    ap (u32_at end) (both_parts own s.front s.later more s.parts) ∙ u32_at-again end s.front e.table (s.later ++ more) s.first in
    let offset : passed (expr_at profile) end (s.later ++ more) ≡ Ok (tt, t.later ++ more) =
    ap (passed (expr_at profile) end) (both_parts s.later t.front t.later more t.parts)
    ∙ passed_again (expr_at profile) end (t.front ++ (t.later ++ more)) e.offset (t.later ++ more)
    ((code_laws profile).expr.again end e.offset t.front (t.later ++ more) t.first) in
    let count : u32_at end (t.later ++ more) ≡ Ok (length e.funcs, v.items ++ more) =
    ap (u32_at end) (both_parts t.later v.count v.items more v.parts) ∙ u32_at-again end v.count (length e.funcs) (v.items ++ more) v.counts in
    rw (table, offset, count) (
    ap (λ (r : EntryFound). cond (ltb (length e.funcs) 2) (Ok None) r) (funcs_read known 0 end v.items more e.funcs v.spelled)
    ∙ pushed (ltb (length e.funcs) 2) None (first_from known 0 e.funcs)
    )

-- ---- an item of a list by its number

record Split {A : Type 0} (i : ℕ) (xs : List A) : Type 0 where
  before : List A
  x : A
  behind : List A
  parts : xs ≡ before ++ x ∷ behind
  number : length before ≡ i

split_at : {A : Type 0} (i : ℕ) (xs : List A) → i < length xs → Split i xs
split_at i [] lt = absurd (omega (arith, lt))
split_at zero (x ∷ xs) lt = record { before = []; x = x; behind = xs; parts = refl; number = refl }
split_at {A = A} (suc i) (x ∷ xs) lt =
    let s = split_at i xs (omega (arith, lt)) in
    record { before = x ∷ s.before; x = s.x; behind = s.behind; parts = ap (λ (ys : List A). x ∷ ys) s.parts; number = ap suc s.number }

-- ---- the sections of a module's bytes

none_sought : (profile : Profile) (id item n end : ℕ) (contents items : List ℕ) → id ≡ 9 → u32_at end contents ≡ Ok (n, items) → n ≤ item
    → seek_at profile id item end contents ≡ Ok None
unfolding seek_at
none_sought profile id item n end contents items is read past = rw (is, read, le-ltb item n past) refl

vector_counts : {A : Type 0} (Holds : List ℕ → A → Type 0) (end : ℕ) (contents : List ℕ) (xs : List A) → SpellsVector Holds contents xs
    → (items : List ℕ) × (u32_at end contents ≡ Ok (length xs, items))
vector_counts Holds end contents xs v = (v.items, ap (u32_at end) v.parts ∙ u32_at-again end v.count (length xs) v.items v.counts)

module _ (b : List ℕ) (m : Parts) (spelled : Spells b m) (fits : IsBytes b) where
  abbrev Held : {A : Type 0} → ℕ → (List ℕ → A → Type 0) → A → A → Type 0
  Held id Holds y x =
      ((first_with id (sections_of b) ≡ None) × (x ≡ y)) ⊎ ((s : Section) × (first_with id (sections_of b) ≡ Some s) × Holds s.contents x)

  section_held : {A : Type 0} (k : SectionId) (Holds : List ℕ → A → Type 0) (y x : A) → SpellsSection (number k) Holds y spelled.frames x
      → Held (number k) Holds y x
  section_held k Holds y x h =
      let f = spelled.framing in
      let ss = sections_of-again b spelled.frames f in
      let framed : SpellsFrames 0 f.frames (map frame_of ss.0) = subst (SpellsFrames 0 f.frames) (sym ss.1) f.spelled in
      let holds : SpellsSection (number k) Holds y (map frame_of ss.0) x =
      subst (λ (fs : List Frame). SpellsSection (number k) Holds y fs x) (sym ss.1) h in
      let whole = ap (λ items. first_with (number k) items) ss.2 in
      elim (section_of (number k) Holds (number_some k) 0 f.frames ss.0 y x framed holds) [
        | inl p ↦ inl (whole ∙ p.0, p.1)
        | inr p ↦ inr (p.0, whole ∙ p.1, p.2)
      ]

  -- ---- the functions of a module

  abbrev Types : List ℕ
  Types = map (λ f. f.ty) m.funcs

  defined_is : defined_at b ≡ Ok (length Types)
  defined_is =
      elim (section_held FunctionSection (SpellsVector (SpellsU 32)) [] Types (spelled.sections FunctionSection)) [
        | inl p ↦ ap defined_in p.0 ∙ ap (λ (xs : List ℕ). count_as (length xs)) (sym p.1)
        | inr p ↦ let read = vector_counts (SpellsU 32) (section_end p.0) p.0.contents Types p.2 in ap defined_in p.1 ∙ rw read.1 refl
      ]
    where
      count_as : ℕ → Result ℕ ReadFault
      count_as n = Ok n

  known_is : known_at b ≡ Some (func_count m)
  known_is =
      let imports = imported_is b m spelled in
      let sum : import_count kinds.Func m.imports + length Types ≡ func_count m =
      omega (arith, imported_funcs m.imports, length-append (imported func_in m.imports) Types) in
      rw (imports.0, defined_is) (ap (λ (n : ℕ). Some n) sum)

  -- ---- the segment at a place

  entry_there : (p : Place) (place : Span) (own more : List ℕ) (segment : Elem) → place_at m.profile b p ≡ some_span place → place.rest ≡ own ++ more
      → SpellsElem m.profile own segment → entry_at m.profile b p ≡ Ok (entry_in (func_count m) segment.funcs)
  unfolding entry_at
  entry_there p place own more segment at parts spells =
      rw (at, known_is) (
      ap (unknown_at m.profile (func_count m) place.end) parts ∙ segment_read m.profile (func_count m) place.end own more segment spells
      )

  segment_entry : (p : Place) (before behind : List Elem) (segment : Elem) → p.section ≡ number ElementSection → p.token ≡ None
      → m.elems ≡ before ++ segment ∷ behind → length before ≡ p.item → entry_at m.profile b p ≡ Ok (entry_in (func_count m) segment.funcs)
  segment_entry p before behind segment section whole parts item =
      let other : m.elems ≢ [] = λ e. absurd (omega (arith, ap length (sym parts ∙ e), length-append before (segment ∷ behind))) in
      let there = section_there b m spelled fits ElementSection (SpellsVector (SpellsElem m.profile)) [] m.elems (spelled.sections ElementSection) other in
      let st = standing b m spelled fits m.profile ElementSection (SpellsElem m.profile) m.elems before behind segment there parts (λ c r h. h) in
      let at : IsItemAt m.profile b ElementSection p.item st.place = subst (λ (i : ℕ). IsItemAt m.profile b ElementSection i st.place) item st.there in
      let place : place_at m.profile b p ≡ some_span st.place =
      place_again m.profile b p st.place fits (record {
        id = ElementSection;
        is = section;
        item = st.place;
        reached = at;
        within = subst (λ (t : Option ℕ). IsWithin m.profile ElementSection t st.place st.place) (sym whole) refl;
      }) in
      entry_there p st.place st.own st.more segment place st.parts st.spelled

  no_item : (item : ℕ) → length m.elems ≤ item → item_at m.profile b 9 item ≡ Ok None
  no_item item past =
      let seek : Section → Result (Option Span) ReadFault = λ s. seek_at m.profile s.id item (section_end s) s.contents in
      elim (section_held ElementSection (SpellsVector (SpellsElem m.profile)) [] m.elems (spelled.sections ElementSection)) [
        | inl p ↦ ap (λ (o : Option Section). then_at o seek) p.0
        | inr p ↦
            let s = p.0 in
            let id = (section_found b 9 s fits p.1).1 in
            let read = vector_counts (SpellsElem m.profile) (section_end s) s.contents m.elems p.2 in
            ap (λ (o : Option Section). then_at o seek) p.1
            ∙ none_sought m.profile s.id item (length m.elems) (section_end s) s.contents read.0 id read.1 past
      ]

  no_entry : (p : Place) → p.section ≡ number ElementSection → length m.elems ≤ p.item → entry_at m.profile b p ≡ Ok None
  unfolding entry_at place_at
  no_entry p section past = rw (section, no_item p.item past) refl

  -- ---- what is told of a fault

  meant_read : (f : Fault) (entry : ℕ) → MeansEntry m f entry → entry_at m.profile b f.place ≡ Ok (Some entry)
  meant_read f entry h =
      segment_entry f.place h.before h.behind h.segment h.of_funcs.section h.of_funcs.whole h.parts h.item
      ∙ ap (λ (o : Option ℕ). Ok o) (entry_is (func_count m) entry h.segment.funcs h.several h.first)

  read_meant : (f : Fault) (entry : ℕ) → IsOfFuncs f → entry_at m.profile b f.place ≡ Ok (Some entry) → MeansEntry m f entry
  read_meant f entry of read =
      elim (cases_lt f.place.item (length m.elems)) [
        | inl p ↦
            let s = split_at f.place.item m.elems p in
            let same = sym (segment_entry f.place s.before s.behind s.x of.section of.whole s.parts s.number) ∙ read in
            let e = is_entry (func_count m) entry s.x.funcs (ok_is (entry_in (func_count m) s.x.funcs) (Some entry) same) in
            record {
              of_funcs = of;
              before = s.before;
              segment = s.x;
              behind = s.behind;
              parts = s.parts;
              item = s.number;
              several = e.0;
              first = e.1;
            }
        | inr p ↦ absurd (none_some entry (sym (no_entry f.place of.section p) ∙ read))
      ]

  told : (f : Fault) (found : Option ℕ) → IsOfFuncs f → entry_at m.profile b f.place ≡ Ok found → IsEntry m f found
  told f (Some entry) of read = read_meant f entry of read
  told f None of read = λ entry h. none_some entry (sym read ∙ meant_read f entry h)

  unread : (f : Fault) (e : ReadFault) → entry_at m.profile b f.place ≡ Err e → IsEntry m f None
  unread f e bad = λ entry h. not_both (entry_at m.profile b f.place) e (Some entry) bad (meant_read f entry h)

-- the same of a profile that is the module's
pub told_entry : (profile : Profile) (b : List ℕ) (m : Parts) (f : Fault) (found : Option ℕ) → IsBytes b → m.profile ≡ profile → Spells b m → IsOfFuncs f
    → entry_at profile b f.place ≡ Ok found → IsEntry m f found
told_entry profile b m f found fits same spelled of read =
    told b m spelled fits f found of (ap (λ (q : Profile). entry_at q b f.place) same ∙ read)

pub unread_entry : (profile : Profile) (b : List ℕ) (m : Parts) (f : Fault) (e : ReadFault) → IsBytes b → m.profile ≡ profile → Spells b m
    → entry_at profile b f.place ≡ Err e → IsEntry m f None
unread_entry profile b m f e fits same spelled bad = unread b m spelled fits f e (ap (λ (q : Profile). entry_at q b f.place) same ∙ bad)
