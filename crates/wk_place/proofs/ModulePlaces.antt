-- The fault of a module's verdict has a place in the bytes that spell the module.
use Rattle.std.proofs.Common.{◌≡◌, ◌≢◌, ℕ, ◌+◌, ◌<◌, inl, inr, List, [], ◌∷◌, ◌++◌, length, map}
use Rattle.std.proofs.Common.{Option, Some, None, refl, sym, ap, subst, ◌∙◌, append_assoc, length-append, arith}
use Rattle.wk_bytes.specs.Frames.{Frame, Section, SpellsFrames, frame_of}
use Rattle.wk_bytes.specs.FrameLaws.{sections_of-again}
use Rattle.wk_bytes.specs.LebLaws.{IsBytes, some_is}
use Rattle.wk_bytes.specs.Span.{Span}
use Rattle.wk_body.specs.declared.types.Profile.{Profile}
use Rattle.wk_body.specs.Vectors.{SpellsItems, SpellsVector}
use Rattle.wk_module.specs.declared.types.Parts.{Parts}
use Rattle.wk_module.specs.Modules.{Spells, SpellsSection}
use Rattle.wk_module.specs.Reading.{section_end}
use Rattle.wk_module.specs.SectionLaws.{number_some}
use Rattle.wk_module.specs.Sections.{SectionId}
use Rattle.wk_module.specs.Sections.{number}
use Rattle.wk_typing.specs.declared.fault.Fault.{Fault}
use Rattle.wk_typing.specs.declared.fault.Flaw.{Flaw}
use Rattle.wk_typing.specs.declared.fault.Place.{Place}
use Rattle.wk_typing.specs.Faults.{fault_at}
use Rattle.wk_check.specs.Flaws.{numbered, first_in}
use Rattle.wk_place.specs.Places.{IsWithin, IsSectionAt, IsBehindItems, ReachesItem, IsItemAt, IsPlaceAt}
use Rattle.wk_place.specs.Seeking.{first_with}
use Rattle.wk_place.proofs.FaultTokens.{IsBelow, AreBelow}
use Rattle.wk_place.proofs.FoundFuncs.{section_of}
use Rattle.wk_place.proofs.FoundInstrs.{at_span}
use Rattle.wk_place.proofs.FoundPlaces.{contents_fit, item_fits}
use Rattle.wk_place.proofs.FoundSections.{section_found}

-- ---- the item that has the first flaw of a list

record FirstFlaw {X : Type 0} (section i : ℕ) (rule : ℕ → X → Option Flaw) (xs : List X) (f : Fault) : Type 0 where
  before : List X
  x : X
  later : List X
  w : Flaw
  parts : xs ≡ before ++ x ∷ later
  is : rule (i + length before) x ≡ Some w
  at : f ≡ fault_at section (i + length before) w

abbrev At : ℕ → ℕ → Flaw → Fault
At section item w = fault_at section item w

flaw_by : {X : Type 0} (section i : ℕ) (rule : ℕ → X → Option Flaw) (x : X) (xs : List X) (f : Fault) (o : Option Flaw) → rule i x ≡ o
    → (first_in section (i + 1) (numbered rule (i + 1) xs) ≡ Some f → FirstFlaw section (i + 1) rule xs f)
    → first_in section i (o ∷ numbered rule (i + 1) xs) ≡ Some f → FirstFlaw section i rule (x ∷ xs) f
flaw_by section i rule x xs f (Some w) is more h =
    let same : i ≡ i + 0 = omega arith in
    record {
      before = [];
      x = x;
      later = xs;
      w = w;
      parts = refl;
      is = ap (λ (k : ℕ). rule k x) (sym same) ∙ is;
      at = sym (some_is (At section i w) f h) ∙ ap (λ (k : ℕ). At section k w) same;
    }
flaw_by section i rule x xs f None is more h =
    let g = more h in
    let same : i + 1 + length g.before ≡ i + length (x ∷ g.before) = omega arith in
    record {
      before = x ∷ g.before;
      x = g.x;
      later = g.later;
      w = g.w;
      parts = ap (λ (ys : List _). x ∷ ys) g.parts;
      is = ap (λ (k : ℕ). rule k g.x) (sym same) ∙ g.is;
      at = g.at ∙ ap (λ (k : ℕ). At section k g.w) same;
    }

flaw_found : {X : Type 0} (section i : ℕ) (rule : ℕ → X → Option Flaw) (xs : List X) (f : Fault) → first_in section i (numbered rule i xs) ≡ Some f
    → FirstFlaw section i rule xs f
flaw_found section i rule [] f h = absurd cc
flaw_found section i rule (x ∷ xs) f h = flaw_by section i rule x xs f (rule i x) refl (flaw_found section (i + 1) rule xs f) h

-- ---- where an item of a list stands

record ListItem {A : Type 0} (Spells : List ℕ → A → Type 0) (b : List ℕ) (before : List A) (x : A) : Type 0 where
  front : List ℕ
  own : List ℕ
  more : List ℕ
  parts : b ≡ front ++ (own ++ more)
  passed : SpellsItems Spells front before
  spelled : Spells own x

split_items : {A : Type 0} (Spells : List ℕ → A → Type 0) (b : List ℕ) (before later : List A) (x : A) → SpellsItems Spells b (before ++ x ∷ later)
    → ListItem Spells b before x
split_items Spells b [] later x s = record { front = []; own = s.0; more = s.1; parts = s.2; passed = refl; spelled = s.3 }
split_items Spells b (y ∷ ys) later x s =
    let h = split_items Spells s.1 ys later x s.4 in
    record {
      front = s.0 ++ h.front;
      own = h.own;
      more = h.more;
      parts = s.2 ∙ ap (λ (c : List ℕ). s.0 ++ c) h.parts ∙ sym (append_assoc s.0 h.front (h.own ++ h.more));
      passed = (s.0, h.front, refl, s.3, h.passed);
      spelled = h.spelled;
    }

-- an item of a section, the bytes from its first one on, and what it spells
pub record Standing {A : Type 0} (profile : Profile) (b : List ℕ) (k : SectionId) (item : ℕ) (Spells : List ℕ → A → Type 0) (x : A) : Type 0 where
  pub place : Span
  pub own : List ℕ
  pub more : List ℕ
  pub there : IsItemAt profile b k item place
  pub parts : place.rest ≡ own ++ more
  pub spelled : Spells own x
  pub fits : IsBytes place.rest

not_none : {A : Type 0} (before later : List A) (x : A) → before ++ x ∷ later ≢ []
not_none before later x = λ e. absurd (omega (arith, ap length e, length-append before (x ∷ later)))

module _ (b : List ℕ) (m : Parts) (spelled : Spells b m) (fits : IsBytes b) where
  abbrev pub There : {A : Type 0} → SectionId → (List ℕ → A → Type 0) → A → Type 0
  There k Holds x = (s : Section) × IsSectionAt b s × (s.id ≡ number k) × Holds s.contents x

  pub section_there : {A : Type 0} (k : SectionId) (Holds : List ℕ → A → Type 0) (y x : A) → SpellsSection (number k) Holds y spelled.frames x → x ≢ y
      → There k Holds x
  section_there k Holds y x h other =
      let f = spelled.framing in
      let ss = sections_of-again b spelled.frames f in
      let framed : SpellsFrames 0 f.frames (map frame_of ss.0) = subst (SpellsFrames 0 f.frames) (sym ss.1) f.spelled in
      let holds : SpellsSection (number k) Holds y (map frame_of ss.0) x =
      subst (λ (fs : List Frame). SpellsSection (number k) Holds y fs x) (sym ss.1) h in
      elim (section_of (number k) Holds (number_some k) 0 f.frames ss.0 y x framed holds) [
        | inl p ↦ absurd (other p.1)
        | inr p ↦
            let at = section_found b (number k) p.0 fits (ap (λ items. first_with (number k) items) ss.2 ∙ p.1) in
            (p.0, at.0, at.1, p.2)
      ]

  module _ (profile : Profile) where
    pub standing : {A : Type 0} (k : SectionId) (Holds : List ℕ → A → Type 0) (xs before later : List A) (x : A) → There k (SpellsVector Holds) xs
        → xs ≡ before ++ x ∷ later
        → ((contents rest : List ℕ) → IsBehindItems Holds (length before) contents rest → ReachesItem profile k (length before) contents rest)
        → Standing profile b k (length before) Holds x
    standing k Holds xs before later x there is reach =
        let s = there.0 in
        let v = there.3 in
        let h = split_items Holds v.items before later x (subst (SpellsItems Holds v.items) is v.spelled) in
        let rest = h.own ++ h.more in
        let reaches = reach s.contents rest (record {
          count = v.count;
          items = h.front;
          n = length xs;
          before = before;
          parts = v.parts ∙ ap (λ (c : List ℕ). v.count ++ c) h.parts;
          counts = v.counts;
          spelled = h.passed;
          number = refl;
          within = omega (arith, ap length is, length-append before (x ∷ later));
        }) in
        record {
          place = at_span (section_end s) rest;
          own = h.own;
          more = h.more;
          there = record { section = s; is_section = there.1; id = there.2; reaches = reaches; ends = refl };
          parts = refl;
          spelled = h.spelled;
          fits = item_fits profile k (length before) s.contents rest (contents_fit b s fits there.1) reaches;
        }

    abbrev pub Placed : Place → Type 0
    Placed p = (s : Span) × IsPlaceAt profile b p s

    abbrev pub TokenPlace : SectionId → Span → ℕ → Type 0
    TokenPlace k item n = (s : Span) × IsWithin profile k (Some n) item s

    pub placed : (k : SectionId) (item bound : ℕ) (place : Span) (w : Flaw) (f : Fault) → IsItemAt profile b k item place → IsBelow bound w
        → ((n : ℕ) → n < bound → TokenPlace k place n) → f ≡ fault_at (number k) item w → Placed f.place
    placed k item bound place w f there (inl none) tokens at =
        subst (λ (g : Fault). Placed g.place) (sym at) (
          place,
          record {
            id = k;
            is = refl;
            item = place;
            reached = there;
            within = subst (λ (t : Option ℕ). IsWithin profile k t place place) (sym none) refl;
          },
        )
    placed k item bound place w f there (inr p) tokens at =
        let t = tokens p.0 p.2 in
        subst (λ (g : Fault). Placed g.place) (sym at) (
          t.0,
          record {
            id = k;
            is = refl;
            item = place;
            reached = there;
            within = subst (λ (o : Option ℕ). IsWithin profile k o place t.0) (sym p.1) t.1;
          },
        )

    pub list_place_at : {A : Type 0} (k : SectionId) (Holds : List ℕ → A → Type 0) (rule : ℕ → A → Option Flaw) (bound : A → ℕ) (xs : List A) (f : Fault)
        → (xs ≢ [] → There k (SpellsVector Holds) xs)
        → ((item : ℕ) (contents rest : List ℕ) → IsBehindItems Holds item contents rest → ReachesItem profile k item contents rest)
        → ((i : ℕ) (x : A) → AreBelow (bound x) (rule i x))
        → ((item : ℕ) (x : A) (st : Standing profile b k item Holds x) (n : ℕ) → n < bound x → TokenPlace k st.place n)
        → first_in (number k) 0 (numbered rule 0 xs) ≡ Some f → Placed f.place
    list_place_at k Holds rule bound xs f there reach below tokens first =
        let g = flaw_found (number k) 0 rule xs f first in
        let other : xs ≢ [] = λ e. not_none g.before g.later g.x (sym g.parts ∙ e) in
        let st = standing k Holds xs g.before g.later g.x (there other) g.parts (reach (length g.before)) in
        let same : 0 + length g.before ≡ length g.before = omega arith in
        placed k (length g.before) (bound g.x) st.place g.w f st.there (below (0 + length g.before) g.x g.w g.is)
        (tokens (length g.before) g.x st) (g.at ∙ ap (λ (i : ℕ). At (number k) i g.w) same)

    pub list_place : {A : Type 0} (k : SectionId) (Holds : List ℕ → A → Type 0) (rule : ℕ → A → Option Flaw) (bound : A → ℕ) (xs : List A) (f : Fault)
        → SpellsSection (number k) (SpellsVector Holds) [] spelled.frames xs
        → ((item : ℕ) (contents rest : List ℕ) → IsBehindItems Holds item contents rest → ReachesItem profile k item contents rest)
        → ((i : ℕ) (x : A) → AreBelow (bound x) (rule i x))
        → ((item : ℕ) (x : A) (st : Standing profile b k item Holds x) (n : ℕ) → n < bound x → TokenPlace k st.place n)
        → first_in (number k) 0 (numbered rule 0 xs) ≡ Some f → Placed f.place
    list_place k Holds rule bound xs f h = list_place_at k Holds rule bound xs f (section_there k (SpellsVector Holds) [] xs h)

    pub no_tokens : {A : Type 0} (k : SectionId) (Holds : List ℕ → A → Type 0) (item : ℕ) (x : A) (st : Standing profile b k item Holds x) (n : ℕ) → n < 0
        → TokenPlace k st.place n
    no_tokens k Holds item x st n lt = absurd (omega (arith, lt))
