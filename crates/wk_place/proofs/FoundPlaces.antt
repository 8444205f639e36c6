-- The place that is looked for is the one that stands there, and the other way round.
use Rattle.std.proofs.Common.{◌≡◌, ◌≢◌, ℕ, ◌<◌, ◌≤◌, eqb, inl, inr, List, [], ◌∷◌, ◌++◌, length}
use Rattle.std.proofs.Common.{Option, Some, None, Result, Ok, Err, refl, sym, ap, subst, ◌∙◌, length-append, arith}
use Rattle.std.proofs.lemmas.Bool.{eqb-false, ne_eqb}
use Rattle.wk_bytes.specs.declared.fault.ReadFault.{ReadFault}
use Rattle.wk_bytes.specs.Leb.{◌>>=◌}
use Rattle.wk_bytes.specs.LebLaws.{IsBytes, bind_ok, chosen, IsBytes-after, IsBytes-before}
use Rattle.wk_bytes.specs.Span.{Span}
use Rattle.wk_bytes.specs.SpanLaws.{not_both}
use Rattle.wk_bytes.specs.Frames.{Section, limit, magic, version, sections_of}
use Rattle.wk_body.specs.declared.types.Profile.{Profile}
use Rattle.wk_module.specs.Reading.{section_end}
use Rattle.wk_module.specs.SectionLaws.{has_id, number_some}
use Rattle.wk_module.specs.Sections.{SectionId, TypeSection, GlobalSection}
use Rattle.wk_module.specs.Sections.{StartSection, ElementSection, CodeSection, DataSection, number}
use Rattle.wk_module.proofs.ModuleReading.{may_come_small}
use Rattle.wk_typing.specs.declared.fault.Place.{Place}
use Rattle.wk_place.specs.Places.{SpellsItem, IsSectionAt, IsBehindItems, ReachesItem, IsItemAt, IsBehind, HoldsInstrs, IsWithin, IsPlaceAt}
use Rattle.wk_place.specs.Seeking.{first_with, seek_at, instrs_at, find_token_at, then_at, within_at, item_at, place_at}
use Rattle.wk_place.proofs.FoundSections.{section_found, section_again}
use Rattle.wk_place.proofs.FoundItems.{seek_found, seek_again}
use Rattle.wk_place.proofs.FoundInstrs.{at_span, some_span, span_is, none_some, instrs_found, instrs_again}
use Rattle.wk_place.proofs.FoundTokens.{find_found, find_again}

-- ---- what lies in bytes is bytes

pub contents_fit : (b : List ℕ) (s : Section) → IsBytes b → IsSectionAt b s → IsBytes s.contents
contents_fit b s fits at =
    let behind_header = at.front ++ (s.id ∷ (at.size ++ (s.contents ++ at.later))) in
    let one : IsBytes behind_header = IsBytes-after (magic ++ version) behind_header b at.parts fits in
    let two : IsBytes (s.id ∷ (at.size ++ (s.contents ++ at.later))) = IsBytes-after at.front _ behind_header refl one in
    let three : IsBytes (at.size ++ (s.contents ++ at.later)) = IsBytes-after (s.id ∷ []) _ (s.id ∷ (at.size ++ (s.contents ++ at.later))) refl two in
    let four : IsBytes (s.contents ++ at.later) = IsBytes-after at.size _ (at.size ++ (s.contents ++ at.later)) refl three in
    IsBytes-before s.contents at.later (s.contents ++ at.later) refl four

list_fit : {A : Type 0} (Spells : List ℕ → A → Type 0) (item : ℕ) (contents rest : List ℕ) → IsBytes contents → IsBehindItems Spells item contents rest
    → IsBytes rest
list_fit Spells item contents rest fits h =
    IsBytes-after h.items rest (h.items ++ rest) refl (IsBytes-after h.count (h.items ++ rest) contents h.parts fits)

pub item_fits : (profile : Profile) (k : SectionId) (item : ℕ) (contents rest : List ℕ) → IsBytes contents → ReachesItem profile k item contents rest
    → IsBytes rest
item_fits profile StartSection item contents rest fits h = subst IsBytes (sym h.1) fits
item_fits profile TypeSection item contents rest fits h = list_fit (SpellsItem profile TypeSection) item contents rest fits h
item_fits profile k item contents rest fits h = list_fit (SpellsItem profile k) item contents rest fits h

behind_fits : {A : Type 0} (Spells : List ℕ → A → Type 0) (item code : Span) → IsBytes item.rest → IsBehind Spells item code → IsBytes code.rest
behind_fits Spells item code fits h = IsBytes-after h.0 code.rest item.rest h.3 fits

pub code_fits : (k : SectionId) (item code : Span) → IsBytes item.rest → HoldsInstrs k item code → IsBytes code.rest
code_fits GlobalSection item code fits h = behind_fits _ item code fits h
code_fits ElementSection item code fits h = behind_fits _ item code fits h
code_fits DataSection item code fits h = behind_fits _ item code fits h
code_fits CodeSection item code fits h =
    let body : IsBytes ((h.locals ++ code.rest) ++ h.later) = IsBytes-after h.size ((h.locals ++ code.rest) ++ h.later) item.rest h.parts fits in
    let own : IsBytes (h.locals ++ code.rest) = IsBytes-before (h.locals ++ code.rest) h.later ((h.locals ++ code.rest) ++ h.later) refl body in
    IsBytes-after h.locals code.rest (h.locals ++ code.rest) refl own
code_fits k item code fits h = absurd h

-- ---- what is found stands there

then_found : {A : Type 0} (o : Option A) (more : A → Result (Option Span) ReadFault) (s : Span) → then_at o more ≡ some_span s
    → (x : A) × (o ≡ Some x) × (more x ≡ some_span s)
then_found None more s e = absurd (none_some s e)
then_found (Some x) more s e = (x, refl, e)

-- an item that is found, its section, and that its number is no greater than the section is long
record FoundItem (profile : Profile) (b : List ℕ) (k : SectionId) (item : ℕ) (place : Span) : Type 0 where
  there : IsItemAt profile b k item place
  fits : IsBytes place.rest
  short : item ≤ length there.section.contents

item_found : (profile : Profile) (b : List ℕ) (id item : ℕ) (place : Span) → IsBytes b → id ≢ 0 → item_at profile b id item ≡ some_span place
    → (k : SectionId) × (id ≡ number k) × FoundItem profile b k item place
item_found profile b id item place fits some e =
    let a = then_found (first_with id (sections_of b)) (λ s. seek_at profile s.id item (section_end s) s.contents) place e in
    let s = a.0 in
    let at = section_found b id s fits a.1 in
    elim (has_id s.id (may_come_small _ s.id at.0.may)) [
      | inl p ↦ absurd (some (sym at.1 ∙ p.0))
      | inr p ↦
          let k = p.0 in
          let contents : IsBytes s.contents = contents_fit b s fits at.0 in
          let read : seek_at profile (number k) item (section_end s) s.contents ≡ some_span place =
          ap (λ (n : ℕ). seek_at profile n item (section_end s) s.contents) (sym p.1) ∙ a.2 in
          let f = seek_found profile k item (section_end s) s.contents place contents read in (
            k,
            sym at.1 ∙ p.1,
            record {
              there = record { section = s; is_section = at.0; id = p.1; reaches = f.0; ends = f.1 };
              fits = item_fits profile k item s.contents place.rest contents f.0;
              short = f.2;
            },
          )
    ]

within_found : (profile : Profile) (k : SectionId) (token : Option ℕ) (item place : Span) → IsBytes item.rest
    → within_at profile (number k) token item ≡ some_span place → IsWithin profile k token item place
within_found profile k None item place fits e = sym (span_is item place e)
within_found profile k (Some n) item place fits e =
    let a = bind_ok (instrs_at (number k) item.end item.rest) (λ code. then_at code (λ c. find_token_at profile n c.end c.rest)) (Some place) e in
    let c = then_found a.0 (λ c. find_token_at profile n c.end c.rest) place a.2 in
    let holds = instrs_found k item c.0 fits (a.1 ∙ ap (λ (o : Option Span). Ok o) c.1) in
    let t = find_found profile n c.0 place (code_fits k item c.0 fits holds) c.2 in
    (c.0, t.0, holds, t.1)

record FoundPlace (profile : Profile) (b : List ℕ) (p : Place) (place : Span) : Type 0 where
  there : IsPlaceAt profile b p place
  short : p.item ≤ length there.reached.section.contents

place_found_by : (profile : Profile) (b : List ℕ) (p : Place) (place : Span) → IsBytes b → place_at profile b p ≡ some_span place
    → FoundPlace profile b p place
unfolding place_at
place_found_by profile b p place fits e =
    elim (chosen (eqb p.section 0) (Ok None) (item_at profile b p.section p.item >>= λ item. then_at item (λ s. within_at profile p.section p.token s))
    (some_span place) e) [
      | inl q ↦ absurd (none_some place q.1)
      | inr q ↦
          let a = bind_ok (item_at profile b p.section p.item) (λ item. then_at item (λ s. within_at profile p.section p.token s)) (Some place) q.1 in
          let c = then_found a.0 (λ s. within_at profile p.section p.token s) place a.2 in
          let f = item_found profile b p.section p.item c.0 fits (eqb-false p.section 0 q.0) (a.1 ∙ ap (λ (o : Option Span). Ok o) c.1) in
          let read : within_at profile (number f.0) p.token c.0 ≡ some_span place =
          ap (λ (n : ℕ). within_at profile n p.token c.0) (sym f.1) ∙ c.2 in
          record {
            there = record {
              id = f.0;
              is = f.1;
              item = c.0;
              reached = f.2.there;
              within = within_found profile f.0 p.token c.0 place f.2.fits read;
            };
            short = f.2.short;
          }
    ]

pub place_found : (profile : Profile) (b : List ℕ) (p : Place) (place : Span) → IsBytes b → place_at profile b p ≡ Ok (Some place)
    → IsPlaceAt profile b p place
place_found profile b p place fits e = (place_found_by profile b p place fits e).there

pub contents_short : (b : List ℕ) (s : Section) → IsSectionAt b s → length s.contents ≤ limit
contents_short b s at =
    let tail = s.contents ++ at.later in
    omega (
      arith,
      at.fits,
      ap length at.parts,
      length-append (magic ++ version) (at.front ++ (s.id ∷ (at.size ++ tail))),
      length-append at.front (s.id ∷ (at.size ++ tail)),
      length-append at.size tail,
      length-append s.contents at.later,
    )

-- an item that is found has no greater number than a module has bytes
pub item_no_longer : (profile : Profile) (b : List ℕ) (p : Place) (place : Span) → IsBytes b → place_at profile b p ≡ Ok (Some place) → p.item ≤ limit
item_no_longer profile b p place fits e =
    let f = place_found_by profile b p place fits e in
    let at = f.there.reached in
    omega (arith, f.short, contents_short b at.section at.is_section)

-- ---- what stands there is found

within_again : (profile : Profile) (k : SectionId) (token : Option ℕ) (item place : Span) → IsBytes item.rest → IsWithin profile k token item place
    → within_at profile (number k) token item ≡ some_span place
within_again profile k None item place fits h = ap some_span (sym h)
within_again profile k (Some n) item place fits h =
    let code = h.0 in
    let t = find_again profile n code place h.1 (code_fits k item code fits h.2) h.3 in
    rw (instrs_again k item code h.2) t

pub item_again : (profile : Profile) (b : List ℕ) (k : SectionId) (item : ℕ) (place : Span) → IsItemAt profile b k item place
    → item_at profile b (number k) item ≡ some_span place
item_again profile b k item place h =
    let s = h.section in
    let some : 0 < s.id = subst (λ (n : ℕ). 0 < n) (sym h.id) (number_some k) in
    let there : first_with (number k) (sections_of b) ≡ Some s = ap (λ (n : ℕ). first_with n (sections_of b)) (sym h.id) ∙ section_again b s some h.is_section in
    let read : seek_at profile s.id item (section_end s) s.contents ≡ some_span (at_span (section_end s) place.rest) =
    ap (λ (n : ℕ). seek_at profile n item (section_end s) s.contents) h.id ∙ seek_again profile k item (section_end s) s.contents place.rest h.reaches in
    ap (λ (o : Option Section). then_at o (λ s. seek_at profile s.id item (section_end s) s.contents)) there ∙ read
    ∙ ap (λ (end : ℕ). some_span (at_span end place.rest)) (sym h.ends)

pub place_again : (profile : Profile) (b : List ℕ) (p : Place) (place : Span) → IsBytes b → IsPlaceAt profile b p place
    → place_at profile b p ≡ Ok (Some place)
unfolding place_at
place_again profile b p place fits h =
    let k = h.id in
    let other : p.section ≢ 0 = λ e. absurd (omega (arith, e, h.is, number_some k)) in
    let item : item_at profile b p.section p.item ≡ some_span h.item =
    ap (λ (n : ℕ). item_at profile b n p.item) h.is ∙ item_again profile b k p.item h.item h.reached in
    let s = h.reached.section in
    let item_bytes : IsBytes h.item.rest =
    item_fits profile k p.item s.contents h.item.rest (contents_fit b s fits h.reached.is_section) h.reached.reaches in
    let within : within_at profile p.section p.token h.item ≡ some_span place =
    ap (λ (n : ℕ). within_at profile n p.token h.item) h.is ∙ within_again profile k p.token h.item place item_bytes h.within in
    rw (ne_eqb p.section 0 other, item) within

-- where nothing is found there is no such place
pub place_nowhere : (profile : Profile) (b : List ℕ) (p : Place) → IsBytes b → place_at profile b p ≡ Ok None → (place : Span) → IsPlaceAt profile b p place → ⊥
place_nowhere profile b p fits e place h = none_some place (sym e ∙ place_again profile b p place fits h)

pub place_not_read : (profile : Profile) (b : List ℕ) (p : Place) (e : ReadFault) → IsBytes b → place_at profile b p ≡ Err e → (place : Span)
    → IsPlaceAt profile b p place → ⊥
place_not_read profile b p e fits bad place h = not_both (place_at profile b p) e (Some place) bad (place_again profile b p place fits h)
