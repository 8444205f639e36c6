-- A place has one offset, and the bytes from it on are those of the place.
use Rattle.std.proofs.Common.{◌≡◌, ℕ, ◌-◌, List, [], ◌∷◌, ◌++◌, length}
use Rattle.std.proofs.Common.{Option, Some, None, refl, sym, ap, subst, ◌∙◌, append_assoc, length-append, arith}
use Rattle.wk_bytes.specs.Frames.{Section, magic, version}
use Rattle.wk_bytes.specs.LebLaws.{IsBytes}
use Rattle.wk_bytes.specs.Span.{Span}
use Rattle.wk_body.specs.declared.types.Profile.{Profile}
use Rattle.wk_module.specs.Reading.{section_end}
use Rattle.wk_module.specs.Sections.{SectionId, TypeSection, GlobalSection}
use Rattle.wk_module.specs.Sections.{StartSection, ElementSection, CodeSection, DataSection}
use Rattle.wk_typing.specs.declared.fault.Place.{Place}
use Rattle.wk_place.specs.Places.{LiesAt, SpellsItem, IsSectionAt, IsBehindItems, ReachesItem, IsBehind, HoldsInstrs, IsWithin, IsPlaceAt}
use Rattle.wk_place.proofs.FoundInstrs.{span_is}
use Rattle.wk_place.proofs.FoundPlaces.{place_again}

-- what lies behind some bytes of what lies there
lies_later : (b : List ℕ) (s t : Span) (front : List ℕ) → LiesAt b s → s.rest ≡ front ++ t.rest → t.end ≡ s.end → LiesAt b t
lies_later b s t front at parts same = record {
  front = at.front ++ front;
  later = at.later;
  parts =
      at.parts ∙ ap (λ (c : List ℕ). at.front ++ (c ++ at.later)) parts
      ∙ ap (λ (c : List ℕ). at.front ++ c) (append_assoc front t.rest at.later) ∙ sym (append_assoc at.front front (t.rest ++ at.later));
  place = omega (arith, at.place, at.fits, same, ap length parts, length-append front t.rest, length-append at.front front);
  fits = omega (arith, at.fits, same, ap length parts, length-append front t.rest);
}

-- what lies there with fewer bytes at its end
lies_shorter : (b : List ℕ) (s t : Span) (later : List ℕ) → LiesAt b s → s.rest ≡ t.rest ++ later → t.end ≡ s.end - length later → LiesAt b t
lies_shorter b s t later at parts same = record {
  front = at.front;
  later = later ++ at.later;
  parts =
      at.parts ∙ ap (λ (c : List ℕ). at.front ++ (c ++ at.later)) parts
      ∙ ap (λ (c : List ℕ). at.front ++ c) (append_assoc t.rest later at.later);
  place = omega (arith, at.place, at.fits, same, ap length parts, length-append t.rest later);
  fits = omega (arith, at.fits, same, ap length parts, length-append t.rest later);
}

section_lies : (b : List ℕ) (s : Section) → IsSectionAt b s → LiesAt b (record { rest = s.contents; end = section_end s })
section_lies b s at =
    let tail = s.contents ++ at.later in
    let head = (magic ++ version) ++ (at.front ++ (s.id ∷ at.size)) in
    let parts : b ≡ head ++ tail =
    at.parts ∙ ap (λ (c : List ℕ). (magic ++ version) ++ c) (sym (append_assoc at.front (s.id ∷ at.size) tail))
    ∙ sym (append_assoc (magic ++ version) (at.front ++ (s.id ∷ at.size)) tail) in
    record {
      front = head;
      later = at.later;
      parts = parts;
      place = omega (arith, at.place, ap length parts, length-append head tail);
      fits = omega arith;
    }

list_lies : {A : Type 0} (Spells : List ℕ → A → Type 0) (b : List ℕ) (item : ℕ) (s t : Span) → LiesAt b s → IsBehindItems Spells item s.rest t.rest
    → t.end ≡ s.end → LiesAt b t
list_lies Spells b item s t at h same = lies_later b s t (h.count ++ h.items) at (h.parts ∙ sym (append_assoc h.count h.items t.rest)) same

item_lies : (profile : Profile) (b : List ℕ) (k : SectionId) (item : ℕ) (s t : Span) → LiesAt b s → ReachesItem profile k item s.rest t.rest → t.end ≡ s.end
    → LiesAt b t
item_lies profile b StartSection item s t at h same = lies_later b s t [] at (sym h.1) same
item_lies profile b TypeSection item s t at h same = list_lies (SpellsItem profile TypeSection) b item s t at h same
item_lies profile b k item s t at h same = list_lies (SpellsItem profile k) b item s t at h same

behind_lies : {A : Type 0} (Spells : List ℕ → A → Type 0) (b : List ℕ) (s t : Span) → LiesAt b s → IsBehind Spells s t → LiesAt b t
behind_lies Spells b s t at h = lies_later b s t h.0 at h.3 h.4

instrs_lie : (b : List ℕ) (k : SectionId) (s t : Span) → LiesAt b s → HoldsInstrs k s t → LiesAt b t
instrs_lie b GlobalSection s t at h = behind_lies _ b s t at h
instrs_lie b ElementSection s t at h = behind_lies _ b s t at h
instrs_lie b DataSection s t at h = behind_lies _ b s t at h
instrs_lie b CodeSection s t at h =
    let head = h.size ++ h.locals in
    let parts : s.rest ≡ head ++ (t.rest ++ h.later) =
    h.parts ∙ ap (λ (c : List ℕ). h.size ++ c) (append_assoc h.locals t.rest h.later) ∙ sym (append_assoc h.size h.locals (t.rest ++ h.later)) in
    let mid : Span = record { rest = t.rest ++ h.later; end = s.end } in
    lies_shorter b mid t h.later (lies_later b s mid head at parts refl) refl h.ends
instrs_lie b k s t at h = absurd h

within_lies : (profile : Profile) (b : List ℕ) (k : SectionId) (token : Option ℕ) (s t : Span) → LiesAt b s → IsWithin profile k token s t → LiesAt b t
within_lies profile b k None s t at h = subst (LiesAt b) (sym h) at
within_lies profile b k (Some n) s t at h =
    let code = h.0 in
    let token = h.3 in
    lies_later b code t token.front (instrs_lie b k s code at h.2) token.parts token.ends

pub place_lies : (profile : Profile) (b : List ℕ) (p : Place) (s : Span) → IsPlaceAt profile b p s → LiesAt b s
place_lies profile b p s h =
    let item = h.reached in
    let contents = section_lies b item.section item.is_section in
    let there = item_lies profile b h.id p.item _ h.item contents item.reaches item.ends in
    within_lies profile b h.id p.token h.item s there h.within

-- no bytes have two places of these numbers
pub one_place : (profile : Profile) (b : List ℕ) (p : Place) (s t : Span) → IsBytes b → IsPlaceAt profile b p s → IsPlaceAt profile b p t → s ≡ t
one_place profile b p s t fits one two = span_is s t (sym (place_again profile b p s fits one) ∙ place_again profile b p t fits two)
