-- The written form of a module is no longer than any bytes that spell it.
use Rattle.std.proofs.Common.{◌≡◌, ◌≢◌, ℕ, zero, suc, ◌+◌, ◌<◌, ◌≤◌, ◌==◌, max, inl, inr, List, [], ◌∷◌, ◌++◌, length, refl, sym, ap, subst, arith}
use Rattle.std.proofs.Common.{length-append}
use Rattle.std.specs.List.{filter, flat_map}
use Rattle.std.proofs.lemmas.Bool.{cases_Bool, cases_eq, eq-eqb, ne_eqb}
use Rattle.wk_bytes.specs.Short.{short}
use Rattle.wk_bytes.specs.ShortLaws.{short-least}
use Rattle.wk_bytes.specs.Frames.{Frame, SpellsFrames, magic, version}
use Rattle.wk_body.specs.declared.types.Profile.{Profile}
use Rattle.wk_module.specs.declared.types.Custom.{Custom}
use Rattle.wk_module.specs.declared.types.Parts.{Parts}
use Rattle.wk_module.specs.Customs.{SpellsCustoms, written_custom}
use Rattle.wk_module.specs.FormatLaws.{IsSection, SectionLaws}
use Rattle.wk_module.specs.Sections.{SectionId, TypeSection, number, ContentsOf, contents, omitted, is_full, SpellsContents, written_contents}
use Rattle.wk_module.specs.Shape.{lists_of}
use Rattle.wk_module.specs.Modules.{SpellsSection, Spells}
use Rattle.wk_module.specs.Writing.{framed, written_section, section_of, customs_at, section_and_customs, ids, encoded, Fits}
use Rattle.wk_module.specs.WritingLaws.{framed_rises}
use Rattle.wk_module.proofs.WrittenFrames.{frame_bytes, frames_bytes, up_from}
use Rattle.wk_module.specs.SectionLaws.{of_number-number}
use Rattle.wk_module.proofs.WrittenSections.{id_of_none, past_ids, every_id}
use Rattle.wk_module.proofs.WrittenCustoms.{custom_least}

frames_least : (last : ℕ) (b : List ℕ) (fs : List Frame) → SpellsFrames last b fs → length (frames_bytes fs) ≤ length b
frames_least last b [] spelled = omega arith
frames_least last b (f ∷ fs) spelled =
    let one = spelled.4 in
    let size = short-least 32 (length f.contents) one.size one.counts in
    let rest = frames_least (max last f.id) spelled.1 fs spelled.5 in
    omega (
      arith,
      ap length spelled.2,
      length-append spelled.0 spelled.1,
      ap length one.parts,
      length-append one.size f.contents,
      length-append (frame_bytes f) (frames_bytes fs),
      length-append (short (length f.contents)) f.contents,
    )

-- ---- parting by a key

module _ {X : Type 0} (key : X → ℕ) (written : X → List ℕ) where
  -- what is written of the items with that key
  abbrev pub part : List X → ℕ → List ℕ
  part xs q = flat_map written (filter (λ x. key x == q) xs)

  abbrev pub parts : List X → List ℕ → List ℕ
  parts xs qs = flat_map (part xs) qs

  parts_none : (qs : List ℕ) → parts [] qs ≡ []
  parts_none [] = refl
  parts_none (q ∷ qs) = parts_none qs

  no_more : (x : X) (xs : List X) (count p : ℕ) → key x < p → length (parts (x ∷ xs) (up_from p count)) ≤ length (parts xs (up_from p count))
  no_more x xs zero p below = omega arith
  no_more x xs (suc count) p below =
      let other : key x ≢ p = omega arith in
      rw (ne_eqb (key x) p other)
      (omega (
        arith,
        length-append (part xs p) (parts (x ∷ xs) (up_from (suc p) count)),
        length-append (part xs p) (parts xs (up_from (suc p) count)),
        no_more x xs count (suc p) (omega arith),
      ))

  one_more : (x : X) (xs : List X) (count p : ℕ) → length (parts (x ∷ xs) (up_from p count)) ≤ length (written x) + length (parts xs (up_from p count))
  one_more x xs zero p = omega arith
  one_more x xs (suc count) p =
      let later = up_from (suc p) count in
      elim (cases_eq (key x) p) [
        | inl is ↦
            rw (eq-eqb (key x) p is)
            (omega (
              arith,
              length-append (written x) (part xs p),
              length-append (written x ++ part xs p) (parts (x ∷ xs) later),
              length-append (part xs p) (parts xs later),
              no_more x xs count (suc p) (omega arith),
            ))
        | inr other ↦
            rw (ne_eqb (key x) p other)
            (omega (arith, length-append (part xs p) (parts (x ∷ xs) later), length-append (part xs p) (parts xs later), one_more x xs count (suc p)))
      ]

  -- the parts are together no longer than the whole
  pub parts_least : (xs : List X) (count p : ℕ) → length (parts xs (up_from p count)) ≤ length (flat_map written xs)
  parts_least [] count p = omega (arith, ap length (parts_none (up_from p count)))
  parts_least (x ∷ xs) count p = omega (arith, length-append (written x) (flat_map written xs), one_more x xs count p, parts_least xs count p)

-- ---- sections

-- the frames of an id, each with its size as short as it is
abbrev frames_of : List Frame → ℕ → List ℕ
frames_of = part (λ f. f.id) frame_bytes

omitted_bytes : (k : SectionId) → written_section k (omitted k) ≡ []
omitted_bytes TypeSection = refl
omitted_bytes k = refl

module _ (profile : Profile) (k : SectionId) (law : IsSection profile k) where
  contents_least : (f : Frame) (x : ContentsOf k) → SpellsContents profile k f.contents x → length (written_section k x) ≤ length (frame_bytes f)
  contents_least f x spelled =
      elim (cases_Bool (is_full k x)) [
        | inl full ↦ rw full (framed_rises (number k) f.id (written_contents k x) f.contents (law.least f.contents x spelled))
        | inr none ↦ rw none (omega arith)
      ]

  section_least : (fs : List Frame) (x y : ContentsOf k) → SpellsSection (number k) (SpellsContents profile k) x fs y
      → length (written_section k y) ≤ length (frames_of fs (number k)) + length (written_section k x)
  section_least [] x y e = omega (arith, ap (λ (z : ContentsOf k). length (written_section k z)) e)
  section_least (f ∷ fs) x y e =
      elim (cases_Bool (f.id == number k)) [
        | inl is ↦
            let s = rw is at e in
            let rest = section_least fs s.0 y s.2 in
            let here = contents_least f s.0 s.1 in
            rw is (omega (arith, length-append (frame_bytes f) (frames_of fs (number k))))
        | inr is ↦ let rest = section_least fs x y (rw is at e) in rw is rest
      ]

-- ---- customs

abbrev custom_bytes : Custom → List ℕ
custom_bytes c = framed 0 (written_custom c)

customs_least : (place : ℕ) (fs : List Frame) (cs : List Custom) → SpellsCustoms place fs cs → length (flat_map custom_bytes cs) ≤ length (frames_of fs 0)
customs_least place [] cs e = omega (arith, ap (λ (ds : List Custom). length (flat_map custom_bytes ds)) e)
customs_least place (f ∷ fs) cs (inl s) =
    let rest = customs_least place fs s.2 s.6 in
    let here = framed_rises 0 f.id (written_custom s.1) f.contents (custom_least f.contents s.1 s.5) in
    rw (eq-eqb f.id 0 s.0) (omega (
      arith,
      ap (λ (ds : List Custom). length (flat_map custom_bytes ds)) s.3,
      length-append (custom_bytes s.1) (flat_map custom_bytes s.2),
      length-append (frame_bytes f) (frames_of fs 0),
    ))
customs_least place (f ∷ fs) cs (inr s) = rw (ne_eqb f.id 0 s.0) (customs_least s.1 fs cs s.3)

-- ---- the module

module _ (m : Parts) (sections : SectionLaws m.profile) (fs : List Frame)
    (spelled : (k : SectionId) → SpellsSection (number k) (SpellsContents m.profile k) (omitted k) fs (contents (lists_of m) k)) where
  abbrev IsLeast : ℕ → Type 0
  IsLeast id = length (section_of m id) ≤ length (frames_of fs id)

  least_at : (k : SectionId) → IsLeast (number k)
  least_at k =
      let one = section_least m.profile k (sections k) fs (omitted k) (contents (lists_of m) k) (spelled k) in
      rw (of_number-number k) (omega (arith, ap length (omitted_bytes k)))

  least_after : (n : ℕ) → IsLeast (past_ids n)
  least_after n = rw (id_of_none (past_ids n) (omega arith)) (omega arith)

  sections_least : (id : ℕ) → length (section_of m id) ≤ length (frames_of fs id)
  sections_least id = every_id IsLeast (omega arith) least_at least_after id

-- pieces of s and c in turn, where each of s is no longer than that of t
all_least : (s t c : ℕ → List ℕ) → ((id : ℕ) → length (s id) ≤ length (t id)) → (qs : List ℕ)
    → length (flat_map (λ id. s id ++ c id) qs) ≤ length (flat_map t qs) + length (flat_map c qs)
all_least s t c least [] = omega arith
all_least s t c least (q ∷ qs) =
    omega (
      arith,
      length-append (s q) (c q),
      length-append (s q ++ c q) (flat_map (λ id. s id ++ c id) qs),
      length-append (t q) (flat_map t qs),
      length-append (c q) (flat_map c qs),
      least q,
      all_least s t c least qs,
    )

-- the same from 0 on, where s gives nothing at 0, and all of c is no longer than t at 0
all_joined : (s t c : ℕ → List ℕ) → ((id : ℕ) → length (s id) ≤ length (t id)) → (qs : List ℕ) → s 0 ≡ [] → length (flat_map c (0 ∷ qs)) ≤ length (t 0)
    → length (flat_map (λ id. s id ++ c id) (0 ∷ qs)) ≤ length (flat_map t (0 ∷ qs))
all_joined s t c least qs none first =
    omega (
      arith,
      ap length none,
      length-append (s 0) (c 0),
      length-append (s 0 ++ c 0) (flat_map (λ id. s id ++ c id) qs),
      length-append (t 0) (flat_map t qs),
      length-append (c 0) (flat_map c qs),
      all_least s t c least qs,
    )

-- the written form of a module is no longer than bytes that spell it
fitting : (b : List ℕ) (m : Parts) → SectionLaws m.profile → Spells b m → length (encoded m) ≤ length b
unfolding encoded
fitting b m sections spelled =
    let fs = spelled.frames in
    let places = λ (p : ℕ). customs_at p m.customs in
    let by_place = parts_least (λ (c : Custom). c.place) custom_bytes m.customs 12 0 in
    let customs : length (flat_map places ids) ≤ length (frames_of fs 0) = omega (arith, by_place, customs_least 0 fs m.customs spelled.customs) in
    let whole : length (flat_map (section_and_customs m) ids) ≤ length (flat_map (frames_of fs) ids) =
    all_joined (section_of m) (frames_of fs) places (sections_least m sections fs spelled.sections) (up_from 1 11) refl customs in
    let frames : length (flat_map (frames_of fs) ids) ≤ length (frames_bytes fs) = parts_least (λ (f : Frame). f.id) frame_bytes fs 12 0 in
    let least = frames_least 0 spelled.framing.frames fs spelled.framing.spelled in
    omega (
      arith,
      length-append (magic ++ version) (flat_map (section_and_customs m) ids),
      ap length spelled.framing.parts,
      length-append (magic ++ version) spelled.framing.frames,
    )

module _ (profile : Profile) (sections : SectionLaws profile) where
  written_least : (b : List ℕ) (m : Parts) → m.profile ≡ profile → Spells b m → length (encoded m) ≤ length b
  written_least b m same spelled = fitting b m (subst (λ (p : Profile). SectionLaws p) (sym same) sections) spelled

  -- a module that is spelled fits
  pub fits_spelled : (b : List ℕ) (m : Parts) → m.profile ≡ profile → Spells b m → Fits m
  fits_spelled b m same spelled = omega (arith, written_least b m same spelled, spelled.framing.fits)
