-- What is spelled is in shape.
use Rattle.std.proofs.Common.{◌≡◌, ◌≢◌, ℕ, zero, suc, ◌<◌, ◌≤◌, ◌==◌, max, Bool, true, ◌⊎◌, inl, inr, List, [], ◌∷◌, ◌++◌, map, refl, sym, ap, subst, ◌∙◌}
use Rattle.std.proofs.Common.{arith}
use Rattle.std.proofs.lemmas.Bool.{eqb-true, eqb-false, ne_eqb, cases_Bool}
use Rattle.std.specs.Str.{IsUtf8}
use Rattle.wk_bytes.specs.LebLaws.{IsBytes, IsBytes-after, IsBytes-before}
use Rattle.wk_bytes.specs.FrameLaws.{contents_bytes}
use Rattle.wk_bytes.specs.Frames.{Frame, SpellsFrames, magic, version}
use Rattle.wk_body.specs.declared.types.Profile.{Profile}
use Rattle.wk_module.specs.declared.types.Custom.{Custom}
use Rattle.wk_module.specs.declared.types.Parts.{Parts}
use Rattle.wk_module.specs.Customs.{IsEmptyFrame, SpellsCustoms}
use Rattle.wk_module.specs.FormatLaws.{SectionLaws}
use Rattle.wk_module.specs.Sections.{SectionId, number, ContentsOf, contents, omitted, is_full, SpellsContents, AreValid}
use Rattle.wk_module.specs.SectionLaws.{number_some, has_id}
use Rattle.wk_module.specs.ShapeLaws.{in_order_lower, omitted_valid}
use Rattle.wk_module.specs.Shape.{lists_of, is_filled, lowered, settled_custom, IsInOrderFrom, AreNamed, IsShaped}
use Rattle.wk_module.specs.Modules.{SpellsSection, Spells}
use Rattle.wk_module.proofs.WrittenSections.{filled_is}

-- ---- one section

module _ {A : Type 0} (Spells : List ℕ → A → Type 0) (id : ℕ) where
  -- an id comes once
  pub section_stays : (last : ℕ) (b : List ℕ) (fs : List Frame) (x y : A) → 0 < id → id ≤ last → SpellsFrames last b fs → SpellsSection id Spells x fs y → y ≡ x
  section_stays last b [] x y some came framed e = e
  section_stays last b (f ∷ fs) x y some came framed e =
      let other : f.id ≢ id = elim framed.3 [ inl p ↦ omega arith | inr p ↦ omega arith ] in
      section_stays (max last f.id) framed.1 fs x y some (omega arith) framed.5 (rw (ne_eqb f.id id other) at e)

-- the contents of each are bytes
abbrev pub HaveBytes : List Frame → Type 0
HaveBytes [] = Unit {0}
HaveBytes (f ∷ fs) = IsBytes f.contents × HaveBytes fs

pub frames_of_bytes : (last : ℕ) (b : List ℕ) (fs : List Frame) → IsBytes b → SpellsFrames last b fs → HaveBytes fs
frames_of_bytes last b [] fits s = tt
frames_of_bytes last b (f ∷ fs) fits s =
    (contents_bytes s.0 f (IsBytes-before s.0 s.1 b s.2 fits) s.4, frames_of_bytes (max last f.id) s.1 fs (IsBytes-after s.0 s.1 b s.2 fits) s.5)

module _ {A : Type 0} (Spells : List ℕ → A → Type 0) (id : ℕ) where
  -- the same of what bytes spell
  pub section_of_bytes_keeps : (P : A → Type 0) → ((b : List ℕ) (x : A) → IsBytes b → Spells b x → P x) → (fs : List Frame) (x y : A) → HaveBytes fs
      → P x → SpellsSection id Spells x fs y → P y
  section_of_bytes_keeps P spelled [] x y fits p e = subst P (sym e) p
  section_of_bytes_keeps P spelled (f ∷ fs) x y fits p e =
      elim (cases_Bool (f.id == id)) [
        | inl is ↦ let s = rw is at e in section_of_bytes_keeps P spelled fs s.0 y fits.1 (spelled f.contents s.0 fits.0 s.1) s.2
        | inr is ↦ section_of_bytes_keeps P spelled fs x y fits.1 p (rw is at e)
      ]

-- each frame of that id is empty, unless the section is full
abbrev pub IsFilledAt : ℕ → Bool → List Frame → Type 0
IsFilledAt id filled [] = Unit {0}
IsFilledAt id filled (f ∷ fs) = (f.id ≡ id → ¬ IsEmptyFrame f → filled ≡ true) × IsFilledAt id filled fs

filled_later : (id last : ℕ) (b : List ℕ) (fs : List Frame) (filled : Bool) → 0 < id → id ≤ last → SpellsFrames last b fs → IsFilledAt id filled fs
filled_later id last b [] filled some came framed = tt
filled_later id last b (f ∷ fs) filled some came framed =
    let other : f.id ≢ id = elim framed.3 [ inl p ↦ omega arith | inr p ↦ omega arith ] in
    (λ is more. absurd (other is), filled_later id (max last f.id) framed.1 fs filled some (omega arith) framed.5)

module _ {A : Type 0} (Spells : List ℕ → A → Type 0) (id : ℕ) (full : A → Bool) where
  -- where only a full one is spelled by a frame that is not empty
  pub section_filled : ((f : Frame) (x : A) → f.id ≡ id → Spells f.contents x → ¬ IsEmptyFrame f → full x ≡ true)
      → (last : ℕ) (b : List ℕ) (fs : List Frame) (x y : A) → 0 < id → SpellsFrames last b fs
      → SpellsSection id Spells x fs y → IsFilledAt id (full y) fs
  section_filled fills last b [] x y some framed e = tt
  section_filled fills last b (f ∷ fs) x y some framed e =
      elim (cases_Bool (f.id == id)) [
        | inl is ↦
            let s = rw is at e in
            let same : f.id ≡ id = eqb-true f.id id is in
            let stays : y ≡ s.0 = section_stays Spells id (max last f.id) framed.1 fs s.0 y some (omega arith) framed.5 s.2 in
            let spelled : Spells f.contents y = subst (Spells f.contents) (sym stays) s.1 in
            (λ again more. fills f y same spelled more, filled_later id (max last f.id) framed.1 fs (full y) some (omega arith) framed.5)
        | inr is ↦ (λ again more. absurd (eqb-false f.id id is again), section_filled fills (max last f.id) framed.1 fs x y some framed.5 (rw is at e))
      ]

-- ---- places

-- each frame that is neither a custom section nor empty has an id that passes
abbrev pub AreFilled : (ℕ → Bool) → List Frame → Type 0
AreFilled passes [] = Unit {0}
AreFilled passes (f ∷ fs) = (f.id ≢ 0 → ¬ IsEmptyFrame f → passes f.id ≡ true) × AreFilled passes fs

-- each place stays where it is
abbrev pub AreSettled : (ℕ → Bool) → List Custom → Type 0
AreSettled passes [] = Unit {0}
AreSettled passes (c ∷ cs) = (lowered passes c.place ≡ c.place) × AreSettled passes cs

module _ (passes : ℕ → Bool) where
  stays_there : (place : ℕ) → (place ≡ 0) ⊎ (passes place ≡ true) → lowered passes place ≡ place
  stays_there zero is = refl
  stays_there (suc p) (inl is) = absurd (omega arith)
  stays_there (suc p) (inr is) = rw is refl

  pub settled_all : (cs : List Custom) → AreSettled passes cs → map (settled_custom passes) cs ≡ cs
  settled_all [] settled = refl
  settled_all (c ∷ cs) settled = rw (settled.0, settled_all cs settled.1) refl

-- what the customs of a module keep
record AreShaped (passes : ℕ → Bool) (least : ℕ) (cs : List Custom) : Type 0 where
  order : IsInOrderFrom least cs
  names : AreNamed cs
  settled : AreSettled passes cs

module _ (passes : ℕ → Bool) where
  one_more : (place : ℕ) (c : Custom) (cs : List Custom) → c.place ≡ place → place ≤ 11 → (place ≡ 0) ⊎ (passes place ≡ true) → IsUtf8 c.name
      → AreShaped passes place cs → AreShaped passes place (c ∷ cs)
  one_more place c cs there small is text rest = record {
    order = (omega arith, omega arith, subst (λ (p : ℕ). IsInOrderFrom p cs) (sym there) rest.order);
    names = (text, rest.names);
    settled = (rw there (stays_there passes place is), rest.settled);
  }

  customs_shaped : (last place : ℕ) (b : List ℕ) (fs : List Frame) (cs : List Custom) → place ≤ last → last ≤ 11 → (place ≡ 0) ⊎ (passes place ≡ true)
      → SpellsFrames last b fs → AreFilled passes fs
      → SpellsCustoms place fs cs → AreShaped passes place cs
  customs_shaped last place b [] cs le small is framed filled e = subst (AreShaped passes place) (sym e) (record { order = tt; names = tt; settled = tt })
  customs_shaped last place b (f ∷ fs) cs le small is framed filled (inl s) =
      let bound : max last f.id ≤ 11 = elim framed.3 [ inl p ↦ omega arith | inr p ↦ omega arith ] in
      let rest = customs_shaped (max last f.id) place framed.1 fs s.2 (omega arith) bound is framed.5 filled.1 s.6 in
      subst (AreShaped passes place) (sym s.3) (one_more place s.1 s.2 s.4 (omega arith) is s.5.text rest)
  customs_shaped last place b (f ∷ fs) cs le small is framed filled (inr s) =
      let bound : max last f.id ≤ 11 = elim framed.3 [ inl p ↦ omega arith | inr p ↦ omega arith ] in
      elim s.2 [
        | inl p ↦ customs_shaped (max last f.id) place framed.1 fs cs (omega arith) bound is framed.5 filled.1
            (subst (λ (q : ℕ). SpellsCustoms q fs cs) p.1 s.3)
        | inr p ↦
            let rest = customs_shaped (max last f.id) f.id framed.1 fs cs (omega arith) bound (inr (filled.0 s.0 p.0)) framed.5 filled.1
            (subst (λ (q : ℕ). SpellsCustoms q fs cs) p.1 s.3) in
            let came : place ≤ f.id = elim framed.3 [ inl q ↦ absurd (s.0 q) | inr q ↦ omega arith ] in
            record { order = in_order_lower f.id place cs came rest.order; names = rest.names; settled = rest.settled }
      ]

-- ---- the ids

-- each id but 0 is that of a section
known_number : (id : ℕ) → id ≢ 0 → id ≤ 11 → (k : SectionId) × (number k ≡ id)
known_number id some small = elim (has_id id small) [ inl none ↦ absurd (some none.0) | inr known ↦ (known.0, sym known.1) ]

all_filled : (passes : ℕ → Bool) (last : ℕ) (b : List ℕ) (fs : List Frame) → SpellsFrames last b fs
    → ((k : SectionId) → IsFilledAt (number k) (passes (number k)) fs) → AreFilled passes fs
all_filled passes last b [] framed each = tt
all_filled passes last b (f ∷ fs) framed each = (
  λ some more.
      let small : f.id ≤ 11 = elim framed.3 [ inl p ↦ omega arith | inr p ↦ omega arith ] in
      let known = known_number f.id some small in
      subst (λ (id : ℕ). passes id ≡ true) known.1 ((each known.0).0 (sym known.1) more),
  all_filled passes (max last f.id) framed.1 fs framed.5 (λ k. (each k).1),
)

-- ---- the module

module _ (profile : Profile) (sections : SectionLaws profile) where
  -- a frame that is not empty spells a full section
  full_frame : (k : SectionId) (f : Frame) (x : ContentsOf k) → f.id ≡ number k → SpellsContents profile k f.contents x → ¬ IsEmptyFrame f → is_full k x ≡ true
  full_frame k f x is spelled more =
      elim (cases_Bool (is_full k x)) [
        | inl full ↦ full
        | inr none ↦
            let empty = (sections k).empty f.contents x spelled none in
            absurd (more (record { vector = λ e. empty.0 (sym is ∙ e); none = empty.1 }))
      ]

  -- what a section has that bytes spell, or that is left out, is valid
  section_valid : (k : SectionId) (fs : List Frame) (x : ContentsOf k) → HaveBytes fs
      → SpellsSection (number k) (SpellsContents profile k) (omitted k) fs x → AreValid profile k x
  section_valid k fs x fits e = section_of_bytes_keeps (SpellsContents profile k) (number k) (AreValid profile k) (sections k).valid fs
      (omitted k) x fits (omitted_valid profile k) e

  -- the frames fill the sections of a module that they spell
  sections_filled : (m : Parts) (b : List ℕ) (fs : List Frame) → SpellsFrames 0 b fs
      → ((k : SectionId) → SpellsSection (number k) (SpellsContents profile k) (omitted k) fs (contents (lists_of m) k)) → AreFilled (is_filled m) fs
  sections_filled m b fs framed spelled =
      all_filled (is_filled m) 0 b fs framed
      (λ k. subst (λ (filled : Bool). IsFilledAt (number k) filled fs) (sym (filled_is m k))
      (section_filled (SpellsContents profile k) (number k) (is_full k) (full_frame k) 0 b fs (omitted k) (contents (lists_of m) k)
      (number_some k) framed (spelled k)))

shaped_by : (b : List ℕ) (m : Parts) → SectionLaws m.profile → IsBytes b → Spells b m → IsShaped m
shaped_by b m sections fits spelled =
    let framing = spelled.framing in
    let inner : IsBytes framing.frames = IsBytes-after (magic ++ version) framing.frames b framing.parts fits in
    let have = frames_of_bytes 0 framing.frames spelled.frames inner framing.spelled in
    let filled = sections_filled m.profile sections m framing.frames spelled.frames framing.spelled spelled.sections in
    let customs = customs_shaped (is_filled m) 0 0 framing.frames spelled.frames m.customs (omega arith) (omega arith)
    (inl refl) framing.spelled filled spelled.customs in
    record {
      formed = record {
        valid = λ k. section_valid m.profile sections k spelled.frames (contents (lists_of m) k) have (spelled.sections k);
        order = customs.order;
        names = customs.names;
      };
      settled = ap (λ (cs : List Custom). record m { customs = cs }) (settled_all (is_filled m) m.customs customs.settled);
    }

module _ (profile : Profile) (sections : SectionLaws profile) where
  -- what bytes spell is in shape
  pub shaped : (b : List ℕ) (m : Parts) → m.profile ≡ profile → IsBytes b → Spells b m → IsShaped m
  shaped b m is fits spelled = shaped_by b m (subst SectionLaws (sym is) sections) fits spelled
