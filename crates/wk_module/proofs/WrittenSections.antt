-- The section of each id, in the frames of the written form.
use Rattle.std.proofs.Common.{◌≡◌, ◌≢◌, ℕ, zero, suc, ◌+◌, ◌-◌, ◌<◌, ◌≤◌, ◌==◌, Bool, true, false, not, if◌then◌else◌, Option, Some, None, ◌⊎◌, inl, inr, List}
use Rattle.std.proofs.Common.{[], ◌∷◌, ◌++◌, map, refl, sym, subst, ◌∙◌, append-nil, append_assoc, arith}
use Rattle.std.specs.List.{filter, flat_map}
use Rattle.std.proofs.lemmas.Bool.{cases_Bool, cases_lt, cases_eq, ne_eqb, eq-eqb}
use Rattle.wk_bytes.specs.Frames.{Frame}
use Rattle.wk_bytes.specs.ListWords.{is_empty}
use Rattle.wk_module.specs.declared.types.Custom.{Custom}
use Rattle.wk_module.specs.declared.types.Parts.{Parts}
use Rattle.wk_module.specs.Customs.{IsEmptyFrame}
use Rattle.wk_module.specs.FormatLaws.{SectionLaws}
use Rattle.wk_module.specs.Sections.{SectionId, TypeSection, StartSection, number, of_number, ContentsOf, SectionLists, contents, omitted}
use Rattle.wk_module.specs.Sections.{is_full, is_some, SpellsContents, written_contents}
use Rattle.wk_module.specs.Shape.{lists_of, is_written, is_filled}
use Rattle.wk_module.specs.Modules.{SpellsSection}
use Rattle.wk_module.specs.Writing.{framed, section_by, section_of}
use Rattle.wk_module.specs.SectionLaws.{number_some, of_number-number, has_id}
use Rattle.wk_module.proofs.WrittenFrames.{frames_bytes, custom_frame, customs_frames, up_from, IsSectionAt, frames_at}

-- ---- ids

pub id_of_none : (n : ℕ) → 11 < n → of_number n ≡ None
id_of_none n more =
    rw (
      ne_eqb n 1 (omega arith),
      ne_eqb n 2 (omega arith),
      ne_eqb n 3 (omega arith),
      ne_eqb n 4 (omega arith),
      ne_eqb n 5 (omega arith),
      ne_eqb n 6 (omega arith),
      ne_eqb n 7 (omega arith),
      ne_eqb n 8 (omega arith),
      ne_eqb n 9 (omega arith),
      ne_eqb n 10 (omega arith),
      ne_eqb n 11 (omega arith),
    ) refl

-- a number that is greater than all ids
abbrev pub past_ids : ℕ → ℕ
past_ids n = suc (suc (suc (suc (suc (suc (suc (suc (suc (suc (suc (suc n)))))))))))

-- what holds of 0, of each section's id, and of all greater numbers, holds of every number
pub every_id : (P : ℕ → Type 0) → P 0 → ((k : SectionId) → P (number k)) → ((n : ℕ) → P (past_ids n)) → (id : ℕ) → P id
every_id P first section later id =
    elim (cases_lt id 12) [
      | inl small ↦ elim (has_id id (omega arith)) [ inl none ↦ subst P (sym none.0) first | inr known ↦ subst P (sym known.1) (section known.0) ]
      | inr large ↦ let past : past_ids (id - 12) ≡ id = omega arith in subst P past (later (id - 12))
    ]

pub filled_is : (m : Parts) (k : SectionId) → is_filled m (number k) ≡ is_written m k
filled_is m TypeSection = refl
filled_is m k = refl

-- ---- what is not full

nothing_there : {A : Type 0} (xs : List A) → not (is_empty xs) ≡ false → xs ≡ []
nothing_there [] none = refl
nothing_there (x ∷ xs) none = cc

none_there : (x : Option ℕ) → is_some x ≡ false → x ≡ None
none_there None none = refl
none_there (Some x) none = cc

pub is_omitted : (k : SectionId) (x : ContentsOf k) → is_full k x ≡ false → x ≡ omitted k
is_omitted StartSection = none_there
is_omitted _ = nothing_there

-- ---- frames of sections

abbrev pub section_frame : (k : SectionId) → ContentsOf k → Frame
section_frame k x = record { id = number k; contents = written_contents k x }

-- the section of an id as frames: one, or none where it is empty or the id is of no section
abbrev pub frames_by : SectionLists → Option SectionId → List Frame
frames_by l None = []
frames_by l (Some k) = if is_full k (contents l k) then section_frame k (contents l k) ∷ [] else []

abbrev pub section_frames : Parts → ℕ → List Frame
section_frames m id = frames_by (lists_of m) (of_number id)

bytes_by : (l : SectionLists) (o : Option SectionId) → frames_bytes (frames_by l o) ≡ section_by l o
bytes_by l None = refl
bytes_by l (Some k) =
    elim (cases_Bool (is_full k (contents l k))) [
      | inl full ↦ rw full (append-nil (framed (number k) (written_contents k (contents l k))))
      | inr none ↦ rw none refl
    ]

pub section_bytes : (m : Parts) (id : ℕ) → frames_bytes (section_frames m id) ≡ section_of m id
section_bytes m id = bytes_by (lists_of m) (of_number id)

module _ (m : Parts) (sections : SectionLaws m.profile)
    (spelled : (k : SectionId) → is_written m k ≡ true → SpellsContents m.profile k (written_contents k (contents (lists_of m) k))
    (contents (lists_of m) k)) where
  full_frame : (k : SectionId) → is_written m k ≡ true → ¬ IsEmptyFrame (section_frame k (contents (lists_of m) k))
  full_frame k full empty = (sections k).full (written_contents k (contents (lists_of m) k)) (contents (lists_of m) k)
      (spelled k full) full empty.vector empty.none

  abbrev IsRight : ℕ → Type 0
  IsRight id = IsSectionAt (is_filled m) id (section_frames m id)

  right_at : (k : SectionId) → IsRight (number k)
  right_at k =
      rw (of_number-number k) (elim (cases_Bool (is_written m k)) [
        | inl full ↦ rw full (inr (section_frame k (contents (lists_of m) k), refl, refl, number_some k, full_frame k full, filled_is m k ∙ full))
        | inr none ↦ rw none (inl (refl, filled_is m k ∙ none))
      ])

  right_after : (n : ℕ) → IsRight (past_ids n)
  right_after n = rw (id_of_none (past_ids n) (omega arith)) (inl (refl, refl))

  pub section_is : (id : ℕ) → IsSectionAt (is_filled m) id (section_frames m id)
  section_is id = every_id IsRight (inl (refl, refl)) right_at right_after id

-- ---- frames of other ids

-- no frame has that id
abbrev pub HasNone : ℕ → List Frame → Type 0
HasNone id [] = Unit {0}
HasNone id (f ∷ fs) = (f.id ≢ id) × HasNone id fs

none_joined : (id : ℕ) (fs gs : List Frame) → HasNone id fs → HasNone id gs → HasNone id (fs ++ gs)
none_joined id [] gs none more = more
none_joined id (f ∷ fs) gs none more = (none.0, none_joined id fs gs none.1 more)

no_customs : (id : ℕ) (cs : List Custom) → 0 < id → HasNone id (map custom_frame cs)
no_customs id [] some = tt
no_customs id (c ∷ cs) some = (λ is. omega arith, no_customs id cs some)

-- the frames of an id are none, and an omitted section has x, or one that spells x
abbrev pub IsSpelledBy : {A : Type 0} → (List ℕ → A → Type 0) → ℕ → A → A → List Frame → Type 0
IsSpelledBy Spells id left_out x fs = ((fs ≡ []) × (x ≡ left_out)) ⊎ ((f : Frame) × (fs ≡ f ∷ []) × (f.id ≡ id) × Spells f.contents x)

module _ {A : Type 0} (Spells : List ℕ → A → Type 0) (id : ℕ) where
  section_skips : (fs gs : List Frame) (x y : A) → HasNone id fs → SpellsSection id Spells x gs y → SpellsSection id Spells x (fs ++ gs) y
  section_skips [] gs x y none spelled = spelled
  section_skips (f ∷ fs) gs x y none spelled = rw (ne_eqb f.id id none.0) (section_skips fs gs x y none.1 spelled)

  section_none : (fs : List Frame) (x y : A) → HasNone id fs → y ≡ x → SpellsSection id Spells x fs y
  section_none [] x y none same = same
  section_none (f ∷ fs) x y none same = rw (ne_eqb f.id id none.0) (section_none fs x y none.1 same)

  section_takes : (f : Frame) (fs : List Frame) (x y : A) → f.id ≡ id → Spells f.contents y → SpellsSection id Spells y fs y
      → SpellsSection id Spells x (f ∷ fs) y
  section_takes f fs x y is spelled more = rw (eq-eqb f.id id is) (y, spelled, more)

  section_there : (fs later : List Frame) (x y : A) → HasNone id later → IsSpelledBy Spells id x y fs → SpellsSection id Spells x (fs ++ later) y
  section_there fs later x y none (inl s) = rw s.0 (section_none later x y none s.1)
  section_there fs later x y none (inr s) = rw s.1 (section_takes s.0 later x y s.2 s.3 (section_none later y y none refl))

-- ---- the section of an id among all

module _ (section : ℕ → List Frame) (passes : ℕ → Bool) (customs : List Custom) (each : (p : ℕ) → IsSectionAt passes p (section p)) where
  no_frames_at : (id p : ℕ) → 0 < id → p ≢ id → HasNone id (frames_at section customs p)
  no_frames_at id p some other =
      none_joined id (section p) (customs_frames p customs)
      (elim (each p) [ inl s ↦ rw s.0 tt | inr s ↦ rw s.1 (λ is. other (sym s.2 ∙ is), tt) ])
      (no_customs id (filter (λ c. c.place == p) customs) some)

  no_frames : (id count p : ℕ) → 0 < id → id < p → HasNone id (flat_map (frames_at section customs) (up_from p count))
  no_frames id zero p some before = tt
  no_frames id (suc count) p some before =
      none_joined id (frames_at section customs p) (flat_map (frames_at section customs) (up_from (suc p) count)) (no_frames_at id p some (omega arith))
      (no_frames id count (suc p) some (omega arith))

  -- the section of one of these ids is spelled by the frames of them all
  pub section_among : {A : Type 0} (Spells : List ℕ → A → Type 0) (id : ℕ) (x y : A) → 0 < id → IsSpelledBy Spells id x y (section id) → (count p : ℕ)
      → p ≤ id → id < p + count
      → SpellsSection id Spells x (flat_map (frames_at section customs) (up_from p count)) y
  section_among Spells id x y some here zero p le lt = absurd (omega arith)
  section_among Spells id x y some here (suc count) p le lt =
      let after = flat_map (frames_at section customs) (up_from (suc p) count) in
      elim (cases_eq p id) [
        | inl is ↦
            let none = none_joined id (customs_frames p customs) after (no_customs id (filter (λ c. c.place == p) customs) some)
            (no_frames id count (suc p) some (omega arith)) in
            let there : IsSpelledBy Spells id x y (section p) = subst (λ (q : ℕ). IsSpelledBy Spells id x y (section q)) (sym is) here in
            rw (append_assoc (section p) (customs_frames p customs) after)
            (section_there Spells id (section p) (customs_frames p customs ++ after) x y none there)
        | inr other ↦ section_skips Spells id (frames_at section customs p) after x y (no_frames_at id p some other)
            (section_among Spells id x y some here count (suc p) (omega arith) (omega arith))
      ]

-- what stands at the id of each section
pub spelled_at : (m : Parts)
    → ((k : SectionId) → is_written m k ≡ true → SpellsContents m.profile k (written_contents k (contents (lists_of m) k)) (contents (lists_of m) k))
    → (k : SectionId) → IsSpelledBy (SpellsContents m.profile k) (number k) (omitted k) (contents (lists_of m) k) (section_frames m (number k))
spelled_at m spelled k =
    rw (of_number-number k) (elim (cases_Bool (is_written m k)) [
      | inl full ↦ rw full (inr (section_frame k (contents (lists_of m) k), refl, refl, spelled k full))
      | inr none ↦ rw none (inl (refl, is_omitted k (contents (lists_of m) k) none))
    ])
