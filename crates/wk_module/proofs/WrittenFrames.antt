-- The frames of the written form: their bytes, and that they may come one after the other.
use Rattle.std.proofs.Common.{◌≡◌, ℕ, zero, suc, ◌+◌, ◌-◌, ◌^◌, ◌<◌, ◌≤◌, ◌==◌, max, Bool, true, false, ◌⊎◌, inl, inr, List, [], ◌∷◌, ◌++◌, length, map, refl}
use Rattle.std.proofs.Common.{append_assoc, length-append, arith}
use Rattle.std.specs.List.{filter, flat_map}
use Rattle.std.proofs.lemmas.List.Folds.{flat_map-map}
use Rattle.wk_bytes.specs.Short.{short}
use Rattle.wk_bytes.specs.ShortLaws.{short-spells}
use Rattle.wk_bytes.specs.Frames.{Frame, MayCome, SpellsFrames}
use Rattle.wk_module.specs.declared.types.Custom.{Custom}
use Rattle.wk_module.specs.Customs.{IsEmptyFrame, written_custom}
use Rattle.wk_module.specs.Writing.{framed, customs_at}

-- ---- frames as bytes

abbrev pub frame_bytes : Frame → List ℕ
frame_bytes f = framed f.id f.contents

abbrev pub frames_bytes : List Frame → List ℕ
frames_bytes fs = flat_map frame_bytes fs

-- each id may come behind those before it
abbrev pub IsRising : ℕ → List Frame → Type 0
IsRising last [] = Unit {0}
IsRising last (f ∷ fs) = MayCome last f.id × IsRising (max last f.id) fs

-- each size is one that a section may have
abbrev pub AreSmall : List Frame → Type 0
AreSmall [] = Unit {0}
AreSmall (f ∷ fs) = (length f.contents < 2 ^ 32) × AreSmall fs

frame_longer : (f : Frame) → length f.contents ≤ length (frame_bytes f)
frame_longer f = omega (arith, length-append (short (length f.contents)) f.contents)

pub small_all : (fs : List Frame) → length (frames_bytes fs) < 2 ^ 32 → AreSmall fs
small_all [] fits = tt
small_all (f ∷ fs) fits =
    let both = length-append (frame_bytes f) (frames_bytes fs) in
    (omega (arith, frame_longer f), small_all fs (omega arith))

pub small_front : (fs gs : List Frame) → AreSmall (fs ++ gs) → AreSmall fs
small_front [] gs small = tt
small_front (f ∷ fs) gs small = (small.0, small_front fs gs small.1)

pub small_later : (fs gs : List Frame) → AreSmall (fs ++ gs) → AreSmall gs
small_later [] gs small = small
small_later (f ∷ fs) gs small = small_later fs gs small.1

pub frames_spelled : (last : ℕ) (fs : List Frame) → IsRising last fs → AreSmall fs → SpellsFrames last (frames_bytes fs) fs
frames_spelled last [] rising small = refl
frames_spelled last (f ∷ fs) rising small = (
  frame_bytes f,
  frames_bytes fs,
  refl,
  rising.0,
  record { size = short (length f.contents); counts = short-spells 32 (length f.contents) small.0; parts = refl },
  frames_spelled (max last f.id) fs rising.1 small.1,
)

-- ---- sections and the customs behind them

abbrev pub custom_frame : Custom → Frame
custom_frame c = record { id = 0; contents = written_custom c }

abbrev pub customs_frames : ℕ → List Custom → List Frame
customs_frames p cs = map custom_frame (filter (λ c. c.place == p) cs)

pub customs_bytes : (p : ℕ) (cs : List Custom) → frames_bytes (customs_frames p cs) ≡ customs_at p cs
customs_bytes p cs = flat_map-map frame_bytes custom_frame (filter (λ c. c.place == p) cs)

-- count ids from p on
abbrev pub up_from : ℕ → ℕ → List ℕ
up_from p zero = []
up_from p (suc count) = p ∷ up_from (suc p) count

-- The section of an id is one frame, neither a custom section nor empty, where the id passes, and else none.
abbrev pub IsSectionAt : (ℕ → Bool) → ℕ → List Frame → Type 0
IsSectionAt passes p fs = ((fs ≡ []) × (passes p ≡ false)) ⊎ ((f : Frame) × (fs ≡ f ∷ []) × (f.id ≡ p) × (0 < p) × (¬ IsEmptyFrame f) × (passes p ≡ true))

-- the sections of these ids, each with the customs behind it
abbrev pub frames_at : (ℕ → List Frame) → List Custom → ℕ → List Frame
frames_at section customs p = section p ++ customs_frames p customs

customs_rise : (last : ℕ) (cs : List Custom) (fs : List Frame) → IsRising last fs → IsRising last (map custom_frame cs ++ fs)
customs_rise last [] fs rising = rising
customs_rise last (c ∷ cs) fs rising =
    let same : max last 0 ≡ last = omega arith in
    (inl refl, rw same (customs_rise last cs fs rising))

module _ (section : ℕ → List Frame) (passes : ℕ → Bool) (customs : List Custom) (each : (p : ℕ) → IsSectionAt passes p (section p)) where
  pub frames_rise : (count p last : ℕ) → last ≤ p - 1 → p + count ≤ 12 → IsRising last (flat_map (frames_at section customs) (up_from p count))
  frames_rise zero p last below fits = tt
  frames_rise (suc count) p last below fits =
      let apart = append_assoc (section p) (customs_frames p customs) (flat_map (frames_at section customs) (up_from (suc p) count)) in
      elim (each p) [
        | inl s ↦ rw (apart, s.0) (customs_rise last _ _ (frames_rise count (suc p) last (omega arith) (omega arith)))
        | inr s ↦
            let come : MayCome last s.0.id = inr (omega arith, omega arith) in
            let rest = frames_rise count (suc p) (max last s.0.id) (omega arith) (omega arith) in
            rw (apart, s.1) (come, customs_rise (max last s.0.id) _ _ rest)
      ]
