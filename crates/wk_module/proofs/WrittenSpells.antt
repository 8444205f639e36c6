-- The written form of a module spells it.
use Rattle.std.proofs.Common.{◌≡◌, ℕ, zero, suc, ◌+◌, ◌^◌, ◌<◌, ◌≤◌, true, inl, inr, List, [], ◌∷◌, ◌++◌, length, refl, sym, ap, subst, ◌∙◌, length-append}
use Rattle.std.proofs.Common.{arith}
use Rattle.std.specs.List.{flat_map}
use Rattle.std.proofs.lemmas.Bool.{cases_eq}
use Rattle.std.proofs.lemmas.Grind.{flat_map-append}
use Rattle.wk_bytes.specs.Short.{short}
use Rattle.wk_bytes.specs.Frames.{Frame, magic, version}
use Rattle.wk_body.specs.declared.types.Profile.{Profile}
use Rattle.wk_module.specs.declared.types.Parts.{Parts}
use Rattle.wk_module.specs.FormatLaws.{SectionLaws}
use Rattle.wk_module.specs.Sections.{SectionId, number, contents, omitted, SpellsContents, written_contents}
use Rattle.wk_module.specs.Shape.{lists_of, is_written, is_filled, IsShaped}
use Rattle.wk_module.specs.Modules.{Spells}
use Rattle.wk_module.specs.Writing.{framed, section_of, customs_at, section_and_customs, ids, encoded, Fits}
use Rattle.wk_module.proofs.WrittenFrames.{frame_bytes, frames_bytes, small_all, frames_spelled, customs_frames, customs_bytes, up_from, frames_at, frames_rise}
use Rattle.wk_module.specs.SectionLaws.{number_some, number_most, of_number-number}
use Rattle.wk_module.proofs.WrittenSections.{section_frames, section_bytes, section_is, section_among, spelled_at}
use Rattle.wk_module.proofs.WrittenCustoms.{AreLeft, parts_settled, customs_spelled}

-- ---- the frames of a module

abbrev written_frames : Parts → List ℕ → List Frame
written_frames m ps = flat_map (frames_at (section_frames m) m.customs) ps

written_bytes : (m : Parts) (ps : List ℕ) → frames_bytes (written_frames m ps) ≡ flat_map (section_and_customs m) ps
written_bytes m [] = refl
written_bytes m (p ∷ ps) =
    flat_map-append frame_bytes (frames_at (section_frames m) m.customs p) (written_frames m ps)
    ∙ ap (λ (b : List ℕ). b ++ frames_bytes (written_frames m ps)) (flat_map-append frame_bytes (section_frames m p) (customs_frames p m.customs))
    ∙ ap (λ (b : List ℕ). (b ++ frames_bytes (customs_frames p m.customs)) ++ frames_bytes (written_frames m ps)) (section_bytes m p)
    ∙ ap (λ (b : List ℕ). (section_of m p ++ b) ++ frames_bytes (written_frames m ps)) (customs_bytes p m.customs)
    ∙ ap (λ (b : List ℕ). section_and_customs m p ++ b) (written_bytes m ps)

-- ---- each section is short

-- a piece is no longer than all of them
piece_within : (f : ℕ → List ℕ) (q count p : ℕ) → p ≤ q → q < p + count → length (f q) ≤ length (flat_map f (up_from p count))
piece_within f q zero p le lt = absurd (omega arith)
piece_within f q (suc count) p le lt =
    let both = length-append (f p) (flat_map f (up_from (suc p) count)) in
    elim (cases_eq p q) [
      | inl is ↦ omega (arith, ap (λ (i : ℕ). length (f i)) is)
      | inr other ↦ omega (arith, piece_within f q count (suc p) (omega arith) (omega arith))
    ]

short_contents : (m : Parts) (k : SectionId) → is_written m k ≡ true → length (flat_map (section_and_customs m) ids) < 2 ^ 32
    → length (written_contents k (contents (lists_of m) k)) < 2 ^ 32
short_contents m k full fits =
    let bytes = written_contents k (contents (lists_of m) k) in
    let is : section_of m (number k) ≡ framed (number k) bytes = rw (of_number-number k, full) refl in
    let within = piece_within (section_and_customs m) (number k) 12 0 (omega arith) (omega (arith, number_most k)) in
    omega (arith, ap length is, length-append (short (length bytes)) bytes, length-append (section_of m (number k)) (customs_at (number k) m.customs))

-- ---- the module

spells_itself : (m : Parts) → SectionLaws m.profile → IsShaped m → Fits m → Spells (encoded m) m
unfolding encoded
spells_itself m sections shaped fits =
    let bytes : frames_bytes (written_frames m ids) ≡ flat_map (section_and_customs m) ids = written_bytes m ids in
    let parts : encoded m ≡ (magic ++ version) ++ frames_bytes (written_frames m ids) = ap (λ (b : List ℕ). (magic ++ version) ++ b) (sym bytes) in
    let small : length (frames_bytes (written_frames m ids)) < 2 ^ 32 =
    omega (arith, fits, ap length parts, length-append (magic ++ version) (frames_bytes (written_frames m ids))) in
    let all_small = small_all (written_frames m ids) small in
    let spelled : (k : SectionId) → is_written m k ≡ true → SpellsContents m.profile k (written_contents k (contents (lists_of m) k)) (contents (lists_of m) k)
    = λ k full. (sections k).spells (contents (lists_of m) k) full (shaped.formed.valid k) (short_contents m k full (omega (arith, ap length bytes))) in
    let each = section_is m sections spelled in
    let rising = frames_rise (section_frames m) (is_filled m) m.customs each 12 0 0 (omega arith) (omega arith) in
    let settled = parts_settled (is_filled m) m.customs (ap (λ (n : Parts). n.customs) shaped.settled) in
    let left : AreLeft (is_filled m) m.customs 0 m.customs =
    record { same = λ q above. refl; order = shaped.formed.order; names = shaped.formed.names; settled = settled } in
    record {
      frames = written_frames m ids;
      framing = record {
        fits = fits;
        frames = frames_bytes (written_frames m ids);
        parts = parts;
        spelled =
            frames_spelled 0 (written_frames m ids) rising all_small;
      };
      sections = λ k. section_among (section_frames m) (is_filled m) m.customs each (SpellsContents m.profile k) (number k) (omitted k)
          (contents (lists_of m) k) (number_some k) (spelled_at m spelled k) 12 0 (omega arith) (number_most k);
      customs = customs_spelled (is_filled m) m.customs (section_frames m) each 12 0 0 m.customs refl (λ is. refl) left all_small;
    }

module _ (profile : Profile) (sections : SectionLaws profile) where
  -- where a module fits, its written form spells it
  pub written_spells : (m : Parts) → m.profile ≡ profile → IsShaped m → Fits m → Spells (encoded m) m
  written_spells m same shaped fits = spells_itself m (subst (λ (p : Profile). SectionLaws p) (sym same) sections) shaped fits
