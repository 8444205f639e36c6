-- The steps of reading section by section: one more section, or a fault of it or in its place.
use Rattle.std.proofs.Common.{◌≡◌, ℕ, List, ◌∷◌, Result, Ok, Err, refl, sym, ap, subst, ◌∙◌}
use Rattle.wk_bytes.specs.declared.fault.ReadFault.{ReadFault}
use Rattle.wk_bytes.specs.declared.raw.RawSection.{RawSection}
use Rattle.wk_bytes.specs.Frames.{Section}
use Rattle.wk_bytes.specs.Raw.{item_view}
use Rattle.wk_body.specs.declared.types.Profile.{Profile}
use Rattle.wk_body.specs.Reads.{FailsAs}
use Rattle.wk_module.specs.ListReading.{lists_read, front_read, Rise}
use Rattle.wk_module.specs.Reading.{Progress, with_section, sections_read}
use Rattle.wk_module.specs.Sections.{SectionLists}
use Rattle.wk_module.proofs.ListReading.{fair_fails}

-- ---- what comes next

-- what was taken is the first of those that were left
pub next_item : {items left : List (Result Section ReadFault)} {r s : Result RawSection ReadFault} → items ≡ item_view r ∷ left → r ≡ s
    → items ≡ item_view s ∷ left
next_item {left = left} steps was = steps ∙ ap (λ (r : Result RawSection ReadFault). item_view r ∷ left) was

-- a fault that comes next is that of the whole reading, of which this is the rest
pub broken_off : {Y : Type 0} {whole rest : Result Y ReadFault} {items left : List (Result Section ReadFault)} (e : ReadFault) → items ≡ Err e ∷ left
    → (last : ℕ) × Rise last items → rest ≡ whole → rest ≡ Err e → FailsAs e e.kind whole
broken_off {whole = whole} e first rise is broken =
    fair_fails e e.kind whole (subst (Rise rise.0) first rise.1) (sym is ∙ broken)

-- ---- the sections of a module

module _ (profile : Profile) (p : Progress) (items left : List (Result Section ReadFault)) where
  pub sections_next : (s : Section) (q : Progress) → items ≡ Ok s ∷ left → with_section profile p s ≡ Ok q
      → sections_read profile p items ≡ sections_read profile q left
  unfolding sections_read
  sections_next s q first step = rw (first, step) refl

  pub sections_stop : (s : Section) (e : ReadFault) → items ≡ Ok s ∷ left → with_section profile p s ≡ Err e → sections_read profile p items ≡ Err e
  unfolding sections_read
  sections_stop s e first step = rw (first, step) refl

  pub sections_break : (e : ReadFault) → items ≡ Err e ∷ left → sections_read profile p items ≡ Err e
  unfolding sections_read
  sections_break e first = rw first refl

-- ---- the same where customs are let go

module _ (profile : Profile) (l : SectionLists) (items left : List (Result Section ReadFault)) (e : ReadFault) where
  pub lists_break : items ≡ Err e ∷ left → lists_read profile l items ≡ Err e
  unfolding lists_read
  lists_break first = rw first refl

  pub front_break : items ≡ Err e ∷ left → front_read profile l items ≡ Err e
  unfolding front_read
  front_break first = rw first refl
