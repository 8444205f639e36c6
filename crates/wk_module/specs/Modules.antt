-- Modules (5.5.15): which bytes spell one.
use Rattle.std.specs.Prelude.{◌≡◌, ◌==◌, ℕ, MatchBool, List, [], ◌∷◌}
use Rattle.wk_bytes.specs.Frames.{Frame, SpellsFraming}
use Rattle.wk_body.specs.declared.types.Profile.{Profile}
use Rattle.wk_module.specs.declared.types.Parts.{Parts}
use Rattle.wk_module.specs.Customs.{SpellsCustoms}
use Rattle.wk_module.specs.Sections.{SectionId, number, contents, omitted, SpellsContents}
use Rattle.wk_module.specs.Shape.{lists_of}

-- The contents of the frame with that id spell x, or there is no such frame and x is what an omitted section has.
-- (The ids of a module rise, so there is at most one.)
abbrev pub SpellsSection : {A : Type 0} → ℕ → (List ℕ → A → Type 0) → A → List Frame → A → Type 0
SpellsSection id Spells omitted [] x = x ≡ omitted
SpellsSection {A = A} id Spells omitted (f ∷ fs) x =
    MatchBool (f.id == id) ((y : A) × Spells f.contents y × SpellsSection id Spells y fs x) (SpellsSection id Spells omitted fs x)

-- The bytes spell the module in its profile: the header and frames, whose contents spell its lists. The types and the codes of
-- its functions stand in two sections.
pub record Spells (b : List ℕ) (m : Parts) : Type 0 where
  pub frames : List Frame
  pub framing : SpellsFraming b frames
  pub sections : (k : SectionId) → SpellsSection (number k) (SpellsContents m.profile k) (omitted k) frames (contents (lists_of m) k)
  pub customs : SpellsCustoms 0 frames m.customs

-- no module of the profile is spelled
abbrev pub SpellsNone : Profile → List ℕ → Type 0
SpellsNone profile b = (m : Parts) → m.profile ≡ profile → Spells b m → ⊥
