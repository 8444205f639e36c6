-- Custom sections (5.5.3), and where they stand.
use Rattle.std.specs.Prelude.{◌≡◌, ◌≢◌, ℕ, ◌⊎◌, List, [], ◌∷◌, ◌++◌, length, Result, Ok}
use Rattle.std.specs.Str.{IsUtf8}
use Rattle.wk_bytes.specs.declared.fault.ReadFault.{ReadFault}
use Rattle.wk_bytes.specs.Leb.{◌>>=◌, SpellsU}
use Rattle.wk_bytes.specs.Short.{short}
use Rattle.wk_bytes.specs.Span.{name_at}
use Rattle.wk_bytes.specs.Frames.{Frame}
use Rattle.wk_module.specs.declared.types.Custom.{Custom}

-- the contents of a custom section are a name, then any bytes
pub record SpellsCustom (b : List ℕ) (c : Custom) : Type 0 where
  pub size : List ℕ
  pub parts : b ≡ size ++ (c.name ++ c.bytes)
  pub counts : SpellsU 32 size (length c.name)
  pub text : IsUtf8 c.name

-- The contents of a section are a vector without items. Only the start section has no vector.
pub record IsEmptyFrame (f : Frame) : Type 0 where
  pub vector : f.id ≢ 8
  pub none : SpellsU 32 f.contents 0

-- the id of the last section that is not empty, after one more section that is no custom one
abbrev pub IsPlaceAfter : ℕ → Frame → ℕ → Type 0
IsPlaceAfter place f next = (IsEmptyFrame f × (next ≡ place)) ⊎ ((¬ IsEmptyFrame f) × (next ≡ f.id))

-- The custom sections among these frames are those, in order. `place` is the id of the last section before the
-- frames that is not empty, or 0.
abbrev pub SpellsCustoms : ℕ → List Frame → List Custom → Type 0
SpellsCustoms place [] cs = cs ≡ []
SpellsCustoms place (f ∷ fs) cs =
    ((f.id ≡ 0) × (c : Custom) × (later : List Custom) × (cs ≡ c ∷ later) × (c.place ≡ place) × SpellsCustom f.contents c × SpellsCustoms place fs later)
    ⊎ ((f.id ≢ 0) × (next : ℕ) × IsPlaceAfter place f next × SpellsCustoms next fs cs)

-- all of the contents of a custom section that stands at a place, read
unfoldable pub custom_at : ℕ → ℕ → List ℕ → Result Custom ReadFault
custom_at place end bytes = name_at end bytes >>= λ name. Ok (record { place = place; name = name.0; bytes = name.1 })

-- the contents of a custom section, written
abbrev pub written_custom : Custom → List ℕ
written_custom c = short (length c.name) ++ (c.name ++ c.bytes)
