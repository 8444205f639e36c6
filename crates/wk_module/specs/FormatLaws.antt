-- What laws of formats say: of the code that lies in a module, of an item of a list, and of the contents of a section.
use Rattle.std.proofs.Common.{◌≡◌, ◌≢◌, ℕ, ◌<◌, ◌≤◌, ◌^◌, Bool, true, false, List, ◌++◌, length, Ok, Err}
use Rattle.wk_bytes.specs.declared.fault.ReadFault.{ReadFault}
use Rattle.wk_bytes.specs.Leb.{SpellsU}
use Rattle.wk_bytes.specs.LebLaws.{IsBytes}
use Rattle.wk_bytes.specs.Span.{Span}
use Rattle.wk_bytes.specs.StandsLaws.{ReadsFront}
use Rattle.wk_body.specs.declared.types.Profile.{Profile}
use Rattle.wk_body.specs.Bodies.{BodyOf, AreGroups}
use Rattle.wk_body.specs.Meaning.{IsReadAs, IsAllReadAs}
use Rattle.wk_body.specs.Reading.{expr_at, all_body_at}
use Rattle.wk_body.specs.Shape.{IsShaped, IsOf}
use Rattle.wk_body.specs.Spelling.{SpellsExpr, SpellsBody}
use Rattle.wk_body.specs.Tree.{Instrs}
use Rattle.wk_body.specs.Written.{written_expr, written_body}
use Rattle.wk_module.specs.ContentsFaults.{BreaksIn}
use Rattle.wk_module.specs.Formats.{Reader}
use Rattle.wk_module.specs.Sections.{SectionId, CodeSection, ContentsOf, number, is_full, SpellsContents, contents_at, written_contents, AreValid}

-- of expressions and bodies of a profile, as the calls below say it
pub record CodeLaws (profile : Profile) : Type 0 where
  pub expr : IsReadAs (SpellsExpr profile) (expr_at profile)
  pub body : IsAllReadAs (SpellsBody profile) (all_body_at profile)
  pub expr_shape : (t : Instrs) (bytes : List ℕ) → IsBytes bytes → SpellsExpr profile t bytes → IsShaped t × IsOf profile t
  pub expr_written : (t : Instrs) → IsShaped t → IsOf profile t → SpellsExpr profile t (written_expr t)
  pub body_written : (b : BodyOf) → AreGroups b.groups → IsShaped b.instrs → IsOf profile b.instrs → SpellsBody profile b (written_body b)
  pub expr_least : (t : Instrs) (bytes : List ℕ) → SpellsExpr profile t bytes → length (written_expr t) ≤ length bytes
  pub body_least : (b : BodyOf) (bytes : List ℕ) → SpellsBody profile b bytes → length (written_body b) ≤ length bytes

-- Of a thing that stands in a list: what is read is spelled, and what is spelled is read, wherever it ends and whatever follows; a
-- fault stands; the written form has a byte, spells the thing, where it is valid and not too long, and is a shortest spelling;
-- what is spelled is valid.
pub record IsFormat {A : Type 0} (Valid : A → Type 0) (Spells : List ℕ → A → Type 0) (read : Reader A) (written : A → List ℕ) : Type 0 where
  pub found : (end : ℕ) (bytes : List ℕ) (x : A) (rest : List ℕ) → IsBytes bytes → read end bytes ≡ Ok (x, rest)
      → (b : List ℕ) × Spells b x × (bytes ≡ b ++ rest)
  pub again : (end : ℕ) (b : List ℕ) (x : A) (rest : List ℕ) → Spells b x → read end (b ++ rest) ≡ Ok (x, rest)
  pub fronts : ReadsFront read
  pub some : (x : A) → 0 < length (written x)
  pub spells : (x : A) → Valid x → length (written x) < 2 ^ 32 → Spells (written x) x
  pub least : (b : List ℕ) (x : A) → Spells b x → length (written x) ≤ length b
  pub valid : (b : List ℕ) (x : A) → IsBytes b → Spells b x → Valid x

-- as many codes as functions were declared
abbrev pub CountIs : (k : SectionId) → ℕ → ContentsOf k → Type 0
CountIs CodeSection funcs bodies = length bodies ≡ funcs
CountIs _ funcs x = Unit {0}

-- The same of the contents of the section of an id, which are of the type X and may be empty: then they are a count of zero, and are
-- not written.
pub record IsContents {X : Type 0} (id : ℕ) (Counts : ℕ → X → Type 0) (Breaks : ℕ → Span → ReadFault → Type 0) (full_at : X → Bool) (Valid : X → Type 0) (Spells : List ℕ → X → Type 0)
    (read : ℕ → Reader X) (written : X → List ℕ) : Type 0 where
  pub found : (funcs end : ℕ) (bytes : List ℕ) (x : X) (rest : List ℕ) → IsBytes bytes → read funcs end bytes ≡ Ok (x, rest)
      → (b : List ℕ) × Spells b x × (bytes ≡ b ++ rest)
  pub again : (funcs end : ℕ) (b : List ℕ) (x : X) (rest : List ℕ) → Counts funcs x → Spells b x → read funcs end (b ++ rest) ≡ Ok (x, rest)
  pub fronts : (funcs : ℕ) → ReadsFront (read funcs)
  pub breaks : (funcs end : ℕ) (bytes : List ℕ) (e : ReadFault) → IsBytes bytes → length bytes ≤ end → read funcs end bytes ≡ Err e
      → Breaks funcs (record { rest = bytes; end = end }) e
  pub some : (x : X) → full_at x ≡ true → 0 < length (written x)
  pub spells : (x : X) → full_at x ≡ true → Valid x → length (written x) < 2 ^ 32 → Spells (written x) x
  pub least : (b : List ℕ) (x : X) → Spells b x → length (written x) ≤ length b
  pub valid : (b : List ℕ) (x : X) → IsBytes b → Spells b x → Valid x
  pub empty : (b : List ℕ) (x : X) → Spells b x → full_at x ≡ false → (id ≢ 8) × SpellsU 32 b 0
  pub full : (b : List ℕ) (x : X) → Spells b x → full_at x ≡ true → id ≢ 8 → SpellsU 32 b 0 → ⊥

abbrev pub IsSection : Profile → SectionId → Type 0
IsSection profile k = IsContents (number k) (CountIs k) (λ funcs. BreaksIn profile funcs k) (is_full k) (AreValid profile k) (SpellsContents profile k)
    (λ funcs. contents_at profile funcs k) (written_contents k)

-- of the sections of modules of a profile
abbrev pub SectionLaws : Profile → Type 0
SectionLaws profile = (k : SectionId) → IsSection profile k
