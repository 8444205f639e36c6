-- No spelling is shorter than the written form.
use Rattle.std.proofs.Common.{◌≡◌, ℕ, ◌≤◌, ◌+◌, pos, List, [], ◌∷◌, ◌++◌, length, ap, inl, inr, ◌⊎◌, arith, length-append}
use Rattle.std.specs.List.{flat_map}
use Rattle.byteorder.specs.Numbers.{length-bytes_low_first}
use Rattle.wk_bytes.specs.Leb.{SpellsU}
use Rattle.wk_bytes.specs.Short.{short}
use Rattle.wk_bytes.specs.ShortLaws.{short-least, short_signed-least}
use Rattle.wk_body.specs.declared.types.BlockType.{BlockType}
use Rattle.wk_body.specs.declared.types.BlockType.TheVariants.{Empty, Value}
use Rattle.wk_body.specs.declared.types.BlockType.TheVariants as types
use Rattle.wk_body.specs.declared.types.LocalGroup.{LocalGroup}
use Rattle.wk_body.specs.declared.types.Profile.{Profile}
use Rattle.wk_body.specs.ValTypes.{valtype_byte}
use Rattle.wk_body.specs.Vectors.{SpellsItems, SpellsVector, written_vector}
use Rattle.wk_body.specs.Instructions.{Plain, plain_opcode, Immediates, Nothing, Reserved, Index, IndexReserved, Labels, Memarg, Signed, Word, immediates}
use Rattle.wk_body.specs.Tree.{Instrs, Finish, One, Block, If}
use Rattle.wk_body.specs.Bodies.{BodyOf}
use Rattle.wk_body.specs.Spelling.{SpellsImmediates, SpellsPlain, SpellsType, Spells, SpellsExpr, SpellsGroup, SpellsBody}
use Rattle.wk_body.specs.Written.{immediate_bytes, plain_bytes, type_bytes, else_bytes, enc, written_expr, written_group, written_body}

-- two parts, each no longer than its other
both_least : (a b c d bytes : List ℕ) → bytes ≡ c ++ d → length a ≤ length c → length b ≤ length d → length (a ++ b) ≤ length bytes
both_least a b c d bytes e first second = omega (arith, ap length e, length-append a b, length-append c d, first, second)

same_front : (x : ℕ) (a b bytes : List ℕ) → bytes ≡ x ∷ b → length a ≤ length b → length (x ∷ a) ≤ length bytes
same_front x a b bytes e le = omega (arith, ap length e, le)

-- ---- vectors, of whose items no spelling is shorter than what is written

module _ {A : Type 0} (SpellsItem : List ℕ → A → Type 0) (written : A → List ℕ)
    (each : (x : A) (b : List ℕ) → SpellsItem b x → length (written x) ≤ length b) where
  pub items_least : (xs : List A) (b : List ℕ) → SpellsItems SpellsItem b xs → length (flat_map written xs) ≤ length b
  items_least [] b s = omega arith
  items_least (x ∷ xs) b s = both_least (written x) (flat_map written xs) s.0 s.1 b s.2 (each x s.0 s.3) (items_least xs s.1 s.4)

  pub vector_least : (xs : List A) (b : List ℕ) → SpellsVector SpellsItem b xs → length (written_vector written xs) ≤ length b
  vector_least xs b s =
      both_least (short (length xs)) (flat_map written xs) s.count s.items b s.parts (short-least 32 (length xs) s.count s.counts)
      (items_least xs s.items s.spelled)

-- ---- instructions that hold no others

pub index_least : (x : ℕ) (b : List ℕ) → SpellsU 32 b x → length (short x) ≤ length b
index_least x b s = short-least 32 x b s

pub immediates_least : (i : Immediates) (b : List ℕ) → SpellsImmediates i b → length (immediate_bytes i) ≤ length b
immediates_least Nothing b s = omega arith
immediates_least Reserved b s = omega (arith, ap length s)
immediates_least (Index x) b s = index_least x b s
immediates_least (IndexReserved x) b s = both_least (short x) (0x00 ∷ []) s.0 (0x00 ∷ []) b s.2 (index_least x s.0 s.1) (omega arith)
immediates_least (Labels labels other) b s =
    both_least (written_vector short labels) (short other) s.0 s.1 b s.4 (vector_least (SpellsU 32) short index_least labels s.0 s.2)
    (index_least other s.1 s.3)
immediates_least (Memarg align offset) b s = both_least (short align) (short offset) s.0 s.1 b s.4 (index_least align s.0 s.2) (index_least offset s.1 s.3)
immediates_least (Signed bits z) b s = short_signed-least bits z b s
immediates_least (Word size word) b s = omega (arith, length-bytes_low_first 0 size word, s.0)

pub plain_least : (profile : Profile) (p : Plain) (b : List ℕ) → SpellsPlain profile p b → length (plain_bytes p) ≤ length b
plain_least profile p b s = same_front (plain_opcode p) (immediate_bytes (immediates p)) s.0 b s.3 (immediates_least (immediates p) s.0 s.2)

-- ---- blocks

pub type_least : (profile : Profile) (ty : BlockType) (b : List ℕ) → SpellsType profile ty b → length (type_bytes ty) ≤ length b
type_least profile Empty b s = omega (arith, ap length s)
type_least profile (Value t) b s = omega (arith, ap length s)
type_least profile (types.Index x) b s = short_signed-least 33 (pos x) b s.1

else_short : (second : Instrs) (b : List ℕ) → length (else_bytes second b) ≤ 1 + length b
else_short Finish b = omega arith
else_short (One p rest) b = omega arith
else_short (Block kind ty inside rest) b = omega arith
else_short (If ty first second rest) b = omega arith

pub enc_least : (profile : Profile) (t : Instrs) (b : List ℕ) → Spells profile t b → length (enc t) ≤ length b
enc_least profile Finish b s = omega arith
enc_least profile (One p rest) b s = both_least (plain_bytes p) (enc rest) s.0 s.1 b s.4 (plain_least profile p s.0 s.2) (enc_least profile rest s.1 s.3)
enc_least profile (Block kind ty inside rest) b s =
    omega (
      arith,
      ap length s.6,
      length-append (type_bytes ty) (enc inside ++ 0x0B ∷ enc rest),
      length-append (enc inside) (0x0B ∷ enc rest),
      length-append s.0 (s.1 ++ 0x0B ∷ s.2),
      length-append s.1 (0x0B ∷ s.2),
      type_least profile ty s.0 s.3,
      enc_least profile inside s.1 s.4,
      enc_least profile rest s.2 s.5,
    )
enc_least profile (If ty first second rest) b s =
    let other : length (else_bytes second (enc second)) ≤ length s.2 = elim s.6 as (λ _. length (else_bytes second (enc second)) ≤ length s.2) [
      | inl none ↦ rw none.0 (omega arith)
      | inr some ↦ omega (arith, ap length some.2, else_short second (enc second), enc_least profile second some.0 some.1)
    ] in
    let otherwise = else_bytes second (enc second) in
    omega (
      arith,
      ap length s.8,
      length-append (type_bytes ty) (enc first ++ (otherwise ++ 0x0B ∷ enc rest)),
      length-append (enc first) (otherwise ++ 0x0B ∷ enc rest),
      length-append otherwise (0x0B ∷ enc rest),
      length-append s.0 (s.1 ++ (s.2 ++ 0x0B ∷ s.3)),
      length-append s.1 (s.2 ++ 0x0B ∷ s.3),
      length-append s.2 (0x0B ∷ s.3),
      type_least profile ty s.0 s.4,
      enc_least profile first s.1 s.5,
      other,
      enc_least profile rest s.3 s.7,
    )

pub else_least : (profile : Profile) (second : Instrs) (d : List ℕ)
    → ((second ≡ Finish) × (d ≡ [])) ⊎ ((f : List ℕ) × Spells profile second f × (d ≡ 0x05 ∷ f)) → length (else_bytes second (enc second)) ≤ length d
else_least profile second d (inl none) = rw none.0 (omega arith)
else_least profile second d (inr some) = omega (arith, ap length some.2, else_short second (enc second), enc_least profile second some.0 some.1)

-- ---- expressions and bodies

pub expr_least : (profile : Profile) (t : Instrs) (b : List ℕ) → SpellsExpr profile t b → length (written_expr t) ≤ length b
expr_least profile t b s = both_least (enc t) (0x0B ∷ []) s.front (0x0B ∷ []) b s.whole (enc_least profile t s.front s.spelled) (omega arith)

pub group_least : (g : LocalGroup) (b : List ℕ) → SpellsGroup b g → length (written_group g) ≤ length b
group_least g b s =
    both_least (short g.count) (valtype_byte g.ty ∷ []) s.count (valtype_byte g.ty ∷ []) b s.parts (index_least g.count s.count s.counts) (omega arith)

pub body_least : (profile : Profile) (w : BodyOf) (b : List ℕ) → SpellsBody profile w b → length (written_body w) ≤ length b
body_least profile w b s =
    let locals = vector_least SpellsGroup written_group group_least w.groups s.locals s.grouped in
    both_least (written_vector written_group w.groups) (written_expr w.instrs) s.locals s.code b s.parts locals (expr_least profile w.instrs s.code s.spelled)
