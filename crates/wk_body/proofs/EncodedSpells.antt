-- The written form is in the grammar.
use Rattle.std.proofs.Common.{◌≡◌, ℕ, ◌<◌, ◌^◌, pos, List, [], ◌∷◌, length, refl, sym, ap, ◌∙◌, inl, inr, arith}
use Rattle.std.specs.Prelude.{◌⊎◌}
use Rattle.std.specs.List.{flat_map, AllByRecursion}
use Rattle.std.proofs.lemmas.List.{append-nil}
use Rattle.std.proofs.lemmas.List.Concat.{flat_map-cons}
use Rattle.byteorder.specs.Endian.{little_bytes, little_number}
use Rattle.byteorder.specs.Numbers.{length-bytes_low_first, little_number-reads_back}
use Rattle.wk_bytes.specs.Leb.{SpellsU}
use Rattle.wk_bytes.specs.Short.{short}
use Rattle.wk_bytes.specs.ShortLaws.{short-spells, short_signed-spells}
use Rattle.wk_body.specs.declared.types.BlockType.{BlockType}
use Rattle.wk_body.specs.declared.types.BlockType.TheVariants.{Empty, Value}
use Rattle.wk_body.specs.declared.types.BlockType.TheVariants as types
use Rattle.wk_body.specs.declared.types.LocalGroup.{LocalGroup}
use Rattle.wk_body.specs.declared.types.Profile.{Profile}
use Rattle.wk_body.specs.Vectors.{SpellsItems, SpellsVector, written_vector}
use Rattle.wk_body.specs.Instructions.{Plain, Immediates, Nothing, Reserved, Index, IndexReserved, Labels, Memarg, Signed, Word, immediates, Allows}
use Rattle.wk_body.specs.Tree.{Instrs, Finish, One, Block, If}
use Rattle.wk_body.specs.Shape.{IsU32, AreInRange, IsTypeInRange, IsInRange, IsShaped, AllowsType, IsOf}
use Rattle.wk_body.specs.Bodies.{BodyOf, local_count, AreGroups}
use Rattle.wk_body.specs.Spelling.{SpellsImmediates, SpellsPlain, SpellsType, Spells, SpellsExpr, SpellsGroup, SpellsBody}
use Rattle.wk_body.specs.Written.{immediate_bytes, plain_bytes, type_bytes, else_bytes, enc, written_expr, written_group, written_body}

-- ---- vectors, whose items are written as they are spelled

module _ {A : Type 0} (SpellsItem : List ℕ → A → Type 0) (written : A → List ℕ) (IsIn : A → Type 0) (each : (x : A) → IsIn x → SpellsItem (written x) x) where
  items_spell : (xs : List A) → AllByRecursion IsIn xs → SpellsItems SpellsItem (flat_map written xs) xs
  items_spell [] all = refl
  items_spell (x ∷ xs) all = (written x, flat_map written xs, flat_map-cons written x xs, each x all.0, items_spell xs all.1)

  pub vector_spells : (xs : List A) → IsU32 (length xs) → AllByRecursion IsIn xs → SpellsVector SpellsItem (written_vector written xs) xs
  vector_spells xs few all = record {
    count = short (length xs);
    items = flat_map written xs;
    parts = refl;
    counts = short-spells 32 (length xs) few;
    spelled = items_spell xs all;
  }

-- ---- instructions that hold no others

word_reads_back : (size word : ℕ) → word < 256 ^ size → little_number size (little_bytes size word) ≡ word
word_reads_back size word fits = ap (little_number size) (sym (append-nil (little_bytes size word))) ∙ little_number-reads_back size word [] fits

pub immediates_spell : (i : Immediates) → AreInRange i → SpellsImmediates i (immediate_bytes i)
immediates_spell Nothing h = refl
immediates_spell Reserved h = refl
immediates_spell (Index x) h = short-spells 32 x h
immediates_spell (IndexReserved x) h = (short x, short-spells 32 x h, refl)
immediates_spell (Labels labels other) h =
    (written_vector short labels, short other, vector_spells (SpellsU 32) short IsU32 (short-spells 32) labels h.0 h.1, short-spells 32 other h.2, refl)
immediates_spell (Memarg align offset) h = (short align, short offset, short-spells 32 align h.0, short-spells 32 offset h.1, refl)
immediates_spell (Signed bits z) h = short_signed-spells bits z h
immediates_spell (Word size word) h = (length-bytes_low_first 0 size word, sym (word_reads_back size word h))

pub plain_spells : (profile : Profile) (p : Plain) → AreInRange (immediates p) → Allows profile p → SpellsPlain profile p (plain_bytes p)
plain_spells profile p h allowed = (immediate_bytes (immediates p), allowed, immediates_spell (immediates p) h, refl)

-- ---- blocks

pub type_spells : (profile : Profile) (ty : BlockType) → IsTypeInRange ty → AllowsType profile ty → SpellsType profile ty (type_bytes ty)
type_spells profile Empty h allowed = refl
type_spells profile (Value t) h allowed = refl
type_spells profile (types.Index x) h allowed = (allowed, short_signed-spells 33 (pos x) h)

else_spells : (profile : Profile) (second : Instrs) → Spells profile second (enc second)
    → ((second ≡ Finish) × (else_bytes second (enc second) ≡ [])) ⊎ ((f : List ℕ) × Spells profile second f × (else_bytes second (enc second) ≡ 0x05 ∷ f))
else_spells profile Finish s = inl (refl, refl)
else_spells profile (One p rest) s = inr (enc (One p rest), s, refl)
else_spells profile (Block kind ty inside rest) s = inr (enc (Block kind ty inside rest), s, refl)
else_spells profile (If ty first second rest) s = inr (enc (If ty first second rest), s, refl)

pub enc_spells : (profile : Profile) (t : Instrs) → IsInRange t → IsOf profile t → Spells profile t (enc t)
enc_spells profile Finish h of = refl
enc_spells profile (One p rest) h of = (plain_bytes p, enc rest, plain_spells profile p h.0 of.0, enc_spells profile rest h.1 of.1, refl)
enc_spells profile (Block kind ty inside rest) h of =
    (type_bytes ty, enc inside, enc rest, type_spells profile ty h.0 of.0, enc_spells profile inside h.1 of.1, enc_spells profile rest h.2 of.2, refl)
enc_spells profile (If ty first second rest) h of =
    let other = else_spells profile second (enc_spells profile second h.2 of.2) in (
      type_bytes ty,
      enc first,
      else_bytes second (enc second),
      enc rest,
      type_spells profile ty h.0 of.0,
      enc_spells profile first h.1 of.1,
      other,
      enc_spells profile rest h.3 of.3,
      refl,
    )

-- ---- expressions and bodies

pub expr_encoded : (profile : Profile) (t : Instrs) → IsShaped t → IsOf profile t → SpellsExpr profile t (written_expr t)
expr_encoded profile t h of = record { front = enc t; spelled = enc_spells profile t h.in_range of; whole = refl; shallow = h.shallow }

abbrev IsCounted : LocalGroup → Type 0
IsCounted g = IsU32 g.count

group_spells : (g : LocalGroup) → IsCounted g → SpellsGroup (written_group g) g
group_spells g h = record { count = short g.count; parts = refl; counts = short-spells 32 g.count h }

-- each group declares no more locals than all do
all_counted : (gs : List LocalGroup) → local_count gs < 2 ^ 32 → AllByRecursion IsCounted gs
all_counted [] few = tt
all_counted (g ∷ gs) few = (omega arith, all_counted gs (omega arith))

pub body_encoded : (profile : Profile) (b : BodyOf) → AreGroups b.groups → SpellsExpr profile b.instrs (written_expr b.instrs)
    → SpellsBody profile b (written_body b)
body_encoded profile b groups spelled = record {
  locals = written_vector written_group b.groups;
  code = written_expr b.instrs;
  parts = refl;
  grouped = vector_spells SpellsGroup written_group IsCounted group_spells b.groups groups.counted (all_counted b.groups groups.few);
  spelled = spelled;
  groups = groups;
}
