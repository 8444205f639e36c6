-- Instructions that hold no others, of which what stands behind the opcode was passed over.
use Rattle.std.proofs.Common.{◌≡◌, ℕ, ℤ, cond, eqb, inl, inr, List, [], ◌∷◌, ◌++◌, Option, Some, None, Ok, refl, sym, ap, ◌∙◌}
use Rattle.std.proofs.lemmas.Bool.{eqb-true}
use Rattle.byteorder.specs.Endian.{little_bytes}
use Rattle.wk_bytes.specs.declared.fault.ReadFault.{ReadFault}
use Rattle.wk_bytes.specs.LebLaws.{chosen, some_is}
use Rattle.wk_bytes.specs.Short.{short, short_signed}
use Rattle.wk_bytes.specs.Span.{u32_at, signed_at, word_at}
use Rattle.wk_body.specs.declared.immediate_kind.ImmediateKind.{ImmediateKind}
use Rattle.wk_body.specs.declared.immediate_kind.ImmediateKind.TheVariants as imms
use Rattle.wk_body.specs.declared.types.Profile.{Profile}
use Rattle.wk_body.specs.declared.reencoder.Reencoder.{Reencoder}
use Rattle.wk_body.specs.Vectors.{written_vector}
use Rattle.wk_body.specs.Instructions.{Plain, plain_opcode, Immediates, Nothing, Reserved, Index, IndexReserved, Labels, Memarg, Signed, Word, immediates, Form}
use Rattle.wk_body.specs.Instructions.{Alone, WithReserved, WithIndex, WithIndexReserved, WithLabels, WithMemarg, WithSigned, WithWord, form_of}
use Rattle.wk_body.specs.Reading.{reserved_at, labels_at, behind_form, plain_at}
use Rattle.wk_body.specs.Written.{immediate_bytes, plain_bytes}
use Rattle.wk_body.specs.Reencoding.{Adds, Passes, Keeps, PassesPlain}
use Rattle.wk_body.specs.ImmediateKinds.{imm_kind_of, imm_kind_in}
use Rattle.wk_body.proofs.Table.{Makes, form_of-makes}
use Rattle.wk_body.proofs.Walking.{adds_none, adds_then}

-- ---- the form that has a kind

abbrev pub HasForm : ImmediateKind → Option Form → Type 0
HasForm imms.Nothing o = (p : Plain) × (o ≡ Some (Alone p))
HasForm imms.Reserved o = (p : Plain) × (o ≡ Some (WithReserved p))
HasForm imms.Index o = (make : ℕ → Plain) × (o ≡ Some (WithIndex make))
HasForm imms.IndexReserved o = (make : ℕ → Plain) × (o ≡ Some (WithIndexReserved make))
HasForm imms.Labels o = (make : List ℕ → ℕ → Plain) × (o ≡ Some (WithLabels make))
HasForm imms.Memarg o = (make : ℕ → ℕ → Plain) × (o ≡ Some (WithMemarg make))
HasForm imms.Signed32 o = (make : ℤ → Plain) × (o ≡ Some (WithSigned 32 make))
HasForm imms.Signed64 o = (make : ℤ → Plain) × (o ≡ Some (WithSigned 64 make))
HasForm imms.Word32 o = (make : ℕ → Plain) × (o ≡ Some (WithWord 4 make))
HasForm imms.Word64 o = (make : ℕ → Plain) × (o ≡ Some (WithWord 8 make))

-- where a number tells which of two kinds a form has
kind_by : (with : ℕ → Form) (n a b : ℕ) (j k l : ImmediateKind) → cond (eqb n a) (Some j) (cond (eqb n b) (Some k) None) ≡ Some l
    → HasForm j (Some (with a)) → HasForm k (Some (with b)) → HasForm l (Some (with n))
kind_by with n a b j k l e first second =
    elim (chosen (eqb n a) (Some j) (cond (eqb n b) (Some k) None) (Some l) e) [
      | inl p ↦ rw (eqb-true n a p.0, ← some_is j l p.1) first
      | inr p ↦ elim (chosen (eqb n b) (Some k) None (Some l) p.1) [
        | inl q ↦ rw (eqb-true n b q.0, ← some_is k l q.1) second
        | inr q ↦ absurd cc
      ]
    ]

form_of_kind : (f : Form) (l : ImmediateKind) → imm_kind_of f ≡ Some l → HasForm l (Some f)
form_of_kind (Alone p) l e = rw (← some_is imms.Nothing l e) (p, refl)
form_of_kind (WithReserved p) l e = rw (← some_is imms.Reserved l e) (p, refl)
form_of_kind (WithIndex make) l e = rw (← some_is imms.Index l e) (make, refl)
form_of_kind (WithIndexReserved make) l e = rw (← some_is imms.IndexReserved l e) (make, refl)
form_of_kind (WithLabels make) l e = rw (← some_is imms.Labels l e) (make, refl)
form_of_kind (WithMemarg make) l e = rw (← some_is imms.Memarg l e) (make, refl)
form_of_kind (WithSigned bits make) l e = kind_by (λ n. WithSigned n make) bits 32 64 imms.Signed32 imms.Signed64 l e (make, refl) (make, refl)
form_of_kind (WithWord size make) l e = kind_by (λ n. WithWord n make) size 4 8 imms.Word32 imms.Word64 l e (make, refl) (make, refl)

pub has_form : (l : ImmediateKind) (o : Option Form) → Some l ≡ imm_kind_in o → HasForm l o
has_form l None e = absurd cc
has_form l (Some f) e = form_of_kind f l (sym e)

-- ---- what a form makes

plain_read : (profile : Profile) (opcode end : ℕ) (f : Form) (p : Plain) (bytes rest : List ℕ) → form_of profile opcode ≡ Some f
    → behind_form f end bytes ≡ Ok (p, rest) → (e : ReadFault) → plain_at profile e opcode end bytes ≡ Ok (p, rest)
unfolding plain_at
plain_read profile opcode end f p bytes rest h read e = rw h read

bytes_are : (opcode : ℕ) (p : Plain) (i : Immediates) → (plain_opcode p ≡ opcode) × (immediates p ≡ i) → plain_bytes p ≡ opcode ∷ immediate_bytes i
bytes_are opcode p i m = ap (λ (o : ℕ). o ∷ immediate_bytes (immediates p)) m.0 ∙ ap (λ (i : Immediates). opcode ∷ immediate_bytes i) m.1

module _ (profile : Profile) (opcode : ℕ) where
  -- the form of the opcode is that of its kind
  abbrev pub Has : ImmediateKind → Type 0
  Has k = Some k ≡ imm_kind_in (form_of profile opcode)

  form : (k : ImmediateKind) → Has k → HasForm k (form_of profile opcode)
  form k is = has_form k (form_of profile opcode) is

  made : (f : Form) (p : Plain) (i : Immediates) (out after : List ℕ) (from to : Reencoder) → form_of profile opcode ≡ Some f
      → behind_form f from.cursor.end from.cursor.rest ≡ Ok (p, to.cursor.rest) → to.cursor.end ≡ from.cursor.end
      → (plain_opcode p ≡ opcode) × (immediates p ≡ i) → Adds (immediate_bytes i) out from after to → PassesPlain profile opcode out from after to
  made f p i out after from to h read same m adds =
      record {
        instr = p;
        is = plain_read profile opcode from.cursor.end f p from.cursor.rest to.cursor.rest h read;
        same_end = same;
        bytes =
            immediate_bytes i;
        spelled = bytes_are opcode p i m;
        adds = adds;
      }

  makes : (f : Form) → form_of profile opcode ≡ Some f → Makes opcode f
  makes f h = (form_of-makes profile opcode f h).0

  pub nothing_passed : Has imms.Nothing → (out : List ℕ) (w : Reencoder) → PassesPlain profile opcode out w out w
  unfolding behind_form
  nothing_passed is out w =
      let f = form imms.Nothing is in
      made (Alone f.0) f.0 Nothing out out w w f.1 refl refl (makes (Alone f.0) f.1) (adds_none out w)

  pub reserved_passed : Has imms.Reserved → (byte : ℕ) (out : List ℕ) (from to : Reencoder) → Keeps reserved_at byte (0x00 ∷ []) from to
      → PassesPlain profile opcode out from out to
  unfolding behind_form
  reserved_passed is byte out from to kept =
      let f = form imms.Reserved is in
      let p = kept out in
      made (WithReserved f.0) f.0 Reserved out out from to f.1 (rw p.is refl) p.same_end (makes (WithReserved f.0) f.1) p.adds

  pub index_passed : Has imms.Index → (x : ℕ) (out after : List ℕ) (from to : Reencoder) → Passes u32_at x (short x) out from after to
      → PassesPlain profile opcode out from after to
  unfolding behind_form
  index_passed is x out after from to p =
      let f = form imms.Index is in
      made (WithIndex f.0) (f.0 x) (Index x) out after from to f.1 (rw p.is refl) p.same_end (makes (WithIndex f.0) f.1 x) p.adds

  pub index_reserved_passed : Has imms.IndexReserved → (x byte : ℕ) (out after : List ℕ) (from mid to : Reencoder)
      → Passes u32_at x (short x) out from after mid → Keeps reserved_at byte (0x00 ∷ []) mid to → PassesPlain profile opcode out from after to
  unfolding behind_form
  index_reserved_passed is x byte out after from mid to p kept =
      let f = form imms.IndexReserved is in
      let q = kept after in
      let there : reserved_at from.cursor.end mid.cursor.rest ≡ Ok (byte, to.cursor.rest) =
      ap (λ (end : ℕ). reserved_at end mid.cursor.rest) (sym p.same_end) ∙ q.is in
      made (WithIndexReserved f.0) (f.0 x) (IndexReserved x) out after from to f.1 (rw (p.is, there) refl) (q.same_end ∙ p.same_end)
      (makes (WithIndexReserved f.0) f.1 x)
      (adds_then (short x) (0x00 ∷ []) out after after from mid to p.adds q.adds)

  pub labels_passed : Has imms.Labels → (t : List ℕ × ℕ) (out after : List ℕ) (from to : Reencoder)
      → Passes labels_at t (written_vector short t.0 ++ short t.1) out from after to → PassesPlain profile opcode out from after to
  unfolding behind_form
  labels_passed is t out after from to p =
      let f = form imms.Labels is in
      made (WithLabels f.0) (f.0 t.0 t.1) (Labels t.0 t.1) out after from to f.1 (rw p.is refl) p.same_end (makes (WithLabels f.0) f.1 t.0 t.1) p.adds

  pub memarg_passed : Has imms.Memarg → (align offset : ℕ) (out between after : List ℕ) (from mid to : Reencoder)
      → Passes u32_at align (short align) out from between mid → Passes u32_at offset (short offset) between mid after to
      → PassesPlain profile opcode out from after to
  unfolding behind_form
  memarg_passed is align offset out between after from mid to p q =
      let f = form imms.Memarg is in
      let there : u32_at from.cursor.end mid.cursor.rest ≡ Ok (offset, to.cursor.rest) = ap (λ (end : ℕ). u32_at end mid.cursor.rest) (sym p.same_end) ∙ q.is in
      made (WithMemarg f.0) (f.0 align offset) (Memarg align offset) out after from to f.1 (rw (p.is, there) refl) (q.same_end ∙ p.same_end)
      (makes (WithMemarg f.0) f.1 align offset)
      (adds_then (short align) (short offset) out between after from mid to p.adds q.adds)

  signed_passed : (bits : ℕ) → (make : ℤ → Plain) × (form_of profile opcode ≡ Some (WithSigned bits make))
      → (z : ℤ) (out after : List ℕ) (from to : Reencoder) → Passes (signed_at bits) z (short_signed z) out from after to
      → PassesPlain profile opcode out from after to
  unfolding behind_form
  signed_passed bits f z out after from to p = made (WithSigned bits f.0) (f.0 z) (Signed bits z) out after from to f.1 (rw p.is refl) p.same_end
      (makes (WithSigned bits f.0) f.1 z) p.adds

  pub signed32_passed : Has imms.Signed32 → (z : ℤ) (out after : List ℕ) (from to : Reencoder)
      → Passes (signed_at 32) z (short_signed z) out from after to → PassesPlain profile opcode out from after to
  signed32_passed is = signed_passed 32 (form imms.Signed32 is)

  pub signed64_passed : Has imms.Signed64 → (z : ℤ) (out after : List ℕ) (from to : Reencoder)
      → Passes (signed_at 64) z (short_signed z) out from after to → PassesPlain profile opcode out from after to
  signed64_passed is = signed_passed 64 (form imms.Signed64 is)

  word_passed : (size : ℕ) → (make : ℕ → Plain) × (form_of profile opcode ≡ Some (WithWord size make)) → (word : ℕ) (out : List ℕ) (from to : Reencoder)
      → Keeps (word_at size) word (little_bytes size word) from to → PassesPlain profile opcode out from out to
  unfolding behind_form
  word_passed size f word out from to kept =
      let p = kept out in
      made (WithWord size f.0) (f.0 word) (Word size word) out out from to f.1 (rw p.is refl) p.same_end (makes (WithWord size f.0) f.1 word) p.adds

  pub word32_passed : Has imms.Word32 → (word : ℕ) (out : List ℕ) (from to : Reencoder) → Keeps (word_at 4) word (little_bytes 4 word) from to
      → PassesPlain profile opcode out from out to
  word32_passed is = word_passed 4 (form imms.Word32 is)

  pub word64_passed : Has imms.Word64 → (word : ℕ) (out : List ℕ) (from to : Reencoder) → Keeps (word_at 8) word (little_bytes 8 word) from to
      → PassesPlain profile opcode out from out to
  word64_passed is = word_passed 8 (form imms.Word64 is)
