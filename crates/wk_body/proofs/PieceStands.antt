-- The faults of the readers of single pieces stand.
use Rattle.std.proofs.Common.{◌≡◌, ℕ, zero, suc, ◌+◌, ◌^◌, ◌<◌, ◌≤◌, ℤ, pos, negsuc, Bool, true, false, cond, ltb, eqb, List, [], ◌∷◌, ◌++◌, length, Option}
use Rattle.std.proofs.Common.{Some, None, Result, Ok, Err, refl, sym, ap, ◌∙◌, append_assoc, length-append, arith, ◌⊎◌, inl, inr}
use Rattle.wk_bytes.specs.declared.fault.ReadKind.{ReadKind}
use Rattle.wk_bytes.specs.declared.fault.ReadKind.TheVariants.{BadByte, UnknownOpcode, TooManyLocals}
use Rattle.wk_bytes.specs.declared.fault.ReadFault.{ReadFault}
use Rattle.wk_bytes.specs.Leb.{◌>>=◌, or_fail}
use Rattle.wk_bytes.specs.LebLaws.{bind_ok, chosen, or_fail_ok}
use Rattle.wk_bytes.specs.Span.{Span, fault, byte_at, u32_at, signed_at, word_at}
use Rattle.wk_bytes.specs.SpanLaws.{good, ok_is, err_is, byte_at-takes, signed_at-takes}
use Rattle.wk_bytes.specs.Stands.{IsCut, StandsAt, Stands}
use Rattle.wk_bytes.specs.StandsLaws.{ReadsFront, ReadsFront-done, ReadsFront-then, ReadsFront-byte_at, ReadsFront-u32_at, ReadsFront-signed_at}
use Rattle.wk_bytes.specs.StandsLaws.{ReadsPiece, ReadsPiece-word_at, Stands-later, short_stands, stands_as, u32_there}
use Rattle.wk_body.specs.declared.types.ValType.{ValType}
use Rattle.wk_body.specs.declared.types.Profile.{Profile}
use Rattle.wk_body.specs.declared.types.Profile.TheVariants.{Core, Extended}
use Rattle.wk_body.specs.declared.types.BlockType.{BlockType}
use Rattle.wk_body.specs.declared.types.BlockType.TheVariants.{Empty, Value}
use Rattle.wk_body.specs.declared.types.BlockType.TheVariants as types
use Rattle.wk_body.specs.ValTypes.{valtype_of, valtype_at}
use Rattle.wk_body.specs.Vectors.{items_at, vector_at}
use Rattle.wk_body.specs.Instructions.{Plain, Form, Alone, WithReserved, WithIndex, WithIndexReserved, WithLabels, WithMemarg, WithSigned, WithWord, form_of}
use Rattle.wk_body.specs.Reading.{reserved_at, labels_at, behind_form, plain_at, index_of, index_at, or_value, type_at, groups_at}
use Rattle.wk_body.proofs.Table.{HasWidth, form_of-width, form_of-none}

-- ---- a fault at the front, of what was read there

-- A reader takes what it reads from the front, and its faults stand, or are that one.
pub record ReadsOr {A : Type 0} (e : ReadFault) (read : ℕ → List ℕ → Result (A × List ℕ) ReadFault) : Type 0 where
  pub takes : (end : ℕ) (bytes : List ℕ) (x : A) (rest : List ℕ) → read end bytes ≡ Ok (x, rest) → (front : List ℕ) × (bytes ≡ front ++ rest)
  pub faults : (end : ℕ) (bytes : List ℕ) (d : ReadFault) → read end bytes ≡ Err d → length bytes ≤ end
      → (e ≡ d) ⊎ Stands (record { rest = bytes; end = end }) d

-- where a test fails, it is that fault
pub ReadsOr-cond : {A : Type 0} (e : ReadFault) (b : Bool) (read : ℕ → List ℕ → Result (A × List ℕ) ReadFault) → ReadsFront read
    → ReadsOr e (λ end bytes. cond b (read end bytes) (Err e))
ReadsOr-cond e true read reads = record { takes = reads.takes; faults = λ end bytes d h fits. inr (reads.faults end bytes d h fits) }
ReadsOr-cond {A = A} e false read reads = record { takes = λ end bytes x rest h. absurd cc; faults = λ end bytes d h fits. inl (err_is {A = A × List ℕ} e d h) }

pub ReadsOr-some : {A B : Type 0} (e : ReadFault) (o : Option A) (read : A → ℕ → List ℕ → Result (B × List ℕ) ReadFault)
    → ((x : A) → ReadsFront (read x)) → ReadsOr e (λ end bytes. or_fail o e >>= λ x. read x end bytes)
ReadsOr-some e (Some x) read reads = record { takes = (reads x).takes; faults = λ end bytes d h fits. inr ((reads x).faults end bytes d h fits) }
ReadsOr-some {B = B} e None read reads = record { takes = λ end bytes x rest h. absurd cc; faults = λ end bytes d h fits. inl (err_is {A = B × List ℕ} e d h) }

-- One after another, where the second may fail at the front of the first. There the fault stands once the first was read.
module _ {A B : Type 0} (kind : ReadKind) (read : ℕ → List ℕ → Result (A × List ℕ) ReadFault)
    (more : ReadFault → A → ℕ → List ℕ → Result (B × List ℕ) ReadFault) where
  or_takes : ReadsFront read → ((e : ReadFault) (x : A) → ReadsOr e (more e x)) → (end : ℕ) (bytes : List ℕ) (y : B) (rest : List ℕ)
      → (read end bytes >>= λ p. more (fault kind end bytes) p.0 end p.1) ≡ Ok (y, rest) → (front : List ℕ) × (bytes ≡ front ++ rest)
  or_takes first second end bytes y rest e =
      let a = bind_ok (read end bytes) (λ p. more (fault kind end bytes) p.0 end p.1) (y, rest) e in
      let one = first.takes end bytes a.0.0 a.0.1 a.1 in
      let two = (second (fault kind end bytes) a.0.0).takes end a.0.1 y rest a.2 in
      (one.0 ++ two.0, one.1 ∙ ap (λ b. one.0 ++ b) two.1 ∙ sym (append_assoc one.0 two.0 rest))

  or_faults : ReadsFront read → ((end : ℕ) (bytes : List ℕ) (x : A × List ℕ) → read end bytes ≡ Ok x → StandsAt kind [] bytes)
      → ((e : ReadFault) (x : A) → ReadsOr e (more e x))
      → (end : ℕ) (bytes : List ℕ) (e : ReadFault) (r : Result (A × List ℕ) ReadFault) → read end bytes ≡ r
      → (r >>= λ p. more (fault kind end bytes) p.0 end p.1) ≡ Err e → length bytes ≤ end → Stands (record { rest = bytes; end = end }) e
  or_faults first there second end bytes e (Err d) is h fits = first.faults end bytes e (is ∙ cc) fits
  or_faults first there second end bytes e (Ok p) is h fits =
      let one = first.takes end bytes p.0 p.1 is in
      let fits' : length p.1 ≤ end = omega (arith, ap length one.1, length-append one.0 p.1) in
      elim ((second (fault kind end bytes) p.0).faults end p.1 e h fits') [
        | inl here ↦ stands_as kind end bytes e here (there end bytes p is)
        | inr later ↦ Stands-later one.0 (record { rest = bytes; end = end }) (record { rest = p.1; end = end }) e one.1 refl fits later
      ]

  pub ReadsFront-or : ReadsFront read → ((end : ℕ) (bytes : List ℕ) (x : A × List ℕ) → read end bytes ≡ Ok x → StandsAt kind [] bytes)
      → ((e : ReadFault) (x : A) → ReadsOr e (more e x)) → ReadsFront (λ end bytes. read end bytes >>= λ p. more (fault kind end bytes) p.0 end p.1)
  ReadsFront-or first there second = record {
    takes = or_takes first second;
    faults = λ end bytes e h fits. or_faults first there second end bytes e (read end bytes) refl h fits;
  }

-- there is a byte where one was read
byte_there : (end : ℕ) (bytes : List ℕ) (x : ℕ × List ℕ) → byte_at end bytes ≡ Ok x → 0 < length bytes
byte_there end bytes x e = omega (arith, ap length (byte_at-takes end bytes x.0 x.1 e))

signed_there : (N end : ℕ) (bytes : List ℕ) (x : ℤ × List ℕ) → signed_at N end bytes ≡ Ok x → 0 < length bytes
signed_there N end bytes x e = let t = signed_at-takes N end bytes x.0 x.1 e in omega (arith, ap length t.2)

-- ---- value types and groups of locals

pub ReadsFront-valtype_at : ReadsFront valtype_at
unfolding valtype_at
ReadsFront-valtype_at =
    ReadsFront-or BadByte byte_at (λ e x end rest. or_fail (valtype_of x) e >>= λ t. Ok (t, rest)) ReadsFront-byte_at byte_there
    (λ e x. ReadsOr-some e (valtype_of x) (λ t end rest. Ok (t, rest)) (λ t. ReadsFront-done t))

pub ReadsFront-groups_at : (n sum : ℕ) → ReadsFront (groups_at n sum)
unfolding groups_at
ReadsFront-groups_at zero sum = ReadsFront-done []
ReadsFront-groups_at (suc n) sum =
    let more = λ (count : ℕ) (end : ℕ) (rest : List ℕ). valtype_at end rest >>= λ ty. groups_at n (sum + count) end ty.1 >>= λ gs. good
    (record { count = count; ty = ty.0 } ∷ gs.0, gs.1) in
    ReadsFront-or TooManyLocals u32_at (λ e count end rest. cond (ltb (sum + count) (2 ^ 32)) (more count end rest) (Err e)) ReadsFront-u32_at u32_there
    (λ e count. ReadsOr-cond e (ltb (sum + count) (2 ^ 32)) (more count) (
    ReadsFront-then valtype_at (λ ty end rest. groups_at n (sum + count) end rest >>= λ gs. Ok (record { count = count; ty = ty } ∷ gs.0, gs.1))
    ReadsFront-valtype_at (λ ty.
    ReadsFront-then (groups_at n (sum + count)) (λ gs end rest. Ok (record { count = count; ty = ty } ∷ gs, rest))
    (ReadsFront-groups_at n (sum + count)) (λ gs. ReadsFront-done (record { count = count; ty = ty } ∷ gs)))
    ))

-- ---- block types

index_or : (e : ReadFault) (z : ℤ) → ReadsOr e (λ end rest. index_of z e >>= λ x. good (types.Index x, rest))
index_or e (pos x) = ReadsOr-cond e true (λ end rest. good (types.Index x, rest)) (ReadsFront-done (types.Index x))
index_or e (negsuc n) = ReadsOr-cond e false (λ end rest. good (types.Index n, rest)) (ReadsFront-done (types.Index n))

ReadsFront-index_at : ReadsFront (index_at Extended)
unfolding index_at
ReadsFront-index_at =
    ReadsFront-or BadByte (signed_at 33) (λ e z end rest. index_of z e >>= λ x. Ok (types.Index x, rest)) (ReadsFront-signed_at 33 (inr (inl refl)))
    (signed_there 33) (λ e z. index_or e z)

index_faults : (profile : Profile) (end : ℕ) (bytes : List ℕ) (e : ReadFault) → 0 < length bytes → index_at profile end bytes ≡ Err e
    → length bytes ≤ end → Stands (record { rest = bytes; end = end }) e
unfolding index_at
index_faults Core end bytes e some h fits = stands_as BadByte end bytes e (err_is {A = BlockType × List ℕ} _ e h) some
index_faults Extended end bytes e some h fits = ReadsFront-index_at.faults end bytes e h fits

index_takes : (profile : Profile) (end : ℕ) (bytes : List ℕ) (x : BlockType) (rest : List ℕ) → index_at profile end bytes ≡ Ok (x, rest)
    → (front : List ℕ) × (bytes ≡ front ++ rest)
unfolding index_at
index_takes Core end bytes x rest e = absurd cc
index_takes Extended end bytes x rest e = ReadsFront-index_at.takes end bytes x rest e

-- what stands behind the byte of a block type
value_takes : (o : Option ValType) (bytes later : List ℕ) (b : ℕ) (otherwise : Result (BlockType × List ℕ) ReadFault) (x : BlockType) (rest : List ℕ)
    → bytes ≡ b ∷ later → or_value o later otherwise ≡ Ok (x, rest) → ((front : List ℕ) × (bytes ≡ front ++ rest)) ⊎ (otherwise ≡ Ok (x, rest))
value_takes (Some t) bytes later b otherwise x rest parts e =
    inl (b ∷ [], parts ∙ ap (λ (q : BlockType × List ℕ). b ∷ q.1) (ok_is (Value t, later) (x, rest) e))
value_takes None bytes later b otherwise x rest parts e = inr e

value_faults : (o : Option ValType) (later : List ℕ) (otherwise : Result (BlockType × List ℕ) ReadFault) (e : ReadFault)
    → or_value o later otherwise ≡ Err e → otherwise ≡ Err e
value_faults (Some t) later otherwise e h = absurd cc
value_faults None later otherwise e h = h

type_takes : (profile : Profile) (end : ℕ) (bytes : List ℕ) (x : BlockType) (rest : List ℕ) → type_at profile end bytes ≡ Ok (x, rest)
    → (front : List ℕ) × (bytes ≡ front ++ rest)
unfolding type_at
type_takes profile end bytes x rest e =
    let a = bind_ok (byte_at end bytes) (λ y. cond (eqb y.0 0x40) (Ok (Empty, y.1)) (or_value (valtype_of y.0) y.1 (index_at profile end bytes))) (x, rest) e in
    let parts = byte_at-takes end bytes a.0.0 a.0.1 a.1 in
    elim (chosen (eqb a.0.0 0x40) (Ok (Empty, a.0.1)) (or_value (valtype_of a.0.0) a.0.1 (index_at profile end bytes)) (Ok (x, rest)) a.2) [
      | inl p ↦ (a.0.0 ∷ [], parts ∙ ap (λ (q : BlockType × List ℕ). a.0.0 ∷ q.1) (ok_is (Empty, a.0.1) (x, rest) p.1))
      | inr p ↦ elim (value_takes (valtype_of a.0.0) bytes a.0.1 a.0.0 (index_at profile end bytes) x rest parts p.1) [
        | inl q ↦ q
        | inr q ↦ index_takes profile end bytes x rest q
      ]
    ]

type_faults : (profile : Profile) (end : ℕ) (bytes : List ℕ) (e : ReadFault) (r : Result (ℕ × List ℕ) ReadFault) → byte_at end bytes ≡ r
    → (r >>= λ y. cond (eqb y.0 0x40) (Ok (Empty, y.1)) (or_value (valtype_of y.0) y.1 (index_at profile end bytes))) ≡ Err e → length bytes ≤ end
    → Stands (record { rest = bytes; end = end }) e
type_faults profile end bytes e (Err d) is h fits = ReadsFront-byte_at.faults end bytes e (is ∙ cc) fits
type_faults profile end bytes e (Ok y) is h fits =
    elim (chosen (eqb y.0 0x40) (Ok (Empty, y.1)) (or_value (valtype_of y.0) y.1 (index_at profile end bytes)) (Err e) h) [
      | inl p ↦ absurd cc
      | inr p ↦ index_faults profile end bytes e (byte_there end bytes y is) (value_faults (valtype_of y.0) y.1 (index_at profile end bytes) e p.1) fits
    ]

pub ReadsFront-type_at : (profile : Profile) → ReadsFront (type_at profile)
unfolding type_at
ReadsFront-type_at profile =
    record { takes = type_takes profile; faults = λ end bytes e h fits. type_faults profile end bytes e (byte_at end bytes) refl h fits }

-- ---- what stands behind an opcode

ReadsFront-reserved_at : ReadsFront reserved_at
unfolding reserved_at
ReadsFront-reserved_at = ReadsFront-or BadByte byte_at (λ e x end rest. cond (eqb x 0) (Ok (x, rest)) (Err e)) ReadsFront-byte_at byte_there
    (λ e x. ReadsOr-cond e (eqb x 0) (λ end rest. Ok (x, rest)) (ReadsFront-done x))

pub ReadsFront-items_at : {A : Type 0} (read : ℕ → List ℕ → Result (A × List ℕ) ReadFault) → ReadsFront read → (n : ℕ) → ReadsFront (items_at read n)
ReadsFront-items_at read reads zero = ReadsFront-done []
ReadsFront-items_at read reads (suc n) =
    ReadsFront-then read (λ x end rest. items_at read n end rest >>= λ xs. Ok (x ∷ xs.0, xs.1)) reads (λ x.
    ReadsFront-then (items_at read n) (λ xs end rest. Ok (x ∷ xs, rest)) (ReadsFront-items_at read reads n) (λ xs. ReadsFront-done (x ∷ xs)))

pub ReadsFront-vector_at : {A : Type 0} (read : ℕ → List ℕ → Result (A × List ℕ) ReadFault) → ReadsFront read → ReadsFront (vector_at read)
unfolding vector_at
ReadsFront-vector_at read reads = ReadsFront-then u32_at (λ n. items_at read n) ReadsFront-u32_at (ReadsFront-items_at read reads)

-- a reader, and what is made of its value
ReadsFront-made : {A B : Type 0} (read : ℕ → List ℕ → Result (A × List ℕ) ReadFault) (make : A → B) → ReadsFront read
    → ReadsFront (λ end bytes. read end bytes >>= λ x. Ok (make x.0, x.1))
ReadsFront-made read make reads = ReadsFront-then read (λ x end rest. Ok (make x, rest)) reads (λ x. ReadsFront-done (make x))

ReadsFront-labels_at : ReadsFront labels_at
unfolding labels_at
ReadsFront-labels_at =
    ReadsFront-then (vector_at u32_at) (λ labels end rest. u32_at end rest >>= λ other. Ok ((labels, other.0), other.1))
    (ReadsFront-vector_at u32_at ReadsFront-u32_at) (λ labels.
    ReadsFront-made u32_at (λ other. (labels, other)) ReadsFront-u32_at)

-- how many bytes the word of a form has, if it has one
abbrev word_size : Form → ℕ
word_size (WithWord size make) = size
word_size _ = 0

-- one that reads a piece of no bytes first
ReadsPiece-front : {A : Type 0} (n : ℕ) (read : ℕ → List ℕ → Result (A × List ℕ) ReadFault) → ReadsFront read → ReadsPiece n read
ReadsPiece-front n read reads = record { takes = reads.takes; faults = λ end bytes e h fits. inl (reads.faults end bytes e h fits) }

abbrev remade : {A B : Type 0} → (A → B) → A × List ℕ → Result (B × List ℕ) ReadFault
remade make x = Ok (make x.0, x.1)

made_takes : {A B : Type 0} (read : ℕ → List ℕ → Result (A × List ℕ) ReadFault) (make : A → B) (end : ℕ) (bytes : List ℕ) (y : B) (rest : List ℕ)
    → ((x : A) (after : List ℕ) → read end bytes ≡ Ok (x, after) → (front : List ℕ) × (bytes ≡ front ++ after))
    → (read end bytes >>= remade make) ≡ Ok (y, rest) → (front : List ℕ) × (bytes ≡ front ++ rest)
made_takes {B = B} read make end bytes y rest takes h =
    let a = bind_ok (read end bytes) (remade make) (y, rest) h in
    let t = takes a.0.0 a.0.1 a.1 in
    (t.0, t.1 ∙ ap (λ (p : B × List ℕ). t.0 ++ p.1) (ok_is (make a.0.0, a.0.1) (y, rest) a.2))

made_fails : {A B : Type 0} (make : A → B) (e : ReadFault) (r : Result (A × List ℕ) ReadFault) → (r >>= remade make) ≡ Err e → r ≡ Err e
made_fails make e (Ok x) h = absurd cc
made_fails make e (Err d) h = cc

ReadsPiece-made : {A B : Type 0} (n : ℕ) (read : ℕ → List ℕ → Result (A × List ℕ) ReadFault) (make : A → B) → ReadsPiece n read
    → ReadsPiece n (λ end bytes. read end bytes >>= remade make)
ReadsPiece-made n read make reads = record {
  takes = λ end bytes y rest h. made_takes read make end bytes y rest (reads.takes end bytes) h;
  faults = λ end bytes e h fits. reads.faults end bytes e (made_fails make e (read end bytes) h) fits;
}

-- what a form reads behind an opcode
ReadsPiece-form : (x : ℕ) (f : Form) → HasWidth x f → ReadsPiece (word_size f) (behind_form f)
unfolding behind_form
ReadsPiece-form x (Alone p) width = ReadsPiece-front 0 (behind_form (Alone p)) (ReadsFront-done p)
ReadsPiece-form x (WithReserved p) width = ReadsPiece-front 0 (behind_form (WithReserved p)) (ReadsFront-made reserved_at (λ z. p) ReadsFront-reserved_at)
ReadsPiece-form x (WithIndex make) width = ReadsPiece-front 0 (behind_form (WithIndex make)) (ReadsFront-made u32_at make ReadsFront-u32_at)
ReadsPiece-form x (WithIndexReserved make) width = ReadsPiece-front 0 (behind_form (WithIndexReserved make))
    (ReadsFront-then u32_at (λ x end rest. reserved_at end rest >>= λ z. Ok (make x, z.1)) ReadsFront-u32_at
    (λ x. ReadsFront-made reserved_at (λ z. make x) ReadsFront-reserved_at))
ReadsPiece-form x (WithLabels make) width =
    ReadsPiece-front 0 (behind_form (WithLabels make)) (ReadsFront-made labels_at (λ ls. make ls.0 ls.1) ReadsFront-labels_at)
ReadsPiece-form x (WithMemarg make) width = ReadsPiece-front 0 (behind_form (WithMemarg make))
    (ReadsFront-then u32_at (λ align end rest. u32_at end rest >>= λ offset. Ok (make align offset.0, offset.1)) ReadsFront-u32_at
    (λ align. ReadsFront-made u32_at (make align) ReadsFront-u32_at))
ReadsPiece-form x (WithSigned bits make) width =
    ReadsPiece-front 0 (behind_form (WithSigned bits make)) (ReadsFront-made (signed_at bits) make (ReadsFront-signed_at bits width))
ReadsPiece-form x (WithWord size make) width = ReadsPiece-made size (word_at size) make (ReadsPiece-word_at size)

-- a word that is cut short wants four or eight bytes, as the opcode in front says
form_cut : (x : ℕ) (f : Form) (rest : List ℕ) → HasWidth x f → length rest < word_size f → IsCut (x ∷ []) rest
form_cut x (WithWord size make) rest (inl is) short = inr (inr (inl (inl ([], ap (λ (b : ℕ). b ∷ []) is.0, omega (arith, is.1, short)))))
form_cut x (WithWord size make) rest (inr is) short = inr (inr (inl (inr ([], ap (λ (b : ℕ). b ∷ []) is.0, omega (arith, is.1, short)))))
form_cut x _ rest width short = absurd (omega (arith, short))

-- ---- an instruction that holds no others

pub plain_at-takes : (profile : Profile) (e : ReadFault) (opcode end : ℕ) (rest : List ℕ) (x : Plain × List ℕ)
    → plain_at profile e opcode end rest ≡ Ok x → (front : List ℕ) × (rest ≡ front ++ x.1)
unfolding plain_at
plain_at-takes profile e opcode end rest x h =
    let f = bind_ok (or_fail (form_of profile opcode) e) (λ f. behind_form f end rest) x h in
    let reads = ReadsPiece-form opcode f.0 (form_of-width profile opcode f.0 (or_fail_ok (form_of profile opcode) e f.0 f.1)) in
    reads.takes end rest x.0 x.1 f.2

plain_faults : (profile : Profile) (opcode end : ℕ) (rest : List ℕ) (e : ReadFault) (o : Option Form) → form_of profile opcode ≡ o → (opcode ≡ 0x02 → ⊥)
    → (opcode ≡ 0x03 → ⊥) → (opcode ≡ 0x04 → ⊥) → (opcode ≡ 0x0B → ⊥)
    → (or_fail o (fault UnknownOpcode end (opcode ∷ rest)) >>= λ f. behind_form f end rest) ≡ Err e → length (opcode ∷ rest) ≤ end
    → Stands (record { rest = opcode ∷ rest; end = end }) e
plain_faults profile opcode end rest e None is two three four closes h fits =
    stands_as UnknownOpcode end (opcode ∷ rest) e (err_is {A = Plain × List ℕ} _ e h) (form_of-none profile opcode two three four closes is)
plain_faults profile opcode end rest e (Some f) is two three four closes h fits =
    let width = form_of-width profile opcode f is in
    let s : Span = record { rest = opcode ∷ rest; end = end } in
    let t : Span = record { rest = rest; end = end } in
    elim ((ReadsPiece-form opcode f width).faults end rest e h (omega arith)) [
      | inl stood ↦ Stands-later (opcode ∷ []) s t e refl refl fits stood
      | inr short ↦ short_stands (opcode ∷ []) (word_size f) s t e refl refl fits (form_cut opcode f rest width short.1) short
    ]

-- behind an opcode that neither opens nor ends a block
pub plain_stands : (profile : Profile) (opcode end : ℕ) (rest : List ℕ) (e : ReadFault) → (opcode ≡ 0x02 → ⊥) → (opcode ≡ 0x03 → ⊥)
    → (opcode ≡ 0x04 → ⊥) → (opcode ≡ 0x0B → ⊥)
    → plain_at profile (fault UnknownOpcode end (opcode ∷ rest)) opcode end rest ≡ Err e → length (opcode ∷ rest) ≤ end
    → Stands (record { rest = opcode ∷ rest; end = end }) e
unfolding plain_at
plain_stands profile opcode end rest e two three four closes h fits =
    plain_faults profile opcode end rest e (form_of profile opcode) refl two three four closes h fits
