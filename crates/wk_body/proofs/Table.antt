-- The table of instructions from both sides: the form of an opcode makes the instructions of that opcode, and each
-- instruction has the form of its opcode.
use Rattle.std.proofs.Common.{◌≡◌, ℕ, zero, suc, ◌+◌, ◌-◌, ◌<◌, ◌≤◌, ℤ, Bool, true, false, cond, ltb, leb, eqb, ◌⊎◌, inl, inr, List, [], ◌∷◌, Option, Some, None}
use Rattle.std.proofs.Common.{refl, sym, ap, subst, ◌∙◌, arith}
use Rattle.std.specs.Prelude.{slice_get, ◌&&◌, ◌||◌, not, is_some}
use Rattle.std.specs.List.{AllByRecursion}
use Rattle.std.proofs.lemmas.Bool.{ltb-true, ltb-false, leb-true, eqb-true, ne_eqb, le-ltb, le-leb, lt-leb, and_parts, cases_lt}
use Rattle.wk_bytes.specs.LebLaws.{chosen, some_is}
use Rattle.wk_bytes.specs.Stands.{IsWidth, is_opcode}
use Rattle.wk_body.specs.declared.types.Profile.{Profile}
use Rattle.wk_body.specs.declared.types.Profile.TheVariants.{Core, Extended}
use Rattle.wk_body.specs.declared.memory.MemoryOp.{MemoryOp}
use Rattle.wk_body.specs.declared.numeric.NumericOp.{NumericOp}
use Rattle.wk_body.specs.Numeric.{numeric_opcode, numeric_ops, numeric_of}
use Rattle.wk_body.specs.MemoryOps.{memory_opcode, memory_ops, memory_of}
use Rattle.wk_body.specs.OpcodeLaws.{any_form-memory, any_form-numeric}
use Rattle.wk_body.specs.Instructions.{Plain, Br, BrIf, BrTable, Call, CallIndirect, LocalGet, LocalSet, LocalTee, GlobalGet, GlobalSet, Access, MemorySize}
use Rattle.wk_body.specs.Instructions.{MemoryGrow, I32Const, I64Const, F32Const, F64Const, Numeric, plain_opcode, Nothing, Reserved, Index, IndexReserved}
use Rattle.wk_body.specs.Instructions.{Labels, Memarg, Signed, Word, immediates, Form, Alone, WithReserved, WithIndex, WithIndexReserved, WithLabels}
use Rattle.wk_body.specs.Instructions.{WithMemarg, WithSigned, WithWord, rows, find_row, numeric_form, memory_form, any_form, last_opcode, form_of, Allows}
use Rattle.wk_body.proofs.ByteTables.{all_below, below}

-- ---- the opcode of an instruction that an opcode finds

-- ops whose opcodes rise one by one
module _ {A : Type 0} (opcode : A → ℕ) where
  abbrev rising : ℕ → List A → Bool
  rising n [] = true
  rising n (op ∷ ops) = eqb (opcode op) n && rising (suc n) ops

  rising_at : (n : ℕ) (ops : List A) (i : ℕ) (op : A) → rising n ops ≡ true → slice_get ops i ≡ Some op → opcode op ≡ i + n
  rising_at n [] i op h e = absurd cc
  rising_at n (o ∷ ops) zero op h e =
      let first : opcode op ≡ n = ap opcode (sym (some_is o op e)) ∙ eqb-true (opcode o) n (and_parts (eqb (opcode o) n) (rising (suc n) ops) h).0 in
      omega arith
  rising_at n (o ∷ ops) (suc i) op h e =
      let later = rising_at (suc n) ops i op (and_parts (eqb (opcode o) n) (rising (suc n) ops) h).1 e in
      omega arith

  rising_from : (n : ℕ) (ops : List A) (x : ℕ) (op : A) → rising n ops ≡ true → cond (leb n x) (slice_get ops (x - n)) None ≡ Some op → opcode op ≡ x
  rising_from n ops x op h e =
      elim (chosen (leb n x) (slice_get ops (x - n)) None (Some op) e) [
        | inl p ↦
            let low = leb-true n x p.0 in
            let at = rising_at n ops (x - n) op h p.1 in
            omega arith
        | inr p ↦ absurd cc
      ]

pub numeric_of-opcode : (x : ℕ) (op : NumericOp) → numeric_of x ≡ Some op → numeric_opcode op ≡ x
numeric_of-opcode x op e = rising_from numeric_opcode 0x45 numeric_ops x op refl e

pub memory_of-opcode : (x : ℕ) (op : MemoryOp) → memory_of x ≡ Some op → memory_opcode op ≡ x
memory_of-opcode x op e = rising_from memory_opcode 0x28 memory_ops x op refl e

-- what holds of each row, and of the loads and stores and the numeric instructions, holds of each form that an opcode has
module _ (P : ℕ → Form → Type 0) where
  abbrev pub OfRows : List (ℕ × Form) → Type 0
  OfRows rs = AllByRecursion (λ (row : ℕ × Form). P row.0 row.1) rs

  of_row : (rs : List (ℕ × Form)) (x : ℕ) (f : Form) → OfRows rs → find_row rs x ≡ Some f → P x f
  of_row [] x f all e = absurd cc
  of_row (row ∷ rs) x f all e =
      elim (chosen (eqb x row.0) (Some row.1) (find_row rs x) (Some f) e) [
        | inl p ↦ subst (λ (y : ℕ). P y f) (sym (eqb-true x row.0 p.0)) (subst (P row.0) (some_is row.1 f p.1) all.0)
        | inr p ↦ of_row rs x f all.1 p.1
      ]

  of_numeric : ((op : NumericOp) → P (numeric_opcode op) (Alone (Numeric op))) → (x : ℕ) (o : Option NumericOp) (f : Form)
      → ((op : NumericOp) → o ≡ Some op → numeric_opcode op ≡ x) → numeric_form o ≡ Some f → P x f
  of_numeric each x None f is e = absurd cc
  of_numeric each x (Some op) f is e = subst (P x) (some_is (Alone (Numeric op)) f e) (subst (λ (y : ℕ). P y (Alone (Numeric op))) (is op refl) (each op))

  of_memory : ((op : MemoryOp) → P (memory_opcode op) (WithMemarg (Access op))) → (x : ℕ) (o : Option MemoryOp) (f : Form)
      → ((op : MemoryOp) → o ≡ Some op → memory_opcode op ≡ x) → memory_form o ≡ Some f → P x f
  of_memory each x None f is e = absurd cc
  of_memory each x (Some op) f is e = subst (P x) (some_is (WithMemarg (Access op)) f e)
      (subst (λ (y : ℕ). P y (WithMemarg (Access op))) (is op refl) (each op))

  of_opcode : OfRows rows → ((op : NumericOp) → P (numeric_opcode op) (Alone (Numeric op)))
      → ((op : MemoryOp) → P (memory_opcode op) (WithMemarg (Access op))) → (x : ℕ) (f : Form) → any_form x ≡ Some f → P x f
  of_opcode all numeric memory x f e =
      elim (chosen (leb 0x45 x) (numeric_form (numeric_of x)) (cond (leb 0x28 x && leb x 0x3E) (memory_form (memory_of x)) (find_row rows x)) (Some f) e) [
        | inl p ↦ of_numeric numeric x (numeric_of x) f (numeric_of-opcode x) p.1
        | inr p ↦ elim (chosen (leb 0x28 x && leb x 0x3E) (memory_form (memory_of x)) (find_row rows x) (Some f) p.1) [
          | inl q ↦ of_memory memory x (memory_of x) f (memory_of-opcode x) q.1
          | inr q ↦ of_row rows x f all q.1
        ]
      ]

-- ---- the form of an opcode makes instructions of that opcode

-- what a form makes has that opcode, and immediates as the form says
abbrev pub Makes : ℕ → Form → Type 0
Makes x (Alone p) = (plain_opcode p ≡ x) × (immediates p ≡ Nothing)
Makes x (WithReserved p) = (plain_opcode p ≡ x) × (immediates p ≡ Reserved)
Makes x (WithIndex make) = (n : ℕ) → (plain_opcode (make n) ≡ x) × (immediates (make n) ≡ Index n)
Makes x (WithIndexReserved make) = (n : ℕ) → (plain_opcode (make n) ≡ x) × (immediates (make n) ≡ IndexReserved n)
Makes x (WithLabels make) = (labels : List ℕ) (other : ℕ) → (plain_opcode (make labels other) ≡ x) × (immediates (make labels other) ≡ Labels labels other)
Makes x (WithMemarg make) = (align offset : ℕ) → (plain_opcode (make align offset) ≡ x) × (immediates (make align offset) ≡ Memarg align offset)
Makes x (WithSigned bits make) = (z : ℤ) → (plain_opcode (make z) ≡ x) × (immediates (make z) ≡ Signed bits z)
Makes x (WithWord size make) = (word : ℕ) → (plain_opcode (make word) ≡ x) × (immediates (make word) ≡ Word size word)

rows_make : OfRows Makes rows
rows_make = (
  (refl, refl),
  (
    (refl, refl),
    (
      (λ n. (refl, refl)),
      (
        (λ n. (refl, refl)),
        (
          (λ labels other. (refl, refl)),
          (
            (refl, refl),
            (
              (λ n. (refl, refl)),
              (
                (λ n. (refl, refl)),
                (
                  (refl, refl),
                  (
                    (refl, refl),
                    (
                      (λ n. (refl, refl)),
                      (
                        (λ n. (refl, refl)),
                        (
                          (λ n. (refl, refl)),
                          (
                            (λ n. (refl, refl)),
                            (
                              (λ n. (refl, refl)),
                              (
                                (refl, refl),
                                ((refl, refl), ((λ z. (refl, refl)), ((λ z. (refl, refl)), ((λ w. (refl, refl)), ((λ w. (refl, refl)), tt))))),
                              ),
                            ),
                          ),
                        ),
                      ),
                    ),
                  ),
                ),
              ),
            ),
          ),
        ),
      ),
    ),
  ),
)

any_form-makes : (x : ℕ) (f : Form) → any_form x ≡ Some f → Makes x f
any_form-makes = of_opcode Makes rows_make (λ op. (refl, refl)) (λ op align offset. (refl, refl))

pub form_of-makes : (profile : Profile) (x : ℕ) (f : Form) → form_of profile x ≡ Some f → Makes x f × (x ≤ last_opcode profile)
unfolding form_of
form_of-makes profile x f e =
    elim (chosen (ltb (last_opcode profile) x) None (any_form x) (Some f) e) [
      | inl p ↦ absurd cc
      | inr p ↦ (any_form-makes x f p.1, ltb-false _ _ p.0)
    ]

-- ---- the widths of signed integers and of words

-- signed integers have a width of the format, and the words of an `f32.const` and an `f64.const` have four and eight bytes
abbrev pub HasWidth : ℕ → Form → Type 0
HasWidth x (WithSigned bits make) = IsWidth bits
HasWidth x (WithWord size make) = ((x ≡ 0x43) × (size ≡ 4)) ⊎ ((x ≡ 0x44) × (size ≡ 8))
HasWidth x _ = Unit {0}

rows_have_width : OfRows HasWidth rows
rows_have_width = (
  tt,
  (
    tt,
    (tt, (tt, (tt, (tt, (tt, (tt, (tt, (tt, (tt, (tt, (tt, (tt, (tt, (tt, (tt, (inl refl, (inr (inr refl), (inl (refl, refl), (inr (refl, refl), tt))))))))))))))))))),
  ),
)

pub form_of-width : (profile : Profile) (x : ℕ) (f : Form) → form_of profile x ≡ Some f → HasWidth x f
unfolding form_of
form_of-width profile x f e =
    elim (chosen (ltb (last_opcode profile) x) None (any_form x) (Some f) e) [
      | inl p ↦ absurd cc
      | inr p ↦ of_opcode HasWidth rows_have_width (λ op. tt) (λ op. tt) x f p.1
    ]

-- ---- each instruction has the form of its opcode

abbrev pub form_for : Plain → Form
form_for (Br label) = WithIndex Br
form_for (BrIf label) = WithIndex BrIf
form_for (BrTable labels other) = WithLabels BrTable
form_for (Call x) = WithIndex Call
form_for (CallIndirect x) = WithIndexReserved CallIndirect
form_for (LocalGet x) = WithIndex LocalGet
form_for (LocalSet x) = WithIndex LocalSet
form_for (LocalTee x) = WithIndex LocalTee
form_for (GlobalGet x) = WithIndex GlobalGet
form_for (GlobalSet x) = WithIndex GlobalSet
form_for (Access op align offset) = WithMemarg (Access op)
form_for MemorySize = WithReserved MemorySize
form_for MemoryGrow = WithReserved MemoryGrow
form_for (I32Const z) = WithSigned 32 I32Const
form_for (I64Const z) = WithSigned 64 I64Const
form_for (F32Const word) = WithWord 4 F32Const
form_for (F64Const word) = WithWord 8 F64Const
form_for p = Alone p

pub any_form-for : (p : Plain) → any_form (plain_opcode p) ≡ Some (form_for p)
any_form-for (Access op align offset) = any_form-memory op
any_form-for (Numeric op) = any_form-numeric op
any_form-for p = refl

pub form_of-for : (profile : Profile) (p : Plain) → Allows profile p → form_of profile (plain_opcode p) ≡ Some (form_for p)
unfolding form_of
form_of-for profile p allowed = rw (le-ltb (last_opcode profile) (plain_opcode p) allowed) (any_form-for p)

-- an opcode without a form is that of no instruction
pub no_opcode : (p : Plain) (x : ℕ) → any_form x ≡ None → plain_opcode p ≡ x → ⊥
no_opcode p x none is =
    let both : None ≡ Some (form_for p) = sym none ∙ ap any_form (sym is) ∙ any_form-for p in
    absurd cc

-- ---- an opcode without a form is none of 1.0

-- it opens or ends a block
abbrev is_bracket : ℕ → Bool
is_bracket x = eqb x 0x02 || (eqb x 0x03 || (eqb x 0x04 || eqb x 0x0B))

-- it has a form, or it is a bracket, or no opcode
abbrev is_settled : ℕ → Bool
is_settled x = is_some (any_form x) || (is_bracket x || not (is_opcode x))

all_settled : all_below 0xC5 is_settled ≡ true
all_settled = refl

above_all : (x : ℕ) → 0xBF < x → is_opcode x ≡ false
above_all x high = rw (
  lt-leb x 0x04 (omega arith),
  le-leb 0x0B x (omega arith),
  lt-leb x 0x11 (omega arith),
  le-leb 0x1A x (omega arith),
  lt-leb x 0x1B (omega arith),
  le-leb 0x20 x (omega arith),
  lt-leb x 0x24 (omega arith),
  le-leb 0x28 x (omega arith),
  lt-leb x 0xBF high,
) refl

not_true : (b : Bool) → not b ≡ true → b ≡ false
not_true true e = absurd cc
not_true false e = refl

no_form : (x : ℕ) → (x ≡ 0x02 → ⊥) → (x ≡ 0x03 → ⊥) → (x ≡ 0x04 → ⊥) → (x ≡ 0x0B → ⊥) → any_form x ≡ None → is_opcode x ≡ false
no_form x two three four end none =
    elim (cases_lt x 0xC5) [
      | inl low ↦
          let settled : is_settled x ≡ true = below 0xC5 is_settled x all_settled low in
          let bracket : is_bracket x ≡ false = rw (ne_eqb x 0x02 two, ne_eqb x 0x03 three, ne_eqb x 0x04 four, ne_eqb x 0x0B end) refl in
          let left : is_settled x ≡ not (is_opcode x) = rw (none, bracket) refl in
          not_true (is_opcode x) (sym left ∙ settled)
      | inr high ↦ above_all x (omega arith)
    ]

last_high : (profile : Profile) (x : ℕ) → last_opcode profile < x → 0xBF < x
last_high Core x h = h
last_high Extended x h = omega arith

-- an opcode that no instruction of the profile has, and that neither opens nor ends a block
pub form_of-none : (profile : Profile) (x : ℕ) → (x ≡ 0x02 → ⊥) → (x ≡ 0x03 → ⊥) → (x ≡ 0x04 → ⊥) → (x ≡ 0x0B → ⊥) → form_of profile x ≡ None
    → is_opcode x ≡ false
unfolding form_of
form_of-none profile x two three four end e =
    elim (chosen (ltb (last_opcode profile) x) None (any_form x) None e) [
      | inl p ↦ above_all x (last_high profile x (ltb-true _ _ p.0))
      | inr p ↦ no_form x two three four end p.1
    ]
