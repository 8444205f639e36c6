-- What the readers of single pieces read is spelled so, and what is spelled so is read.
use Rattle.std.proofs.Common.{◌≡◌, ℕ, zero, suc, ◌+◌, ◌-◌, ◌^◌, ◌<◌, ◌≤◌, ℤ, pos, negsuc, false, cond, ltb, eqb, List, [], ◌∷◌, ◌++◌, length, Option, Some}
use Rattle.std.proofs.Common.{None, Result, Ok, Err, refl, sym, ap, subst, ◌∙◌, append_assoc, arith, ◌⊎◌, inl, inr}
use Rattle.std.proofs.lemmas.Bool.{ltb-true, lt-ltb, eqb-true, ne_eqb, cases_lt}
use Rattle.wk_bytes.specs.declared.fault.ReadKind.TheVariants.{BadByte, TooManyLocals}
use Rattle.wk_bytes.specs.declared.fault.ReadFault.{ReadFault}
use Rattle.wk_bytes.specs.Leb.{◌>>=◌, or_fail, SpellsU, SpellsS}
use Rattle.wk_bytes.specs.LebLaws.{IsBytes, bind_ok, chosen, or_fail_ok, some_is, last_value, IsBytes-after}
use Rattle.wk_bytes.specs.Pieces.{SpellsWord}
use Rattle.wk_bytes.specs.Span.{fault, byte_at, u32_at, signed_at, word_at}
use Rattle.wk_bytes.specs.SpanLaws.{ok_is, byte_at-takes}
use Rattle.wk_bytes.specs.PieceLaws.{u32_at-found, u32_at-again, signed_at-found, signed_at-again, word_at-found, word_at-again}
use Rattle.wk_body.specs.declared.types.ValType.{ValType}
use Rattle.wk_body.specs.declared.types.ValType.TheVariants.{I32, I64, F32, F64}
use Rattle.wk_body.specs.declared.types.Profile.{Profile}
use Rattle.wk_body.specs.declared.types.Profile.TheVariants.{Core, Extended}
use Rattle.wk_body.specs.declared.types.BlockType.{BlockType}
use Rattle.wk_body.specs.declared.types.BlockType.TheVariants.{Empty, Value}
use Rattle.wk_body.specs.declared.types.BlockType.TheVariants as types
use Rattle.wk_body.specs.declared.types.LocalGroup.{LocalGroup}
use Rattle.wk_body.specs.Bodies.{local_count}
use Rattle.wk_body.specs.ValTypes.{valtype_byte, SpellsValType, valtype_of, valtype_at}
use Rattle.wk_body.specs.Vectors.{SpellsItems, SpellsVector, items_at, vector_at}
use Rattle.wk_body.specs.Instructions.{Plain, Br, BrIf, BrTable, Call, CallIndirect, LocalGet, LocalSet, LocalTee, GlobalGet, GlobalSet, Access, MemorySize}
use Rattle.wk_body.specs.Instructions.{MemoryGrow, I32Const, I64Const, F32Const, F64Const, plain_opcode, Immediates, Labels, immediates, Form, Alone}
use Rattle.wk_body.specs.Instructions.{WithReserved, WithIndex, WithIndexReserved, WithLabels, WithMemarg, WithSigned, WithWord, last_opcode, form_of}
use Rattle.wk_body.specs.Spelling.{SpellsImmediates, SpellsPlain, SpellsType, SpellsGroup}
use Rattle.wk_body.specs.Reading.{reserved_at, labels_at, behind_form, plain_at, index_of, index_at, or_value, type_at, groups_at}
use Rattle.wk_body.proofs.Table.{Makes, form_of-makes, form_for, form_of-for, no_opcode}

-- A reader took this from the front.
pub record Took {A : Type 0} (S : A → List ℕ → Type 0) (bytes : List ℕ) (x : A × List ℕ) : Type 0 where
  pub front : List ℕ
  pub spelled : S x.0 front
  pub parts : bytes ≡ front ++ x.1
  pub rest_fits : IsBytes x.1

-- the same of a grammar that names the bytes first
abbrev pub TookBy : {A : Type 0} → (List ℕ → A → Type 0) → List ℕ → A × List ℕ → Type 0
TookBy Spells = Took (λ v b. Spells b v)

pub took : {A : Type 0} (S : A → List ℕ → Type 0) (bytes : List ℕ) (x : A × List ℕ) (front : List ℕ) → IsBytes bytes → S x.0 front
    → bytes ≡ front ++ x.1 → Took S bytes x
took S bytes x front fits s e = record { front = front; spelled = s; parts = e; rest_fits = IsBytes-after front x.1 bytes e fits }

-- one after another
joined : (a b rest middle bytes : List ℕ) → bytes ≡ a ++ middle → middle ≡ b ++ rest → bytes ≡ (a ++ b) ++ rest
joined a b rest middle bytes e f = e ∙ ap (λ (c : List ℕ). a ++ c) f ∙ sym (append_assoc a b rest)

-- bytes in two parts, and more behind them
regrouped : (a b rest bytes : List ℕ) → bytes ≡ a ++ b → bytes ++ rest ≡ a ++ (b ++ rest)
regrouped a b rest bytes e = ap (λ (c : List ℕ). c ++ rest) e ∙ append_assoc a b rest

-- ---- numbers, and a reserved byte

pub u32_takes : (end : ℕ) (bytes : List ℕ) (x : ℕ × List ℕ) → IsBytes bytes → u32_at end bytes ≡ Ok x → TookBy (SpellsU 32) bytes x
u32_takes end bytes x fits e = let f = u32_at-found end bytes x.0 x.1 fits e in took (λ v b. SpellsU 32 b v) bytes x f.0 fits f.1 f.2

pub reserved_at-takes : (end : ℕ) (bytes : List ℕ) (x : ℕ × List ℕ) → reserved_at end bytes ≡ Ok x → bytes ≡ 0 ∷ x.1
unfolding reserved_at
reserved_at-takes end bytes x e =
    let a = bind_ok (byte_at end bytes) (λ y. cond (eqb y.0 0) (Ok y) (Err (fault BadByte end bytes))) x e in
    elim (chosen (eqb a.0.0 0) (Ok a.0) (Err (fault BadByte end bytes)) (Ok x) a.2) [
      | inl p ↦ byte_at-takes end bytes a.0.0 a.0.1 a.1 ∙ ap (λ (c : ℕ). c ∷ a.0.1) (eqb-true _ _ p.0) ∙ ap (λ (q : ℕ × List ℕ). 0 ∷ q.1) (ok_is a.0 x p.1)
      | inr p ↦ absurd cc
    ]

pub reserved_at-again : (end : ℕ) (rest : List ℕ) → reserved_at end (0 ∷ rest) ≡ Ok (0, rest)
unfolding reserved_at byte_at
reserved_at-again end rest = refl

-- ---- vectors

module _ {A : Type 0} (Spells : List ℕ → A → Type 0) (read : ℕ → List ℕ → Result (A × List ℕ) ReadFault) where
  pub items_take : ((end : ℕ) (bytes : List ℕ) (x : A × List ℕ) → IsBytes bytes → read end bytes ≡ Ok x → TookBy Spells bytes x)
      → (n end : ℕ) (bytes : List ℕ) (x : List A × List ℕ) → IsBytes bytes → items_at read n end bytes ≡ Ok x
      → TookBy (SpellsItems Spells) bytes x × (length x.0 ≡ n)
  items_take takes zero end bytes x fits e =
      subst (λ (r : List A × List ℕ). TookBy (SpellsItems Spells) bytes r × (length r.0 ≡ 0)) (ok_is ([], bytes) x e)
      (took (λ v b. SpellsItems Spells b v) bytes ([], bytes) [] fits refl refl, refl)
  items_take takes (suc n) end bytes x fits e =
      let a = bind_ok (read end bytes) (λ y. items_at read n end y.1 >>= λ ys. Ok (y.0 ∷ ys.0, ys.1)) x e in
      let b = bind_ok (items_at read n end a.0.1) (λ ys. Ok (a.0.0 ∷ ys.0, ys.1)) x a.2 in
      let one = takes end bytes a.0 fits a.1 in
      let more = items_take takes n end a.0.1 b.0 one.rest_fits b.1 in
      subst (λ (r : List A × List ℕ). TookBy (SpellsItems Spells) bytes r × (length r.0 ≡ suc n)) (ok_is (a.0.0 ∷ b.0.0, b.0.1) x b.2) (
        record {
          front = one.front ++ more.0.front;
          spelled = (one.front, more.0.front, refl {a = one.front ++ more.0.front}, one.spelled, more.0.spelled);
          parts = joined one.front more.0.front b.0.1 a.0.1 bytes one.parts more.0.parts;
          rest_fits = more.0.rest_fits;
        },
        ap suc more.1,
      )

  pub vector_takes : ((end : ℕ) (bytes : List ℕ) (x : A × List ℕ) → IsBytes bytes → read end bytes ≡ Ok x → TookBy Spells bytes x)
      → (end : ℕ) (bytes : List ℕ) (x : List A × List ℕ) → IsBytes bytes → vector_at read end bytes ≡ Ok x → TookBy (SpellsVector Spells) bytes x
  unfolding vector_at
  vector_takes takes end bytes x fits e =
      let a = bind_ok (u32_at end bytes) (λ n. items_at read n.0 end n.1) x e in
      let one = u32_takes end bytes a.0 fits a.1 in
      let more = items_take takes a.0.0 end a.0.1 x one.rest_fits a.2 in
      record {
        front = one.front ++ more.0.front;
        spelled = record {
          count = one.front;
          items = more.0.front;
          parts = refl;
          counts =
              subst (SpellsU 32 one.front) (sym more.1) one.spelled;
          spelled = more.0.spelled;
        };
        parts = joined one.front more.0.front x.1 a.0.1 bytes one.parts more.0.parts;
        rest_fits = more.0.rest_fits;
      }

  pub items_again : ((end : ℕ) (b : List ℕ) (y : A) (rest : List ℕ) → Spells b y → read end (b ++ rest) ≡ Ok (y, rest))
      → (xs : List A) (end : ℕ) (front rest : List ℕ) → SpellsItems Spells front xs → items_at read (length xs) end (front ++ rest) ≡ Ok (xs, rest)
  items_again again [] end front rest s = rw s refl
  items_again again (x ∷ xs) end front rest s =
      ap (items_at read (suc (length xs)) end) (regrouped s.0 s.1 rest front s.2)
      ∙ rw (again end s.0 x (s.1 ++ rest) s.3, items_again again xs end s.1 rest s.4) refl

  pub vector_again : ((end : ℕ) (b : List ℕ) (y : A) (rest : List ℕ) → Spells b y → read end (b ++ rest) ≡ Ok (y, rest))
      → (xs : List A) (end : ℕ) (front rest : List ℕ) → SpellsVector Spells front xs → vector_at read end (front ++ rest) ≡ Ok (xs, rest)
  unfolding vector_at
  vector_again again xs end front rest s =
      ap (vector_at read end) (regrouped s.count s.items rest front s.parts)
      ∙ rw (u32_at-again end s.count (length xs) (s.items ++ rest) s.counts, items_again again xs end s.items rest s.spelled) refl

-- ---- value types

valtype_of-byte : (x : ℕ) (t : ValType) → valtype_of x ≡ Some t → x ≡ valtype_byte t
valtype_of-byte x t e =
    let made = λ (k : ValType) (b : ℕ) (is : valtype_byte k ≡ b) (h : x ≡ b) (q : Some k ≡ Some t). h ∙ sym is ∙ ap valtype_byte (some_is k t q) in
    elim (chosen (eqb x 0x7F) _ _ (Some t) e) [
      | inl p ↦ made I32 0x7F refl (eqb-true _ _ p.0) p.1
      | inr p ↦ elim (chosen (eqb x 0x7E) _ _ (Some t) p.1) [
        | inl q ↦ made I64 0x7E refl (eqb-true _ _ q.0) q.1
        | inr q ↦ elim (chosen (eqb x 0x7D) _ _ (Some t) q.1) [
          | inl r ↦ made F32 0x7D refl (eqb-true _ _ r.0) r.1
          | inr r ↦ elim (chosen (eqb x 0x7C) _ _ (Some t) r.1) [
            | inl s ↦ made F64 0x7C refl (eqb-true _ _ s.0) s.1
            | inr s ↦ absurd cc
          ]
        ]
      ]
    ]

pub valtype_takes : (end : ℕ) (bytes : List ℕ) (x : ValType × List ℕ) → IsBytes bytes → valtype_at end bytes ≡ Ok x → TookBy SpellsValType bytes x
unfolding valtype_at
valtype_takes end bytes x fits e =
    let a = bind_ok (byte_at end bytes) (λ y. or_fail (valtype_of y.0) (fault BadByte end bytes) >>= λ t. Ok (t, y.1)) x e in
    let b = bind_ok (or_fail (valtype_of a.0.0) (fault BadByte end bytes)) (λ t. Ok (t, a.0.1)) x a.2 in
    let is = valtype_of-byte a.0.0 b.0 (or_fail_ok (valtype_of a.0.0) (fault BadByte end bytes) b.0 b.1) in
    subst (TookBy SpellsValType bytes) (ok_is (b.0, a.0.1) x b.2)
    (took (λ v b. SpellsValType b v) bytes (b.0, a.0.1) (valtype_byte b.0 ∷ []) fits refl
    (byte_at-takes end bytes a.0.0 a.0.1 a.1 ∙ ap (λ (c : ℕ). c ∷ a.0.1) is))

pub valtype_again : (end : ℕ) (front : List ℕ) (t : ValType) (rest : List ℕ) → SpellsValType front t → valtype_at end (front ++ rest) ≡ Ok (t, rest)
unfolding valtype_at byte_at
valtype_again end front I32 rest s = rw s refl
valtype_again end front I64 rest s = rw s refl
valtype_again end front F32 rest s = rw s refl
valtype_again end front F64 rest s = rw s refl

-- ---- block types

index_of-ok : (z : ℤ) (e : ReadFault) (x : ℕ) → index_of z e ≡ Ok x → z ≡ pos x
index_of-ok (pos n) e x h = ap pos (ok_is n x h)
index_of-ok (negsuc n) e x h = absurd cc

index_takes : (profile : Profile) (end : ℕ) (bytes : List ℕ) (x : BlockType × List ℕ) → IsBytes bytes → index_at profile end bytes ≡ Ok x
    → Took (SpellsType profile) bytes x
unfolding index_at
index_takes Core end bytes x fits e = absurd cc
index_takes Extended end bytes x fits e =
    let a = bind_ok (signed_at 33 end bytes) (λ z. index_of z.0 (fault BadByte end bytes) >>= λ n. Ok (types.Index n, z.1)) x e in
    let b = bind_ok (index_of a.0.0 (fault BadByte end bytes)) (λ n. Ok (types.Index n, a.0.1)) x a.2 in
    let f = signed_at-found 33 end bytes a.0.0 a.0.1 fits a.1 in
    let is = index_of-ok a.0.0 (fault BadByte end bytes) b.0 b.1 in
    subst (Took (SpellsType Extended) bytes) (ok_is (types.Index b.0, a.0.1) x b.2)
    (took (SpellsType Extended) bytes (types.Index b.0, a.0.1) f.0 fits (refl, subst (SpellsS 33 f.0) is f.1) f.2)

or_value-ok : (o : Option ValType) (rest : List ℕ) (otherwise : Result (BlockType × List ℕ) ReadFault) (x : BlockType × List ℕ)
    → or_value o rest otherwise ≡ Ok x → ((t : ValType) × (o ≡ Some t) × ((Value t, rest) ≡ x)) ⊎ (otherwise ≡ Ok x)
or_value-ok (Some t) rest otherwise x e = inl (t, refl, ok_is (Value t, rest) x e)
or_value-ok None rest otherwise x e = inr e

pub type_takes : (profile : Profile) (end : ℕ) (bytes : List ℕ) (x : BlockType × List ℕ) → IsBytes bytes → type_at profile end bytes ≡ Ok x
    → Took (SpellsType profile) bytes x
unfolding type_at
type_takes profile end bytes x fits e =
    let a = bind_ok (byte_at end bytes) (λ y. cond (eqb y.0 0x40) (Ok (Empty, y.1)) (or_value (valtype_of y.0) y.1 (index_at profile end bytes))) x e in
    let parts = byte_at-takes end bytes a.0.0 a.0.1 a.1 in
    elim (chosen (eqb a.0.0 0x40) (Ok (Empty, a.0.1)) (or_value (valtype_of a.0.0) a.0.1 (index_at profile end bytes)) (Ok x) a.2) [
      | inl p ↦
          subst (Took (SpellsType profile) bytes) (ok_is (Empty, a.0.1) x p.1)
          (took (SpellsType profile) bytes (Empty, a.0.1) (0x40 ∷ []) fits refl (parts ∙ ap (λ (c : ℕ). c ∷ a.0.1) (eqb-true _ _ p.0)))
      | inr p ↦ elim (or_value-ok (valtype_of a.0.0) a.0.1 (index_at profile end bytes) x p.1) [
        | inl q ↦
            subst (Took (SpellsType profile) bytes) q.2
            (took (SpellsType profile) bytes (Value q.0, a.0.1) (valtype_byte q.0 ∷ []) fits refl
            (parts ∙ ap (λ (c : ℕ). c ∷ a.0.1) (valtype_of-byte a.0.0 q.0 q.1)))
        | inr q ↦ index_takes profile end bytes x fits q
      ]
    ]

-- the first byte of a number that is not negative is no byte of another block type
first_of_index : (front : List ℕ) (x : ℕ) → SpellsS 33 front (pos x) → (b : ℕ) × (later : List ℕ) × (front ≡ b ∷ later) × ((b < 64) ⊎ (128 ≤ b))
first_of_index [] x s = absurd s
first_of_index (b ∷ []) x (inl s) = (b, [], refl, inl s.0)
first_of_index (b ∷ []) x (inr s) =
    let negative : pos x ≡ negsuc (127 - b) = s.3 ∙ last_value b s.1 in
    absurd cc
first_of_index (b ∷ c ∷ front) x s = (b, c ∷ front, refl, inr s.0)

no_valtype : (b : ℕ) → (b < 64) ⊎ (128 ≤ b) → (eqb b 0x40 ≡ false) × (valtype_of b ≡ None)
no_valtype b (inl low) = (
  ne_eqb b 0x40 (λ h. omega arith),
  rw (ne_eqb b 0x7F (λ h. omega arith), ne_eqb b 0x7E (λ h. omega arith), ne_eqb b 0x7D (λ h. omega arith), ne_eqb b 0x7C (λ h. omega arith)) refl,
)
no_valtype b (inr high) = (
  ne_eqb b 0x40 (λ h. omega arith),
  rw (ne_eqb b 0x7F (λ h. omega arith), ne_eqb b 0x7E (λ h. omega arith), ne_eqb b 0x7D (λ h. omega arith), ne_eqb b 0x7C (λ h. omega arith)) refl,
)

index_first : (end b : ℕ) (later : List ℕ) → (b < 64) ⊎ (128 ≤ b) → type_at Extended end (b ∷ later) ≡ index_at Extended end (b ∷ later)
unfolding type_at byte_at
index_first end b later h =
    let none = no_valtype b h in
    rw (none.0, none.1) refl

index_again : (end x : ℕ) (front rest : List ℕ) → SpellsS 33 front (pos x) → index_at Extended end (front ++ rest) ≡ Ok (types.Index x, rest)
unfolding index_at
index_again end x front rest s = rw (signed_at-again 33 end front (pos x) rest s) refl

pub type_again : (profile : Profile) (end : ℕ) (t : BlockType) (front rest : List ℕ) → SpellsType profile t front
    → type_at profile end (front ++ rest) ≡ Ok (t, rest)
unfolding type_at byte_at
type_again profile end Empty front rest s = rw s refl
type_again profile end (Value I32) front rest s = rw s refl
type_again profile end (Value I64) front rest s = rw s refl
type_again profile end (Value F32) front rest s = rw s refl
type_again profile end (Value F64) front rest s = rw s refl
type_again profile end (types.Index x) front rest s =
    let f = first_of_index front x s.1 in
    ap (λ (q : Profile). type_at q end (front ++ rest)) s.0
    ∙ ap (λ (c : List ℕ). type_at Extended end (c ++ rest)) f.2
    ∙ index_first end f.0 (f.1 ++ rest) f.3
    ∙ ap (λ (c : List ℕ). index_at Extended end (c ++ rest)) (sym f.2)
    ∙ index_again end x front rest s.1

-- ---- groups of locals

-- so many groups from the front, behind groups that declare so many locals
abbrev pub TookGroups : ℕ → ℕ → List ℕ → List LocalGroup × List ℕ → Type 0
TookGroups n sum bytes x = (front : List ℕ) × SpellsItems SpellsGroup front x.0 × (bytes ≡ front ++ x.1) × IsBytes x.1 × (length x.0 ≡ n)
    × (sum < 2 ^ 32 → sum + local_count x.0 < 2 ^ 32)

one_more : (n sum count : ℕ) (ty : ValType) (a b bytes behind middle : List ℕ) (x y : List LocalGroup × List ℕ) → SpellsU 32 a count
    → bytes ≡ a ++ behind → SpellsValType b ty → behind ≡ b ++ middle → sum + count < 2 ^ 32
    → TookGroups n (sum + count) middle x → (record { count = count; ty = ty } ∷ x.0, x.1) ≡ y → TookGroups (suc n) sum bytes y
one_more n sum count ty a b bytes behind middle x y counts first types second below more is =
    subst (TookGroups (suc n) sum bytes) is (
      (a ++ b) ++ more.0,
      (a ++ b, more.0, refl, record { count = a; parts = ap (λ (c : List ℕ). a ++ c) types; counts = counts }, more.1),
      joined (a ++ b) more.0 x.1 middle bytes (joined a b middle behind bytes first second) more.2,
      more.3,
      ap suc more.4,
      λ h. omega (arith, more.5 below),
    )

pub groups_take : (n sum end : ℕ) (bytes : List ℕ) (x : List LocalGroup × List ℕ) → IsBytes bytes → groups_at n sum end bytes ≡ Ok x → TookGroups n sum bytes x
unfolding groups_at
groups_take zero sum end bytes x fits e = subst (TookGroups 0 sum bytes) (ok_is ([], bytes) x e) ([], refl, refl, fits, refl, λ h. omega arith)
groups_take (suc n) sum end bytes x fits e =
    let a = bind_ok (u32_at end bytes)
    (λ count. cond (ltb (sum + count.0) (2 ^ 32))
    (valtype_at end count.1 >>= λ ty. groups_at n (sum + count.0) end ty.1 >>= λ gs. Ok (record { count = count.0; ty = ty.0 } ∷ gs.0, gs.1))
    (Err (fault TooManyLocals end bytes))) x e in
    elim (chosen (ltb (sum + a.0.0) (2 ^ 32))
    (valtype_at end a.0.1 >>= λ ty. groups_at n (sum + a.0.0) end ty.1 >>= λ gs. Ok (record { count = a.0.0; ty = ty.0 } ∷ gs.0, gs.1))
    (Err (fault TooManyLocals end bytes)) (Ok x) a.2) [
      | inl p ↦
          let b = bind_ok (valtype_at end a.0.1)
          (λ ty. groups_at n (sum + a.0.0) end ty.1 >>= λ gs. Ok (record { count = a.0.0; ty = ty.0 } ∷ gs.0, gs.1)) x p.1 in
          let c = bind_ok (groups_at n (sum + a.0.0) end b.0.1) (λ gs. Ok (record { count = a.0.0; ty = b.0.0 } ∷ gs.0, gs.1)) x b.2 in
          let counts = u32_takes end bytes a.0 fits a.1 in
          let ty = valtype_takes end a.0.1 b.0 counts.rest_fits b.1 in
          let more = groups_take n (sum + a.0.0) end b.0.1 c.0 ty.rest_fits c.1 in
          one_more n sum a.0.0 b.0.0 counts.front ty.front bytes a.0.1 b.0.1 c.0 x counts.spelled counts.parts ty.spelled ty.parts
          (ltb-true _ _ p.0) more (ok_is (record { count = a.0.0; ty = b.0.0 } ∷ c.0.0, c.0.1) x c.2)
      | inr p ↦ absurd cc
    ]

pub groups_again : (gs : List LocalGroup) (sum end : ℕ) (front rest : List ℕ) → SpellsItems SpellsGroup front gs → sum + local_count gs < 2 ^ 32
    → groups_at (length gs) sum end (front ++ rest) ≡ Ok (gs, rest)
unfolding groups_at
groups_again [] sum end front rest s few = rw s refl
groups_again (g ∷ gs) sum end front rest s few =
    let group : SpellsGroup s.0 g = s.3 in
    let behind : front ++ rest ≡ group.count ++ (valtype_byte g.ty ∷ (s.1 ++ rest)) =
    regrouped s.0 s.1 rest front s.2 ∙ regrouped group.count (valtype_byte g.ty ∷ []) (s.1 ++ rest) s.0 group.parts in
    ap (groups_at (suc (length gs)) sum end) behind
    ∙ rw (
      u32_at-again end group.count g.count (valtype_byte g.ty ∷ (s.1 ++ rest)) group.counts,
      lt-ltb (sum + g.count) (2 ^ 32) (omega (arith, few)),
      valtype_again end (valtype_byte g.ty ∷ []) g.ty (s.1 ++ rest) refl,
      groups_again gs (sum + g.count) end s.1 rest s.4 (omega (arith, few)),
    ) refl

-- ---- instructions that hold no others

-- the instruction has that opcode, and its immediates are spelled so
abbrev IsBehind : ℕ → Plain → List ℕ → Type 0
IsBehind x p a = (plain_opcode p ≡ x) × SpellsImmediates (immediates p) a

is_behind : (x : ℕ) (p : Plain) (i : Immediates) (a : List ℕ) → (plain_opcode p ≡ x) × (immediates p ≡ i) → SpellsImmediates i a → IsBehind x p a
is_behind x p i a m s = (m.0, subst (λ (j : Immediates). SpellsImmediates j a) (sym m.1) s)

labels_take : (end : ℕ) (bytes : List ℕ) (x : (List ℕ × ℕ) × List ℕ) → IsBytes bytes → labels_at end bytes ≡ Ok x
    → Took (λ v a. SpellsImmediates (Labels v.0 v.1) a) bytes x
unfolding labels_at
labels_take end bytes x fits e =
    let ls = bind_ok (vector_at u32_at end bytes) (λ ls. u32_at end ls.1 >>= λ other. Ok ((ls.0, other.0), other.1)) x e in
    let o = bind_ok (u32_at end ls.0.1) (λ other. Ok ((ls.0.0, other.0), other.1)) x ls.2 in
    let one = vector_takes (SpellsU 32) u32_at u32_takes end bytes ls.0 fits ls.1 in
    let two = u32_takes end ls.0.1 o.0 one.rest_fits o.1 in
    let all : List ℕ = one.front ++ two.front in
    let Labelled = λ (v : List ℕ × ℕ) (a : List ℕ). SpellsImmediates (Labels v.0 v.1) a in
    subst (Took Labelled bytes) (ok_is ((ls.0.0, o.0.0), o.0.1) x o.2)
    (took Labelled bytes ((ls.0.0, o.0.0), o.0.1) all fits (one.front, two.front, one.spelled, two.spelled, refl {a = all})
    (joined one.front two.front o.0.1 ls.0.1 bytes one.parts two.parts))

behind_takes : (f : Form) (x end : ℕ) (rest : List ℕ) (y : Plain × List ℕ) → Makes x f → IsBytes rest → behind_form f end rest ≡ Ok y → Took (IsBehind x) rest y
unfolding behind_form
behind_takes (Alone p) x end rest y m fits e =
    subst (Took (IsBehind x) rest) (ok_is (p, rest) y e) (took (IsBehind x) rest (p, rest) [] fits (is_behind x p _ [] m refl) refl)
behind_takes (WithReserved p) x end rest y m fits e =
    let z = bind_ok (reserved_at end rest) (λ z. Ok (p, z.1)) y e in
    subst (Took (IsBehind x) rest) (ok_is (p, z.0.1) y z.2)
    (took (IsBehind x) rest (p, z.0.1) (0 ∷ []) fits (is_behind x p _ (0 ∷ []) m refl) (reserved_at-takes end rest z.0 z.1))
behind_takes (WithIndex make) x end rest y m fits e =
    let n = bind_ok (u32_at end rest) (λ n. Ok (make n.0, n.1)) y e in
    let one = u32_takes end rest n.0 fits n.1 in
    subst (Took (IsBehind x) rest) (ok_is (make n.0.0, n.0.1) y n.2)
    (took (IsBehind x) rest (make n.0.0, n.0.1) one.front fits (is_behind x (make n.0.0) _ one.front (m n.0.0) one.spelled) one.parts)
behind_takes (WithIndexReserved make) x end rest y m fits e =
    let n = bind_ok (u32_at end rest) (λ n. reserved_at end n.1 >>= λ z. Ok (make n.0, z.1)) y e in
    let z = bind_ok (reserved_at end n.0.1) (λ z. Ok (make n.0.0, z.1)) y n.2 in
    let one = u32_takes end rest n.0 fits n.1 in
    let all : List ℕ = one.front ++ 0 ∷ [] in
    subst (Took (IsBehind x) rest) (ok_is (make n.0.0, z.0.1) y z.2)
    (took (IsBehind x) rest (make n.0.0, z.0.1) all fits (is_behind x (make n.0.0) _ all (m n.0.0) (one.front, one.spelled, refl {a = all}))
    (joined one.front (0 ∷ []) z.0.1 n.0.1 rest one.parts (reserved_at-takes end n.0.1 z.0 z.1)))
behind_takes (WithLabels make) x end rest y m fits e =
    let ls = bind_ok (labels_at end rest) (λ ls. Ok (make ls.0.0 ls.0.1, ls.1)) y e in
    let one = labels_take end rest ls.0 fits ls.1 in
    subst (Took (IsBehind x) rest) (ok_is (make ls.0.0.0 ls.0.0.1, ls.0.1) y ls.2)
    (took (IsBehind x) rest (make ls.0.0.0 ls.0.0.1, ls.0.1) one.front fits
    (is_behind x (make ls.0.0.0 ls.0.0.1) _ one.front (m ls.0.0.0 ls.0.0.1) one.spelled) one.parts)
behind_takes (WithMemarg make) x end rest y m fits e =
    let n = bind_ok (u32_at end rest) (λ n. u32_at end n.1 >>= λ o. Ok (make n.0 o.0, o.1)) y e in
    let o = bind_ok (u32_at end n.0.1) (λ o. Ok (make n.0.0 o.0, o.1)) y n.2 in
    let one = u32_takes end rest n.0 fits n.1 in
    let two = u32_takes end n.0.1 o.0 one.rest_fits o.1 in
    let all : List ℕ = one.front ++ two.front in
    subst (Took (IsBehind x) rest) (ok_is (make n.0.0 o.0.0, o.0.1) y o.2)
    (took (IsBehind x) rest (make n.0.0 o.0.0, o.0.1) all fits
    (is_behind x (make n.0.0 o.0.0) _ all (m n.0.0 o.0.0) (one.front, two.front, one.spelled, two.spelled, refl {a = all}))
    (joined one.front two.front o.0.1 n.0.1 rest one.parts two.parts))
behind_takes (WithSigned bits make) x end rest y m fits e =
    let z = bind_ok (signed_at bits end rest) (λ z. Ok (make z.0, z.1)) y e in
    let f = signed_at-found bits end rest z.0.0 z.0.1 fits z.1 in
    subst (Took (IsBehind x) rest) (ok_is (make z.0.0, z.0.1) y z.2)
    (took (IsBehind x) rest (make z.0.0, z.0.1) f.0 fits (is_behind x (make z.0.0) _ f.0 (m z.0.0) f.1) f.2)
behind_takes (WithWord size make) x end rest y m fits e =
    let w = bind_ok (word_at size end rest) (λ w. Ok (make w.0, w.1)) y e in
    let f = word_at-found size end rest w.0.0 w.0.1 w.1 in
    subst (Took (IsBehind x) rest) (ok_is (make w.0.0, w.0.1) y w.2)
    (took (IsBehind x) rest (make w.0.0, w.0.1) f.0 fits (is_behind x (make w.0.0) _ f.0 (m w.0.0) f.1) f.2)

pub plain_takes : (profile : Profile) (e : ReadFault) (opcode end : ℕ) (rest : List ℕ) (x : Plain × List ℕ) → IsBytes rest
    → plain_at profile e opcode end rest ≡ Ok x → Took (SpellsPlain profile) (opcode ∷ rest) x
unfolding plain_at
plain_takes profile e opcode end rest x fits h =
    let f = bind_ok (or_fail (form_of profile opcode) e) (λ f. behind_form f end rest) x h in
    let m = form_of-makes profile opcode f.0 (or_fail_ok (form_of profile opcode) e f.0 f.1) in
    let t = behind_takes f.0 opcode end rest x m.0 fits f.2 in
    record {
      front = opcode ∷ t.front;
      spelled = (t.front, subst (λ (c : ℕ). c ≤ last_opcode profile) (sym t.spelled.0) m.1, t.spelled.1, ap (λ (c : ℕ). c ∷ t.front) (sym t.spelled.0));
      parts = ap (λ (b : List ℕ). opcode ∷ b) t.parts;
      rest_fits = t.rest_fits;
    }

-- ---- the other way

index_behind : (make : ℕ → Plain) (n end : ℕ) (a rest : List ℕ) → SpellsU 32 a n → behind_form (WithIndex make) end (a ++ rest) ≡ Ok (make n, rest)
unfolding behind_form
index_behind make n end a rest s = rw (u32_at-again end a n rest s) refl

reserved_behind : (p : Plain) (end : ℕ) (a rest : List ℕ) → a ≡ 0 ∷ [] → behind_form (WithReserved p) end (a ++ rest) ≡ Ok (p, rest)
unfolding behind_form
reserved_behind p end a rest s = rw (s, reserved_at-again end rest) refl

signed_behind : (bits : ℕ) (make : ℤ → Plain) (z : ℤ) (end : ℕ) (a rest : List ℕ) → SpellsS bits a z
    → behind_form (WithSigned bits make) end (a ++ rest) ≡ Ok (make z, rest)
unfolding behind_form
signed_behind bits make z end a rest s = rw (signed_at-again bits end a z rest s) refl

word_behind : (size : ℕ) (make : ℕ → Plain) (w end : ℕ) (a rest : List ℕ) → SpellsWord size a w
    → behind_form (WithWord size make) end (a ++ rest) ≡ Ok (make w, rest)
unfolding behind_form
word_behind size make w end a rest s = rw (word_at-again size end a w rest s) refl

alone_behind : (p : Plain) (end : ℕ) (a rest : List ℕ) → a ≡ [] → behind_form (Alone p) end (a ++ rest) ≡ Ok (p, rest)
unfolding behind_form
alone_behind p end a rest s = rw s refl

behind_again : (p : Plain) (end : ℕ) (a rest : List ℕ) → SpellsImmediates (immediates p) a → behind_form (form_for p) end (a ++ rest) ≡ Ok (p, rest)
unfolding behind_form labels_at
behind_again (Br label) end a rest s = index_behind Br label end a rest s
behind_again (BrIf label) end a rest s = index_behind BrIf label end a rest s
behind_again (BrTable labels other) end a rest s =
    ap (behind_form (WithLabels BrTable) end) (regrouped s.0 s.1 rest a s.4)
    ∙ rw (vector_again (SpellsU 32) u32_at u32_at-again labels end s.0 (s.1 ++ rest) s.2, u32_at-again end s.1 other rest s.3) refl
behind_again (Call x) end a rest s = index_behind Call x end a rest s
behind_again (CallIndirect x) end a rest s =
    ap (behind_form (WithIndexReserved CallIndirect) end) (regrouped s.0 (0 ∷ []) rest a s.2)
    ∙ rw (u32_at-again end s.0 x (0 ∷ rest) s.1, reserved_at-again end rest) refl
behind_again (LocalGet x) end a rest s = index_behind LocalGet x end a rest s
behind_again (LocalSet x) end a rest s = index_behind LocalSet x end a rest s
behind_again (LocalTee x) end a rest s = index_behind LocalTee x end a rest s
behind_again (GlobalGet x) end a rest s = index_behind GlobalGet x end a rest s
behind_again (GlobalSet x) end a rest s = index_behind GlobalSet x end a rest s
behind_again (Access op align offset) end a rest s =
    ap (behind_form (WithMemarg (Access op)) end) (regrouped s.0 s.1 rest a s.4)
    ∙ rw (u32_at-again end s.0 align (s.1 ++ rest) s.2, u32_at-again end s.1 offset rest s.3) refl
behind_again MemorySize end a rest s = reserved_behind MemorySize end a rest s
behind_again MemoryGrow end a rest s = reserved_behind MemoryGrow end a rest s
behind_again (I32Const z) end a rest s = signed_behind 32 I32Const z end a rest s
behind_again (I64Const z) end a rest s = signed_behind 64 I64Const z end a rest s
behind_again (F32Const word) end a rest s = word_behind 4 F32Const word end a rest s
behind_again (F64Const word) end a rest s = word_behind 8 F64Const word end a rest s
behind_again p end a rest s = alone_behind p end a rest s

-- The opcode at the front of a plain instruction, and what is behind it
pub record Headed (profile : Profile) (p : Plain) (front : List ℕ) : Type 0 where
  pub opcode : ℕ
  pub tail : List ℕ
  pub parts : front ≡ opcode ∷ tail
  pub no_end : opcode ≡ 0x0B → ⊥
  pub no_else : opcode ≡ 0x05 → ⊥
  pub no_open : 0x05 ≤ opcode ⊎ (opcode < 0x02)
  pub again : (e : ReadFault) (end : ℕ) (rest : List ℕ) → plain_at profile e opcode end (tail ++ rest) ≡ Ok (p, rest)

opens_none : (p : Plain) → 0x05 ≤ plain_opcode p ⊎ (plain_opcode p < 0x02)
opens_none p = elim (cases_lt (plain_opcode p) 0x02) [
  | inl low ↦ inr low
  | inr high ↦ elim (cases_lt (plain_opcode p) 0x05) [
    | inr above ↦ inl above
    | inl below ↦
        let not_block = no_opcode p 0x02 refl in
        let not_loop = no_opcode p 0x03 refl in
        let not_if = no_opcode p 0x04 refl in
        absurd (elim (cases_lt (plain_opcode p) 0x03) [
          | inl two ↦ not_block (omega arith)
          | inr more ↦ elim (cases_lt (plain_opcode p) 0x04) [
            | inl three ↦ not_loop (omega arith)
            | inr four ↦ not_if (omega arith)
          ]
        ])
  ]
]

pub plain_headed : (profile : Profile) (p : Plain) (front : List ℕ) → SpellsPlain profile p front → Headed profile p front
unfolding plain_at
plain_headed profile p front s = record {
  opcode = plain_opcode p;
  tail = s.0;
  parts = s.3;
  no_end = no_opcode p 0x0B refl;
  no_else = no_opcode p 0x05 refl;
  no_open = opens_none p;
  again = λ e end rest. rw (form_of-for profile p s.1) (behind_again p end s.0 rest s.2);
}
