-- Which kinds the faults of readers have: of integers, names and vectors, and of expressions and bodies.
use Rattle.std.proofs.Common.{◌≡◌, ℤ, ℕ, zero, suc, ◌+◌, ◌-◌, ◌^◌, Bool, true, false, cond, eqb, leb, ltb, List, [], ◌∷◌, length, take, drop, Option, Some, None}
use Rattle.std.proofs.Common.{Result, Ok, Err, refl, subst, pos, negsuc}
use Rattle.std.specs.Str.{is_utf8}
use Rattle.wk_bytes.specs.declared.fault.ReadKind.{ReadKind}
use Rattle.wk_bytes.specs.declared.fault.ReadKind.TheVariants.{UnexpectedEnd, IntTooLong, IntTooLarge, BadUtf8, BadByte, UnknownOpcode, TooManyLocals}
use Rattle.wk_bytes.specs.declared.fault.ReadKind.TheVariants.{BodySize, TooDeep}
use Rattle.wk_bytes.specs.declared.fault.ReadFault.{ReadFault}
use Rattle.wk_bytes.specs.Leb.{◌>>=◌, or_fail, IsIntKind, uint_at, sint_at}
use Rattle.wk_bytes.specs.LebLaws.{uint_wrong, sint_wrong}
use Rattle.wk_bytes.specs.Span.{fault, placed, byte_at, piece_at, u32_at, signed_at, word_at, name_at}
use Rattle.wk_body.specs.declared.types.Profile.{Profile}
use Rattle.wk_body.specs.declared.types.Profile.TheVariants.{Core, Extended}
use Rattle.wk_body.specs.declared.types.BlockType.{BlockType}
use Rattle.wk_body.specs.declared.types.ValType.{ValType}
use Rattle.wk_body.specs.ValTypes.{valtype_of, valtype_at}
use Rattle.wk_body.specs.Vectors.{items_at, vector_at}
use Rattle.wk_body.specs.Instructions.{Form, Alone, WithReserved, WithIndex, WithIndexReserved, WithLabels, WithMemarg, WithSigned, WithWord, form_of}
use Rattle.wk_body.specs.Tree.{Tok}
use Rattle.wk_body.specs.Shape.{depth_limit}
use Rattle.wk_body.specs.Reading.{reserved_at, labels_at, behind_form, plain_at, index_of, index_at, or_value, type_at, may_else, type_here, behind_at, token_at}
use Rattle.wk_body.specs.Reading.{after, With, then_on, parts_at, expr_at, groups_at, body_at, taking_all, all_body_at}

-- a fault of reading is of one of these kinds
abbrev pub FailsBy : {X : Type 0} → (ReadKind → Type 0) → Result X ReadFault → Type 0
FailsBy P (Ok x) = Unit {0}
FailsBy P (Err e) = P e.kind

-- so is each of a reader
abbrev pub HasKinds : {X : Type 0} → (ReadKind → Type 0) → (ℕ → List ℕ → Result X ReadFault) → Type 0
HasKinds P read = (end : ℕ) (bytes : List ℕ) → FailsBy P (read end bytes)

-- ---- steps

pub fails_then : {A B : Type 0} (P : ReadKind → Type 0) (r : Result A ReadFault) (f : A → Result B ReadFault) → FailsBy P r
    → ((x : A) → FailsBy P (f x)) → FailsBy P (r >>= f)
fails_then P (Ok x) f first second = second x
fails_then P (Err e) f first second = first

pub fails_cond : {A : Type 0} (P : ReadKind → Type 0) (b : Bool) (r s : Result A ReadFault) → FailsBy P r → FailsBy P s → FailsBy P (cond b r s)
fails_cond P true r s first second = first
fails_cond P false r s first second = second

pub fails_option : {A : Type 0} (P : ReadKind → Type 0) (o : Option A) (e : ReadFault) → P e.kind → FailsBy P (or_fail o e)
fails_option P (Some x) e kind = tt
fails_option P None e kind = kind

pub fails_as : {A : Type 0} (P : ReadKind → Type 0) (r : Result A ReadFault) (e : ReadFault) → FailsBy P r → r ≡ Err e → P e.kind
fails_as P r e fails is = subst (FailsBy P) is fails

-- ---- integers, bytes and names

-- the kinds of a fault of an integer, or at the end of the bytes
pub record IntKinds (P : ReadKind → Type 0) : Type 0 where
  pub ends : P UnexpectedEnd
  pub long : P IntTooLong
  pub large : P IntTooLarge

module _ (P : ReadKind → Type 0) (ints : IntKinds P) where
  pub byte_kinds : HasKinds P byte_at
  unfolding byte_at
  byte_kinds end [] = ints.ends
  byte_kinds end (x ∷ bytes) = tt

  pub piece_kinds : (n : ℕ) → HasKinds P (piece_at n)
  unfolding piece_at
  piece_kinds n end bytes = fails_cond P (leb n (length bytes)) (Ok (take n bytes, drop n bytes)) (Err (fault UnexpectedEnd end bytes)) tt ints.ends

  int_kind : {V : Type 0} (last : ℕ → ℕ → Option V) (N : ℕ) (bytes : List ℕ) (kind : ReadKind) → IsIntKind last N bytes kind → P kind
  int_kind last N bytes UnexpectedEnd is = ints.ends
  int_kind last N bytes IntTooLong is = ints.long
  int_kind last N bytes IntTooLarge is = ints.large
  int_kind last N bytes _ is = absurd is

  placed_kinds : {A : Type 0} (r : Result A ReadKind) (end : ℕ) (bytes : List ℕ) → ((kind : ReadKind) → r ≡ Err kind → P kind) → FailsBy P (placed r end bytes)
  placed_kinds (Ok x) end bytes kinds = tt
  placed_kinds (Err kind) end bytes kinds = kinds kind refl

  pub u32_kinds : HasKinds P u32_at
  unfolding u32_at
  u32_kinds end bytes = placed_kinds (uint_at 32 bytes) end bytes (λ kind is. int_kind _ 32 bytes kind (uint_wrong 32 bytes kind is))

  pub signed_kinds : (N : ℕ) → HasKinds P (signed_at N)
  unfolding signed_at
  signed_kinds N end bytes = placed_kinds (sint_at N bytes) end bytes (λ kind is. int_kind _ N bytes kind (sint_wrong N bytes kind is))

  pub word_kinds : (n : ℕ) → HasKinds P (word_at n)
  unfolding word_at
  word_kinds n end bytes = fails_then P (piece_at n end bytes) _ (piece_kinds n end bytes) (λ p. tt)

  pub name_kinds : P BadUtf8 → HasKinds P name_at
  unfolding name_at
  name_kinds utf8 end bytes =
      fails_then P (u32_at end bytes) _ (u32_kinds end bytes) (λ n.
      fails_then P (piece_at n.0 end n.1) _ (piece_kinds n.0 end n.1) (λ text.
      fails_cond P (is_utf8 text.0) (Ok text) (Err (fault BadUtf8 end n.1)) tt utf8))

  pub items_kinds : {A : Type 0} (read : ℕ → List ℕ → Result (A × List ℕ) ReadFault) → HasKinds P read → (n : ℕ) → HasKinds P (items_at read n)
  items_kinds read kinds zero end bytes = tt
  items_kinds read kinds (suc n) end bytes =
      fails_then P (read end bytes) _ (kinds end bytes) (λ x. fails_then P (items_at read n end x.1) _ (items_kinds read kinds n end x.1) (λ xs. tt))

  pub vector_kinds : {A : Type 0} (read : ℕ → List ℕ → Result (A × List ℕ) ReadFault) → HasKinds P read → HasKinds P (vector_at read)
  unfolding vector_at
  vector_kinds read kinds end bytes = fails_then P (u32_at end bytes) _ (u32_kinds end bytes) (λ n. items_kinds read kinds n.0 end n.1)

-- ---- the same and bytes that are none of those that may stand there

pub record ByteKinds (P : ReadKind → Type 0) : Type 0 where
  pub ints : IntKinds P
  pub byte : P BadByte

module _ (P : ReadKind → Type 0) (kinds : ByteKinds P) where
  pub valtype_kinds : HasKinds P valtype_at
  unfolding valtype_at
  valtype_kinds end bytes =
      fails_then P (byte_at end bytes) _ (byte_kinds P kinds.ints end bytes) (λ x.
      fails_then P (or_fail (valtype_of x.0) (fault BadByte end bytes)) _ (fails_option P (valtype_of x.0) (fault BadByte end bytes) kinds.byte) (λ t. tt))

  reserved_kinds : HasKinds P reserved_at
  unfolding reserved_at
  reserved_kinds end bytes =
      fails_then P (byte_at end bytes) _ (byte_kinds P kinds.ints end bytes) (λ x.
      fails_cond P (eqb x.0 0) (Ok x) (Err (fault BadByte end bytes)) tt kinds.byte)

  labels_kinds : HasKinds P labels_at
  unfolding labels_at
  labels_kinds end bytes =
      fails_then P (vector_at u32_at end bytes) _ (vector_kinds P kinds.ints u32_at (u32_kinds P kinds.ints) end bytes) (λ labels.
      fails_then P (u32_at end labels.1) _ (u32_kinds P kinds.ints end labels.1) (λ other. tt))

  form_kinds : (f : Form) → HasKinds P (behind_form f)
  unfolding behind_form
  form_kinds (Alone p) end rest = tt
  form_kinds (WithReserved p) end rest = fails_then P (reserved_at end rest) _ (reserved_kinds end rest) (λ z. tt)
  form_kinds (WithIndex make) end rest = fails_then P (u32_at end rest) _ (u32_kinds P kinds.ints end rest) (λ x. tt)
  form_kinds (WithIndexReserved make) end rest =
      fails_then P (u32_at end rest) _ (u32_kinds P kinds.ints end rest) (λ x. fails_then P (reserved_at end x.1) _ (reserved_kinds end x.1) (λ z. tt))
  form_kinds (WithLabels make) end rest = fails_then P (labels_at end rest) _ (labels_kinds end rest) (λ ls. tt)
  form_kinds (WithMemarg make) end rest =
      fails_then P (u32_at end rest) _ (u32_kinds P kinds.ints end rest) (λ align.
      fails_then P (u32_at end align.1) _ (u32_kinds P kinds.ints end align.1) (λ offset. tt))
  form_kinds (WithSigned bits make) end rest = fails_then P (signed_at bits end rest) _ (signed_kinds P kinds.ints bits end rest) (λ z. tt)
  form_kinds (WithWord size make) end rest = fails_then P (word_at size end rest) _ (word_kinds P kinds.ints size end rest) (λ w. tt)

  index_of_kinds : (z : ℤ) (e : ReadFault) → P e.kind → FailsBy P (index_of z e)
  index_of_kinds (pos x) e kind = tt
  index_of_kinds (negsuc n) e kind = kind

  index_kinds : (profile : Profile) → HasKinds P (index_at profile)
  unfolding index_at
  index_kinds Core end bytes = kinds.byte
  index_kinds Extended end bytes =
      fails_then P (signed_at 33 end bytes) _ (signed_kinds P kinds.ints 33 end bytes) (λ z.
      fails_then P (index_of z.0 (fault BadByte end bytes)) _ (index_of_kinds z.0 (fault BadByte end bytes) kinds.byte) (λ x. tt))

  or_value_kinds : (o : Option ValType) (rest : List ℕ) (otherwise : Result (BlockType × List ℕ) ReadFault) → FailsBy P otherwise
      → FailsBy P (or_value o rest otherwise)
  or_value_kinds (Some t) rest otherwise kinds = tt
  or_value_kinds None rest otherwise kinds = kinds

  type_kinds : (profile : Profile) → HasKinds P (type_at profile)
  unfolding type_at
  type_kinds profile end bytes =
      fails_then P (byte_at end bytes) _ (byte_kinds P kinds.ints end bytes) (λ x.
      fails_cond P (eqb x.0 0x40) _ (or_value (valtype_of x.0) x.1 (index_at profile end bytes)) tt
      (or_value_kinds (valtype_of x.0) x.1 (index_at profile end bytes) (index_kinds profile end bytes)))

-- ---- expressions

pub record ExprKinds (P : ReadKind → Type 0) : Type 0 where
  pub bytes : ByteKinds P
  pub opcode : P UnknownOpcode
  pub deep : P TooDeep

module _ (P : ReadKind → Type 0) (kinds : ExprKinds P) where
  plain_kinds : (profile : Profile) (e : ReadFault) (opcode : ℕ) → P e.kind → HasKinds P (plain_at profile e opcode)
  unfolding plain_at
  plain_kinds profile e opcode kind end rest =
      fails_then P (or_fail (form_of profile opcode) e) _ (fails_option P (form_of profile opcode) e kind) (λ f. form_kinds P kinds.bytes f end rest)

  here_kinds : (profile : Profile) (ks : List Bool) (e : ReadFault) → P e.kind → HasKinds P (type_here profile ks e)
  unfolding type_here
  here_kinds profile ks e kind end rest =
      fails_cond P (ltb (length ks) depth_limit) (type_at profile end rest) (Err e) (type_kinds P kinds.bytes profile end rest) kind

  behind_kinds : (profile : Profile) (ks : List Bool) (at opcode : ℕ) → HasKinds P (behind_at profile ks at opcode)
  unfolding behind_at
  behind_kinds profile ks at opcode end rest =
      let deep : ReadFault = record { kind = TooDeep; at = at } in
      let opens = λ (make : BlockType → Tok). fails_then P (type_here profile ks deep end rest) (λ ty. let t : Tok × List ℕ = (make ty.0, ty.1) in Ok t)
      (here_kinds profile ks deep kinds.deep end rest) (λ ty. tt) in
      fails_cond P (eqb opcode 0x0B) _ _ tt (
      fails_cond P (eqb opcode 0x05) _ _ (fails_cond P (may_else ks) _ _ tt kinds.opcode) (
      fails_cond P (eqb opcode 0x02) _ _ (opens _) (
      fails_cond P (eqb opcode 0x03) _ _ (opens _) (
      fails_cond P (eqb opcode 0x04) _ _ (opens _) (
      fails_then P (plain_at profile (record { kind = UnknownOpcode; at = at }) opcode end rest) _
      (plain_kinds profile (record { kind = UnknownOpcode; at = at }) opcode kinds.opcode end rest) (λ p. tt))))))

  token_kinds : (profile : Profile) (ks : List Bool) → HasKinds P (token_at profile ks)
  token_kinds profile ks end [] = kinds.bytes.ints.ends
  token_kinds profile ks end (opcode ∷ rest) = behind_kinds profile ks (end - length (opcode ∷ rest)) opcode end rest

  on_kinds : (t : Tok) (rest : List ℕ) (o : Option (List Bool)) (more : List Bool → Result With ReadFault) → ((ks : List Bool) → FailsBy P (more ks))
      → FailsBy P (then_on t rest o more)
  on_kinds t rest None more later = tt
  on_kinds t rest (Some next) more later = fails_then P (more next) _ (later next) (λ x. tt)

  parts_kinds : (profile : Profile) (n : ℕ) (ks : List Bool) → HasKinds P (parts_at profile n ks)
  unfolding parts_at
  parts_kinds profile zero ks end bytes = kinds.bytes.ints.ends
  parts_kinds profile (suc n) ks end bytes =
      fails_then P (token_at profile ks end bytes) _ (token_kinds profile ks end bytes) (λ t.
      on_kinds t.0 t.1 (after t.0 ks) (λ next. parts_at profile n next end t.1) (λ next. parts_kinds profile n next end t.1))

  pub expr_kinds : (profile : Profile) → HasKinds P (expr_at profile)
  unfolding expr_at
  expr_kinds profile end bytes =
      fails_then P (parts_at profile (suc (length bytes)) [] end bytes) _ (parts_kinds profile (suc (length bytes)) [] end bytes) (λ x. tt)

-- ---- bodies

pub record BodyKinds (P : ReadKind → Type 0) : Type 0 where
  pub exprs : ExprKinds P
  pub locals : P TooManyLocals
  pub size : P BodySize

module _ (P : ReadKind → Type 0) (kinds : BodyKinds P) where
  groups_kinds : (n sum : ℕ) → HasKinds P (groups_at n sum)
  unfolding groups_at
  groups_kinds zero sum end bytes = tt
  groups_kinds (suc n) sum end bytes =
      fails_then P (u32_at end bytes) _ (u32_kinds P kinds.exprs.bytes.ints end bytes) (λ count.
      fails_cond P (ltb (sum + count.0) (2 ^ 32)) _ _ (
      fails_then P (valtype_at end count.1) _ (valtype_kinds P kinds.exprs.bytes end count.1) (λ ty.
      fails_then P (groups_at n (sum + count.0) end ty.1) _ (groups_kinds n (sum + count.0) end ty.1) (λ gs. tt)))
      kinds.locals)

  body_kinds : (profile : Profile) → HasKinds P (body_at profile)
  unfolding body_at
  body_kinds profile end bytes =
      fails_then P (u32_at end bytes) _ (u32_kinds P kinds.exprs.bytes.ints end bytes) (λ n.
      fails_then P (groups_at n.0 0 end n.1) _ (groups_kinds n.0 0 end n.1) (λ groups.
      fails_then P (expr_at profile end groups.1) _ (expr_kinds P kinds.exprs profile end groups.1) (λ instrs. tt)))

  all_kinds : {A : Type 0} (end : ℕ) (x : A) (rest : List ℕ) → FailsBy P (taking_all end (x, rest))
  all_kinds end x [] = tt
  all_kinds end x (y ∷ rest) = kinds.size

  pub all_body_kinds : (profile : Profile) → HasKinds P (all_body_at profile)
  unfolding all_body_at
  all_body_kinds profile end bytes =
      fails_then P (body_at profile end bytes) _ (body_kinds profile end bytes) (λ x. all_kinds end x.0 x.1)
