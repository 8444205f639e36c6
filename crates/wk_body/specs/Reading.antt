-- Expressions and bodies as they are read, from left to right: what stands at the front and the bytes after it, or the first
-- fault. The bytes end at that offset.
use Rattle.std.specs.Prelude.{ℕ, zero, suc, ℤ, pos, negsuc, ◌+◌, ◌-◌, ◌^◌, List, [], ◌∷◌, length, Bool, true, false, Option, Some, None, Result, Ok, Err}
use Rattle.std.specs.Prelude.{nat_lt, nat_le, ◌==◌, if◌then◌else◌}
use Rattle.wk_bytes.specs.declared.fault.ReadKind.TheVariants.{UnexpectedEnd, BadByte, UnknownOpcode, TooManyLocals, BodySize, TooDeep}
use Rattle.wk_bytes.specs.declared.fault.ReadFault.{ReadFault}
use Rattle.wk_bytes.specs.Fault.{long_input}
use Rattle.wk_bytes.specs.Leb.{◌>>=◌, or_fail}
use Rattle.wk_bytes.specs.Span.{fault, byte_at, u32_at, signed_at, word_at}
use Rattle.wk_body.specs.declared.types.ValType.{ValType}
use Rattle.wk_body.specs.declared.types.Profile.{Profile}
use Rattle.wk_body.specs.declared.types.Profile.TheVariants.{Core, Extended}
use Rattle.wk_body.specs.declared.types.BlockType.{BlockType}
use Rattle.wk_body.specs.declared.types.BlockType.TheVariants.{Empty, Value, Index}
use Rattle.wk_body.specs.declared.types.BlockKind.TheVariants as kinds
use Rattle.wk_body.specs.declared.types.LocalGroup.{LocalGroup}
use Rattle.wk_body.specs.ValTypes.{valtype_of, valtype_at}
use Rattle.wk_body.specs.Vectors.{vector_at}
use Rattle.wk_body.specs.Instructions.{Plain, Form, Alone, WithReserved, WithIndex, WithIndexReserved, WithLabels, WithMemarg, WithSigned, WithWord, form_of}
use Rattle.wk_body.specs.Tree.{Instrs, Tok, Simple, Open, OpenIf, Otherwise, Close, Part, before, first_part}
use Rattle.wk_body.specs.Shape.{depth_limit}
use Rattle.wk_body.specs.Bodies.{BodyOf}

-- ---- instructions that hold no others

-- a reserved byte, which is 00
unfoldable pub reserved_at : ℕ → List ℕ → Result (ℕ × List ℕ) ReadFault
reserved_at end bytes = do
  x ← byte_at end bytes
  if x.0 == 0 then Ok x else Err (fault BadByte end bytes)

-- a vector of labels and one more
unfoldable pub labels_at : ℕ → List ℕ → Result ((List ℕ × ℕ) × List ℕ) ReadFault
labels_at end bytes = do
  labels ← vector_at u32_at end bytes
  other ← u32_at end labels.1
  Ok ((labels.0, other.0), other.1)

-- what stands behind an opcode of that form
unfoldable pub behind_form : Form → ℕ → List ℕ → Result (Plain × List ℕ) ReadFault
behind_form (Alone p) end rest = Ok (p, rest)
behind_form (WithReserved p) end rest = reserved_at end rest >>= λ z. Ok (p, z.1)
behind_form (WithIndex make) end rest = u32_at end rest >>= λ x. Ok (make x.0, x.1)
behind_form (WithIndexReserved make) end rest = do
  x ← u32_at end rest
  z ← reserved_at end x.1
  Ok (make x.0, z.1)
behind_form (WithLabels make) end rest = labels_at end rest >>= λ ls. Ok (make ls.0.0 ls.0.1, ls.1)
behind_form (WithMemarg make) end rest = do
  align ← u32_at end rest
  offset ← u32_at end align.1
  Ok (make align.0 offset.0, offset.1)
behind_form (WithSigned bits make) end rest = signed_at bits end rest >>= λ z. Ok (make z.0, z.1)
behind_form (WithWord size make) end rest = word_at size end rest >>= λ w. Ok (make w.0, w.1)

-- an instruction behind its opcode, where the fault of the opcode is e
unfoldable pub plain_at : Profile → ReadFault → ℕ → ℕ → List ℕ → Result (Plain × List ℕ) ReadFault
plain_at profile e opcode end rest = or_fail (form_of profile opcode) e >>= λ f. behind_form f end rest

-- what is read as the token that it is
abbrev pub tok_at : (ℕ → List ℕ → Result (Plain × List ℕ) ReadFault) → ℕ → List ℕ → Result (Tok × List ℕ) ReadFault
tok_at read end rest = read end rest >>= λ p. Ok (Simple p.0, p.1)

-- ---- block types

abbrev pub index_of : ℤ → ReadFault → Result ℕ ReadFault
index_of (pos x) e = Ok x
index_of (negsuc n) e = Err e

-- a type index
unfoldable pub index_at : Profile → ℕ → List ℕ → Result (BlockType × List ℕ) ReadFault
index_at Core end bytes = Err (fault BadByte end bytes)
index_at Extended end bytes = do
  z ← signed_at 33 end bytes
  x ← index_of z.0 (fault BadByte end bytes)
  Ok (Index x, z.1)

-- a block type that is a value type, or else is read otherwise
abbrev pub or_value : Option ValType → List ℕ → Result (BlockType × List ℕ) ReadFault → Result (BlockType × List ℕ) ReadFault
or_value (Some t) rest otherwise = Ok (Value t, rest)
or_value None rest otherwise = otherwise

unfoldable pub type_at : Profile → ℕ → List ℕ → Result (BlockType × List ℕ) ReadFault
type_at profile end bytes = do
  x ← byte_at end bytes
  if x.0 == 0x40 then Ok (Empty, x.1) else or_value (valtype_of x.0) x.1 (index_at profile end bytes)

-- ---- one token

-- Of each open block, the innermost first, whether an else may still come
abbrev pub may_else : List Bool → Bool
may_else [] = false
may_else (k ∷ ks) = k

abbrev pub else_seen : List Bool → List Bool
else_seen [] = []
else_seen (k ∷ ks) = false ∷ ks

-- a block type, where one more block may open, or else the fault e
unfoldable pub type_here : Profile → List Bool → ReadFault → ℕ → List ℕ → Result (BlockType × List ℕ) ReadFault
type_here profile ks e end rest = if nat_lt (length ks) depth_limit then type_at profile end rest else Err e

-- a token that opens a block, behind its opcode, which stands at `at`
abbrev pub opening_at : (BlockType → Tok) → Profile → List Bool → ℕ → ℕ → List ℕ → Result (Tok × List ℕ) ReadFault
opening_at make profile ks at end rest = type_here profile ks (record { kind = TooDeep; at = at }) end rest >>= λ ty. Ok (make ty.0, ty.1)

-- a token behind its opcode, which stands at `at`, where these blocks are open
unfoldable pub behind_at : Profile → List Bool → ℕ → ℕ → ℕ → List ℕ → Result (Tok × List ℕ) ReadFault
behind_at profile ks at opcode end rest =
    if opcode == 0x0B then Ok (Close, rest)
    else if opcode == 0x05 then (if may_else ks then Ok (Otherwise 0, rest) else Err (record { kind = UnknownOpcode; at = at }))
    else if opcode == 0x02 then opening_at (λ ty. Open kinds.Block ty 0) profile ks at end rest
    else if opcode == 0x03 then opening_at (λ ty. Open kinds.Loop ty 0) profile ks at end rest
    else if opcode == 0x04 then opening_at (λ ty. OpenIf ty 0) profile ks at end rest
    else tok_at (plain_at profile (record { kind = UnknownOpcode; at = at }) opcode) end rest

abbrev pub token_at : Profile → List Bool → ℕ → List ℕ → Result (Tok × List ℕ) ReadFault
token_at profile ks end [] = Err (fault UnexpectedEnd end [])
token_at profile ks end (opcode ∷ rest) = behind_at profile ks (end - length (opcode ∷ rest)) opcode end rest

-- ---- expressions

-- the blocks open after a token; none at the end that closes no block
abbrev pub after : Tok → List Bool → Option (List Bool)
after (Simple p) ks = Some ks
after (Open kind ty skip) ks = Some (false ∷ ks)
after (OpenIf ty skip) ks = Some (true ∷ ks)
after (Otherwise skip) ks = Some (else_seen ks)
after Close [] = None
after Close (k ∷ ks) = Some ks

abbrev pub With : Type 0
With = List Part × List ℕ

abbrev pub in_front : Tok → Result With ReadFault → Result With ReadFault
in_front t read = read >>= λ x. Ok (before t x.0, x.1)

-- what a token and those behind it give
abbrev pub then_on : Tok → List ℕ → Option (List Bool) → (List Bool → Result With ReadFault) → Result With ReadFault
then_on t rest None more = Ok (before t [], rest)
then_on t rest (Some next) more = in_front t (more next)

-- At most n tokens: the parts of the open blocks, and the bytes after the end of the last.
unfoldable pub parts_at : Profile → ℕ → List Bool → ℕ → List ℕ → Result With ReadFault
parts_at profile zero ks end bytes = Err (fault UnexpectedEnd end [])
parts_at profile (suc n) ks end bytes = token_at profile ks end bytes >>= λ t. then_on t.0 t.1 (after t.0 ks) (λ next. parts_at profile n next end t.1)

-- the instructions at the front, up to their end
unfoldable pub expr_at : Profile → ℕ → List ℕ → Result (Instrs × List ℕ) ReadFault
expr_at profile end bytes = parts_at profile (suc (length bytes)) [] end bytes >>= λ x. Ok (first_part x.0, x.1)

-- ---- bodies

-- so many local groups, behind groups that declare so many locals
unfoldable pub groups_at : ℕ → ℕ → ℕ → List ℕ → Result (List LocalGroup × List ℕ) ReadFault
groups_at zero sum end bytes = Ok ([], bytes)
groups_at (suc n) sum end bytes =
    u32_at end bytes >>= λ count.
    if nat_lt (sum + count.0)
    (2 ^ 32) then (valtype_at end count.1 >>= λ ty. groups_at n (sum + count.0) end ty.1 >>= λ gs. Ok (record { count = count.0; ty = ty.0 } ∷ gs.0, gs.1))
    else Err (fault TooManyLocals end bytes)

unfoldable pub body_at : Profile → ℕ → List ℕ → Result (BodyOf × List ℕ) ReadFault
body_at profile end bytes = do
  n ← u32_at end bytes
  groups ← groups_at n.0 0 end n.1
  instrs ← expr_at profile end groups.1
  Ok (record { groups = groups.0; instrs = instrs.0 }, instrs.1)

-- ---- all of the bytes

abbrev pub taking_all : {A : Type 0} → ℕ → A × List ℕ → Result A ReadFault
taking_all end (x, []) = Ok x
taking_all end (x, y ∷ rest) = Err (fault BodySize end (y ∷ rest))

unfoldable pub all_expr_at : Profile → ℕ → List ℕ → Result Instrs ReadFault
all_expr_at profile end bytes = expr_at profile end bytes >>= taking_all end

unfoldable pub all_body_at : Profile → ℕ → List ℕ → Result BodyOf ReadFault
all_body_at profile end bytes = body_at profile end bytes >>= taking_all end

-- a whole input, which has no more bytes than a module may have
unfoldable pub whole_at : {A : Type 0} → (ℕ → List ℕ → Result A ReadFault) → List ℕ → Result A ReadFault
whole_at read bytes = if nat_le (length bytes) 2147483647 then read (length bytes) bytes else Err long_input
