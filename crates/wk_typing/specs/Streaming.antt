-- What is said of bodies that are typed while they are read.
use Rattle.std.specs.Prelude.{◌≡◌, ℕ, ◌<◌, ◌≤◌, Bool, Option, Some, None, false, true, List, [], ◌∷◌, length, Result, Ok, Err, ◌==◌, if◌then◌else◌}
use Rattle.wk_bytes.specs.declared.fault.ReadFault.{ReadFault}
use Rattle.wk_bytes.specs.Span.{Span}
use Rattle.wk_body.specs.declared.types.Profile.{Profile}
use Rattle.wk_body.specs.declared.types.ValType.{ValType}
use Rattle.wk_body.specs.declared.types.BlockType.{BlockType}
use Rattle.wk_body.specs.declared.types.BlockType.TheVariants.{Index}
use Rattle.wk_body.specs.declared.references.Ref.{Ref}
use Rattle.wk_body.specs.declared.token.Token.{Token}
use Rattle.wk_body.specs.Bodies.{BodyOf}
use Rattle.wk_body.specs.declared.numeric.NumericOp.{NumericOp}
use Rattle.wk_body.specs.Numeric.{numeric_of}
use Rattle.wk_body.specs.Instructions.{Plain, BrTable, Numeric}
use Rattle.wk_body.specs.Kept.{told}
use Rattle.wk_body.specs.Reading.{plain_at, type_at, may_else, after, expr_at, all_body_at}
use Rattle.wk_body.specs.Shape.{depth_limit}
use Rattle.wk_body.specs.TokenReading.{TokenReading, NextToken, NextRead}
use Rattle.wk_body.specs.Tree.{Instrs, Tok, Simple, Otherwise, Close}
use Rattle.wk_typing.specs.declared.fault.BodyVerdict.TheVariants.{Valid}
use Rattle.wk_typing.specs.declared.fault.FaultKind.{FaultKind}
use Rattle.wk_typing.specs.declared.stacks.FrameKind.{FrameKind}
use Rattle.wk_typing.specs.declared.step.Function.{Function}
use Rattle.wk_typing.specs.declared.stop.Stop.{Stop}
use Rattle.wk_typing.specs.declared.streaming.Stream.{Stream}
use Rattle.wk_typing.specs.declared.streaming.TokenOutcome.{TokenOutcome}
use Rattle.wk_typing.specs.declared.streaming.TokenOutcome.TheVariants as outcomes
use Rattle.wk_typing.specs.Answers.{Found}
use Rattle.wk_typing.specs.Effects.{local_type}
use Rattle.wk_typing.specs.Levels.{Blocks, enter_block, end_then, end_block, step}
use Rattle.wk_typing.specs.Moves.{Steps}
use Rattle.wk_typing.specs.Typing.{code_result, body_verdict}

-- the instructions from one place to another are typed without a fault
pub record IsTyped (A : Ref → Found) (locals : ℕ → Option ValType) (final : List ValType) (profile : Profile) (from to : Span) : Type 0 where
  pub instrs : Instrs
  pub read : expr_at profile from.end from.rest ≡ Ok (instrs, to.rest)
  pub same_end : to.end ≡ from.end
  pub no_fault : code_result A locals final instrs ≡ Ok tt

-- the bytes are a body that is valid under its type
pub record IsValidBody (A : Ref → Found) (own : ℕ) (profile : Profile) (from : Span) : Type 0 where
  pub body : BodyOf
  pub read : all_body_at profile from.end from.rest ≡ Ok body
  pub valid : body_verdict A own body ≡ Valid

-- ---- one token, for the private functions that type it

-- what a token does to the open blocks, in a function
abbrev pub step_in : (Ref → Found) → Function → Tok → Blocks → Result Blocks FaultKind
step_in A f t b = step A (local_type f.locals.params f.locals.groups) f.results.now t b

-- A token was read and typed: it moved the reader, the cursor and the open blocks on.
pub record IsTaken (A : Ref → Found) (f : Function) (profile : Profile) (old new : TokenReading) (from to : Span) (b next : Blocks) : Type 0 where
  pub token : Token
  pub read : NextToken profile old new from to token
  pub typed : step_in A f (told new.labels token) b ≡ Ok next

-- an instruction holds no list of labels: it is no `br_table`
abbrev pub HasNoLabels : Plain → Type 0
HasNoLabels (BrTable labels other) = ⊥
HasNoLabels p = Unit {0}

-- An instruction without a list of labels was read, with the bytes `rest` behind it, and typing it gave this answer.
abbrev pub TypesRead : (Ref → Found) → Function → Result (Plain × List ℕ) ReadFault → List ℕ → Blocks → Result (Unit {0}) Stop → Blocks → Type 0
TypesRead A f (Ok p) rest b told next = HasNoLabels p.0 × (p.1 ≡ rest) × Steps (step_in A f (Simple p.0) b) told next
TypesRead A f (Err e) rest b told next = ⊥

-- that, of what stands behind an opcode from some bytes on, whatever the profile
abbrev pub TypesBehind : (Ref → Found) → Function → ℕ → ℕ → List ℕ → List ℕ → Blocks → Result (Unit {0}) Stop → Blocks → Type 0
TypesBehind A f opcode end from rest b told next = (profile : Profile) (e : ReadFault) → TypesRead A f (plain_at profile e opcode end from) rest b told next

-- The same of what stands behind an opcode, for a token that opens and closes nothing and has no list of labels: whatever the profile.
pub record IsTakenBehind (A : Ref → Found) (f : Function) (opcode : ℕ) (from to : Span) (b next : Blocks) : Type 0 where
  pub typed : TypesBehind A f opcode from.end from.rest to.rest b (Ok tt) next
  pub same_end : to.end ≡ from.end

-- that, where the token is taken; else the open blocks are as they were
abbrev pub TakesBehind : (Ref → Found) → Function → ℕ → Span → Span → Blocks → Blocks → Bool → Type 0
TakesBehind A f opcode from to b next true = IsTakenBehind A f opcode from to b next
TakesBehind A f opcode from to b next false = next ≡ b

-- the opcodes that are typed from their bytes, by what stands behind them, but for loads, stores, numeric instructions and `call_indirect`
abbrev pub is_among : List ℕ → ℕ → Bool
is_among [] x = false
is_among (y ∷ ys) x = if x == y then true else is_among ys x

abbrev pub IsAlone : ℕ → Type 0
IsAlone opcode = is_among (0x00 ∷ 0x01 ∷ 0x0F ∷ 0x1A ∷ 0x1B ∷ []) opcode ≡ true

abbrev pub HasIndex : ℕ → Type 0
HasIndex opcode = is_among (0x0C ∷ 0x0D ∷ 0x20 ∷ 0x21 ∷ 0x22 ∷ 0x23 ∷ 0x24 ∷ []) opcode ≡ true

abbrev pub HasReserved : ℕ → Type 0
HasReserved opcode = is_among (0x3F ∷ 0x40 ∷ []) opcode ≡ true

abbrev pub HasSigned : ℕ → Type 0
HasSigned opcode = is_among (0x41 ∷ 0x42 ∷ []) opcode ≡ true

abbrev pub HasWord : ℕ → Type 0
HasWord opcode = is_among (0x43 ∷ 0x44 ∷ []) opcode ≡ true

-- A sign extension was typed, which one profile has.
pub record IsSigned (A : Ref → Found) (f : Function) (opcode : ℕ) (b next : Blocks) : Type 0 where
  pub op : NumericOp
  pub low : 0xC0 ≤ opcode
  pub high : opcode ≤ 0xC4
  pub is_op : numeric_of opcode ≡ Some op
  pub typed : step_in A f (Simple (Numeric op)) b ≡ Ok next

-- a block type that is told without an index
abbrev pub IsShort : BlockType → Type 0
IsShort (Index x) = ⊥
IsShort _ = Unit {0}

-- A block was opened behind its opcode, with a test or without one.
pub record IsOpened (A : Ref → Found) (test : Bool) (kind : FrameKind) (profile : Profile) (old new : TokenReading) (from to : Span)
    (b next : Blocks) : Type 0 where
  pub block : BlockType
  pub shallow : length old.kinds < depth_limit
  pub kinds : new.kinds ≡ test ∷ old.kinds
  pub read : type_at profile from.end from.rest ≡ Ok (block, to.rest)
  pub same_end : to.end ≡ from.end
  pub typed : enter_block A test kind block b ≡ Ok next

-- A then branch was ended behind an `else`.
pub record IsParted (A : Ref → Found) (old new : TokenReading) (b next : Blocks) : Type 0 where
  pub may : may_else old.kinds ≡ true
  pub kinds : after (Otherwise 0) old.kinds ≡ Some new.kinds
  pub typed : end_then A b ≡ Ok next

-- A block was closed behind an `end`.
pub record IsClosed (A : Ref → Found) (old new : TokenReading) (b next : Blocks) : Type 0 where
  pub kinds : after Close old.kinds ≡ Some new.kinds
  pub typed : end_block A b.inner.kind b ≡ Ok next

-- what came of a token: it was typed, or it is the end that closes no block
abbrev pub GoesOn : (Ref → Found) → Function → Profile → TokenOutcome → Stream → Stream → Span → Span → Type 0
GoesOn A f profile outcomes.On old new from to = IsTaken A f profile old.reader new.reader from to old.stacks new.stacks
GoesOn A f profile outcomes.End old new from to = NextRead profile old.reader new.reader from to None × (new.stacks ≡ old.stacks)
GoesOn A f profile _ old new from to = Unit {0}
