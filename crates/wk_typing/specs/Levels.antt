-- The open blocks, each with its own stack: what one token does to them.
use Rattle.std.specs.Prelude.{ℕ, ◌+◌, Bool, true, false, List, [], ◌∷◌, Result, Ok, Option}
use Rattle.wk_bytes.specs.Leb.{◌>>=◌}
use Rattle.wk_body.specs.declared.types.ValType.{ValType}
use Rattle.wk_body.specs.declared.types.BlockType.{BlockType}
use Rattle.wk_body.specs.declared.types.BlockKind.{BlockKind}
use Rattle.wk_body.specs.declared.types.BlockKind.TheVariants as kinds
use Rattle.wk_body.specs.declared.references.Ref.{Ref}
use Rattle.wk_body.specs.Tree.{Tok, Simple, Open, OpenIf, Otherwise, Close}
use Rattle.wk_typing.specs.declared.fault.FaultKind.{FaultKind}
use Rattle.wk_typing.specs.declared.stacks.FrameKind.{FrameKind}
use Rattle.wk_typing.specs.declared.stacks.FrameKind.TheVariants as frame_kinds
use Rattle.wk_typing.specs.Answers.{Found}
use Rattle.wk_typing.specs.Own.{Own, TokenFault, at_token, pushed, ended}
use Rattle.wk_typing.specs.Effects.{params_of, results_of, effect_of}
use Rattle.wk_typing.specs.Typing.{after_effect, entered, begun}

-- an open block
pub record Level : Type 0 where
  pub kind : FrameKind
  pub block : BlockType
  pub own : Own

-- the open blocks: the innermost, and those around it from the inside out
pub record Blocks : Type 0 where
  pub inner : Level
  pub outer : List Level

abbrev pub blocks : Level → List Level → Blocks
blocks l ls = record { inner = l; outer = ls }

abbrev pub with_own : Level → Own → Level
with_own l s = record { kind = l.kind; block = l.block; own = s }

-- the innermost block with another stack
abbrev pub with_top : Own → Blocks → Blocks
with_top s b = blocks (with_own b.inner s) b.outer

-- a block as it begins
abbrev pub opened : (Ref → Found) → FrameKind → BlockType → Level
opened A o bt = record { kind = o; block = bt; own = begun A bt }

abbrev pub frame_kind_of : BlockKind → FrameKind
frame_kind_of kinds.Block = frame_kinds.Block
frame_kind_of kinds.Loop = frame_kinds.Loop

abbrev pub level_label : (Ref → Found) → FrameKind → BlockType → List ValType
level_label A frame_kinds.Loop bt = params_of A bt
level_label A _ bt = results_of A bt

abbrev pub outer_labels : (Ref → Found) → List Level → List (List ValType)
outer_labels A [] = []
outer_labels A (l ∷ ls) = level_label A l.kind l.block ∷ outer_labels A ls

abbrev pub labels_of : (Ref → Found) → Blocks → List (List ValType)
labels_of A b = outer_labels A (b.inner ∷ b.outer)

-- a new innermost block
abbrev pub enter_block : (Ref → Found) → Bool → FrameKind → BlockType → Blocks → Result Blocks FaultKind
enter_block A test o bt b = entered A test bt b.inner.own >>= λ s. Ok (blocks (opened A o bt) (with_own b.inner s ∷ b.outer))

-- the end of a then branch that has an else branch
abbrev pub end_then : (Ref → Found) → Blocks → Result Blocks FaultKind
end_then A b = ended (results_of A b.inner.block) b.inner.own >>= λ u. Ok (blocks (opened A frame_kinds.Else b.inner.block) b.outer)

-- the end of a block that stands in another; the outermost one stays
abbrev pub end_inner : (Ref → Found) → Level → List Level → Result Blocks FaultKind
end_inner A l [] = Ok (blocks l [])
end_inner A l (m ∷ ls) =
    ended (results_of A l.block) l.own >>= λ u. Ok (blocks (with_own m (pushed (results_of A l.block) m.own)) ls)

-- an end, which for an if without an else ends an empty else branch too
abbrev pub end_block : (Ref → Found) → FrameKind → Blocks → Result Blocks FaultKind
end_block A frame_kinds.If b = end_then A b >>= λ b'. end_inner A b'.inner b'.outer
end_block A _ b = end_inner A b.inner b.outer

-- what a token does to the open blocks
abbrev pub step : (Ref → Found) → (ℕ → Option ValType) → List ValType → Tok → Blocks → Result Blocks FaultKind
step A locals final (Simple p) b =
    (effect_of A locals final (labels_of A b) p >>= λ e. after_effect e b.inner.own) >>= λ s. Ok (with_top s b)
step A locals final (Open kind bt skip) b = enter_block A false (frame_kind_of kind) bt b
step A locals final (OpenIf bt skip) b = enter_block A true frame_kinds.If bt b
step A locals final (Otherwise skip) b = end_then A b
step A locals final Close b = end_block A b.inner.kind b

-- what some tokens do to the open blocks, the first of them being token k
abbrev pub run : (Ref → Found) → (ℕ → Option ValType) → List ValType → ℕ → List Tok → Blocks → Result Blocks TokenFault
run A locals final k [] b = Ok b
run A locals final k (t ∷ ts) b = at_token k (step A locals final t b) >>= λ b'. run A locals final (k + 1) ts b'
