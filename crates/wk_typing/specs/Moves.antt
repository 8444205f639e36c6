-- The small moves of the stacks, and what their calls answer.
use Rattle.std.specs.Prelude.{◌≡◌, ℕ, zero, suc, Bool, true, false, if◌then◌else◌, List, [], ◌∷◌, Option, Some, None, Result, Ok, Err}
use Rattle.wk_bytes.specs.Leb.{◌>>=◌}
use Rattle.wk_body.specs.declared.types.ValType.{ValType}
use Rattle.wk_body.specs.declared.types.BlockType.{BlockType}
use Rattle.wk_typing.specs.declared.fault.FaultKind.{FaultKind}
use Rattle.wk_typing.specs.declared.stop.Stop.{Stop}
use Rattle.wk_typing.specs.declared.stop.Stop.TheVariants as stops
use Rattle.wk_typing.specs.declared.stop.Growth.{Growth}
use Rattle.wk_typing.specs.declared.stop.Growth.TheVariants as growths
use Rattle.wk_typing.specs.declared.stacks.FrameKind.{FrameKind}
use Rattle.wk_typing.specs.declared.stacks.FrameKind.TheVariants as frame_kinds
use Rattle.wk_typing.specs.Slots.{Slot}
use Rattle.wk_typing.specs.Own.{Own, TokenFault, ended, popped_one, pushed_one, stopped, fresh, is_empty}
use Rattle.wk_typing.specs.Effects.{Effect, Takes}
use Rattle.wk_typing.specs.Typing.{after_effect}
use Rattle.wk_typing.specs.Levels.{Level, Blocks, blocks, with_top}

abbrev pub pushed_on : Slot → Blocks → Blocks
pushed_on x b = with_top (pushed_one x b.inner.own) b

-- a body, or an expression, as it begins
abbrev pub body_of : BlockType → Blocks
body_of bt = blocks (record { kind = frame_kinds.Body; block = bt; own = fresh }) []

abbrev pub ctrl_pushed : FrameKind → BlockType → Blocks → Blocks
ctrl_pushed o bt b = blocks (record { kind = o; block = bt; own = fresh }) (b.inner ∷ b.outer)

abbrev pub ctrl_popped_in : Level → List Level → Blocks
ctrl_popped_in l [] = blocks l []
ctrl_popped_in l (m ∷ ls) = blocks m ls

-- the blocks without the innermost, unless it is the only one
abbrev pub ctrl_popped : Blocks → Blocks
ctrl_popped b = ctrl_popped_in b.inner b.outer

abbrev pub unreachable_on : Blocks → Blocks
unreachable_on b = with_top stopped b

abbrev pub else_begun : Blocks → Blocks
else_begun b = blocks (record { kind = frame_kinds.Else; block = b.inner.block; own = fresh }) b.outer

abbrev pub own_is_empty : Blocks → Bool
own_is_empty b = is_empty b.inner.own.items

-- the innermost block is dead and has no operands
abbrev pub own_is_spent : Blocks → Bool
own_is_spent b = if b.inner.own.dead then own_is_empty b else false

-- a pop from the innermost block's own stack
abbrev pub popped_by : Result (Slot × Own) FaultKind → Blocks → Result (Slot × Blocks) FaultKind
popped_by (Ok p) b = Ok (p.0, with_top (p.1) b)
popped_by (Err e) b = Err e

abbrev pub popped_on : (Own → Result (Slot × Own) FaultKind) → Blocks → Result (Slot × Blocks) FaultKind
popped_on f b = popped_by (f b.inner.own) b

-- an operand that fits is popped from the innermost block's own stack, and another pushed
abbrev pub unop_on : Slot → Slot → Blocks → Result Blocks FaultKind
unop_on want x b = popped_on (popped_one want) b >>= λ p. Ok (pushed_on x (p.1))

-- two that fit are popped, and another pushed
abbrev pub binop_on : Slot → Slot → Blocks → Result Blocks FaultKind
binop_on want x b = popped_on (popped_one want) b >>= λ p. unop_on want x (p.1)

-- a change of the innermost block's own stack
abbrev pub on_top : (Own → Result Own FaultKind) → Blocks → Result Blocks FaultKind
on_top f b = f b.inner.own >>= λ s. Ok (with_top s b)

-- operands of these types popped from it, and results pushed
abbrev pub applied_on : List ValType → List ValType → Blocks → Result Blocks FaultKind
applied_on operands results b = on_top (after_effect (Takes operands results)) b

-- an effect, or the fault of its immediates, on the innermost block
abbrev pub acting : Result Effect FaultKind → Blocks → Result Blocks FaultKind
acting r b = on_top (λ s. r >>= λ e. after_effect e s) b

-- a pop gave this answer and left these blocks
abbrev pub Pops : Result (Slot × Blocks) FaultKind → Result Slot FaultKind → Blocks → Type 0
Pops o (Ok x) new = o ≡ Ok (x, new)
Pops o (Err e) new = o ≡ Err e

-- a move gave this answer and left these blocks
abbrev pub Does : Result Blocks FaultKind → Result (Unit {0}) FaultKind → Blocks → Type 0
Does o (Ok u) new = o ≡ Ok new
Does o (Err e) new = o ≡ Err e

-- the same, where memory may run out
abbrev pub Steps : Result Blocks FaultKind → Result (Unit {0}) Stop → Blocks → Type 0
Steps o (Ok u) new = o ≡ Ok new
Steps o (Err (stops.Fault e)) new = o ≡ Err e
Steps o (Err stops.Memory) new = Unit {0}

-- a move, told in registers, left these blocks where it was made
abbrev pub MadeBy : Result Blocks FaultKind → Result Growth FaultKind → Blocks → Type 0
MadeBy o (Ok growths.Made) new = o ≡ Ok new
MadeBy o (Ok growths.Refused) new = Unit {0}
MadeBy o (Err e) new = o ≡ Err e

abbrev pub head_in : List Level → ℕ → Option (FrameKind × BlockType)
head_in [] n = None
head_in (l ∷ ls) zero = Some (l.kind, l.block)
head_in (l ∷ ls) (suc n) = head_in ls n

-- what opened the block at a depth, and its type
abbrev pub head_at : Blocks → ℕ → Option (FrameKind × BlockType)
head_at b n = head_in (b.inner ∷ b.outer) n

-- the end check of the innermost block: its answer, and where there is no fault an empty stack
abbrev pub Ends : List ValType → Blocks → Result (Unit {0}) FaultKind → Blocks → Type 0
Ends ts old (Ok u) new = (ended ts old.inner.own ≡ Ok tt) × ((s : Own) × (new ≡ with_top s old) × (own_is_empty new ≡ true))
Ends ts old (Err e) new = ended ts old.inner.own ≡ Err e

-- what running tokens answered: none, or the first fault
abbrev pub RunsTo : Result Blocks TokenFault → Option (FaultKind × ℕ) → Blocks → Type 0
RunsTo o None new = o ≡ Ok new
RunsTo o (Some p) new = o ≡ Err (record { kind = p.0; token = p.1 })

-- what judging code answered: none, or the first fault
abbrev pub JudgedAs : Result (Unit {0}) TokenFault → Option (FaultKind × ℕ) → Type 0
JudgedAs r None = r ≡ Ok tt
JudgedAs r (Some p) = r ≡ Err (record { kind = p.0; token = p.1 })
