-- One operand stack, cut by frames into the stacks of the open blocks.
use Rattle.std.specs.Prelude.{◌≡◌, ◌-◌, ◌≤◌, List, [], ◌∷◌, length, take, drop}
use Rattle.wk_typing.specs.declared.stacks.Frame.{Frame}
use Rattle.wk_typing.specs.Slots.{Slot}
use Rattle.wk_typing.specs.Levels.{Level, Blocks, blocks}

-- a frame's block, with its operands
abbrev pub level_of : Frame → List Slot → Level
level_of f xs = record { kind = f.kind; block = f.block; own = record { items = xs; dead = f.unreachable } }

-- the blocks of these frames, the innermost first, and of these operands, the top first
abbrev pub levels_of : List Frame → List Slot → List Level
levels_of [] xs = []
levels_of (f ∷ fs) xs =
    level_of f (take (length xs - f.height) xs) ∷ levels_of fs (drop (length xs - f.height) xs)

-- the open blocks of an innermost frame and those around it
abbrev pub blocks_of : Frame → List Frame → List Slot → Blocks
blocks_of f fs xs =
    blocks (level_of f (take (length xs - f.height) xs)) (levels_of fs (drop (length xs - f.height) xs))

-- each frame begins where the operands below it end
abbrev pub Cuts : List Frame → List Slot → Type 0
Cuts [] xs = xs ≡ []
Cuts (f ∷ fs) xs = (f.height ≤ length xs) × Cuts fs (drop (length xs - f.height) xs)
