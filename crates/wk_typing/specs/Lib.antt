-- ---- what code sees of its module

-- What a reference finds in a module, as in a context (3.1.1).
pub mod Answers
-- ---- typing

-- The type of an operand, or any type where code can't be reached.
pub mod Slots
-- The operand stack of one block: pops, pushes, the check at its end, and their faults.
pub mod Own
-- What each instruction takes and gives, by its immediates (3.3.1 to 3.3.5); block types.
pub mod Effects
-- The typing of instruction sequences (3.3), and the verdict of a body (3.4.1).
pub mod Typing
-- Constant expressions (3.3.7.2), and what is wrong with one.
pub mod Constants
-- ---- the declarative rules

-- The standard's rules: types of instruction sequences (3.3), and valid bodies (3.4.1).
pub mod Derives
-- A sequence has a type exactly where its two parts have types that meet (3.3.6).
pub mod DerivesLaws
-- ---- faults

-- What is wrong with a body, and with an item at its place.
pub mod Faults
-- The texts of verdicts and of their faults, `V1` to `V21`.
pub mod VerdictText
-- ---- what keeps a verdict

-- A body keeps its verdict where its references find what they found, moved or not.
pub mod Carried
-- References that find something, as all references of a valid body do.
pub mod Finds
-- ---- what fast paths and loops keep: steps, for those who read proofs

-- The open blocks, each with its operand stack, and what one token does to them.
pub mod Levels
-- One operand stack, cut by the control frames into the stacks of the open blocks.
pub mod Cuts
-- The locals of a function by groups, and where each group ends.
pub mod Locals
-- The steps of the operand stack and the control frames, and what their calls answer.
pub mod Moves
-- Bodies that are typed while they are read, token by token.
pub mod Streaming
