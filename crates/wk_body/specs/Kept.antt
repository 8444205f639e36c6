-- How tokens are kept, and what they stand for.
use Rattle.std.specs.Prelude.{◌≡◌, ℕ, ◌+◌, ◌-◌, ◌≤◌, List, [], ◌∷◌, ◌++◌, length, take, drop, map, set, slice_index_or, ◌==◌, if◌then◌else◌}
use Rattle.std.specs.List.{AllByRecursion}
use Rattle.wk_body.specs.declared.token.Token.{Token}
use Rattle.wk_body.specs.declared.token.Token.TheVariants as kept
use Rattle.wk_body.specs.declared.types.BlockKind.TheVariants as kinds
use Rattle.wk_body.specs.Instructions as plain
use Rattle.wk_body.specs.Tree.{Instrs, Tok, Simple, Open, OpenIf, Otherwise, Close, tokens_of, tree_of}
use Rattle.wk_body.specs.Shape.{IsShaped}

-- what a kept token is, its labels taken from the pool
abbrev pub told : List ℕ → Token → Tok
told pool kept.Unreachable = Simple plain.Unreachable
told pool kept.Nop = Simple plain.Nop
told pool (kept.Block ty skip) = Open kinds.Block ty skip
told pool (kept.Loop ty skip) = Open kinds.Loop ty skip
told pool (kept.If ty skip) = OpenIf ty skip
told pool (kept.Else skip) = Otherwise skip
told pool kept.End = Close
told pool (kept.Br label) = Simple (plain.Br label)
told pool (kept.BrIf label) = Simple (plain.BrIf label)
told pool (kept.BrTable start len other) = Simple (plain.BrTable (take len (drop start pool)) other)
told pool kept.Return = Simple plain.Return
told pool (kept.Call x) = Simple (plain.Call x)
told pool (kept.CallIndirect x) = Simple (plain.CallIndirect x)
told pool kept.Drop = Simple plain.Drop
told pool kept.Select = Simple plain.Select
told pool (kept.LocalGet x) = Simple (plain.LocalGet x)
told pool (kept.LocalSet x) = Simple (plain.LocalSet x)
told pool (kept.LocalTee x) = Simple (plain.LocalTee x)
told pool (kept.GlobalGet x) = Simple (plain.GlobalGet x)
told pool (kept.GlobalSet x) = Simple (plain.GlobalSet x)
told pool (kept.Access op align offset) = Simple (plain.Access op align offset)
told pool kept.MemorySize = Simple plain.MemorySize
told pool kept.MemoryGrow = Simple plain.MemoryGrow
told pool (kept.I32Const z) = Simple (plain.I32Const z)
told pool (kept.I64Const z) = Simple (plain.I64Const z)
told pool (kept.F32Const word) = Simple (plain.F32Const word)
told pool (kept.F64Const word) = Simple (plain.F64Const word)
told pool (kept.Numeric op) = Simple (plain.Numeric op)

-- the labels of a token lie in a pool of this length
abbrev pub IsWithin : ℕ → Token → Type 0
IsWithin len (kept.BrTable start n other) = start + n ≤ len
IsWithin len _ = Unit {0}

abbrev pub all_told : List ℕ → List Token → List Tok
all_told pool ts = map (told pool) ts

abbrev pub tree_kept : List ℕ → List Token → Instrs
tree_kept pool ts = tree_of (all_told pool ts)

-- the tokens are those of the tree that they spell, and its end, and no more than a module has bytes; the tree is one that
-- bytes can spell
pub record IsKept (pool : List ℕ) (ts : List Token) : Type 0 where
  pub written : all_told pool ts ≡ tokens_of (tree_kept pool ts)
  pub within : AllByRecursion (IsWithin (length pool)) ts
  pub few : length ts ≤ 2147483647
  pub shaped : IsShaped (tree_kept pool ts)

-- ---- the steps of the code as it puts tokens together, for its private functions alone

-- a kept token with another distance to its end
abbrev pub skipping : Token → ℕ → Token
skipping (kept.Block ty skip) n = kept.Block ty n
skipping (kept.Loop ty skip) n = kept.Loop ty n
skipping (kept.If ty skip) n = kept.If ty n
skipping (kept.Else skip) n = kept.Else n
skipping t n = t

-- an end is put behind the tokens, and the token at place leads to it
abbrev pub ended : List Token → ℕ → List Token
ended ts place = set ts place (skipping (slice_index_or ts place kept.End) (length ts - place - 1)) ++ kept.End ∷ []

-- an else branch ends: without instructions it goes
abbrev pub else_ended : List Token → ℕ → List Token
else_ended ts other = if length ts - other - 1 == 0 then take other ts else set ts other (skipping (slice_index_or ts other kept.End) (length ts - other - 1))
