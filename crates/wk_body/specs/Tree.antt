-- Instructions as a tree, and the tokens in which they are written.
use Rattle.std.specs.Prelude.{ℕ, suc, List, [], ◌∷◌, ◌++◌, length}
use Rattle.wk_body.specs.declared.types.BlockType.{BlockType}
use Rattle.wk_body.specs.declared.types.BlockKind.{BlockKind}
use Rattle.wk_body.specs.Instructions.{Plain}

-- Instructions in order: none; one that holds no others, and those after it; a block or loop, what is in it, and those
-- after it; an if, its two branches, and those after it.
pub data Instrs : Type 0 where
  Finish : Instrs
  One : (p : Plain) (rest : Instrs) → Instrs
  Block : (kind : BlockKind) (ty : BlockType) (inside rest : Instrs) → Instrs
  If : (ty : BlockType) (first second rest : Instrs) → Instrs

-- A written token. skip is the number of tokens up to the matching end.
pub data Tok : Type 0 where
  Simple : (p : Plain) → Tok
  Open : (kind : BlockKind) (ty : BlockType) (skip : ℕ) → Tok
  OpenIf : (ty : BlockType) (skip : ℕ) → Tok
  Otherwise : (skip : ℕ) → Tok
  Close : Tok

-- the else branch's tokens: none where it is empty
abbrev pub else_part : List Tok → List Tok
else_part [] = []
else_part (t ∷ ts) = Otherwise (suc (length ts)) ∷ t ∷ ts

-- the tokens of a tree, in the order in which they are written
abbrev pub flatten : Instrs → List Tok
flatten Finish = []
flatten (One p rest) = Simple p ∷ flatten rest
flatten (Block kind ty inside rest) = Open kind ty (length (flatten inside)) ∷ (flatten inside ++ Close ∷ flatten rest)
flatten (If ty first second rest) = OpenIf ty (length (flatten first ++ else_part (flatten second)))
    ∷ ((flatten first ++ else_part (flatten second)) ++ Close ∷ flatten rest)

-- the tokens of an expression, with its end
abbrev pub tokens_of : Instrs → List Tok
tokens_of t = flatten t ++ Close ∷ []

-- ---- from tokens back to the tree

-- What stands behind a place in one block: the instructions, and the else branch, if an else stands there.
pub record Part : Type 0 where
  pub rest : Instrs
  pub other : Instrs

-- The parts behind a token, the innermost block's first, from those behind the next token
abbrev pub before : Tok → List Part → List Part
before (Simple p) (x ∷ xs) = record { rest = One p x.rest; other = x.other } ∷ xs
before (Simple p) [] = []
before (Open kind ty _) (x ∷ y ∷ ys) = record { rest = Block kind ty x.rest y.rest; other = y.other } ∷ ys
before (Open kind ty _) (x ∷ []) = []
before (Open kind ty _) [] = []
before (OpenIf ty _) (x ∷ y ∷ ys) = record { rest = If ty x.rest x.other y.rest; other = y.other } ∷ ys
before (OpenIf ty _) (x ∷ []) = []
before (OpenIf ty _) [] = []
before (Otherwise _) (x ∷ xs) = record { rest = Finish; other = x.rest } ∷ xs
before (Otherwise _) [] = []
before Close xs = record { rest = Finish; other = Finish } ∷ xs

-- the parts in front of all of these tokens
abbrev pub over : List Tok → List Part → List Part
over [] xs = xs
over (t ∷ ts) xs = before t (over ts xs)

abbrev pub first_part : List Part → Instrs
first_part [] = Finish
first_part (x ∷ xs) = x.rest

-- the tree that tokens spell, up to the end that closes no block
abbrev pub tree_of : List Tok → Instrs
tree_of ts = first_part (over ts [])

-- one list of instructions after another
abbrev pub append : Instrs → Instrs → Instrs
append Finish y = y
append (One p rest) y = One p (append rest y)
append (Block kind ty inside rest) y = Block kind ty inside (append rest y)
append (If ty first second rest) y = If ty first second (append rest y)

abbrev pub onto : Instrs → List Part → List Part
onto t [] = []
onto t (x ∷ xs) = record { rest = append t x.rest; other = x.other } ∷ xs
