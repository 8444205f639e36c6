-- The code listing token by token, as the crate's code makes it (a law ties it to the tree's).
use Rattle.std.specs.Prelude.{ℕ, ◌+◌, ◌-◌, List, [], ◌∷◌, ◌++◌, length, codes}
use Rattle.wk_body.specs.Tree.{Tok, Simple, Open, OpenIf, Otherwise, Close}
use Rattle.wk_body.specs.Written.{tok_bytes}
use Rattle.wk_body.specs.Operands.{OperandsOf, Immediate, Opening, tok_operands}
use Rattle.wk_list.specs.CodeText.{immediates_text, plain_text, type_text, kind_text, code_line}

abbrev pub tok_text : Tok → List ℕ
tok_text (Simple p) = plain_text p
tok_text (Open kind ty skip) = kind_text kind ++ type_text ty
tok_text (OpenIf ty skip) = codes "if" ++ type_text ty
tok_text (Otherwise skip) = codes "else"
tok_text Close = codes "end"

-- what is listed of operands
abbrev pub operands_text : OperandsOf → List ℕ
operands_text (Immediate i) = immediates_text i
operands_text (Opening ty) = type_text ty

-- what stands behind the name of a token
abbrev pub behind_name : Tok → List ℕ
behind_name t = operands_text (tok_operands t)

-- the depth at which a token stands, inside `depth` open blocks
abbrev pub stands_at : ℕ → Tok → ℕ
stands_at depth (Otherwise skip) = depth - 1
stands_at depth Close = depth - 1
stands_at depth _ = depth

-- the open blocks behind a token
abbrev pub open_after : ℕ → Tok → ℕ
open_after depth (Open kind ty skip) = depth + 1
open_after depth (OpenIf ty skip) = depth + 1
open_after depth Close = depth - 1
open_after depth _ = depth

abbrev pub toks_text : ℕ → ℕ → List Tok → List ℕ
toks_text at depth [] = []
toks_text at depth (t ∷ ts) = code_line at (stands_at depth t) (tok_text t) ++ toks_text (at + length (tok_bytes t)) (open_after depth t) ts

-- how many bytes the tokens are
abbrev pub toks_length : List Tok → ℕ
toks_length [] = 0
toks_length (t ∷ ts) = length (tok_bytes t) + toks_length ts
