-- The names of tokens in the text format (6.5), and of opcodes.
use Rattle.std.specs.Prelude.{ℕ, pos, ◌==◌, if◌then◌else◌, Option, Some, None, List, [], codes}
use Rattle.wk_body.specs.declared.types.BlockKind.TheVariants as kinds
use Rattle.wk_body.specs.Instructions.{plain_name, Form, Alone, WithReserved, WithIndex, WithIndexReserved, WithLabels, WithMemarg, WithSigned}
use Rattle.wk_body.specs.Instructions.{WithWord, rows, find_row}
use Rattle.wk_body.specs.Tree.{Tok, Simple, Open, OpenIf, Otherwise, Close}

abbrev pub tok_name : Tok → List ℕ
tok_name (Simple p) = plain_name p
tok_name (Open kinds.Block ty skip) = codes "block"
tok_name (Open kinds.Loop ty skip) = codes "loop"
tok_name (OpenIf ty skip) = codes "if"
tok_name (Otherwise skip) = codes "else"
tok_name Close = codes "end"

-- ---- by opcode, for a private function: loads, stores and numeric instructions are rows of tables of their own

-- operands have no say in a name
abbrev pub form_name : Option Form → List ℕ
form_name None = []
form_name (Some (Alone p)) = plain_name p
form_name (Some (WithReserved p)) = plain_name p
form_name (Some (WithIndex make)) = plain_name (make 0)
form_name (Some (WithIndexReserved make)) = plain_name (make 0)
form_name (Some (WithLabels make)) = plain_name (make [] 0)
form_name (Some (WithMemarg make)) = plain_name (make 0 0)
form_name (Some (WithSigned bits make)) = plain_name (make (pos 0))
form_name (Some (WithWord size make)) = plain_name (make 0)

abbrev pub opcode_name : ℕ → List ℕ
opcode_name x =
    if x == 0x02 then codes "block"
    else if x == 0x03 then codes "loop"
    else if x == 0x04 then codes "if"
    else if x == 0x05 then codes "else"
    else if x == 0x0B then codes "end"
    else form_name (find_row rows x)
