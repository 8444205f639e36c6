-- The code listing: the instructions of each function, each with its offset in the written form.
use Rattle.std.specs.Prelude.{ℕ, ◌+◌, ◌*◌, List, [], ◌∷◌, ◌++◌, length, replicate, codes, decimal, take}
use Rattle.std.specs.Fmt.{signed_decimal}
use Rattle.std.specs.List.{flat_map}
use Rattle.wk_bytes.specs.HexDigits.{hex_digits}
use Rattle.wk_bytes.specs.Short.{short}
use Rattle.wk_body.specs.declared.types.BlockType.{BlockType}
use Rattle.wk_body.specs.declared.types.BlockType.TheVariants.{Empty, Value}
use Rattle.wk_body.specs.declared.types.BlockType.TheVariants as types
use Rattle.wk_body.specs.declared.types.BlockKind.{BlockKind}
use Rattle.wk_body.specs.declared.types.BlockKind.TheVariants as kinds
use Rattle.wk_body.specs.declared.types.LocalGroup.{LocalGroup}
use Rattle.wk_body.specs.Instructions.{Plain, Immediates, Nothing, Reserved, Index, IndexReserved, Labels, Memarg, Signed, Word, immediates, plain_name}
use Rattle.wk_body.specs.Tree.{Instrs, Finish, One, Block, If}
use Rattle.wk_body.specs.Spelling.{kind_byte}
use Rattle.wk_body.specs.Vectors.{written_vector}
use Rattle.wk_body.specs.Written.{plain_bytes, type_bytes, else_bytes, enc, written_group, written_body}
use Rattle.wk_module.specs.declared.types.Func.{Func as FuncOf}
use Rattle.wk_module.specs.declared.types.Kind.TheVariants.{Func}
use Rattle.wk_module.specs.declared.types.Parts.{Parts}
use Rattle.wk_module.specs.Items.{written_code}
use Rattle.wk_module.specs.Sections.{CodeSection, contents}
use Rattle.wk_module.specs.Shape.{lists_of}
use Rattle.wk_module.specs.Writing.{section_contents, section_and_customs, ids}
use Rattle.wk_list.specs.Text.{spaced, valtype_name, indexed}
use Rattle.wk_list.specs.Spaces.{count_of}
use Rattle.wk_list.specs.Headers.{contents_start}

-- ---- one instruction: its name, and its immediates each after one space

-- the word of a float, in two digits for each of its bytes
abbrev pub immediates_text : Immediates → List ℕ
immediates_text Nothing = []
immediates_text Reserved = []
immediates_text (Index x) = spaced x
immediates_text (IndexReserved x) = codes " type=" ++ decimal x
immediates_text (Labels labels other) = flat_map spaced labels ++ spaced other
immediates_text (Memarg align offset) = codes " align=" ++ (decimal align ++ (codes " offset=" ++ decimal offset))
immediates_text (Signed bits z) = codes " " ++ signed_decimal z
immediates_text (Word size word) = codes " 0x" ++ hex_digits (2 * size) word

abbrev pub plain_text : Plain → List ℕ
plain_text p = plain_name p ++ immediates_text (immediates p)

abbrev pub type_text : BlockType → List ℕ
type_text Empty = []
type_text (Value t) = codes " " ++ valtype_name t
type_text (types.Index x) = codes " type=" ++ decimal x

abbrev pub kind_text : BlockKind → List ℕ
kind_text kinds.Block = codes "block"
kind_text kinds.Loop = codes "loop"

-- ---- a line: a space, the offset, two spaces for each open block, the instruction

unfoldable pub code_line : ℕ → ℕ → List ℕ → List ℕ
code_line at depth text = codes " " ++ (hex_digits 8 at ++ (codes ": " ++ (replicate (2 * depth) 32 ++ (text ++ codes "\n"))))

-- ---- by recursion on the tree: the first instruction stands at the offset `at`, inside `depth` open blocks

-- an else branch, of which nothing is listed where it is empty
abbrev pub else_text : ℕ → ℕ → Instrs → List ℕ → List ℕ
else_text at depth Finish text = []
else_text at depth (One p rest) text = code_line at depth (codes "else") ++ text
else_text at depth (Block kind ty inside rest) text = code_line at depth (codes "else") ++ text
else_text at depth (If ty first second rest) text = code_line at depth (codes "else") ++ text

unfoldable pub instrs_text : ℕ → ℕ → Instrs → List ℕ
instrs_text at depth Finish = []
instrs_text at depth (One p rest) =
    code_line at depth (plain_text p)
    ++ instrs_text (at + length (plain_bytes p)) depth rest
instrs_text at depth (Block kind ty inside rest) =
    code_line at depth (kind_text kind ++ type_text ty)
    ++ (instrs_text (at + length (kind_byte kind ∷ type_bytes ty)) (depth + 1) inside
    ++ (code_line (at + length (kind_byte kind ∷ type_bytes ty) + length (enc inside)) depth (codes "end")
    ++ instrs_text (at + length (kind_byte kind ∷ type_bytes ty) + length (enc inside) + 1) depth rest))
instrs_text at depth (If ty first second rest) =
    code_line at depth (codes "if" ++ type_text ty)
    ++ (instrs_text (at + length (0x04 ∷ type_bytes ty)) (depth + 1) first
    ++ (else_text (at + length (0x04 ∷ type_bytes ty) + length (enc first)) depth second
    (instrs_text (at + length (0x04 ∷ type_bytes ty) + length (enc first) + 1) (depth + 1) second)
    ++ (code_line (at + length (0x04 ∷ type_bytes ty) + length (enc first) + length (else_bytes second (enc second))) depth (codes "end")
    ++ instrs_text (at + length (0x04 ∷ type_bytes ty) + length (enc first) + length (else_bytes second (enc second)) + 1) depth rest)))

-- an expression, whose first instruction stands at `at`, and its end
abbrev pub expr_text : ℕ → Instrs → List ℕ
expr_text at t = instrs_text at 0 t ++ code_line (at + length (enc t)) 0 (codes "end")

-- ---- a function

-- as ` i32*2`
abbrev pub group_text : LocalGroup → List ℕ
group_text g = codes " " ++ (valtype_name g.ty ++ (codes "*" ++ decimal g.count))

-- the line of local groups, where there are any
abbrev pub locals_text : List LocalGroup → List ℕ
locals_text [] = []
locals_text (g ∷ gs) = codes " locals" ++ (flat_map group_text (g ∷ gs) ++ codes "\n")

abbrev pub entry_head : ℕ → FuncOf → List ℕ
entry_head index f = indexed (codes "func") index ++ (codes " type=" ++ (decimal f.ty ++ (codes ":\n" ++ locals_text f.body.groups)))

-- where the instructions of a function stand whose size begins at `at`: behind the size and the local groups
abbrev pub instrs_start : ℕ → FuncOf → ℕ
instrs_start at f = at + length (short (length (written_body f.body))) + length (written_vector written_group f.body.groups)

-- a function of an index, whose size begins at `at`
abbrev pub entry_text : ℕ → ℕ → FuncOf → List ℕ
entry_text index at f = entry_head index f ++ expr_text (instrs_start at f) f.body.instrs

-- functions from an index and an offset on
abbrev pub entries_text : ℕ → ℕ → List FuncOf → List ℕ
entries_text index at [] = []
entries_text index at (f ∷ fs) = entry_text index at f ++ entries_text (index + 1) (at + length (written_code f.body)) fs

-- where the code section begins: behind the sections of smaller ids and the custom sections behind those
abbrev pub code_start : Parts → ℕ
code_start m = 8 + length (flat_map (section_and_customs m) (take 10 ids))

-- where the first code begins: behind the section's id and size and the count
abbrev pub first_code : Parts → ℕ
first_code m = contents_start (code_start m) (length (section_contents CodeSection (contents (lists_of m) CodeSection))) + length (short (length m.funcs))

abbrev pub code_text : Parts → List ℕ
code_text m = entries_text (count_of Func m.imports) (first_code m) m.funcs
