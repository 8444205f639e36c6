-- How long a body may be behind a shift of its references: three times as long as before.
use Rattle.std.proofs.Common.{◌≡◌, ℕ, ◌+◌, ◌*◌, ◌≤◌, List, [], ◌∷◌, ◌++◌, length, arith, length-append}
use Rattle.wk_bytes.specs.Short.{short}
use Rattle.wk_bytes.specs.ShortLaws.{short-some, short-few}
use Rattle.wk_body.specs.Bodies.{BodyOf}
use Rattle.wk_body.specs.Instructions.{Plain, Call, GlobalGet, GlobalSet, immediates}
use Rattle.wk_body.specs.References.{map_plain}
use Rattle.wk_body.specs.Shape.{IsU32, AreInRange, IsInRange}
use Rattle.wk_body.specs.Spelling.{kind_byte}
use Rattle.wk_body.specs.Tree.{Instrs, Finish, One, Block, If}
use Rattle.wk_body.specs.Vectors.{written_vector}
use Rattle.wk_body.specs.Written.{plain_bytes, type_bytes, else_bytes, enc, written_group, written_expr, written_body}
use Rattle.wk_body.specs.declared.shifts.Shifts.{Shifts}
use Rattle.wk_body.specs.Shifts.{shifted, shifted_plain, shifted_body}

-- ---- instructions that hold no others

tripled : (n : ℕ) → n ≤ 3 * n
tripled n = omega arith

-- an index has from one byte to five
index_tripled : (opcode x y : ℕ) → IsU32 y → length (opcode ∷ short y) ≤ 3 * length (opcode ∷ short x)
index_tripled opcode x y few = omega (arith, short-some x, short-few 32 y (omega arith) few)

plain_tripled : (s : Shifts) (p : Plain) → AreInRange (immediates (shifted_plain s p)) → length (plain_bytes (shifted_plain s p)) ≤ 3 * length (plain_bytes p)
plain_tripled s (Call x) few = index_tripled 0x10 x (shifted s.funcs_from s.funcs_by x) few
plain_tripled s (GlobalGet x) few = index_tripled 0x23 x (shifted s.globals_from s.globals_by x) few
plain_tripled s (GlobalSet x) few = index_tripled 0x24 x (shifted s.globals_from s.globals_by x) few
plain_tripled s p few = tripled (length (plain_bytes p))

-- ---- trees

block_length : (byte : ℕ) (ty inside rest : List ℕ) → length (byte ∷ (ty ++ (inside ++ 0x0B ∷ rest))) ≡ 2 + length ty + length inside + length rest
block_length byte ty inside rest = omega (arith, length-append ty (inside ++ 0x0B ∷ rest), length-append inside (0x0B ∷ rest))

if_length : (byte : ℕ) (ty first second rest : List ℕ) → length (byte ∷ (ty ++ (first ++ (second ++ 0x0B ∷ rest))))
    ≡ 2 + length ty + length first + length second + length rest
if_length byte ty first second rest =
    omega (arith, length-append ty (first ++ (second ++ 0x0B ∷ rest)), length-append first (second ++ 0x0B ∷ rest), length-append second (0x0B ∷ rest))

else_tripled : (f : Plain → Plain) (t : Instrs) (new old : List ℕ) → length new ≤ 3 * length old
    → length (else_bytes (map_plain f t) new) ≤ 3 * length (else_bytes t old)
else_tripled f Finish new old le = omega arith
else_tripled f (One p rest) new old le = omega arith
else_tripled f (Block kind ty inside rest) new old le = omega arith
else_tripled f (If ty first second rest) new old le = omega arith

enc_tripled : (s : Shifts) (t : Instrs) → IsInRange (map_plain (shifted_plain s) t) → length (enc (map_plain (shifted_plain s) t)) ≤ 3 * length (enc t)
enc_tripled s Finish ranges = omega arith
enc_tripled s (One p rest) ranges =
    let f = shifted_plain s in
    omega (
      arith,
      plain_tripled s p ranges.0,
      enc_tripled s rest ranges.1,
      length-append (plain_bytes p) (enc rest),
      length-append (plain_bytes (f p)) (enc (map_plain f rest)),
    )
enc_tripled s (Block kind ty inside rest) ranges =
    let f = shifted_plain s in
    omega (
      arith,
      enc_tripled s inside ranges.1,
      enc_tripled s rest ranges.2,
      block_length (kind_byte kind) (type_bytes ty) (enc inside) (enc rest),
      block_length (kind_byte kind) (type_bytes ty) (enc (map_plain f inside)) (enc (map_plain f rest)),
    )
enc_tripled s (If ty first second rest) ranges =
    let f = shifted_plain s in
    let other = enc_tripled s second ranges.2 in
    omega (
      arith,
      enc_tripled s first ranges.1,
      else_tripled f second (enc (map_plain f second)) (enc second) other,
      enc_tripled s rest ranges.3,
      if_length 0x04 (type_bytes ty) (enc first) (else_bytes second (enc second)) (enc rest),
      if_length 0x04 (type_bytes ty) (enc (map_plain f first)) (else_bytes (map_plain f second) (enc (map_plain f second))) (enc (map_plain f rest)),
    )

-- ---- bodies

pub body_tripled : (s : Shifts) (b : BodyOf) → IsInRange (shifted_body s b).instrs → length (written_body (shifted_body s b)) ≤ 3 * length (written_body b)
body_tripled s b ranges =
    let groups = written_vector written_group b.groups in
    let new = enc (map_plain (shifted_plain s) b.instrs) in
    omega (
      arith,
      enc_tripled s b.instrs ranges,
      length-append groups (written_expr b.instrs),
      length-append groups (new ++ 0x0B ∷ []),
      length-append (enc b.instrs) (0x0B ∷ []),
      length-append new (0x0B ∷ []),
    )
