-- Bodies that have been shifted, as an import comes whose kind moves what stands behind it.
use Rattle.std.proofs.Common.{◌≡◌, ℕ, ◌+◌, refl, ap, ◌∙◌, arith}
use Rattle.std.proofs.lemmas.Bool.Decides.{nat_tests}
use Rattle.wk_body.specs.declared.renumber.Moving.TheVariants as moving
use Rattle.wk_body.specs.Instructions.{Plain, Call, GlobalGet, GlobalSet}
use Rattle.wk_body.specs.References.{map_plain, moved, moved_plain, shift_instrs}
use Rattle.wk_body.specs.Tree.{Instrs, Finish, One, Block, If}
use Rattle.wk_module.specs.declared.types.Kind.{Kind}
use Rattle.wk_module.specs.declared.types.Kind.TheVariants as kinds
use Rattle.wk_module.specs.Moving.{moved_code}
use Rattle.wk_module.specs.Outlines.{stub}
use Rattle.wk_body.specs.declared.shifts.Shifts.{Shifts}
use Rattle.wk_body.specs.Shifts.{shifted, shifted_plain}

-- one change of each instruction after another
map_twice : (f g h : Plain → Plain) → ((p : Plain) → f (g p) ≡ h p) → (t : Instrs) → map_plain f (map_plain g t) ≡ map_plain h t
map_twice f g h both Finish = refl
map_twice f g h both (One p rest) = rw (both p, map_twice f g h both rest) refl
map_twice f g h both (Block kind ty inside rest) = rw (map_twice f g h both inside, map_twice f g h both rest) refl
map_twice f g h both (If ty first second rest) = rw (map_twice f g h both first, map_twice f g h both second, map_twice f g h both rest) refl

-- what came in front of an index already, and one more behind them
moved_shifted : (from by x : ℕ) → moved (from + by) (shifted from by x) ≡ shifted from (by + 1) x
moved_shifted from by x = grind (arith, nat_tests)

func_one_more : (s : Shifts) (p : Plain) → moved_plain moving.Func (s.funcs_from + s.funcs_by) (shifted_plain s p)
    ≡ shifted_plain (record s { funcs_by = s.funcs_by + 1 }) p
func_one_more s (Call x) = ap Call (moved_shifted s.funcs_from s.funcs_by x)
func_one_more s p = refl

global_one_more : (s : Shifts) (p : Plain) → moved_plain moving.Global (s.globals_from + s.globals_by) (shifted_plain s p)
    ≡ shifted_plain (record s { globals_by = s.globals_by + 1 }) p
global_one_more s (GlobalGet x) = ap GlobalGet (moved_shifted s.globals_from s.globals_by x)
global_one_more s (GlobalSet x) = ap GlobalSet (moved_shifted s.globals_from s.globals_by x)
global_one_more s p = refl

pub func_shifts_more : (s : Shifts) (from : ℕ) (t : Instrs) → from ≡ s.funcs_from + s.funcs_by
    → shift_instrs moving.Func from (map_plain (shifted_plain s) t) ≡ map_plain (shifted_plain (record s { funcs_by = s.funcs_by + 1 })) t
func_shifts_more s from t is =
    ap (λ (k : ℕ). shift_instrs moving.Func k (map_plain (shifted_plain s) t)) is
    ∙ map_twice (moved_plain moving.Func (s.funcs_from + s.funcs_by)) (shifted_plain s) (shifted_plain (record s { funcs_by = s.funcs_by + 1 }))
    (func_one_more s) t

pub global_shifts_more : (s : Shifts) (from : ℕ) (t : Instrs) → from ≡ s.globals_from + s.globals_by
    → shift_instrs moving.Global from (map_plain (shifted_plain s) t) ≡ map_plain (shifted_plain (record s { globals_by = s.globals_by + 1 })) t
global_shifts_more s from t is =
    ap (λ (k : ℕ). shift_instrs moving.Global k (map_plain (shifted_plain s) t)) is
    ∙ map_twice (moved_plain moving.Global (s.globals_from + s.globals_by)) (shifted_plain s)
    (shifted_plain (record s { globals_by = s.globals_by + 1 })) (global_one_more s) t

-- nothing of a stub moves
pub stub_stays : (kind : Kind) (from : ℕ) → moved_code kind from stub.instrs ≡ stub.instrs
stub_stays kinds.Func from = refl
stub_stays kinds.Table from = refl
stub_stays kinds.Memory from = refl
stub_stays kinds.Global from = refl
