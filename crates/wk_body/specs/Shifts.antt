-- References that stand elsewhere, since imports came in front of what a module defines.
use Rattle.std.specs.Prelude.{ℕ, ◌+◌, nat_le, if◌then◌else◌}
use Rattle.wk_body.specs.declared.shifts.Shifts.{Shifts}
use Rattle.wk_body.specs.Instructions.{Plain, Call, GlobalGet, GlobalSet}
use Rattle.wk_body.specs.References.{map_plain}
use Rattle.wk_body.specs.Bodies.{BodyOf}

-- an index, where so many came in front of the index `from`
abbrev pub shifted : ℕ → ℕ → ℕ → ℕ
shifted from by x = if nat_le from x then x + by else x

abbrev pub shifted_plain : Shifts → Plain → Plain
shifted_plain s (Call x) = Call (shifted s.funcs_from s.funcs_by x)
shifted_plain s (GlobalGet x) = GlobalGet (shifted s.globals_from s.globals_by x)
shifted_plain s (GlobalSet x) = GlobalSet (shifted s.globals_from s.globals_by x)
shifted_plain s p = p

-- a body with its references where they stand then
abbrev pub shifted_body : Shifts → BodyOf → BodyOf
shifted_body s b = record { groups = b.groups; instrs = map_plain (shifted_plain s) b.instrs }
