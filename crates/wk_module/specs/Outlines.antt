-- A module of which each body stands aside.
use Rattle.std.specs.Prelude.{[], map}
use Rattle.wk_body.specs.Bodies.{BodyOf}
use Rattle.wk_body.specs.Instructions.{Unreachable}
use Rattle.wk_body.specs.Tree.{Finish, One}
use Rattle.wk_module.specs.declared.types.Func.{Func}
use Rattle.wk_module.specs.declared.types.Parts.{Parts}

-- what stands in the place of a body: it refers to nothing, and is valid under each type that is there
abbrev pub stub : BodyOf
stub = record { groups = []; instrs = One Unreachable Finish }

abbrev pub outlined_func : Func → Func
outlined_func f = record f { body = stub }

abbrev pub outlined : Parts → Parts
outlined m = record m { funcs = map outlined_func m.funcs }
