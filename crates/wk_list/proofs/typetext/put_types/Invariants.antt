use Rattle.std.proofs.Common.{◌≡◌, ◌++◌, take}
use Rattle.std.specs.Prelude.{codes}
use Rattle.std.specs.List.{flat_map}
use Rattle.wk_list.specs.Text.{valtype_name}
use Rattle.wk_list.proofs.typetext.put_types.Given as goal

abbrev pub invariant-loop-ty : goal.invariant-loop-ty
invariant-loop-ty l = l.text.items ≡ l.initial.text.items ++ flat_map (λ ty. codes "," ++ valtype_name ty) (take l.ty-index l.others)
