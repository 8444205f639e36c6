use Rattle.std.proofs.Common.{◌≡◌, ℕ, ◌-◌, List, length, drop, take, sym, subst, arith}
use Rattle.std.proofs.Math.Path.{fun_ext}
use Rattle.std.proofs.lemmas.List.{take_all, length-drop}
use Rattle.wk_body.specs.declared.types.LocalGroup.{LocalGroup}
use Rattle.wk_body.specs.Bodies.{AreGroups}
use Rattle.wk_typing.proofs.LocalEnds.{groups_behind}
use Rattle.wk_typing.proofs.locals.Locals.of.Goals as goal

-- the groups that are lent
lent : (groups : List LocalGroup) (n : ℕ) → take (length groups - n) (drop n groups) ≡ drop n groups
lent groups n = take_all (length groups - n) (drop n groups) (omega (arith, length-drop n groups))

pub put_ends-requires-2 : goal.put_ends-requires-2
put_ends-requires-2 c =
    subst AreGroups (sym (lent c.args.groups.now c.put-written.result)) (groups_behind c.args.groups.now c.put-written.result c.requires)

pub returns : goal.returns
returns c =
    rw (lent c.args.groups.now c.put-written.result, c.as_slice.ensures) (fun_ext c.put-written.ensures.written)
