use Rattle.std.proofs.Common.{◌≡◌, List, IfOk, subst}
use Rattle.wk_module.specs.declared.types.GlobalType.{GlobalType}
use Rattle.wk_typing.specs.Constants.{constant_flaw}
use Rattle.wk_check.specs.Spaces.{answer_in, spaces_of, with_globals}
use Rattle.wk_check.proofs.rules.WholeRuleGlobalDef.flaw.Goals as goal

pub returns : goal.returns
returns c =
    let global = c.args.global.now in
    let spaces = spaces_of c.args.self.now in
    subst (λ (gs : List GlobalType). IfOk c.constant_flaw.result (λ w. w ≡ constant_flaw (answer_in (with_globals gs spaces)) global.ty.val global.init))
    c.imported_globals.ensures c.constant_flaw.ensures
