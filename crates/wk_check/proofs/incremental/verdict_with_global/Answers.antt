use Rattle.std.proofs.Common.{◌∙◌, List, length, sym, ap}
use Rattle.wk_module.specs.declared.types.GlobalType.{GlobalType}
use Rattle.wk_module.specs.Sections.{SectionLists}
use Rattle.wk_typing.specs.Constants.{constant_flaw}
use Rattle.wk_check.specs.Spaces.{answer_in, initial_spaces, spaces_of, with_globals}
use Rattle.wk_check.proofs.ValidGrowth.{valid_with_global, told_at}
use Rattle.wk_check.proofs.incremental.verdict_with_global.Goals as goal

pub returns : goal.returns
returns c = λ m lists valid.
    let whole = c.in_ok-whole.whole in
    let flaw = c.in_ok-flaw.ensures
    ∙ ap (λ (gs : List GlobalType). constant_flaw (answer_in (with_globals gs (spaces_of whole))) c.args.ty.val c.args.init.now) c.imported_globals.ensures
    ∙ ap (λ (l : SectionLists). constant_flaw (answer_in (initial_spaces l)) c.args.ty.val c.args.init.now) (c.in_ok-whole.ensures ∙ lists) in
    c.verdict_by_flaw.ensures
    ∙ told_at 6 _ _ _ _ flaw (ap (λ (l : SectionLists). length l.globals) lists)
    ∙ sym (valid_with_global m c.args.ty c.args.init.now valid)
