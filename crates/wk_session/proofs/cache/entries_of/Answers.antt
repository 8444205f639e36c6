use Rattle.std.proofs.Common.{map, ap, sym, subst, ◌∙◌}
use Rattle.std.proofs.lemmas.Result.{IfOk-weaker}
use Rattle.wk_module.specs.Sections.{SectionLists}
use Rattle.wk_check.specs.Spaces.{answer_in, spaces_of}
use Rattle.wk_check.specs.Verdict.{func_verdict}
use Rattle.wk_session.specs.Known.{AreKnown}
use Rattle.wk_session.proofs.cache.entries_of.Goals as goal

pub entries_in-requires-clause-told : goal.entries_in-requires-clause-told
entries_in-requires-clause-told c =
    subst (λ (l : SectionLists). AreKnown c.args.known.now (answer_in (spaces_of l)) c.args.funcs.now) (sym c.in_ok-whole.ensures) c.requires.told

pub returns-clause-verdicts : goal.returns-clause-verdicts
returns-clause-verdicts c =
    let is = ap (λ (l : SectionLists). map (func_verdict (answer_in (spaces_of l))) c.args.funcs.now) c.in_ok-whole.ensures in
    IfOk-weaker c.entries_in.result _ _ (λ v h. h ∙ is) c.entries_in.ensures.verdicts
