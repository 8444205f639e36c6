use Rattle.std.proofs.Common.{List, map, set, ap, subst, sym, ◌∙◌}
use Rattle.std.proofs.lemmas.List.{map-set}
use Rattle.wk_typing.specs.declared.fault.BodyVerdict.{BodyVerdict}
use Rattle.wk_check.specs.SpacesLaws.{answers_of}
use Rattle.wk_check.specs.Verdict.{func_verdict}
use Rattle.wk_session.specs.declared.edits.code_entry.Verdicts.{Verdicts}
use Rattle.wk_session.specs.Functions.{AreVerdicts}
use Rattle.wk_session.proofs.edits.body.put_verdicts.Goals as goal

pub returns-in-Own : goal.returns-in-Own
returns-in-Own c =
    λ t b n fs same are.
    let told = func_verdict (answers_of n) in
    let own = subst (λ (v : Verdicts). AreVerdicts t b n fs c.args.kept.now.items v) c.in-Own.is are in
    ap (λ (vs : List BodyVerdict). set vs c.args.entry c.in-Own.own) own.1
    ∙ ap (λ (v : BodyVerdict). set (map told fs) c.args.entry v) own.0
    ∙ sym (map-set told fs c.args.entry (record { ty = t; body = b }))
    ∙ ap (map told) (sym same)
