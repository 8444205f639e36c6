use Rattle.std.proofs.Common.{◌<◌, ◌^◌, List, [], ◌∷◌, ◌++◌, ap, refl, subst, sym, ◌∙◌, arith}
use Rattle.wk_module.specs.Changes.{with_func}
use Rattle.wk_check.specs.SpacesLaws.{answers_of}
use Rattle.wk_session.specs.declared.cache.Cache.{Cache}
use Rattle.wk_typing.specs.declared.fault.BodyVerdict.{BodyVerdict}
use Rattle.wk_session.specs.Functions.{AreVerdicts, IsPlanned}
use Rattle.wk_session.specs.Dependents.{is_retyped_in}
use Rattle.wk_session.proofs.EntryEdits.{few_typed, func_kept, func_leads, one_more}
use Rattle.wk_session.proofs.edits.function.add_func.Goals as goal

pub overflow_cast-result : goal.overflow_cast-result
overflow_cast-result c =
    let m = c.args.parts.now in
    let few : c.typed.result < 2 ^ 32 = few_typed m c.args.kept.now
    (is_retyped_in (answers_of m) (answers_of (with_func c.args.ty c.in_ok-body.body m))) c.typed.result c.requires.kept
    (c.typed.ensures ∙ c.in_ok-entry.ensures.typed) in
    omega (arith, few)

pub returns : goal.returns
returns c =
    let m = c.args.parts.now in
    let t = c.args.ty in
    let b = c.in_ok-body.body in
    let n = with_func t b m in
    let k = c.args.kept.now in
    let p = c.in_ok-entry.entry in
    let plan = subst (λ (vs : List BodyVerdict). IsPlanned c.args.keep t b n m.funcs vs 1 p) c.reserve_verdict.ensures.same c.in_ok-entry.ensures.planned in
    let pushed = c.in_ok-entry.ensures.rest in
    let put = c.keep_entry.ensures in
    let room = c.reserve_verdict.ensures.rest in
    let refs = one_more _ _ _ _ _ c.push_reserved.ensures.items
    (ap (λ (x : Cache). x.refs.items) put ∙ ap (λ (x : Cache). x.refs.items) pushed ∙ c.reserve.ensures.items ∙ ap (λ (x : Cache). x.refs.items) room) refl in
    let codes = one_more _ _ _ _ _ c.push_reserved-2.ensures.items
    (ap (λ (x : Cache). x.pieces.codes.items) put ∙ ap (λ (x : Cache). x.pieces.codes.items) pushed ∙ c.reserve-2.ensures.items
    ∙ ap (λ (x : Cache). x.pieces.codes.items) room) refl in
    let same = ap (λ (x : Cache). x.verdicts.items) put ∙ ap (λ (x : Cache). x.verdicts.items) pushed ∙ c.reserve_verdict.ensures.same in
    let verdicts = c.put_verdicts.ensures t b n m.funcs refl
    (subst (λ (vs : List BodyVerdict). AreVerdicts t b n m.funcs vs p.verdicts) (sym same) plan.verdicts) in
    let kept = func_kept c.args.keep t b m p k _ plan c.requires.kept
    (ap (λ (x : Cache). x.verdict) put) (ap (λ (x : Cache). x.len) put)
    (ap (λ (x : Cache). x.types.items) put ∙ c.in_ok-entry.ensures.types ∙ ap (λ (x : Cache). x.types.items ++ t ∷ []) room) verdicts refs
    (ap (λ (x : Cache). x.pieces.sections.items) put ∙ c.in_ok-entry.ensures.sections) codes
    (ap (λ (x : Cache). x.pieces.codes_len) put)
    (ap (λ (x : Cache). x.pieces.customs_len) put ∙ ap (λ (x : Cache). x.pieces.customs_len) pushed ∙ ap (λ (x : Cache). x.pieces.customs_len) room) in
    func_leads c.args.keep t b m p k _ c.args.code.now c.push_func.new.parts c.typed.result p.encoded p.sections c.in_ok-body.ensures.ok
    c.in_ok-entry.ensures.pushed plan kept
    (c.typed.ensures ∙ c.in_ok-entry.ensures.typed) refl refl
