use Rattle.std.proofs.Common.{List, length, ap, refl, subst, sym, ◌∙◌, arith}
use Rattle.wk_module.specs.Changes.{with_body}
use Rattle.wk_typing.specs.declared.fault.BodyVerdict.{BodyVerdict}
use Rattle.wk_session.specs.Functions.{AreVerdicts}
use Rattle.wk_session.specs.declared.cache.Cache.{Cache}
use Rattle.wk_session.proofs.BodyEdits.{body_kept, body_leads, given_set, other_at}
use Rattle.wk_session.proofs.Keeping.{refs_count, verdicts_count}
use Rattle.wk_session.proofs.edits.body.put_at.Goals as goal

pub index_mut-requires : goal.index_mut-requires
index_mut-requires c =
    let same = ap (λ (x : Cache). length x.refs.items) c.keep_entry.ensures in
    omega (arith, c.requires.within, same, refs_count c.args.parts.now c.args.kept.now c.requires.kept)

pub put_verdicts-requires : goal.put_verdicts-requires
put_verdicts-requires c =
    let same = ap (λ (x : Cache). length x.verdicts.items) c.keep_entry.ensures in
    omega (arith, c.requires.within, same, verdicts_count c.args.parts.now c.args.kept.now c.requires.kept)

pub returns : goal.returns
returns c =
    λ x is.
    let m = c.args.parts.now in
    let t = c.type_at-ty.result in
    let b = c.in_ok-body.body in
    let n = with_body c.args.entry b m in
    let k = c.args.kept.now in
    let p = c.in_ok-planned.planned in
    let plan = c.in_ok-planned.ensures.planned in
    let put = c.keep_entry.ensures in
    let refs = other_at _ _ c.args.entry _ _ (ap (λ (x : Cache). x.refs.items) put) c.replace-unused.ensures.after in
    let codes = other_at _ _ c.args.entry _ _ (ap (λ (x : Cache). x.pieces.codes.items) put) refl in
    let same = ap (λ (x : Cache). x.verdicts.items) put in
    let verdicts = c.put_verdicts.ensures t b n m.funcs (given_set c.args.entry b m.funcs t c.type_at-ty.ensures)
    (subst (λ (vs : List BodyVerdict). AreVerdicts t b n m.funcs vs p.verdicts) (sym same) plan.verdicts) in
    let kept = body_kept c.args.keep c.args.entry t b m p k _ c.type_at-ty.ensures plan c.requires.kept
    (ap (λ (x : Cache). x.verdict) put) (ap (λ (x : Cache). x.len) put) (ap (λ (x : Cache). x.types) put) verdicts refs
    (ap (λ (x : Cache). x.pieces.sections.items) put) codes (ap (λ (x : Cache). x.pieces.codes_len) put) (ap (λ (x : Cache). x.pieces.customs_len) put) in
    body_leads c.args.keep c.args.entry t b m p k _ x c.args.code.now c.set-before.new.self c.typed.result p.encoded p.sections is
    c.in_ok-body.ensures.ok c.type_at-ty.ensures c.set-before.ensures.new plan kept
    (c.typed.ensures ∙ c.in_ok-planned.ensures.typed) refl refl
