use Rattle.std.proofs.Common.{◌<◌, ◌≤◌, ℕ, List, length, get_or, Err, refl, sym, ap, subst, ◌∙◌}
use Rattle.std.proofs.lemmas.Result.{err_from_is_err_and}
use Rattle.wk_bytes.specs.declared.fault.ReadFault.{ReadFault}
use Rattle.wk_body.specs.ReadsLaws.{fails_on}
use Rattle.wk_module.proofs.CodesApart.{code_not_taken}
use Rattle.wk_judging.proofs.JudgedCodes.{section_begins, code_step, section_stops, code_stops, section_judged, section_goes_on, fault_stays}
use Rattle.wk_judging.proofs.judge_encoded.fault_of_codes.Goals as goal

pub loop-index-init : goal.loop-index-init
loop-index-init c = record {
  end = refl;
  reads = section_begins c.args.profile c.args.context.now c.args.known c.args.codes.now;
}

pub returns-then-is_some : goal.returns-then-is_some
returns-then-is_some c =
    let l = c.loop-index in
    let found = c.requires.spelled c.if-is_spelled.true in
    fault_stays c.args.profile c.args.context.now c.args.known c.args.codes.now l.fault l.index l.codes.end l.codes.rest l.invariant.reads found.0
    (sym c.is_some.ensures ∙ c.if-is_some.true) found.1

pub returns-in_err-next_code : goal.returns-in_err-next_code
returns-in_err-next_code c =
    let p = err_from_is_err_and c.from_residual.result c.from_residual.ensures.1 in
    let e = c.in_err-next_code.field-0.0 in
    let l = c.loop-index in
    let inside = subst (λ (xs : List ℕ). l.index < length xs) c.funcs-ty-items.ensures c.loop-index-test.true in
    rw (p.1, p.2) (fails_on e e.kind _ _
    (λ bad. section_stops c.args.profile c.args.context.now c.args.known c.args.codes.now l.fault l.index l.codes.end l.codes.rest l.invariant.reads
    e inside (code_not_taken c.args.profile l.codes.end l.codes.rest e bad)) c.in_err-next_code.ensures.fault)

pub returns-in_err-fault : goal.returns-in_err-fault
returns-in_err-fault c =
    let p = err_from_is_err_and c.from_residual-in_err-fault.result c.from_residual-in_err-fault.ensures.1 in
    let e = c.in_err-fault.field-0.0 in
    let l = c.loop-index in
    let inside = subst (λ (xs : List ℕ). l.index < length xs) c.funcs-ty-items.ensures c.loop-index-test.true in
    rw (p.1, p.2) (fails_on e e.kind _ _
    (code_stops c.args.profile c.args.context.now c.args.known c.args.codes.now l.fault l.index l.codes.end l.codes.rest l.invariant.reads e
    (get_or c.funcs-ty-items.result.now l.index 0) _ c.in_ok-next_code.field-0 inside c.in_ok-next_code.ensures.exact c.in_ok-next_code.ensures.place)
    c.in_err-fault.ensures)

pub returns-in_err-end : goal.returns-in_err-end
returns-in_err-end c =
    let p = err_from_is_err_and c.from_residual-in_err-end.result c.from_residual-in_err-end.ensures.1 in
    let l = c.loop-index in
    let past = subst (λ (xs : List ℕ). length xs ≤ l.index) c.funcs-ty-items.ensures c.loop-index-test.false in
    rw (p.1, p.2, c.in_err-end.ensures.exact.0)
    (section_goes_on c.args.profile c.args.context.now c.args.known c.args.codes.now l.fault l.index l.codes.end l.codes.rest l.invariant.reads past
    c.in_err-end.ensures.exact.1 l.invariant.end ∙ ap (λ (e : ReadFault). Err e) (sym c.in_err-end.ensures.exact.0))

pub loop-index-preserved : goal.loop-index-preserved
loop-index-preserved c =
    let l = c.loop-index in
    let taken = c.in_ok-next_code.ensures in
    let inside = subst (λ (xs : List ℕ). l.index < length xs) c.funcs-ty-items.ensures c.loop-index-test.true in
    record {
      end = taken.end ∙ l.invariant.end;
      reads = code_step c.args.profile c.args.context.now c.args.known c.args.codes.now l.fault l.index l.codes.end l.codes.rest l.invariant.reads
          c.in_ok-fault.fault _ _ _ c.in_ok-next_code.field-0 inside (ap (λ (xs : List ℕ). get_or xs l.index 0) c.funcs-ty-items.ensures)
          taken.exact taken.place taken.end c.in_ok-fault.ensures;
    }

pub returns : goal.returns
returns c =
    let l = c.loop-index in
    let past = subst (λ (xs : List ℕ). length xs ≤ l.index) c.funcs-ty-items.ensures c.loop-index-test.false in
    section_judged c.args.profile c.args.context.now c.args.known c.args.codes.now l.fault l.index l.codes.end l.codes.rest l.invariant.reads past
    c.in_ok-end.ensures.exact
