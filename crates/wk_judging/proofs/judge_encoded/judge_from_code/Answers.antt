use Rattle.std.proofs.Common.{Ok, Err}
use Rattle.std.proofs.lemmas.Result.{err_from_is_err_and}
use Rattle.wk_body.specs.ReadsLaws.{fails_on}
use Rattle.wk_judging.proofs.JudgedFront.{front_fails, front_reads, front_goes_on}
use Rattle.wk_judging.proofs.judge_encoded.judge_from_code.Goals as goal

pub fault_of_section-requires : goal.fault_of_section-requires
fault_of_section-requires c = record {
  spelled = λ known.
      let m = c.requires.spelled known in
      front_reads c.args.profile c.args.bytes.now c.reading_of_module.ensures.is c.reading_of_module.ensures.lists c.requires.front m.0 m.1;
}

pub returns-in_err-fault : goal.returns-in_err-fault
returns-in_err-fault c =
    let p = err_from_is_err_and c.from_residual.result c.from_residual.ensures.1 in
    let e = c.in_err-fault.field-0.0 in
    rw (p.1, p.2) (fails_on e e.kind _ _
    (front_fails c.args.profile c.args.bytes.now c.reading_of_module.ensures.is c.reading_of_module.ensures.lists c.requires.front e)
    c.in_err-fault.ensures.fault)

pub returns-in_err-judge_behind : goal.returns-in_err-judge_behind
returns-in_err-judge_behind c =
    let p = err_from_is_err_and c.from_residual-in_err-judge_behind.result c.from_residual-in_err-judge_behind.ensures.1 in
    rw (p.1, p.2) (front_goes_on c.args.profile c.args.bytes.now c.reading_of_module.ensures.is c.reading_of_module.ensures.lists c.requires.front
    c.in_ok-fault.fault _ (Err c.in_err-judge_behind.field-0.0) c.in_ok-fault.ensures.fault c.in_ok-fault.ensures.context
    c.in_err-judge_behind.ensures)

pub returns : goal.returns
returns c =
    rw c.verdict_of.ensures (front_goes_on c.args.profile c.args.bytes.now c.reading_of_module.ensures.is c.reading_of_module.ensures.lists
    c.requires.front c.in_ok-fault.fault _ (Ok c.in_ok-judge_behind.field-0) c.in_ok-fault.ensures.fault c.in_ok-fault.ensures.context
    c.in_ok-judge_behind.ensures)
