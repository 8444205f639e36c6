use Rattle.std.proofs.Common.{Ok}
use Rattle.wk_session.specs.ToldLaws.{ReadsCode}
use Rattle.wk_edit.proofs.OutcomeLemmas.{ran_ok, ran_means, script_ok, script_means}
use Rattle.wk_edit.proofs.prepare.run_script.Goals as goal

pub returns-in-Err-clause-ok : goal.returns-in-Err-clause-ok
returns-in-Err-clause-ok c = λ m input opened read.
    script_ok c.args.keep_valid c.args.profile input c.args.script.now _ m c.in-Err.fault c.prepare_script_fault.ensures.ok
    c.prepare_script_fault.ensures.other read c.in-Err.ensures.exact

pub returns-in-Err-clause-means : goal.returns-in-Err-clause-means
returns-in-Err-clause-means c = λ m input opened read is.
    script_means c.args.keep_valid c.args.profile input c.args.script.now _ m c.in-Err.fault c.prepare_script_fault.ensures.other is
    read c.in-Err.ensures.exact c.in-Err.ensures.refused c.in-Err.ensures.fault

pub returns-in-Ok-clause-ok : goal.returns-in-Ok-clause-ok
returns-in-Ok-clause-ok c = λ m input opened read.
    ran_ok c.args.keep_valid c.args.profile input c.args.script.now c.run_edits.result m (Ok c.in-Ok.edits.items)
    (rw c.deref.ensures.value at (c.run_edits.ensures.ok m opened)) read c.in-Ok.ensures.exact

pub returns-in-Ok-clause-means : goal.returns-in-Ok-clause-means
returns-in-Ok-clause-means c = λ m input opened read is.
    let reads : ReadsCode = record {
      body = c.reading_of_code.ensures.body;
      expr = c.reading_of_code.ensures.all_expr;
      body_never = c.reading_of_code.ensures.never_memory_body;
      expr_never = c.reading_of_code.ensures.never_memory_expr;
    } in
    ran_means c.args.keep_valid c.args.profile input c.args.script.now reads c.meaning_of_verdicts.ensures c.run_edits.result m c.in-Ok.edits.items is read c.in-Ok.ensures.found
    c.in-Ok.ensures.only c.in-Ok.ensures.exact (returns-in-Ok-clause-ok c m input opened read)
