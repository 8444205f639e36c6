use Rattle.std.proofs.Common.{refl, arith}
use Rattle.std.proofs.lemmas.List.{take_all}
use Rattle.wk_bytes.specs.TakenLaws.{Appends-then}
use Rattle.wk_pieces.proofs.Putting.{code_few, code_more, code_split, takes_first, takes_later}
use Rattle.wk_pieces.proofs.written.put_codes.Goals as goal

pub put_bytes-requires-clause-few : goal.put_bytes-requires-clause-few
put_bytes-requires-clause-few g c = code_few c.args.codes.now c.loop-i.i c.at.result.now c.at.ensures c.requires.few

pub returns-in_err-put_bytes-clause-taken : goal.returns-in_err-put_bytes-clause-taken
returns-in_err-put_bytes-clause-taken g c =
    let later = takes_first _ _ _ _ _ _ _ c.from_residual.ensures c.in_err-put_bytes.ensures.taken refl in
    takes_later _ _ _ _ _ _ _ c.loop-i.invariant.taken later (code_split c.args.codes.now c.loop-i.i c.at.result.now c.at.ensures)

pub loop-i-preserved : goal.loop-i-preserved
loop-i-preserved g c =
    let more = code_more c.args.codes.now c.loop-i.i c.at.result.now c.at.ensures in
    record {
      taken = rw more (Appends-then _ _ _ _ _ c.loop-i.invariant.taken c.in_ok-put_bytes.ensures.taken);
      failures = rw c.in_ok-put_bytes.ensures.failures c.loop-i.invariant.failures;
    }

pub returns-clause-taken : goal.returns-clause-taken
returns-clause-taken g c = rw (take_all c.loop-i.i c.args.codes.now (omega arith)) at c.loop-i.invariant.taken
