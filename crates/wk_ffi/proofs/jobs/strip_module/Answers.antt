use Rattle.wk_ffi.proofs.Meaning.{means_refused}
use Rattle.wk_ffi.proofs.jobs.strip_module.Goals as goal

pub returns-in-Err-clause-means : goal.returns-in-Err-clause-means
returns-in-Err-clause-means c =
    let e = rw c.in_ok-bytes.ensures.items at c.in-Err.ensures in
    means_refused c.args.profile _ c.args.bytes.now _ c.in-Err.fault c.of_malformed.result e.exact e.refused e.fault c.of_malformed.ensures.other
