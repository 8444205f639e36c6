use Rattle.wk_ffi.proofs.Meaning.{list_refused, means_read}
use Rattle.wk_ffi.proofs.jobs.list_bytes.Goals as goal

pub returns-in-Err-clause-means : goal.returns-in-Err-clause-means
returns-in-Err-clause-means c =
    let e = c.in-Err.ensures in
    list_refused c.args.profile c.args.bytes.now _ c.in-Err.fault c.of_malformed.result e.exact e.refused e.fault c.of_malformed.ensures.other

pub returns-in_ok-text-in-Ok-clause-means : goal.returns-in_ok-text-in-Ok-clause-means
returns-in_ok-text-in-Ok-clause-means c = means_read c.args.profile c.args.bytes.now _ _ c.in-Ok.ensures.exact c.reading_of_module.ensures.is
