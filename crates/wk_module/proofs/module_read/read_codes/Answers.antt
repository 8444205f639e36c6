use Rattle.std.proofs.lemmas.Result.{err_from_is_err_and}
use Rattle.wk_bytes.specs.Raw.{raw_view}
use Rattle.wk_module.specs.Formats.{all_at}
use Rattle.wk_module.specs.Items.{code_at}
use Rattle.wk_module.specs.Reading.{section_end}
use Rattle.wk_module.specs.Sections.{codes_at}
use Rattle.wk_body.specs.ReadsLaws.{fails_on}
use Rattle.wk_module.proofs.VectorReading.{stops_all, all_fails}
use Rattle.wk_module.proofs.module_read.read_codes.Goals as goal

pub returns-in_err-next : goal.returns-in_err-next
returns-in_err-next c =
    let p = err_from_is_err_and c.from_residual-in_err-next.result c.from_residual-in_err-next.ensures.1 in
    let e = c.in_err-next.field-0.0 in
    let read = code_at c.args.profile in
    let codes = codes_at c.args.profile c.args.funcs in
    let before = c.loop.codes in
    let end = section_end (raw_view c.args.section.now) in
    let bytes = c.args.section.now.contents.now in
    let stop = stops_all read c.loop.bodies c.args.funcs c.loop.counter before.end before.rest e (codes end bytes) c.loop-test.true c.loop.invariant.reads in
    rw (p.1, p.2) (fails_on e e.kind (read before.end before.rest) (all_at codes end bytes)
    (λ bad. all_fails codes end bytes e (stop bad)) c.in_err-next.ensures.read)
