use Rattle.std.proofs.lemmas.Result.{err_from_is_err_and}
use Rattle.wk_bytes.specs.Raw.{raw_view}
use Rattle.wk_body.specs.ReadsLaws.{fails_on}
use Rattle.wk_module.specs.Formats.{all_at}
use Rattle.wk_module.specs.OutlineReading.{code_aside_at, codes_aside_at}
use Rattle.wk_module.specs.Reading.{section_end}
use Rattle.wk_module.proofs.Outlining.{not_opened}
use Rattle.wk_module.proofs.VectorReading.{stops_all, all_fails}
use Rattle.wk_module.proofs.outline.read_codes.Goals as goal

pub returns-in_err-codes : goal.returns-in_err-codes
returns-in_err-codes g c =
    let p = err_from_is_err_and c.from_residual.result c.from_residual.ensures.1 in
    rw (p.1, p.2) (not_opened g.K.Keep.kept c.args.profile c.args.funcs
    (section_end (raw_view c.args.section.now)) c.args.section.now.contents.now c.in_err-codes.field-0.0 (c.in_err-codes.ensures.read c.args.profile))

pub returns-in_err-code : goal.returns-in_err-code
returns-in_err-code g c =
    let p = err_from_is_err_and c.from_residual-in_err-code.result c.from_residual-in_err-code.ensures.1 in
    let e = c.in_err-code.field-0.0 in
    let read = code_aside_at g.K.Keep.kept c.args.profile in
    let codes = codes_aside_at g.K.Keep.kept c.args.profile c.args.funcs in
    let before = c.loop.codes in
    let end = section_end (raw_view c.args.section.now) in
    let bytes = c.args.section.now.contents.now in
    let stop = stops_all read c.loop.kept.items c.args.funcs c.loop.counter before.end before.rest e
    (codes end bytes) c.loop-test.true c.loop.invariant.reads in
    rw (p.1, p.2) (fails_on e e.kind (read before.end before.rest) (all_at codes end bytes)
    (λ bad. all_fails codes end bytes e (stop bad)) c.in_err-code.ensures)
