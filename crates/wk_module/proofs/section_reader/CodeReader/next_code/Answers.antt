use Rattle.std.proofs.Common.{◌∙◌}
use Rattle.std.proofs.lemmas.Result.{err_from_is_err_and}
use Rattle.wk_module.proofs.Standing.{behind_size}
use Rattle.wk_module.proofs.section_reader.CodeReader.next_code.Goals as goal

pub returns-in_err-code-clause-stands : goal.returns-in_err-code-clause-stands
returns-in_err-code-clause-stands c =
    let p = err_from_is_err_and c.from_residual-in_err-code.result c.from_residual-in_err-code.ensures.1 in
    rw (p.1, p.2) (behind_size c.args.self.now c.ahead-cursor.result c.u32.new.self c.in_ok-size.size _
    (c.ahead-cursor.ensures.same ∙ c.self.view_is) c.in_ok-size.ensures.exact
    (rw (← c.self.view_is) c.ahead-cursor.ensures.fits) c.in_err-code.ensures.short)
