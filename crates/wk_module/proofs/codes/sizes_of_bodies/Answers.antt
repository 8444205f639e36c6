use Rattle.std.proofs.Common.{sym, ◌∙◌}
use Rattle.wk_module.proofs.Lengths.{past_by_body}
use Rattle.wk_module.proofs.codes.sizes_of_bodies.Goals as goal

pub returns-in_default-clause-too_large : goal.returns-in_default-clause-too_large
returns-in_default-clause-too_large c = λ _. past_by_body c.args.funcs.now c.loop-func.func-index c.func-item.result c.loop-func-test.true
    c.func-item.is (sym c.in_default.is ∙ c.body_len.ensures)
