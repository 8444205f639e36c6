use Rattle.wk_body.specs.declared.renumber.Moving.TheVariants.{Global}
use Rattle.wk_body.proofs.MovedTrees.{answer_of}
use Rattle.wk_body.proofs.renumber.shift_expr.Goals as goal

pub returns-clause-profile : goal.returns-clause-profile
returns-clause-profile c = answer_of Global c.args.from c.args.expr.now c.moved_expr.result c.moved_expr.ensures
