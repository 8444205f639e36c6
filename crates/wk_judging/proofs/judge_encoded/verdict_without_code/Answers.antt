use Rattle.std.proofs.Common.{arith}
use Rattle.wk_module.specs.Sections.{no_lists}
use Rattle.wk_module.proofs.CodesApart.{lists_few}
use Rattle.wk_judging.proofs.judge_encoded.verdict_without_code.Goals as goal

pub overflow_cast-result : goal.overflow_cast-result
overflow_cast-result c = omega (arith, lists_few c.args.profile no_lists c.requires.lists c.args.bytes.now c.requires.ends)
