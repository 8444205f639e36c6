use Rattle.std.proofs.Common.{arith}
use Rattle.wk_module.proofs.VectorReading.{read_few}
use Rattle.wk_module.specs.Reading.{at_start}
use Rattle.wk_module.proofs.module_read.read_parts.Goals as goal

pub overflow_cast-bytes : goal.overflow_cast-bytes
overflow_cast-bytes c = omega (arith, read_few c.args.profile at_start c.in_ok-so_far.so_far c.args.bytes.now c.in_ok-so_far.ensures)
