use Rattle.std.proofs.Common.{◌∙◌, arith}
use Rattle.wk_module.specs.declared.types.ImportDesc.TheVariants as desc
use Rattle.wk_list.proofs.Counting.{counted_on}
use Rattle.wk_list.proofs.spaces.Counts.take.Goals as goal

pub returns-in-Func-clause-counted : goal.returns-in-Func-clause-counted
returns-in-Func-clause-counted c = λ before import same counted.
    counted_on _ _ before import (desc.Func c.in-Func.field-0) (same ∙ c.in-Func.is) counted c.count_one.ensures.counted (omega arith) (omega arith)
    (omega arith)

pub returns-in-Table-clause-counted : goal.returns-in-Table-clause-counted
returns-in-Table-clause-counted c = λ before import same counted.
    counted_on _ _ before import (desc.Table c.in-Table.field-0) (same ∙ c.in-Table.is) counted (omega arith) c.count_one-in-Table.ensures.counted
    (omega arith) (omega arith)

pub returns-in-Memory-clause-counted : goal.returns-in-Memory-clause-counted
returns-in-Memory-clause-counted c = λ before import same counted.
    counted_on _ _ before import (desc.Memory c.in-Memory.field-0) (same ∙ c.in-Memory.is) counted (omega arith) (omega arith)
    c.count_one-in-Memory.ensures.counted (omega arith)

pub returns-in-Global-clause-counted : goal.returns-in-Global-clause-counted
returns-in-Global-clause-counted c = λ before import same counted.
    counted_on _ _ before import (desc.Global c.in-Global.field-0) (same ∙ c.in-Global.is) counted (omega arith) (omega arith) (omega arith)
    c.count_one-in-Global.ensures.counted
