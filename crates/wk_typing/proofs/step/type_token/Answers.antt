use Rattle.std.proofs.Common.{◌≡◌, ◌+◌, ◌-◌, arith}
use Rattle.wk_typing.proofs.step.type_token.Goals as goal

pub returns-in-BrTable : goal.returns-in-BrTable
returns-in-BrTable g c =
    let len : c.in-BrTable.start + c.in-BrTable.len - c.in-BrTable.start ≡ c.in-BrTable.len = omega arith in
    rw c.in-BrTable.is (rw len at c.branch_table.ensures)
