use Rattle.std.proofs.Common.{arith}
use Rattle.wk_body.proofs.Labels.{items_length}
use Rattle.wk_body.proofs.TokenSteps.{table_is}
use Rattle.wk_body.proofs.token_reader.TokenReader.table.Goals as goal

pub returns-clause-read : goal.returns-clause-read
returns-clause-read c = λ profile e.
    table_is profile e c.args.cursor.now c.u32.new.self c.labels_into.new.cursor c.u32-2.new.self c.labels_into.new.labels.items c.in_ok-len.len
    c.in_ok-other.other
    c.in_ok-len.ensures.exact c.in_ok-labels_into.ensures c.in_ok-other.ensures.exact

pub returns-clause-within : goal.returns-clause-within
returns-clause-within c =
    omega (
      arith,
      items_length c.in_ok-len.len c.u32.new.self.end c.u32.new.self.rest
          (c.labels_into.new.labels.items, c.labels_into.new.cursor.rest) c.in_ok-labels_into.ensures.0,
    )
