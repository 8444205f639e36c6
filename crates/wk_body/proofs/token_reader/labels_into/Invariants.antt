use Rattle.std.proofs.Common.{◌-◌}
use Rattle.wk_bytes.specs.Span.{u32_at}
use Rattle.wk_body.specs.Vectors.{items_at}
use Rattle.wk_body.proofs.Labels.{LabelsLeft}
use Rattle.wk_body.proofs.token_reader.labels_into.Given as goal

abbrev pub invariant-loop : goal.invariant-loop
invariant-loop l = LabelsLeft l.labels.items (l.len - l.counter) l.fn.cursor l.cursor (items_at u32_at l.len l.fn.cursor.end l.fn.cursor.rest)
