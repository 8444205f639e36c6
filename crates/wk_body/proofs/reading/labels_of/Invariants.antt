use Rattle.std.proofs.Common.{◌-◌}
use Rattle.wk_bytes.specs.Span.{u32_at}
use Rattle.wk_body.specs.Vectors.{items_at}
use Rattle.wk_body.proofs.Labels.{InLabels}
use Rattle.wk_body.proofs.reading.labels_of.Given as goal

abbrev pub invariant-loop : goal.invariant-loop
invariant-loop l = InLabels l.fn.scratch l.scratch (l.count - l.counter) l.fn.cursor l.cursor (items_at u32_at l.count l.fn.cursor.end l.fn.cursor.rest)
