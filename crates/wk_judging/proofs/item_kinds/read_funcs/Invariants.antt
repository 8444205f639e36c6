use Rattle.std.proofs.Common.{◌≡◌, ◌-◌, ◌++◌, length}
use Rattle.wk_bytes.specs.Span.{u32_at}
use Rattle.wk_body.specs.Vectors.{items_at, vector_at}
use Rattle.wk_module.specs.Formats.{made_at}
use Rattle.wk_check.specs.Items.{all_within}
use Rattle.wk_judging.proofs.ReadIndices.{rest_within}
use Rattle.wk_judging.proofs.item_kinds.read_funcs.Given as goal

abbrev pub invariant-loop : goal.invariant-loop
invariant-loop l = record {
  end : l.cursor.end ≡ l.fn.cursor.end;
  reads : rest_within (length (l.context.imported_funcs ++ l.context.funcs)) l.are_there
      (items_at u32_at (l.count - l.counter) l.cursor.end l.cursor.rest)
      ≡ made_at (all_within (length (l.context.imported_funcs ++ l.context.funcs))) (vector_at u32_at) l.fn.cursor.end l.fn.cursor.rest;
}
