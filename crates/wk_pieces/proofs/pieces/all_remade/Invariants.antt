use Rattle.std.proofs.Common.{◌≡◌, ◌≤◌, map, take}
use Rattle.wk_module.specs.Listed.{listed}
use Rattle.wk_module.specs.Sections.{of_number}
use Rattle.wk_module.specs.Writing.{contents_by, ids}
use Rattle.wk_pieces.proofs.pieces.all_remade.Given as goal

abbrev pub invariant-loop-id : goal.invariant-loop-id
invariant-loop-id l = record {
  sections : l.sections.items ≡ map (λ id. contents_by (listed l.lists) (of_number id)) (take l.id ids);
  made : l.made ≤ l.id;
}
