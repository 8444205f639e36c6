use Rattle.std.proofs.Common.{◌≡◌, ◌+◌, ◌++◌, length, drop}
use Rattle.std.specs.List.{flat_map}
use Rattle.wk_module.specs.Writing.{section_and_customs, ids, encoded}
use Rattle.wk_list.specs.Headers.{headers_text}
use Rattle.wk_list.proofs.HeaderSteps.{later}
use Rattle.wk_list.proofs.TakenLemmas.{IsLeft}
use Rattle.wk_list.proofs.headers.list_headers.Given as goal

abbrev pub invariant-loop-id : goal.invariant-loop-id
invariant-loop-id g l = record {
  so_far : IsLeft g.W.Out.taken g.W.Out.failed l.fn.out l.out (l.fn.text.items ++ headers_text (g.S.Sketch.seen l.fn.sketch))
      (l.text.items ++ later (g.S.Sketch.seen l.fn.sketch) l.at l.id);
  place : l.at + length (flat_map (section_and_customs (g.S.Sketch.seen l.fn.sketch)) (drop l.id ids)) ≡ length (encoded (g.S.Sketch.seen l.fn.sketch));
}
