use Rattle.std.proofs.Common.{◌≡◌, drop}
use Rattle.std.specs.List.{flat_map}
use Rattle.wk_list.specs.Listing.{listing}
use Rattle.wk_list.specs.Taken.{Leaves}
use Rattle.wk_answers.proofs.dumping.list_summary_parts.Given as goal

abbrev pub invariant-loop-part : goal.invariant-loop-part
invariant-loop-part g l = record {
  so_far : Leaves (g.X.Out.taken l.fn.out) (g.X.Out.taken l.out) (flat_map (listing l.summary) l.parts)
      (flat_map (listing l.summary) (drop l.part-index l.parts));
  failures : g.X.Out.failed l.out ≡ g.X.Out.failed l.fn.out;
}
