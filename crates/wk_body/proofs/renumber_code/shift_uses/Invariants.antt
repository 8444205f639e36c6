use Rattle.std.proofs.Common.{◌≡◌, ◌++◌, map, false}
use Rattle.wk_body.specs.Moved.{moved_ref}
use Rattle.wk_body.specs.References.{any_stuck, AreRising, AreSame}
use Rattle.wk_body.proofs.renumber_code.shift_uses.Given as goal

abbrev pub invariant-loop-reference : goal.invariant-loop-reference
invariant-loop-reference l = record {
  rising : AreRising l.found.keys;
  same : AreSame (l.found.keys ++ map (moved_ref l.kind l.from) l.reference-iterator) (map (moved_ref l.kind l.from) l.uses.keys);
  free : any_stuck l.kind l.from l.reference-iterator ≡ false;
}
