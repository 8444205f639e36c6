use Rattle.std.proofs.Common.{refl, []}
use Rattle.wk_body.specs.Tree.{Finish}
use Rattle.wk_body.proofs.scratch.Scratch.clear.Goals as goal

pub returns-clause-good : goal.returns-clause-good
returns-clause-good c = record {
  frames = [];
  current = Finish;
  built =
      record { written = rw c.clear.ensures.items refl; places = c.clear-3.ensures.items; within = rw c.clear.ensures.items tt };
}
