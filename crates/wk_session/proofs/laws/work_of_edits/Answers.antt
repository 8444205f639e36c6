use Rattle.wk_session.specs.DependentsLaws.{retyped_meets, reencoded_moves, left_moves, held_moves}
use Rattle.wk_session.proofs.laws.work_of_edits.Goals as goal

pub returns : goal.returns
returns c = record { typed = retyped_meets; encoded = reencoded_moves; left = left_moves; held = held_moves }
