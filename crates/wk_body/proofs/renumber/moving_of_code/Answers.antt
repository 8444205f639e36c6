use Rattle.wk_body.proofs.MovedTrees.{shift_shaped, moved_of}
use Rattle.wk_body.proofs.Unmoved.{stay_unmoved, move_alike}
use Rattle.wk_body.proofs.renumber.moving_of_code.Goals as goal

pub returns : goal.returns
returns c = record { shape = shift_shaped; profile = moved_of; stays = stay_unmoved; uses = move_alike }
