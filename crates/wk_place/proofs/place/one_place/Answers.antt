use Rattle.wk_place.proofs.PlaceLaws.{one_place}
use Rattle.wk_place.proofs.place.one_place.Goals as goal

pub returns : goal.returns
returns c = one_place
