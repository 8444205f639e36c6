use Rattle.std.proofs.Common.{◌∷◌, [], refl}
use Rattle.wk_body.specs.Reading.{reserved_at}
use Rattle.wk_body.proofs.Pieces.{reserved_at-takes}
use Rattle.wk_body.proofs.Walking.{passed}
use Rattle.wk_body.proofs.reencoder.Reencoder.pass_reserved.Goals as goal

pub returns : goal.returns
returns c =
    let from = c.args.self.now in
    let to = c.reserved.new.cursor in
    λ out. passed reserved_at c.in-Ok.zero (0x00 ∷ []) (0x00 ∷ []) out from (record { cursor = to; pending = from.pending }) c.in-Ok.ensures
    (reserved_at-takes from.cursor.end from.cursor.rest (c.in-Ok.zero, to.rest) c.in-Ok.ensures.0) refl refl
