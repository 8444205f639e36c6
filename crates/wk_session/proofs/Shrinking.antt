-- A module without one of its exports is not too large where it was not.
use Rattle.std.proofs.Common.{◌≡◌, ℕ, ◌≤◌, Bool, Some, List, length, sym, arith}
use Rattle.wk_bytes.specs.Frames.{limit}
use Rattle.wk_module.specs.declared.types.Export.{Export}
use Rattle.wk_module.specs.declared.types.Parts.{Parts}
use Rattle.wk_module.specs.Changes.{without_first}
use Rattle.wk_module.specs.ChangeLaws.{without_export_shorter}
use Rattle.wk_module.specs.Shape.{settle, IsInOrderFrom}
use Rattle.wk_module.specs.Writing.{encoded, Fits}
use Rattle.wk_pieces.proofs.Piecing.{limited_within}
use Rattle.wk_session.specs.Edits.{lasting}
use Rattle.wk_session.specs.Kept.{standing}
use Rattle.wk_session.proofs.Appraising.{fitting_stands}

pub shrunk_stands : (keep : Bool) (name : List ℕ) (rest : List Export) (m : Parts) → without_first name m.exports ≡ Some rest → IsInOrderFrom 0 m.customs
    → Fits m → lasting keep (settle (record m { exports = rest })) ≡ standing keep (record m { exports = rest })
shrunk_stands keep name rest m is order fits =
    let n : Parts = record m { exports = rest } in
    let within : length (encoded n) ≤ limit = omega (arith, without_export_shorter name rest m is, fits) in
    sym (fitting_stands keep n order (length (encoded n)) (sym (limited_within (length (encoded n)) within)))
