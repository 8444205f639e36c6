-- Modules of which a section is too large.
use Rattle.std.proofs.Common.{◌≡◌, ◌≢◌, Bool, ℕ, ◌<◌, Err, length, refl, arith}
use Rattle.wk_bytes.specs.Frames.{limit}
use Rattle.wk_body.specs.declared.fault.EncodeFault.{EncodeFault}
use Rattle.wk_body.specs.declared.fault.EncodeFault.TheVariants as encoding
use Rattle.wk_module.specs.declared.types.Parts.{Parts}
use Rattle.wk_module.specs.Shape.{IsInOrderFrom}
use Rattle.wk_module.specs.Writing.{encoded}
use Rattle.wk_pieces.specs.Pieces.{IsOverlong, section_piece}
use Rattle.wk_pieces.proofs.Piecing.{past_limit, section_within}
use Rattle.wk_session.specs.declared.edit.EditFault.TheVariants.{TooLarge, Memory}
use Rattle.wk_session.specs.Kept.{standing}
use Rattle.wk_session.specs.Refusals.{encode_refusal}
use Rattle.wk_session.proofs.Leading.{too_large}

-- it is too large
pub section_large : (keep : Bool) (id : ℕ) (n : Parts) → IsInOrderFrom 0 n.customs → limit < length (section_piece id n) → standing keep n ≡ Err TooLarge
section_large keep id n order large =
    too_large keep n order (past_limit (length (encoded n)) (omega (arith, large, section_within id n)))

-- so is one of which a section can't be made, unless memory was wanted
pub unwritten : (keep : Bool) (id : ℕ) (n : Parts) (e : EncodeFault) → IsInOrderFrom 0 n.customs → IsOverlong (section_piece id n) e
    → encode_refusal e ≢ Memory → standing keep n ≡ Err (encode_refusal e)
unwritten keep id n encoding.TooLarge order over other = section_large keep id n order (over (λ same. absurd cc))
unwritten keep id n encoding.Memory order over other = absurd (other refl)
