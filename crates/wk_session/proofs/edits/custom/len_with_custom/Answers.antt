use Rattle.std.proofs.Common.{length, refl, sym, ap, ◌∙◌, arith}
use Rattle.wk_body.specs.Lengths.{limited}
use Rattle.wk_body.specs.LengthsLaws.{limited_some}
use Rattle.wk_module.specs.WritingLaws.{written_frame}
use Rattle.wk_session.specs.Customs.{last_custom}
use Rattle.wk_session.proofs.CustomPuts.{length_last}
use Rattle.wk_session.proofs.edits.custom.len_with_custom.Goals as goal

pub returns : goal.returns
returns c =
    let d = last_custom c.args.name.now c.args.bytes.now in
    let fits = limited_some _ _ (sym c.requires.len) in
    let new = c.frame_len.ensures d refl (sym c.len.ensures) in
    c.exchange.ensures (length (written_frame d)) new ∙ ap limited
    (omega (arith, fits.0, length_last c.args.name.now c.args.bytes.now c.args.parts.now c.requires.order))
