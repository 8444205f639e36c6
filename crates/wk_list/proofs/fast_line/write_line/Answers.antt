use Rattle.std.proofs.Common.{◌++◌, List, ℕ, take, ap, ◌∙◌, append_assoc, arith}
use Rattle.wk_list.proofs.Pieces.{front_stays, if_none_known}
use Rattle.wk_list.proofs.fast_line.write_line.Goals as goal

pub returns-in_err-end-clause-none : goal.returns-in_err-end-clause-none
returns-in_err-end-clause-none c =
    if_none_known c.from_residual.result
    (front_stays c.args.used c.write_word-behind.result c.args.buf.now c.write_immediates.new.buf _ (omega (arith, c.fits-buf))
    (omega (arith, c.write_front-front.ensures.end, c.write_word-behind.ensures.end))
    (c.in_err-end.ensures.none ∙ c.write_word-behind.ensures.text
    ∙ ap (λ (t : List ℕ). t ++ c.as_bytes-name.result.now) c.write_front-front.ensures.text
    ∙ append_assoc (take c.args.used c.args.buf.now) _ c.as_bytes-name.result.now))
