use Rattle.std.proofs.Common.{length, drop, sym, ◌∙◌, arith, length-drop}
use Rattle.wk_body.specs.LengthsLaws.{limited_none}
use Rattle.wk_module.specs.Writing.{encoded}
use Rattle.wk_pieces.proofs.Piecing.{past_limit, section_within}
use Rattle.wk_session.proofs.edits.plan_append.len_grown.Goals as goal

-- an item that is too long makes the module so
pub returns-in_err-item : goal.returns-in_err-item
returns-in_err-item c =
    λ n alone order longer is funcs codes customs.
    let none = limited_none (length (drop 1 alone)) (sym c.in_err-item.was ∙ is) in
    c.from_residual.ensures ∙ past_limit (length (encoded n)) (omega (arith, none, length-drop 1 alone, longer.within, section_within c.args.id n))
