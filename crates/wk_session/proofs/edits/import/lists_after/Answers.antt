use Rattle.std.proofs.Common.{◌||◌, Bool, sym, ap, ◌∙◌, refl}
use Rattle.wk_module.specs.Moving.{are_lists_stuck}
use Rattle.wk_session.proofs.ImportEdits.{sets_stuck}
use Rattle.wk_session.proofs.edits.import.lists_after.Goals as goal

pub returns-then-is_any_code_stuck : goal.returns-then-is_any_code_stuck
returns-then-is_any_code_stuck c =
    let m = c.args.parts.now in
    let told = sets_stuck c.moving_of_code.ensures.uses c.args.kind c.args.from m c.args.kept.now c.requires in
    λ n. (refl, ap (λ (b : Bool). b || are_lists_stuck c.args.kind c.args.from m) (sym told ∙ sym c.is_any_code_stuck.ensures ∙ c.if-is_any_code_stuck.true))

pub returns-in-Ok : goal.returns-in-Ok
returns-in-Ok c =
    let m = c.args.parts.now in
    let told = sets_stuck c.moving_of_code.ensures.uses c.args.kind c.args.from m c.args.kept.now c.requires in (
      ap (λ (b : Bool). b || are_lists_stuck c.args.kind c.args.from m) (sym told ∙ sym c.is_any_code_stuck.ensures ∙ c.if-is_any_code_stuck.false)
          ∙ c.in-Ok.ensures.0,
      c.in-Ok.ensures.1,
    )
