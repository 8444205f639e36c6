use Rattle.std.proofs.Common.{◌+◌, sym, subst}
use Rattle.wk_session.specs.declared.edit.EditFault.{EditFault}
use Rattle.wk_draft.specs.Steps.{IsSure}
use Rattle.wk_draft.proofs.size_bound.is_sure.Goals as goal

-- src/size_bound.rt:79:1
pub returns-in-WouldBreak : goal.returns-in-WouldBreak
returns-in-WouldBreak c = λ sure.
    subst (λ (f : EditFault). IsSure c.args.edit.now (c.args.len + c.args.room) f) (sym c.in-WouldBreak.is) (c.would_break.ensures sure c.in-WouldBreak.field-0)
