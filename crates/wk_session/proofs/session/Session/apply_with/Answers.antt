use Rattle.std.proofs.Common.{sym, ap, subst, ◌∙◌}
use Rattle.wk_module.specs.declared.types.Parts.{Parts}
use Rattle.wk_module.specs.Shape.{IsShaped, settle}
use Rattle.wk_session.specs.Kept.{IsKept}
use Rattle.wk_session.specs.Making.{IsMade}
use Rattle.wk_session.specs.Runs.{is_memory, reply_of}
use Rattle.wk_session.specs.ToldLaws.{ReadsCode, reply_told}
use Rattle.wk_session.proofs.Settling.{kept_after, made_after, reply_after}
use Rattle.wk_session.proofs.session.Session.apply_with.Goals as goal
use Rattle.wk_session.proofs.session.Session.apply_with.Goals.{After-reading_of_code}

pub edit_parts-reply-requires-clause-kept : goal.edit_parts-reply-requires-clause-kept
edit_parts-reply-requires-clause-kept c = subst (λ (m : Parts). IsKept m c.self.inside.kept) (sym c.take_parts-parts.ensures.value) c.self.invariant

pub invariant_of-self : goal.invariant_of-self
invariant_of-self c =
    let shaped : IsShaped c.take_parts-parts.result = subst IsShaped (sym c.take_parts-parts.ensures.value) c.take_parts-parts.ensures.shaped in
    subst (λ (m : Parts). IsKept m c.edit_parts-reply.new.kept) (sym c.of.ensures)
    (kept_after c.args.keep c.args.edit.now c.take_parts-parts.result c.edit_parts-reply.new.parts c.edit_parts-reply.new.kept c.edit_parts-reply.result
    shaped c.edit_parts-reply.ensures)

pub returns-clause-reply : goal.returns-clause-reply
returns-clause-reply c =
    reply_after c.args.keep c.args.edit.now c.take_parts-parts.result c.edit_parts-reply.new.parts c.edit_parts-reply.new.kept c.edit_parts-reply.result
    c.edit_parts-reply.ensures
    ∙ ap (reply_of c.args.keep c.args.edit.now (is_memory c.edit_parts-reply.result)) (c.take_parts-parts.ensures.value ∙ c.self.view_is)

reads : After-reading_of_code → ReadsCode
reads c = record {
  body = c.reading_of_code.ensures.body;
  expr = c.reading_of_code.ensures.all_expr;
  body_never = c.reading_of_code.ensures.never_memory_body;
  expr_never = c.reading_of_code.ensures.never_memory_expr;
}

pub returns-clause-made : goal.returns-clause-made
returns-clause-made c =
    let e = c.args.edit.now in
    let r = c.edit_parts-reply.result in
    let m = c.take_parts-parts.result in
    let n = c.edit_parts-reply.new.parts in
    let shaped : IsShaped m = subst IsShaped (sym c.take_parts-parts.ensures.value) c.take_parts-parts.ensures.shaped in
    let made = made_after c.args.keep e m n c.edit_parts-reply.new.kept (reads (goal.at.returns-clause-made c).After-reading_of_code) c.bytes_of_edit.ensures r shaped
    c.edit_parts-reply.ensures in
    subst (IsMade e r c.args.self.now) (sym c.of.ensures)
    (subst (λ (p : Parts). IsMade e r p (settle n)) (c.take_parts-parts.ensures.value ∙ c.self.view_is) made)

pub returns-clause-told : goal.returns-clause-told
returns-clause-told c =
    reply_told (reads (goal.at.returns-clause-told c).After-reading_of_code) c.args.keep c.args.edit.now c.args.self.now c.edit_parts-reply.result (returns-clause-reply c)
