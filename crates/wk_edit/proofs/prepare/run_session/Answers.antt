use Rattle.std.proofs.Common.{◌≡◌, false, ◌∙◌, ap, refl, sym}
use Rattle.std.specs.List.{list_any}
use Rattle.wk_session.specs.Runs.{is_memory}
use Rattle.wk_edit.proofs.DraftOutcomes.{all_same}
use Rattle.wk_edit.proofs.OutcomeLemmas.{ran_prepared, spelled_once}
use Rattle.wk_edit.proofs.prepare.run_session.Goals as goal

pub returns-clause-ok : goal.returns-clause-ok
returns-clause-ok c =
    let n = c.make_edits.new.session in
    let rs = c.in_ok-replies.replies.items in
    let none : list_any is_memory rs ≡ false = ap (list_any is_memory) (sym c.deref.ensures.value) ∙ sym c.has_memory.ensures ∙ c.if-has_memory.false in
    let own = spelled_once c.written_form_of_module.ensures.spells c.one_module.ensures.one n c.parts-parts.ensures.shaped c.parts-parts.ensures.fits in
    ran_prepared c.args.keep_valid c.args.session.now n c.args.edits.now rs _ _ _ none c.in_ok-replies.ensures.replies c.in_ok-replies.ensures.module_is own
    c.verdict.ensures c.verdict-2.ensures refl (c.in_ok-text.ensures rs (all_same c.deref-2.ensures.value))
    (c.status_of-status.ensures rs (all_same c.deref-3.ensures.value))
