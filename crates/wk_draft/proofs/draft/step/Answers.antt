use Rattle.std.proofs.Common.{◌≡◌, ◌+◌, ◌≤◌, ℕ, List, Option, refl, sym, ap, subst, ◌∙◌, length, arith}
use Rattle.wk_module.specs.declared.types.Func.{Func}
use Rattle.wk_module.specs.declared.types.Kind.TheVariants as kinds
use Rattle.wk_module.specs.declared.types.Parts.{Parts}
use Rattle.wk_module.specs.Imports.{import_count}
use Rattle.wk_module.specs.Writing.{encoded}
use Rattle.wk_session.specs.Edits.{made}
use Rattle.wk_draft.specs.declared.draft.Draft.{Draft}
use Rattle.wk_draft.specs.Drafts.{deferred_room}
use Rattle.wk_draft.specs.Runs.{IsHeld}
use Rattle.wk_draft.specs.Steps.{Follows, IsSure, replaced_entry, deferred_without}
use Rattle.wk_draft.proofs.CodeLengths.{CodeIsLeast}
use Rattle.wk_draft.proofs.Following.{follows}
use Rattle.wk_draft.proofs.Stepping.{deferred_replaced, stepped, refused, sure_other}
use Rattle.wk_draft.proofs.draft.step.Goals as goal
use Rattle.wk_draft.proofs.draft.step.Goals.{After-parts}

-- what the edit makes of a module that is held follows from what it makes of the draft
told : (c : After-parts) (os : List Func) (m : Parts) → IsHeld os m c.args.draft.now → Follows c.args.keep c.args.edit.now c.args.draft.now.shifts os
    c.args.draft.now.deferred.items m c.args.draft.now.session (made c.args.keep c.args.edit.now c.args.draft.now.session)
told c os m held =
    let old = c.args.draft.now in
    let laws = c.verdicts_that_keep.ensures in
    let least : CodeIsLeast = record {
      body = c.reading_of_code.ensures.body;
      expr = c.reading_of_code.ensures.all_expr;
      least_body = c.written_form_of_code.ensures.least_body;
      least_expr = c.written_form_of_code.ensures.least_expr;
    } in
    follows laws.frame laws.moved laws.there c.moving_of_module.ensures.formed least c.args.keep old.shifts os old.deferred.items m
    old.session held.draft c.parts.ensures.shaped held.fits c.args.edit.now c.bytes_of_edit.ensures

pub returns-else-not-has_room : goal.returns-else-not-has_room
returns-else-not-has_room c = λ os m room held.
    let e = c.args.edit.now in
    let old = c.args.draft.now in
    let new : Draft = record { session = c.apply.new.session; deferred = c.clear_deferred.new.deferred; shifts = c.in-Some.shifts } in
    let within = c.if-not-has_room.ensures refl in
    let fits : length (encoded c.apply.new.session) + deferred_room os ≤ _ = omega (arith, within, c.encoded_len.ensures.value, room) in
    let imported = old.shifts.funcs_from + old.shifts.funcs_by in
    let counted = ap (λ (p : Parts). import_count kinds.Func p.imports) held.draft.sketch.rest ∙ held.draft.funcs_from in
    let defined : c.len-defined.result ≡ length old.session.funcs = c.len-defined.ensures ∙ ap (λ (p : Parts). length p.funcs) c.parts.ensures.value in
    let entry = c.replaced_entry-entry.ensures ∙ ap (λ (n : ℕ). replaced_entry e imported n) defined in
    let deferred = c.clear_deferred.ensures ∙ ap (λ (r : Option ℕ). deferred_without r old.deferred.items) entry
    ∙ sym (deferred_replaced e old.session imported old.deferred.items counted) in
    stepped c.args.keep e os m old new held (told (goal.at.returns-else-not-has_room c).After-parts os m held) c.in-Ok.field-0 c.in-Ok.ensures.reply
    c.in-Ok.ensures.module_is c.parts-parts.ensures.shaped fits c.in-Some.ensures deferred

pub returns-in-Err : goal.returns-in-Err
returns-in-Err c = λ os m room held.
    let e = c.args.edit.now in
    let old = c.args.draft.now in
    let new : Draft = record { session = c.apply.new.session; deferred = old.deferred; shifts = old.shifts } in
    let size : c.encoded_len-len.result + c.args.room ≡ length (encoded old.session) + deferred_room os =
    omega (arith, c.encoded_len-len.ensures.value, room) in
    let sure = subst (λ (n : ℕ). IsSure e n c.in-Err.fault) size (c.if-is_sure.ensures refl) in
    refused c.args.keep e os m old new held (told (goal.at.returns-in-Err c).After-parts os m held) c.in-Err.fault
    (sure_other e _ c.in-Err.fault sure) c.in-Err.ensures.reply c.in-Err.ensures.module_is sure refl refl
