use Rattle.std.proofs.Common.{◌≡◌, sym, subst}
use Rattle.std.specs.Prelude.{IfSome}
use Rattle.wk_module.specs.declared.types.Parts.{Parts}
use Rattle.wk_draft.specs.Runs.{IsOutlined}
use Rattle.wk_draft.proofs.run.edit_outlined.Goals as goal

pub run_of-requires : goal.run_of-requires
run_of-requires c =
    let m : Parts = c.requires.0 in
    let outline = c.args.outline in
    let own : c.in-Some.session ≡ outline.module = subst (λ o. IfSome o (λ s. s ≡ outline.module)) c.in-Some.is c.in_ok-session.ensures in
    let opened : IsOutlined m c.in-Some.session outline.codes.items = subst (λ (p : Parts). IsOutlined m p outline.codes.items) (sym own) c.requires.1 in
    (c.args.keep, m, c.args.edits.now, rw c.in-Ok-Some.field-0-is at (c.in-Ok-Some.ensures m opened))

pub returns-in-Ok-Some : goal.returns-in-Ok-Some
returns-in-Ok-Some c = λ m told.
    let outline = c.args.outline in
    let own : c.in-Some.session ≡ outline.module = subst (λ o. IfSome o (λ s. s ≡ outline.module)) c.in-Some.is c.in_ok-session.ensures in
    let opened : IsOutlined m c.in-Some.session outline.codes.items = subst (λ (p : Parts). IsOutlined m p outline.codes.items) (sym own) told in
    c.run_of.ensures c.args.keep m c.args.edits.now (rw c.in-Ok-Some.field-0-is at (c.in-Ok-Some.ensures m opened))
