use Rattle.std.proofs.Common.{◌≡◌, ◌≢◌, ◌∙◌, ap, refl, arith, Result, Err}
use Rattle.std.proofs.lemmas.Result.{err_from_is_err_and}
use Rattle.wk_bytes.specs.Leb.{◌>>=◌}
use Rattle.wk_body.specs.Tree.{Instrs}
use Rattle.wk_module.specs.Changes.{with_global}
use Rattle.wk_module.specs.ChangeLaws.{global_formed}
use Rattle.wk_module.specs.Sections.{GlobalSection}
use Rattle.wk_module.specs.Shape.{settle, IsFormed}
use Rattle.wk_session.specs.declared.edit.Edit.TheVariants as edits
use Rattle.wk_session.specs.declared.edit.EditFault.{EditFault}
use Rattle.wk_session.specs.Edits.{fitting, lasting, made}
use Rattle.wk_session.specs.Kept.{standing}
use Rattle.wk_session.proofs.Leading.{refused_for, accepted}
use Rattle.wk_session.proofs.Appending.{grown_refused}
use Rattle.wk_session.proofs.Keeping.{room_kept}
use Rattle.wk_session.proofs.Works.{codeless_work, few_counted}
use Rattle.wk_session.proofs.edits.global.add_global.Goals as goal
use Rattle.wk_session.proofs.edits.global.add_global.Goals.{In_ok-init}

pub returns-in_err-init : goal.returns-in_err-init
returns-in_err-init c =
    let m = c.args.parts.now in
    let f = c.in_err-init.field-0.0 in
    let due : f ≢ EditFault.Memory → made c.args.keep (edits.Global c.args.ty c.args.init.now) m ≡ Err f =
    λ other. ap (λ (r : Result Instrs EditFault). r >>= (λ e. fitting (settle (with_global c.args.ty e m))) >>= lasting c.args.keep)
    (c.in_err-init.ensures.fault other) in
    refused_for c.args.keep (edits.Global c.args.ty c.args.init.now) m c.args.kept.now c.requires.kept m f c.from_residual.result
    (err_from_is_err_and c.from_residual.result c.from_residual.ensures.1) due (λ same. refl) refl

-- the edit makes the module with the global, if that may stay
makes : (c : In_ok-init) → made c.args.keep (edits.Global c.args.ty c.args.init.now) c.args.parts.now
    ≡ standing c.args.keep (with_global c.args.ty c.in_ok-init.init c.args.parts.now)
makes c =
    ap (λ (r : Result Instrs EditFault). r >>= (λ e. fitting (settle (with_global c.args.ty e c.args.parts.now))) >>= lasting c.args.keep)
    c.in_ok-init.ensures.read

pub returns-in_err-sections : goal.returns-in_err-sections
returns-in_err-sections c =
    let m = c.args.parts.now in
    let new = c.push_global.new in
    let result = c.from_residual-in_err-sections.result in
    grown_refused c.args.keep (edits.Global c.args.ty c.args.init.now) m (with_global c.args.ty c.in_ok-init.init m) new.parts c.args.kept.now new.kept
    new.meter 1 c.in_err-sections.field-0.0 result (err_from_is_err_and result c.from_residual-in_err-sections.ensures.1)
    (makes (goal.at.returns-in_err-sections c).In_ok-init) c.in_err-sections.ensures.grown refl c.in_err-sections.ensures.err c.requires.kept

pub overflow_cast-result : goal.overflow_cast-result
overflow_cast-result c =
    omega (arith, few_counted c.args.parts.now _ c.typed.result c.requires.shaped.formed (c.typed.ensures ∙ c.in_ok-sections.ensures.grown.2))

pub returns : goal.returns
returns c =
    let i = c.in_ok-init.init in
    let m = c.args.parts.now in
    let n = with_global c.args.ty i m in
    let e = edits.Global c.args.ty c.args.init.now in
    let k = c.args.kept.now in
    let made = c.in_ok-sections.sections in
    let grown = c.in_ok-sections.ensures.grown in
    let few = room_kept m k GlobalSection c.requires.kept in
    let formed : IsFormed n = global_formed c.args.ty i m few c.in_ok-init.ensures.valid c.requires.shaped.formed in
    let works = codeless_work e m (settle n) refl (λ f. refl) c.typed.result made (c.typed.ensures ∙ grown.2) grown.3 in
    accepted c.args.keep e m n c.push_global.new.parts k c.push_global.new.kept
    (record { typed = c.typed.result; encoded = 0; sections = made }) c.in_ok-sections.ensures.ok
    (makes (goal.at.returns c).In_ok-init) grown.0 works formed grown.1
