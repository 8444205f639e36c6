use Rattle.std.proofs.Common.{◌≡◌, sym, ◌∙◌}
use Rattle.wk_module.specs.declared.types.Parts.{Parts}
use Rattle.wk_module.specs.Reading.{module_at}
use Rattle.wk_typing.specs.declared.fault.Verdict.TheVariants.{Valid}
use Rattle.wk_check.specs.Verdict.{module_verdict}
use Rattle.wk_draft.proofs.Running.{codes_by, opened_by}
use Rattle.wk_draft.proofs.run.edit_outline.Goals as goal

pub edit_outlined-requires : goal.edit_outlined-requires
edit_outlined-requires c =
    let m : Parts = c.requires.0 in
    let read = module_at c.args.profile c.args.input.now in
    let valid : module_verdict m ≡ Valid = sym (c.in-Ok.ensures.exact m c.requires.1) ∙ c.in-Valid.is in (
      m,
      opened_by c.args.profile c.args.input.now c.args.outline.module c.args.outline.codes.items read
          (m, c.requires.1, valid) c.reading_of_module.ensures.is c.reading_of_module.ensures.fits
          (m, c.requires.1, c.requires.2, c.requires.3) m c.requires.1,
    )

pub returns-in-Some : goal.returns-in-Some
returns-in-Some c = λ m at.
    let read = module_at c.args.profile c.args.input.now in
    let n : Parts = c.requires.0 in
    let valid : module_verdict n ≡ Valid = sym (c.in-Ok.ensures.exact n c.requires.1) ∙ c.in-Valid.is in
    let outlined = opened_by c.args.profile c.args.input.now c.args.outline.module c.args.outline.codes.items read
    (n, c.requires.1, valid) c.reading_of_module.ensures.is c.reading_of_module.ensures.fits
    (n, c.requires.1, c.requires.2, c.requires.3) m at in
    rw c.in-Some.is at (c.in_ok-run.ensures m outlined)

pub returns-in-None : goal.returns-in-None
returns-in-None c = λ m at. (sym c.in-Valid.is ∙ c.in-Ok.ensures.exact m at, tt)

pub returns-then-has_breaking_import : goal.returns-then-has_breaking_import
returns-then-has_breaking_import c = λ m at.
    let codes = codes_by (module_at c.args.profile c.args.input.now) c.args.outline.module c.args.outline.codes.items
    (c.requires.0, c.requires.1, c.requires.2, c.requires.3) m at in
    c.give_up.ensures c.args.keep m c.args.edits.now tt codes

pub returns-in_default : goal.returns-in_default
returns-in_default c = λ m at.
    let codes = codes_by (module_at c.args.profile c.args.input.now) c.args.outline.module c.args.outline.codes.items
    (c.requires.0, c.requires.1, c.requires.2, c.requires.3) m at in
    c.give_up-in_default.ensures c.args.keep m c.args.edits.now (c.in-Ok.ensures.exact m at) codes
