use Rattle.wk_module.specs.declared.types.Parts.{Parts}
use Rattle.wk_module.specs.Reading.{module_at}
use Rattle.wk_draft.proofs.Running.{opened_by}
use Rattle.wk_draft.proofs.run.edit_valid.Goals as goal

pub edit_outlined-requires : goal.edit_outlined-requires
edit_outlined-requires c =
    let m : Parts = c.requires.0 in (
      m,
      opened_by c.args.profile c.args.input.now c.in-Ok.outline.module c.in-Ok.outline.codes.items
          (module_at c.args.profile c.args.input.now) c.requires c.reading_of_module.ensures.is c.reading_of_module.ensures.fits
          c.in-Ok.ensures.exact m c.requires.1,
    )

pub returns : goal.returns
returns c = λ m is.
    c.edit_outlined.ensures m
    (opened_by c.args.profile c.args.input.now c.in-Ok.outline.module c.in-Ok.outline.codes.items
    (module_at c.args.profile c.args.input.now) c.requires c.reading_of_module.ensures.is c.reading_of_module.ensures.fits
    c.in-Ok.ensures.exact m is)
