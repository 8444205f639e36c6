use Rattle.std.proofs.Common.{◌∙◌, length, sym, ap}
use Rattle.wk_module.specs.Sections.{SectionLists}
use Rattle.wk_check.specs.Items.{export_flaw}
use Rattle.wk_check.specs.Spaces.{spaces_of}
use Rattle.wk_check.proofs.ValidGrowth.{valid_with_export, told_at}
use Rattle.wk_check.proofs.incremental.verdict_with_export.Goals as goal

pub returns : goal.returns
returns c = λ m lists valid.
    c.verdict_by_flaw.ensures
    ∙ told_at 7 _ _ _ _ (c.flaw_of_export.ensures ∙ ap (λ (l : SectionLists). export_flaw (spaces_of l) l.exports c.args.export.now) lists)
    (ap (λ (l : SectionLists). length l.exports) lists)
    ∙ sym (valid_with_export m c.args.export.now valid)
