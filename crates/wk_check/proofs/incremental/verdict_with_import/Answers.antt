use Rattle.std.proofs.Common.{◌∙◌, Some, None, length, sym, ap}
use Rattle.wk_module.specs.Sections.{SectionLists}
use Rattle.wk_typing.specs.declared.fault.Verdict.TheVariants.{Invalid}
use Rattle.wk_typing.specs.Faults.{fault_at}
use Rattle.wk_check.specs.Items.{import_flaw}
use Rattle.wk_check.proofs.ValidImports.{import_told}
use Rattle.wk_check.proofs.incremental.verdict_with_import.Goals as goal

pub returns-in-Some : goal.returns-in-Some
returns-in-Some c = λ m lists valid.
    let wrong = sym (c.in-Some.ensures ∙ ap (λ (l : SectionLists). import_flaw l.types l.imports c.args.import.now.desc) lists) in
    ap Invalid (c.at.ensures ∙ ap (λ (l : SectionLists). fault_at 2 (length l.imports) c.in-Some.flaw) lists)
    ∙ sym (import_told m c.args.import.now (Some c.in-Some.flaw) wrong valid)

pub returns-in-None : goal.returns-in-None
returns-in-None c = λ m lists valid.
    let well = sym (c.in-None.ensures ∙ ap (λ (l : SectionLists). import_flaw l.types l.imports c.args.import.now.desc) lists) in
    c.verdict_beside.ensures m lists ∙ sym (import_told m c.args.import.now None well valid)
