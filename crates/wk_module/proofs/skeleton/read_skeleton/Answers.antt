use Rattle.std.proofs.Common.{Result, Some, length, arith, subst, sym, ◌∙◌}
use Rattle.std.specs.Prelude.{IfOk}
use Rattle.wk_bytes.specs.declared.fault.ReadFault.{ReadFault}
use Rattle.wk_body.specs.LengthsLaws.{limited_some, limited_none}
use Rattle.wk_module.specs.declared.types.Parts.{Parts}
use Rattle.wk_module.specs.Codes.{code_contents}
use Rattle.wk_module.specs.Sections.{CodeSection}
use Rattle.wk_module.specs.Writing.{Fits}
use Rattle.wk_module.specs.WritingLaws.{contents_within}
use Rattle.wk_module.proofs.Lengths.{codes_len}
use Rattle.wk_module.proofs.skeleton.read_skeleton.Goals as goal

pub unreachable-requires : goal.unreachable-requires
unreachable-requires c =
    let read = c.in_ok-module.ensures.exact in
    let m = read.0 in
    let past = limited_none (length (code_contents m.funcs))
    (sym c.in_default.is ∙ codes_len m.funcs _ _ _ c.deref.ensures.value read.3 c.codes_len_by.ensures) in
    let fits = subst (λ (r : Result Parts ReadFault). IfOk r Fits) read.1 c.reading_of_module.ensures.fits in
    omega (arith, past, contents_within m (Some CodeSection), fits)

pub returns-clause-exact : goal.returns-clause-exact
returns-clause-exact c =
    let read = c.in_ok-module.ensures.exact in
    let codes = limited_some c.in-Some.codes (length (code_contents read.0.funcs))
    (sym c.in-Some.is ∙ codes_len read.0.funcs _ _ _ c.deref.ensures.value read.3 c.codes_len_by.ensures) in
    (read.0, read.1, read.2, read.3, codes.0)
