use Rattle.std.proofs.Common.{Some, length, sym, ◌∙◌, arith}
use Rattle.wk_body.specs.LengthsLaws.{limited_some, limited_none}
use Rattle.wk_module.specs.Codes.{code_contents}
use Rattle.wk_module.specs.Sections.{CodeSection}
use Rattle.wk_module.specs.Writing.{encoded}
use Rattle.wk_module.specs.WritingLaws.{contents_within}
use Rattle.wk_module.proofs.Lengths.{codes_len}
use Rattle.wk_module.proofs.measures.measure_parts.Goals as goal

pub len_by_code-requires-clause-code : goal.len_by_code-requires-clause-code
len_by_code-requires-clause-code c = codes_len c.args.parts.now.funcs _ _ _ c.deref.ensures.value c.in_ok-bodies.ensures c.codes_len_by-codes.ensures

pub unreachable-requires : goal.unreachable-requires
unreachable-requires c =
    let m = c.args.parts.now in
    let whole = limited_some c.in-Some.whole (length (encoded m)) c.in-Some.ensures in
    let past = limited_none (length (code_contents m.funcs))
    (sym c.in_default-codes.is ∙ codes_len m.funcs _ _ _ c.deref.ensures.value c.in_ok-bodies.ensures c.codes_len_by-codes.ensures) in
    omega (arith, past, contents_within m (Some CodeSection), whole.0, whole.1)

pub returns : goal.returns
returns c =
    let m = c.args.parts.now in
    let whole = limited_some c.in-Some.whole (length (encoded m)) c.in-Some.ensures in
    let codes = limited_some c.in-Some-codes.codes (length (code_contents m.funcs))
    (sym c.in-Some-codes.is ∙ codes_len m.funcs _ _ _ c.deref.ensures.value c.in_ok-bodies.ensures c.codes_len_by-codes.ensures) in
    (c.in_ok-bodies.ensures, codes.0, whole.0, whole.1)
