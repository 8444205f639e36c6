use Rattle.std.proofs.Common.{List, length, sym, ap, ◌∙◌, arith}
use Rattle.std.proofs.lemmas.List.{take_all}
use Rattle.wk_body.specs.Lengths.{limited}
use Rattle.wk_module.specs.declared.types.Func.{Func}
use Rattle.wk_module.specs.Items.{written_code}
use Rattle.wk_module.specs.WritingLaws.{length_le_flat_map, some_code}
use Rattle.wk_module.specs.Codes.{code_contents}
use Rattle.wk_module.proofs.Lengths.{codes_long, codes_of, past_by_body, some_length, untold}
use Rattle.wk_module.proofs.codes.codes_len.Goals as goal

pub returns-in_err-body_len : goal.returns-in_err-body_len
returns-in_err-body_len c =
    let funcs = c.args.funcs.now in
    let past = past_by_body funcs c.loop-func.func-index c.func-item.result c.loop-func-test.true c.func-item.is c.in_err-body_len.ensures in
    c.from_residual.ensures ∙ untold (length (code_contents funcs)) past

pub returns : goal.returns
returns c =
    let funcs = c.args.funcs.now in
    let all = ap (λ (fs : List Func). limited (length (codes_of fs))) (take_all c.loop-func.func-index funcs (omega arith)) in
    let few = length_le_flat_map (λ (f : Func). written_code f.body) (λ (f : Func). some_code f.body) funcs in
    c.plus_count.ensures (length (codes_of funcs)) (c.loop-func.invariant ∙ all) few
    ∙ ap limited (sym (codes_long funcs (some_length funcs (sym c.if-is_empty.ensures))))
