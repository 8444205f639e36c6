use Rattle.std.proofs.Common.{List, length, refl, ap, ◌∙◌, arith, length-append}
use Rattle.std.specs.List.{flat_map}
use Rattle.wk_bytes.specs.Short.{short}
use Rattle.wk_body.specs.declared.types.LocalGroup.{LocalGroup}
use Rattle.wk_body.specs.Lengths.{limited}
use Rattle.wk_body.specs.Vectors.{written_vector}
use Rattle.wk_body.specs.Written.{written_group, written_expr}
use Rattle.wk_body.proofs.length.body_len.Goals as goal

pub returns : goal.returns
returns c =
    let groups = c.args.body.now.groups in
    let count = c.unsigned_len.ensures.len ∙ ap (λ (gs : List LocalGroup). length (short (length gs))) c.groups-groups.ensures.value in
    let locals = ap (λ (gs : List LocalGroup). length (flat_map written_group gs)) c.groups-groups.ensures.value in
    let code = ap (λ t. length (written_expr t)) c.expr.ensures in
    let vector = length-append (short (length groups)) (flat_map written_group groups) in
    let whole = length-append (written_vector written_group groups) (written_expr c.args.body.now.instrs) in
    c.plus_expr.ensures _ (c.plus_groups.ensures _ (c.plus-total.ensures 0 refl)) ∙ ap limited (omega (arith, count, locals, code, vector, whole))
