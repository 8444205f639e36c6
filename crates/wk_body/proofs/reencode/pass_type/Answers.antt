use Rattle.std.proofs.Common.{◌≡◌, ◌-◌, ap, subst, length, refl, arith}
use Rattle.wk_bytes.specs.LebLaws.{IsBytes}
use Rattle.wk_body.specs.Written.{type_bytes}
use Rattle.wk_body.proofs.Tokens.{here_shorter}
use Rattle.wk_body.proofs.Rewriting.{type_kept}
use Rattle.wk_body.proofs.reencode.pass_type.Goals as goal

pub overflow_sub-left : goal.overflow_sub-left
overflow_sub-left c =
    let from = c.args.coder.now.cursor in
    omega (
      arith,
      ap length c.rest-left.ensures,
      ap length c.rest-rest.ensures,
      here_shorter c.args.profile c.args.reader.now.kinds _ from.end from.rest c.opening.new.cursor.rest c.in-Ok.ty c.in-Ok.ensures.0,
    )

pub returns-else-left-rest : goal.returns-else-left-rest
returns-else-left-rest c =
    let from = c.args.coder.now in
    let to = c.opening.new.cursor in
    let fits : IsBytes from.cursor.rest = subst IsBytes c.rest.ensures c.are_bytes.ensures in
    let long : length from.cursor.rest - length to.rest ≡ length (type_bytes c.in-Ok.ty) =
    omega (arith, c.if-left-rest.false, ap length c.rest-left.ensures, ap length c.rest-rest.ensures, c.type_len.ensures.len) in
    type_kept c.args.profile c.args.reader.now.kinds _ c.in-Ok.ty c.args.out.now.items from
    (record { cursor = to; pending = from.pending }) fits c.in-Ok.ensures refl long
