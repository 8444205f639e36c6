use Rattle.std.proofs.Common.{subst, refl}
use Rattle.wk_bytes.specs.LebLaws.{IsBytes}
use Rattle.wk_body.proofs.RewrittenBody.{valtype_kept}
use Rattle.wk_body.proofs.reencode.pass_valtype.Goals as goal

pub returns : goal.returns
returns c =
    let from = c.args.coder.now in
    let fits : IsBytes from.cursor.rest = subst IsBytes c.rest.ensures c.are_bytes.ensures in
    valtype_kept c.in-Ok.ty from (record { cursor = c.local_type.new.cursor; pending = from.pending }) fits c.in-Ok.ensures refl
