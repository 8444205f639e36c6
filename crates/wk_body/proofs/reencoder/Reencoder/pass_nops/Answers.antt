use Rattle.std.proofs.Common.{ap, length, subst, arith}
use Rattle.wk_body.specs.declared.reencoder.Reencoder.{Reencoder}
use Rattle.wk_body.specs.Reencoding.{GoesOn}
use Rattle.wk_body.proofs.MinimalWalk.{enough, moved}
use Rattle.wk_body.proofs.WideWalk.{nops_on}
use Rattle.wk_body.proofs.reencoder.Reencoder.pass_nops.Goals as goal

pub overflow_cast-count : goal.overflow_cast-count
overflow_cast-count c = omega (arith, c.at.ensures, ap length c.rest-bytes.ensures, c.nops-count.ensures.within)

pub unreachable-requires : goal.unreachable-requires
unreachable-requires c = enough c.nops-count.result c.args.self.now.cursor.end c.args.self.now.cursor.rest c.in_default.field-0
    (omega (arith, ap length c.rest-bytes.ensures, c.nops-count.ensures.within)) c.in_default.ensures.exact.0

pub returns : goal.returns
returns c = λ profile before out from ks g.
    subst (λ (w : Reencoder). GoesOn profile before from ks out w)
    (moved c.args.self.now c.take.new.self c.nops-count.result c.in-Ok.field-0.now c.in-Ok.ensures.exact)
    (nops_on c.args.self.now c.rest-bytes.result.now c.nops-count.result profile before out from ks c.rest-bytes.ensures c.nops-count.ensures.within
    c.nops-count.ensures.nops g)
