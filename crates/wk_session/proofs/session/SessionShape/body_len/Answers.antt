use Rattle.std.proofs.Common.{◌<◌, length, arith}
use Rattle.wk_session.proofs.Keeping.{kept_fits}
use Rattle.wk_session.proofs.Shaping.{code_fits}
use Rattle.wk_session.proofs.session.SessionShape.body_len.Goals as goal

pub overflow_cast-result : goal.overflow_cast-result
overflow_cast-result c =
    let m = c.self.inside.module in
    let k = c.self.inside.kept in
    let within : c.args.index < length m.funcs = rw c.self.view_is c.requires in
    let fits = kept_fits m k c.self.invariant in
    omega (arith, c.len.ensures, code_fits m k.pieces c.args.index c.index.result.now c.self.invariant.pieces fits within c.index.ensures)
