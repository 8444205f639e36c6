use Rattle.std.proofs.Common.{ℕ, List, length, ap}
use Rattle.wk_bytes.specs.Short.{short}
use Rattle.wk_body.specs.Lengths.{limited}
use Rattle.wk_module.specs.declared.types.Func.{Func}
use Rattle.wk_module.proofs.Lengths.{list_contents-map}
use Rattle.wk_module.proofs.length.contents_len.Goals as goal

pub returns-in-3 : goal.returns-in-3
returns-in-3 c =
    rw (c.in-3.is, c.list_len.ensures, c.as_slice.ensures)
    (ap (λ (b : List ℕ). limited (length b)) (list_contents-map short (λ (f : Func). f.ty) c.args.parts.now.funcs))
