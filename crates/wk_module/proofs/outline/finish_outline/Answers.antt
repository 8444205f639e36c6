use Rattle.std.proofs.Common.{sym, ap, ◌∙◌, List, ℕ, map}
use Rattle.wk_module.specs.OutlineReading.{stub_of}
use Rattle.wk_module.proofs.Outlining.{outline_made}
use Rattle.wk_module.proofs.outline.finish_outline.Goals as goal

pub returns-in-Ok : goal.returns-in-Ok
returns-in-Ok c = λ p is many.
    rw c.with_funcs.ensures
    (outline_made c.args.profile c.args.len p c.args.so_far _ c.args.codes c.in-Ok.funcs c.so_far.view_is is many (sym c.len.ensures ∙ c.if-len-codes.false)
    (c.in-Ok.ensures ∙ ap (λ (ts : List ℕ). map stub_of ts) c.as_slice.ensures))
