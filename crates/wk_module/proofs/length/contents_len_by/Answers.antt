use Rattle.std.proofs.Common.{map, ◌∙◌}
use Rattle.wk_module.specs.declared.types.Func.{Func}
use Rattle.wk_module.proofs.Lengths.{sizes_of}
use Rattle.wk_module.proofs.length.contents_len_by.Goals as goal

pub returns-in-10 : goal.returns-in-10
returns-in-10 c =
    let funcs = c.args.parts.now.funcs in
    rw c.in-10.is (c.codes_len_by.ensures (map (λ (f : Func). f.body) funcs) (c.requires ∙ sizes_of funcs))
