use Rattle.wk_bytes.specs.Short.{short}
use Rattle.wk_module.specs.declared.types.Func.{Func}
use Rattle.wk_module.proofs.Lengths.{list_contents-map}
use Rattle.wk_module.proofs.module_write.put_contents.Goals as goal

pub put_list-requires : goal.put_list-requires
put_list-requires c =
    let same = list_contents-map short (λ (f : Func). f.ty) c.args.parts.now.funcs in
    let fits = rw c.in-3.is at c.requires.fits in
    rw (c.as_slice.ensures, same) fits

pub returns-in-3 : goal.returns-in-3
returns-in-3 c =
    let same = list_contents-map short (λ (f : Func). f.ty) c.args.parts.now.funcs in
    rw (c.in-3.is, ← same, ← c.as_slice.ensures) c.put_list.ensures.ok
