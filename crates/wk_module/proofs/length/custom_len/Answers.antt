use Rattle.std.proofs.Common.{◌++◌, length, ap, ◌∙◌, arith, length-append}
use Rattle.wk_bytes.specs.Short.{short}
use Rattle.wk_body.specs.Lengths.{limited}
use Rattle.wk_module.proofs.length.custom_len.Goals as goal

pub returns : goal.returns
returns c =
    let custom = c.args.custom.now in
    c.named_len.ensures
    ∙ ap limited (omega (
      arith,
      c.len.ensures,
      length-append (short (length custom.name)) custom.name,
      length-append (short (length custom.name)) (custom.name ++ custom.bytes),
      length-append custom.name custom.bytes,
    ))
