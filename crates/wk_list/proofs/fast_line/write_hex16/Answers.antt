use Rattle.std.proofs.Common.{◌∙◌, take}
use Rattle.wk_list.proofs.Digits.{halves}
use Rattle.wk_list.proofs.fast_line.write_hex16.Goals as goal

pub returns-clause-text : goal.returns-clause-text
returns-clause-text c = c.write_hex8.ensures.text ∙ halves c.args.word (take c.args.at c.args.buf.now)
    (take c.write_hex8-low.result c.write_hex8-low.new.buf) c.write_hex8-low.ensures.text
