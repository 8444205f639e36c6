use Rattle.std.proofs.Common.{◌∙◌}
use Rattle.std.proofs.lemmas.Result.{on_ok_weaker}
use Rattle.wk_list.proofs.Digits.{halves}
use Rattle.wk_list.proofs.text.put_hex16.Goals as goal

pub returns : goal.returns
returns c = on_ok_weaker c.put_hex8-2.result (λ e. e ∙ halves c.args.word c.args.text.now.items c.put_hex8.new.text.items c.in_ok-put_hex8.ensures.ok)
    c.put_hex8-2.ensures.ok
