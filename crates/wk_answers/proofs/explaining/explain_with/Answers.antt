use Rattle.std.proofs.Common.{◌≡◌, ◌++◌, ◌∙◌, ap}
use Rattle.std.specs.Prelude.{string_bytes}
use Rattle.wk_module.specs.Reading.{module_at}
use Rattle.wk_answers.proofs.explaining.explain_with.Goals as goal

pub returns-clause-told : goal.returns-clause-told
returns-clause-told c =
    let judged = c.judge_bytes-verdict.ensures in
    let text : c.into_bytes-text.result.items ≡ string_bytes c.in_ok-line.field-0.line = ap (λ v. v.items) c.into_bytes-text.ensures.value in
    let more = c.in_ok-put_more.ensures (module_at c.args.profile c.args.bytes.now) judged.is judged.exact c.in_ok-line.ensures.known in
    record {
      line = string_bytes c.in_ok-line.field-0.line;
      line_is = c.in_ok-line.ensures.line;
      means = c.in_ok-line.ensures.means;
      more = more.0;
      tells = more.1;
      text_is = more.2 ∙ ap (λ line. line ++ more.0) text;
    }
