use Rattle.std.proofs.Common.{◌≢◌, rules, ◌∙◌, sym}
use Rattle.wk_typing.proofs.Alignment.{widest}
use Rattle.wk_typing.proofs.step.natural_align.Goals as goal

pub returns-in-1 : goal.returns-in-1
returns-in-1 c = sym c.width.ensures ∙ c.in-1.is

pub returns-in-2 : goal.returns-in-2
returns-in-2 c = sym c.width.ensures ∙ c.in-2.is

pub returns-in-4 : goal.returns-in-4
returns-in-4 c = sym c.width.ensures ∙ c.in-4.is

pub returns-in_default : goal.returns-in_default
returns-in_default c =
    let n1 : c.width.result ≢ 1 = search rules in
    let n2 : c.width.result ≢ 2 = search rules in
    let n4 : c.width.result ≢ 4 = search rules in
    widest c.args.op (λ e. n1 (c.width.ensures ∙ e)) (λ e. n2 (c.width.ensures ∙ e)) (λ e. n4 (c.width.ensures ∙ e))
