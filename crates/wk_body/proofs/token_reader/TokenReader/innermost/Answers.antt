use Rattle.std.proofs.Common.{◌≡◌, ◌∙◌, ◌-◌, Bool, take, drop, length, reverse, ap, arith, length-drop}
use Rattle.std.proofs.lemmas.List.{take_all}
use Rattle.wk_body.specs.TokenReading.{TokenReading}
use Rattle.wk_body.proofs.OpenBlocks.{last_turned}
use Rattle.wk_body.proofs.token_reader.TokenReader.innermost.Goals as goal

pub returns-clause-innermost : goal.returns-clause-innermost
returns-clause-innermost c =
    let kinds = ap (λ (r : TokenReading). r.kinds) c.self.view_is in
    let blocks = c.deref.result.now in
    let from = c.saturating_sub.result in
    let last = take (length blocks - from) (drop from blocks) in
    let all : last ≡ drop from blocks = take_all (length blocks - from) (drop from blocks) (omega (arith, length-drop from blocks)) in
    last_turned blocks last from all ∙ ap (take (length last)) (ap (reverse {A = Bool}) c.deref.ensures.value ∙ kinds)
