use Rattle.std.proofs.Common.{ap, sym, ◌∙◌, arith}
use Rattle.wk_body.specs.Reading.{token_at}
use Rattle.wk_body.specs.ReadsLaws.{other_fault}
use Rattle.wk_place.specs.Seeking.{begins_with_else}
use Rattle.wk_place.proofs.ReadTokens.{from_there, token_there, end_there, none_there}
use Rattle.wk_place.proofs.tokens_there.read_token.Goals as goal

pub returns-in-Ok-Some : goal.returns-in-Ok-Some
returns-in-Ok-Some c = λ few.
    let at = c.new-cursor.result in
    let next = rw c.in-Ok-Some.field-0-is at c.in-Ok-Some.ensures.exact in
    token_there c.args.profile c.args.bytes.now c.args.offset at c.begin.new.self c.next.new.self c.next.new.cursor c.in-Ok-Some.token
    (λ i. omega (arith, c.type_inv.bytes i)) (from_there c.args.offset c.args.bytes.now _ c.new-cursor.result c.new-cursor.ensures) next

pub returns-in-Ok-None : goal.returns-in-Ok-None
returns-in-Ok-None c = λ few.
    let at = c.new-cursor.result in
    let next = rw c.in-Ok-None.field-0-is at c.in-Ok-None.ensures.exact in
    end_there c.args.profile c.args.bytes.now c.args.offset at c.begin.new.self c.next.new.self c.next.new.cursor
    (λ i. omega (arith, c.type_inv.bytes i)) (from_there c.args.offset c.args.bytes.now _ c.new-cursor.result c.new-cursor.ensures) next

pub returns-in_default : goal.returns-in_default
returns-in_default c = λ few.
    let at = c.new-cursor.result in
    let e = c.in-Err.fault in
    let bad = other_fault e e.kind (token_at c.args.profile c.begin.new.self.kinds at.end at.rest) c.in_default.not-Memory c.in-Err.ensures.exact in
    none_there c.args.profile c.args.bytes.now c.args.offset at c.begin.new.self c.next.new.self.labels e (from_there c.args.offset c.args.bytes.now _ c.new-cursor.result c.new-cursor.ensures)
    (ap begins_with_else (sym c.rest.ensures) ∙ sym c.begins_else.ensures ∙ c.if-begins_else.false) c.begin.ensures.kinds bad
