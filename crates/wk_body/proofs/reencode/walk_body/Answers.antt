use Rattle.std.proofs.Common.{◌≡◌, [], ◌∙◌, sym, ap}
use Rattle.wk_bytes.specs.Span.{Span}
use Rattle.wk_body.specs.declared.reencoder.Reencoder.{Reencoder}
use Rattle.wk_body.proofs.RewrittenBody.{body_walked}
use Rattle.wk_body.proofs.reencode.walk_body.Goals as goal

pub returns : goal.returns
returns c =
    let from : Reencoder = record { cursor = c.ahead.result; pending = c.rest.result } in
    let locals = c.in_ok-pass_locals.ensures in
    let expr = c.in_ok-pass_expr.ensures in
    let whole : c.rest.result.now ≡ c.ahead.result.rest = c.rest.ensures ∙ ap (λ (s : Span). s.rest) (sym c.ahead.ensures.same) in
    let all : c.pass_expr.new.coder.cursor.rest ≡ [] = c.in-Ok.ensures in
    rw (← c.ahead.ensures.same)
    (body_walked c.args.profile locals.0 expr.0 c.args.out.now.items c.pass_locals.new.out.items c.pass_expr.new.out.items from c.pass_locals.new.coder
    c.pass_expr.new.coder
    c.requires whole locals.1 expr.1 all)
