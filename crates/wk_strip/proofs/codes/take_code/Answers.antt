use Rattle.std.proofs.Common.{◌≡◌, ◌++◌, ap, sym, ◌∙◌, arith}
use Rattle.std.specs.List.{between}
use Rattle.wk_bytes.specs.Span.{Span}
use Rattle.wk_strip.proofs.Rewriting.{is_taken}
use Rattle.wk_strip.proofs.Over.{between-len}
use Rattle.wk_strip.proofs.codes.take_code.Goals as goal

pub returns : goal.returns
returns c =
    let b = c.args.bytes.now in
    let read = c.args.read in
    let end = c.args.end in
    let whole = c.within-cursor.result in
    let rest : whole.rest ≡ between read end b = ap (λ (s : Span). s.rest) c.within-cursor.ensures in
    let ends : whole.end ≡ end = omega (arith, ap (λ (s : Span). s.end) c.within-cursor.ensures, between-len b read end c.requires.within, c.requires.order) in
    let size = c.in_ok-size.ensures in
    let code = c.in_ok-code.ensures in
    let behind = size.exact.1 ∙ ends in
    let piece = code.spelling in
    rw c.within.ensures
    (is_taken b read end size.spelling.0 c.u32.new.self.rest c.in_ok-code.code.now c.take.new.self.rest c.in_ok-size.size c.at-at.result
    c.requires.order c.requires.within size.spelling.1 (sym rest ∙ size.spelling.2)
    (rw (rest, ends) at size.exact.0) (rw behind at code.exact.0) code.len (piece.2 ∙ ap (λ b'. b' ++ c.take.new.self.rest) piece.1.0)
    (c.at-at.ensures.end ∙ behind))
