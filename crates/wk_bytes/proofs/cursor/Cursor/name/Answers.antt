use Rattle.std.proofs.Common.{refl, sym, ap, subst, ◌∙◌}
use Rattle.std.proofs.lemmas.Result.{err_from_is_err_and}
use Rattle.wk_bytes.specs.Span.{name_at}
use Rattle.wk_bytes.specs.SpanLaws.{piece_at-takes}
use Rattle.wk_bytes.specs.Pieces.{SpellsName}
use Rattle.wk_bytes.specs.PieceLaws.{none_spelled, name_at-again}
use Rattle.wk_bytes.specs.StandsLaws.{ReadsFront-name_at}
use Rattle.wk_bytes.proofs.Names.{name_cut, name_wrong, name_spelled}
use Rattle.wk_bytes.proofs.cursor.Cursor.name.Goals as goal

pub returns-in_err-bytes-clause-spelling : goal.returns-in_err-bytes-clause-spelling
returns-in_err-bytes-clause-spelling c =
    let p = err_from_is_err_and c.from_residual-in_err-bytes.result c.from_residual-in_err-bytes.ensures.1 in
    let cut = name_cut c.args.self.now c.ahead-ahead.result c.u32.new.self c.in_ok-len.len _ c.ahead-ahead.ensures.same c.in_ok-len.ensures.exact
    c.in_err-bytes.ensures.exact.0 in
    rw p.1 (none_spelled SpellsName name_at name_at-again c.args.self.now _ cut, refl)

pub returns-in_err-bytes-clause-stands : goal.returns-in_err-bytes-clause-stands
returns-in_err-bytes-clause-stands c =
    let p = err_from_is_err_and c.from_residual-in_err-bytes.result c.from_residual-in_err-bytes.ensures.1 in
    let cut = name_cut c.args.self.now c.ahead-ahead.result c.u32.new.self c.in_ok-len.len _ c.ahead-ahead.ensures.same c.in_ok-len.ensures.exact
    c.in_err-bytes.ensures.exact.0 in
    rw (p.1, p.2) (ReadsFront-name_at.faults c.args.self.now.end c.args.self.now.rest _ cut c.ahead-ahead.ensures.fits)

pub returns-in_default-clause-spelling : goal.returns-in_default-clause-spelling
returns-in_default-clause-spelling c =
    let wrong = name_wrong c.args.self.now c.ahead-ahead.result c.u32.new.self c.in_ok-len.len c.in_ok-bytes.bytes.now _ c.at-at.result
    c.ahead-ahead.ensures.same c.in_ok-len.ensures.exact c.in_ok-bytes.ensures.exact.0 c.in_default.ensures.cases.0 c.at-at.ensures.offset in
    (none_spelled SpellsName name_at name_at-again c.args.self.now _ wrong, refl)

pub returns-in_default-clause-stands : goal.returns-in_default-clause-stands
returns-in_default-clause-stands c =
    let wrong = name_wrong c.args.self.now c.ahead-ahead.result c.u32.new.self c.in_ok-len.len c.in_ok-bytes.bytes.now _ c.at-at.result
    c.ahead-ahead.ensures.same c.in_ok-len.ensures.exact c.in_ok-bytes.ensures.exact.0 c.in_default.ensures.cases.0 c.at-at.ensures.offset in
    ReadsFront-name_at.faults c.args.self.now.end c.args.self.now.rest _ wrong c.ahead-ahead.ensures.fits

pub returns-clause-spelling : goal.returns-clause-spelling
returns-clause-spelling c =
    let size = c.in_ok-len.ensures.spelling in
    let text = piece_at-takes _ _ _ _ _ c.in_ok-bytes.ensures.exact.0 in
    let spelled = name_spelled c.args.self.now c.ahead-ahead.result c.u32.new.self c.take.new.self size.0 c.in_ok-bytes.bytes.now c.in_ok-len.len
    c.ahead-ahead.ensures.same size.1 size.2 text.1 text.0 c.in-Ok.ensures.cases.1 in (
      spelled.0,
      subst (SpellsName spelled.0) (sym c.in-Ok.ensures.cases.0) spelled.1,
      spelled.2,
      c.in_ok-bytes.ensures.exact.1 ∙ size.3
          ∙ ap (λ s. s.end) c.ahead-ahead.ensures.same,
    )
