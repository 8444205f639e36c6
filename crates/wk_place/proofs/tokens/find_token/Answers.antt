use Rattle.std.proofs.Common.{◌≡◌, ℕ, List, Some, Ok, refl, sym, ap, subst, ◌∙◌}
use Rattle.std.proofs.lemmas.Result.{err_from_is_err_and}
use Rattle.wk_bytes.specs.Span.{Span}
use Rattle.wk_body.specs.Reading.{token_at}
use Rattle.wk_body.specs.ReadsLaws.{fails_on}
use Rattle.wk_body.specs.TokenReadingLaws.{token_is_shorter}
use Rattle.wk_body.specs.TokenReading.{NextRead}
use Rattle.wk_place.specs.Seeking.{find_token_at, is_empty_else, IsNextLeft}
use Rattle.wk_place.proofs.TokenSearch.{Found, some_read, fails, here, passes, ends}
use Rattle.wk_place.proofs.tokens.find_token.Goals as goal

pub returns-in_err-next : goal.returns-in_err-next
returns-in_err-next c =
    let p = err_from_is_err_and c.from_residual.result c.from_residual.ensures.1 in
    let e = c.in_err-next.field-0.0 in
    let at = c.loop-reader.cursor in
    let ks = c.loop-reader.reader.kinds in
    rw (p.1, p.2) (fails_on e e.kind (token_at c.args.profile ks at.end at.rest)
    (find_token_at c.args.profile c.args.token c.args.code.end c.args.code.rest)
    (fails c.args.profile c.args.code c.args.token ks c.loop-reader.left at c.loop-reader.invariant e) c.in_err-next.ensures.exact)

abbrev some_is : Span → Found
some_is s = Ok (Some s)

pub returns-in_default : goal.returns-in_default
returns-in_default c =
    let at = c.loop-reader.cursor in
    let ks = c.loop-reader.reader.kinds in
    let same : c.rest.result.now ≡ at.rest = c.rest.ensures ∙ ap (λ (s : Span). s.rest) c.ahead-here.ensures.same in
    let last = c.in_default.ensures in
    let read = some_read c.args.profile c.loop-reader.reader c.next.new.self at c.next.new.cursor c.in_ok-next.next c.in_ok-next.ensures.exact in
    here c.args.profile c.args.code c.args.token ks c.loop-reader.left at c.loop-reader.invariant read.0 read.1
    (ap is_empty_else (sym same) ∙ last.0) last.1 ∙ ap some_is (sym c.ahead-here.ensures.same)

pub loop-reader-smaller : goal.loop-reader-smaller
loop-reader-smaller c =
    let next = subst (NextRead c.args.profile c.loop-reader.reader c.next.new.self c.loop-reader.cursor c.next.new.cursor) c.in-Some-next.is
    c.in_ok-next.ensures.exact in
    token_is_shorter c.args.profile c.loop-reader.reader c.next.new.self c.loop-reader.cursor c.next.new.cursor c.in-Some-next.field-0 next

pub loop-reader-preserved : goal.loop-reader-preserved
loop-reader-preserved c =
    let at = c.loop-reader.cursor in
    let same : c.rest.result.now ≡ at.rest = c.rest.ensures ∙ ap (λ (s : Span). s.rest) c.ahead-here.ensures.same in
    let next = subst (NextRead c.args.profile c.loop-reader.reader c.next.new.self at c.next.new.cursor) c.in-Some-next.is c.in_ok-next.ensures.exact in
    passes c.args.profile c.args.code c.args.token c.loop-reader.reader.kinds c.loop-reader.left at c.loop-reader.invariant c.loop-reader.reader
    c.next.new.self c.next.new.cursor c.in-Some-next.field-0 c.in-Some.still_left refl next
    (subst (λ (b : List ℕ). IsNextLeft b c.loop-reader.left c.in-Some.still_left) same c.in-Some.ensures)

pub returns-in_default-next : goal.returns-in_default-next
returns-in_default-next c =
    let at = c.loop-reader.cursor in
    let same : c.rest.result.now ≡ at.rest = c.rest.ensures ∙ ap (λ (s : Span). s.rest) c.ahead-here.ensures.same in
    let next = subst (NextRead c.args.profile c.loop-reader.reader c.next.new.self at c.next.new.cursor) c.in_default-next.is c.in_ok-next.ensures.exact in
    let ks = c.loop-reader.reader.kinds in
    ends c.args.profile c.args.code c.args.token ks c.loop-reader.left at c.loop-reader.invariant c.next.new.cursor.rest c.in-Some.still_left next.1
    next.0 (subst (λ (b : List ℕ). IsNextLeft b c.loop-reader.left c.in-Some.still_left) same c.in-Some.ensures)
