use Rattle.std.proofs.Common.{◌≡◌, ◌+◌, ◌≤◌, ◌++◌, List, ℕ, length, ap, ◌∙◌, arith}
use Rattle.std.proofs.lemmas.Result.{err_from_is_err_and}
use Rattle.std.specs.List.{between}
use Rattle.wk_bytes.specs.Short.{short}
use Rattle.wk_body.specs.Written.{written_body}
use Rattle.wk_strip.proofs.Rewriting.{fits_there, is_rewritten, not_taken, not_read}
use Rattle.wk_strip.proofs.codes.rewrite_code.Goals as goal
use Rattle.wk_strip.proofs.codes.rewrite_code.Goals.{In_ok-body, After-deref}

pub returns-in_err-code : goal.returns-in_err-code
returns-in_err-code c =
    let p = err_from_is_err_and c.from_residual.result c.from_residual.ensures.1 in
    let from = c.args.place in
    rw (p.1, p.2) (not_taken c.args.profile from.end (between from.read from.end c.args.bytes.now) c.in_err-code.field-0.0 c.in_err-code.ensures)

pub returns-in_err-body : goal.returns-in_err-body
returns-in_err-body c =
    let p = err_from_is_err_and c.from_residual-in_err-body.result c.from_residual-in_err-body.ensures.1 in
    let from = c.args.place in
    rw (p.1, p.2) (not_read c.args.profile c.args.bytes.now from.read from.end c.in_ok-code.code c.in_err-body.field-0.0 c.requires.within
    c.in_ok-code.ensures c.in_err-body.ensures.exact)

least : (c : In_ok-body) → length (written_body c.in_ok-body.ensures.exact.0) ≤ length c.in_ok-code.code.rest
least c =
    let read = c.in_ok-body.ensures.exact in
    let code = c.in_ok-code.code in
    let bytes = rw c.rest.ensures at c.are_bytes.ensures in
    let spelled = (c.reading_of_code.ensures.body c.args.profile).takes code.end code.rest read.0 bytes read.1 in
    c.written_form_of_code.ensures.least_body c.args.profile read.0 code.rest spelled

size_is : (c : After-deref) → c.deref.result.now ≡ short (length c.in_ok-body.body.now)
size_is c = c.deref.ensures.value ∙ c.in_ok-put_u32.ensures.ok ∙ ap (λ (b : List ℕ). b ++ short (length c.in_ok-body.body.now)) c.clear.ensures.items

pub overflow_cast-body : goal.overflow_cast-body
overflow_cast-body c = omega (
  arith,
  least (goal.at.overflow_cast-body c).In_ok-body,
  ap length c.in_ok-body.ensures.exact.2,
  c.in_ok-code.ensures.room,
  c.in_ok-code.ensures.within,
  c.requires.few,
)

pub put_code-requires : goal.put_code-requires
put_code-requires c =
    let body = ap length c.in_ok-body.ensures.exact.2 in
    let small = least (goal.at.put_code-requires c).In_ok-body in
    let room = fits_there c.args.bytes.now c.args.place c.in_ok-code.code (length c.in_ok-body.body.now) c.in_ok-code.ensures
    (omega (arith, small, body)) c.requires.behind in
    omega (arith, room, ap length (size_is (goal.at.put_code-requires c).After-deref), c.in_ok-code.ensures.within, c.requires.within)

pub returns : goal.returns
returns c =
    let code = c.in_ok-code.code in
    let read = c.in_ok-body.ensures.exact in
    let body = read.2 in
    let size : c.deref.result.now ≡ short (length (written_body read.0)) =
    size_is (goal.at.returns c).After-deref ∙ ap (λ (b : List ℕ). short (length b)) body in
    let len : c.len.result ≡ length (short (length (written_body read.0))) = omega (arith, c.len.ensures, ap length size, c.deref.ensures.len) in
    let bytes = rw (size, body) at c.put_code.ensures in
    is_rewritten c.args.profile c.args.bytes.now c.put_code.new.bytes c.args.place code read.0 (c.at.result + length c.rest-2.result.now)
    (c.args.place.write + c.len.result + length c.in_ok-body.body.now) c.requires.within c.requires.behind c.in_ok-code.ensures read.1
    (least (goal.at.returns c).In_ok-body) (omega (arith, c.at.ensures.end, ap length c.rest-2.ensures)) (omega (arith, len, ap length body))
    (rw (len, body) bytes)
