use Rattle.std.proofs.Common.{◌≡◌, ◌<◌, ◌+◌, ◌-◌, ◌%◌, ◌/◌, ◌++◌, ◌∷◌, ◌^◌, ℕ, List, inl, inr, min, take, Option, Some, Ok, length, drop, arith, ◌∙◌, ap, sym}
use Rattle.std.proofs.Common.{length-append}
use Rattle.std.proofs.Math.Seq.{take-append-add}
use Rattle.std.proofs.lemmas.Bool.{cases_lt, ltb-true, ltb-false}
use Rattle.std.proofs.lemmas.List.{drop_all, drop_more, length-drop}
use Rattle.wk_bytes.specs.Short.{short}
use Rattle.wk_bytes.specs.ShortLaws.{short-spells, short-some, short-few, short-last, short-more}
use Rattle.wk_bytes.specs.Span.{Span, u32_at}
use Rattle.wk_bytes.specs.SpanLaws.{ok_is, not_both}
use Rattle.wk_bytes.specs.PieceLaws.{u32_at-again}
use Rattle.wk_body.proofs.shifts.index_at.Goals as goal

first_is : (x y : ℕ) (xs ys : List ℕ) → x ∷ xs ≡ y ∷ ys → x ≡ y
first_is x y xs ys e = cc

-- a byte below 128 is the whole of an index
one_byte : (byte x : ℕ) (rest later : List ℕ) → byte < 128 → byte ∷ rest ≡ short x ++ later → (byte ≡ x) × (length (short x) ≡ 1)
one_byte byte x rest later low e =
    elim (cases_lt x 128) [
      | inl lt ↦ let s = short-last x lt in (first_is byte x rest later (e ∙ ap (λ (b : List ℕ). b ++ later) s), ap length s)
      | inr le ↦ absurd (omega
          (arith, low, first_is byte (x % 128 + 128) rest (short (x / 128) ++ later) (e ∙ ap (λ (b : List ℕ). b ++ later) (short-more x le))))
    ]

-- the bytes that are looked at hold the index
front : (x n at : ℕ) (code later : List ℕ) → x < 2 ^ 32 → n ≡ min (length code) (at + 5) → drop at code ≡ short x ++ later
    → take (n - at) (drop at code) ≡ short x ++ take (n - at - length (short x)) later
front x n at code later small is e =
    let m = n - at - length (short x) in
    let long : n - at ≡ length (short x) + m =
    omega (arith, short-some x, short-few 32 x (omega arith) small, is, ap length e, length-append (short x) later, length-drop at code) in
    ap (take (n - at)) e ∙ ap (λ (k : ℕ). take k (short x ++ later)) long ∙ take-append-add (short x) later m

-- what stands there is read
read : (cursor : Span) (x : ℕ) (front rest : List ℕ) → x < 2 ^ 32 → cursor ≡ record { rest = front; end = length front } → front ≡ short x ++ rest
    → u32_at cursor.end cursor.rest ≡ Ok (x, rest)
read cursor x front rest small is e = ap (u32_at cursor.end) (ap (λ s. s.rest) is ∙ e) ∙ u32_at-again cursor.end (short x) x rest (short-spells 32 x small)

both_are : (x y m n : ℕ) → x ≡ y → m ≡ n → ◌≡◌ {A = Option (ℕ × ℕ)} (Some (x, m)) (Some (y, n))
both_are x y m n e f = ap (λ (k : ℕ). Some (k, m)) e ∙ ap (λ (k : ℕ). Some (y, k)) f

pub returns-in_err-byte-clause-exact : goal.returns-in_err-byte-clause-exact
returns-in_err-byte-clause-exact c = λ x later small e.
    let past = ltb-false c.args.at (length c.args.code.now) (sym c.in_err-byte.ensures.lookup.0) in
    absurd (omega (arith, short-some x, length-append (short x) later, ap length (sym e ∙ drop_all c.args.at c.args.code.now past)))

pub returns-then-byte-lt128-clause-exact : goal.returns-then-byte-lt128-clause-exact
returns-then-byte-lt128-clause-exact c = λ x later small e.
    let code = c.args.code.now in
    let within = ltb-true c.args.at (length code) (sym c.in_ok-byte.ensures.lookup.0) in
    let there = ap (λ (b : ℕ). b ∷ drop (c.args.at + 1) code) c.in_ok-byte.ensures.lookup.1
    ∙ sym (drop_more code c.args.at c.in_ok-byte.field-0.now within) ∙ e in
    let one = one_byte c.in_ok-byte.field-0.now x (drop (c.args.at + 1) code) later c.if-byte-lt128.true there in
    both_are c.from.result x (c.args.at + 1) (c.args.at + length (short x)) (c.from.ensures ∙ one.0) (omega (arith, one.1))

pub returns-in_default-clause-exact : goal.returns-in_default-clause-exact
returns-in_default-clause-exact c = λ x later small e.
    let n = c.min.result in
    let at = c.args.at in
    let rest = take (n - at - length (short x)) later in
    let given = read c.new-cursor.result x (take (n - at) (drop at c.args.code.now)) rest small c.new-cursor.ensures
    (front x n at c.args.code.now later small c.min.ensures e) in
    absurd (not_both (u32_at c.new-cursor.result.end c.new-cursor.result.rest) c.in_default.field-0 (x, rest) c.in_default.ensures.exact.0 given)

pub returns-clause-exact : goal.returns-clause-exact
returns-clause-exact c = λ x later small e.
    let n = c.min.result in
    let at = c.args.at in
    let rest = take (n - at - length (short x)) later in
    let f = front x n at c.args.code.now later small c.min.ensures e in
    let given = read c.new-cursor.result x (take (n - at) (drop at c.args.code.now)) rest small c.new-cursor.ensures f in
    let both = ok_is (c.in-Ok.x, c.u32.new.self.rest) (x, rest) (sym c.in-Ok.ensures.exact.0 ∙ given) in
    let behind = ap (λ (p : ℕ × List ℕ). length p.1) both in
    both_are c.in-Ok.x x (at + (length (take (n - at) (drop at c.args.code.now)) - length c.rest.result.now)) (at + length (short x))
    (ap (λ (p : ℕ × List ℕ). p.0) both)
    (omega (arith, ap length c.rest.ensures, behind, ap length f, length-append (short x) rest))
