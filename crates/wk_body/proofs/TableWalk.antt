-- A walk that passes over a `br_table` whose integers have a byte each.
use Rattle.std.proofs.Common.{◌≡◌, ℕ, zero, suc, ◌+◌, ◌-◌, ◌<◌, ◌≤◌, Bool, List, ◌∷◌, inl, inr, ◌++◌, length, get_or, drop, refl, ap, subst, ◌∙◌, arith}
use Rattle.std.proofs.lemmas.List.{drop_more}
use Rattle.wk_bytes.specs.LebLaws.{IsBytes}
use Rattle.wk_body.specs.declared.immediate_kind.ImmediateKind.TheVariants as imms
use Rattle.wk_body.specs.declared.reencoder.Reencoder.{Reencoder}
use Rattle.wk_body.specs.Instructions.{form_of}
use Rattle.wk_body.specs.Minimal.{IsShortTable, IsOther}
use Rattle.wk_body.specs.Reencoding.{Behind, BlocksPass}
use Rattle.wk_body.proofs.Immediates.{labels_passed}
use Rattle.wk_body.proofs.Rewriting.{plain_goes}
use Rattle.wk_body.proofs.Walking.{LabelsPassed, labels_begin, labels_one, labels_end, table_passed}
use Rattle.wk_body.proofs.MinimalWalk.{later, unsigned_passed, in_both, Steps}
use Rattle.wk_body.proofs.WideWalk.{wide_on}

-- of so many labels at an offset the first ones
pub short_labels : (count start n : ℕ) (out : List ℕ) (w : Reencoder) → n ≤ count → start + n ≤ length w.cursor.rest
    → ((i : ℕ) → start ≤ i → i < start + n → get_or w.cursor.rest i 0 < 128)
    → LabelsPassed count (count - n) out (later w start) out (later w (start + n))
short_labels count start zero out w most within low =
    let none : start ≡ start + 0 = omega arith in
    subst (λ (end : ℕ). LabelsPassed count (count - 0) out (later w start) out (later w end)) none (labels_begin count out (later w start))
short_labels count start (suc n) out w most within low =
    let i = start + n in
    let before = short_labels count start n out w (omega (arith, most)) (omega (arith, within)) (λ j le lt. low j le (omega (arith, lt))) in
    let one = unsigned_passed out w i (start + suc n) (omega arith) (omega (arith, within)) (low i (omega arith) (omega arith)) in
    let next : count - (n + 1) ≡ count - suc n = omega arith in
    subst (λ (left : ℕ). LabelsPassed count left out (later w start) out (later w (start + suc n))) next
    (labels_one count n (get_or w.cursor.rest i 0) out out out (later w start) (later w i) (later w (start + suc n)) (omega (arith, most)) before one)

table_step : (w : Reencoder) (n size : ℕ) (ks below : List Bool) → get_or w.cursor.rest n 0 ≡ 0x0E → IsShortTable w.cursor.rest n size
    → Steps w n (n + size) ks ks below
unfolding form_of
table_step w n size ks below is t profile before out start g =
    let count = get_or w.cursor.rest (n + 1) 0 in
    let last = n + 2 + count in
    let counted = unsigned_passed out w (n + 1) (n + 2) (omega arith) (omega (arith, t.0, t.1)) (t.2 (n + 1) (omega arith) (omega (arith, t.0))) in
    let labels = labels_end count count out out (later w (n + 2)) (later w last) (omega arith)
    (short_labels count (n + 2) count out w (omega arith) (omega (arith, t.0, t.1)) (λ i le lt. t.2 i (omega (arith, le)) (omega (arith, lt, t.0)))) in
    let other = unsigned_passed out w last (n + size) (omega (arith, t.0)) (omega (arith, t.0, t.1)) (t.2 last (omega arith) (omega (arith, t.0))) in
    let all = table_passed count (get_or w.cursor.rest last 0) labels.0 out out out out (later w (n + 1)) (later w (n + 2)) (later w last)
    (later w (n + size)) counted labels.1 other in
    let behind : Behind 0x0E (later w n) (later w (n + 1)) =
    record {
      parts = drop_more w.cursor.rest n 0 (omega (arith, t.0, t.1)) ∙ ap (λ (o : ℕ). o ∷ drop (n + 1) w.cursor.rest) is;
      same_end =
          refl;
      same_pending = refl;
    } in
    plain_goes profile before out out start (later w n) (later w (n + 1)) (later w (n + size)) (ks ++ below) (ks ++ below) 0x0E
    (λ e. omega (arith, e)) (λ e. omega (arith, e)) (λ e. omega (arith, e)) (λ e. omega (arith, e)) (λ e. omega (arith, e))
    refl behind (labels_passed profile 0x0E (in_both profile 0x0E imms.Labels refl) all.0 out out (later w (n + 1)) (later w (n + size)) all.1) g

-- an instruction more is passed that the table has no length for, or that has longer integers
pub other_on : (w : Reencoder) (bytes : List ℕ) (n size blocks : ℕ) (ks below : List Bool) → bytes ≡ w.cursor.rest → IsBytes w.cursor.rest
    → n + 2 < length bytes → n + size ≤ length bytes
    → IsOther bytes n size → BlocksPass w (later w n) blocks ks below → BlocksPass w (later w (n + size)) blocks ks below
other_on w bytes n size blocks ks below same fits more within (inl t) h =
    let here : get_or w.cursor.rest n 0 ≡ 0x0E = subst (λ (bs : List ℕ). get_or bs n 0 ≡ 0x0E) same t.0 in
    let s = table_step w n size h.0 below here (subst (λ (bs : List ℕ). IsShortTable bs n size) same t.1) in
    (h.0, h.1, λ profile before out first g. s profile before out first (h.2 profile before out first g))
other_on w bytes n size blocks ks below same fits more within (inr b) h =
    wide_on w bytes n (get_or bytes n 0) size blocks (get_or bytes (n + 1) 0) (get_or bytes (n + 2) 0)
    (get_or bytes (n + 3) 0) ks below same fits more within refl refl refl (λ there. refl) b h
