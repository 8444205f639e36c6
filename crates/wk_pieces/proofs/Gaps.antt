-- Bytes of which some behind a front are taken out, and over which a front as long is written.
use Rattle.std.proofs.Common.{◌≡◌, ◌+◌, ◌-◌, ◌≤◌, ℕ, List, ◌++◌, length, take, drop, sym, ap, ◌∙◌, arith, length-append, length-drop, length-take}
use Rattle.std.proofs.Math.Seq.{drop-append-add, drop-append_seam, take-append_seam}
use Rattle.std.proofs.lemmas.List.{drop-append-le, drop-drop, drop-take}
use Rattle.wk_pieces.specs.Shorter.{cut}

pub length-cut : (at size : ℕ) (bytes : List ℕ) → at + size ≤ length bytes → length (cut at size bytes) ≡ length bytes - size
length-cut at size bytes within =
    omega (arith, within, length-append (take at bytes) (drop (at + size) bytes), length-take at bytes, length-drop (at + size) bytes)

-- the bytes that stand there are gone
pub cut_at : (before gone behind : List ℕ) → cut (length before) (length gone) (before ++ (gone ++ behind)) ≡ before ++ behind
cut_at before gone behind =
    ap (λ (ys : List ℕ). ys ++ drop (length before + length gone) (before ++ (gone ++ behind))) (take-append_seam before (gone ++ behind))
    ∙ ap (λ (ys : List ℕ). before ++ ys) (drop-append-add before (gone ++ behind) (length gone) ∙ drop-append_seam gone behind)

-- behind a front that is as long
pub cut_behind : (k at size : ℕ) (bytes : List ℕ) → k + at + size ≤ length bytes → drop k (cut (k + at) size bytes) ≡ cut at size (drop k bytes)
cut_behind k at size bytes within =
    let size_of : k ≤ length (take (k + at) bytes) = omega (arith, within, length-take (k + at) bytes) in
    let same : k + at + size ≡ k + (at + size) = omega arith in
    drop-append-le k (take (k + at) bytes) (drop (k + at + size) bytes) size_of
    ∙ ap (λ (ys : List ℕ). ys ++ drop (k + at + size) bytes) (drop-take k at bytes)
    ∙ ap (λ (i : ℕ). take at (drop k bytes) ++ drop i bytes) same
    ∙ ap (λ (ys : List ℕ). take at (drop k bytes) ++ ys) (sym (drop-drop (at + size) k bytes))

-- and with that front written over it
pub cut_under : (front put gap old : List ℕ) (k at size all : ℕ) → put ≡ front ++ drop (length front) gap → gap ≡ cut (k + at) size old
    → length front ≡ k → k + at + size ≤ length old → all ≡ length gap
    → take all (put ++ drop (length put) gap) ≡ front ++ cut at size (drop k old)
cut_under front put gap old k at size all is closed count within whole =
    let short : length gap ≡ length old - size = ap length closed ∙ length-cut (k + at) size old within in
    let put_all : all ≡ length put =
    omega (arith, whole, short, within, count, ap length is, length-append front (drop (length front) gap), length-drop (length front) gap) in
    ap (λ (i : ℕ). take i (put ++ drop (length put) gap)) put_all
    ∙ take-append_seam put (drop (length put) gap)
    ∙ is
    ∙ ap (λ (i : ℕ). front ++ drop i gap) count
    ∙ ap (λ (ys : List ℕ). front ++ drop k ys) closed
    ∙ ap (λ (ys : List ℕ). front ++ ys) (cut_behind k at size old within)
