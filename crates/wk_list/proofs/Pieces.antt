-- Pieces that are written behind one another in an array.
use Rattle.std.proofs.Common.{◌≡◌, ℕ, ◌+◌, ◌/◌, ◌%◌, ◌<◌, ◌≤◌, List, [], ◌∷◌, ◌++◌, length, take, drop, append_assoc, ◌-◌, replicate, decimal, sym, ap, ◌∙◌}
use Rattle.std.proofs.Common.{arith, take-take, length-take-le}
use Rattle.std.proofs.Math.Seq.{take-append-add}
use Rattle.std.proofs.lemmas.Fmt.{decimal_digit, decimal_step}
use Rattle.std.proofs.lemmas.List.{take-replicate, take-append-le, take-append-drop}
use Rattle.std.specs.Prelude.{Option, Some, None, IfNone}

pub two_digits : (n : ℕ) → 10 ≤ n → n < 100 → decimal n ≡ (48 + n / 10) ∷ (48 + n % 10) ∷ []
two_digits n lo hi = rw (decimal_step n lo (omega arith), decimal_digit (n / 10) (omega arith))

-- of a piece that was written whole a front stands
pub front_of : (count many at : ℕ) (old new piece : List ℕ) → count ≤ many → at ≤ length old → take (at + many) new ≡ take at old ++ piece
    → take (at + count) new ≡ take at old ++ take count piece
front_of count many at old new piece few within e =
    let whole : length (take at old) ≡ at = length-take-le at old within in
    sym (take-take (at + count) (at + many) new (omega arith)) ∙ ap (take (at + count)) e
    ∙ ap (λ (k : ℕ). take (k + count) (take at old ++ piece)) (sym whole) ∙ take-append-add (take at old) piece count

pub margin_of : (count at : ℕ) (old new : List ℕ) → count ≤ 32 → at ≤ length old → take (at + 32) new ≡ take at old ++ replicate 32 32
    → take (at + count) new ≡ take at old ++ replicate count 32
margin_of count at old new few within e = front_of count 32 at old new _ few within e ∙ ap (λ (xs : List ℕ). take at old ++ xs) (take-replicate count 32 32 few)

-- what stands in front of what was written stays
pub front_stays : (used end : ℕ) (old new piece : List ℕ) → used ≤ length old → used ≤ end → take end new ≡ take used old ++ piece
    → take used new ≡ take used old
front_stays used end old new piece within behind e =
    let whole : length (take used old) ≡ used = length-take-le used old within in
    sym (take-take used end new behind) ∙ ap (take used) e ∙ take-append-le used (take used old) piece (omega arith) ∙ take-take used used old (omega arith)

pub if_none_known : {T P : Type 0} (o : Option T) → P → IfNone o P
if_none_known (Some x) p = tt
if_none_known None p = p

-- the first of a piece, and then the last of it as well
pub ends : (many at middle end : ℕ) (old between new piece first last : List ℕ) → many ≤ length piece → length piece ≤ many + many → at ≤ length old
    → first ≡ take many piece
    → last ≡ drop (length piece - many) piece
    → middle ≡ at + length first
    → take middle between ≡ take at old ++ first
    → take end new ≡ take (at + (length piece - many)) between ++ last
    → take end new ≡ take at old ++ piece
ends many at middle end old between new piece first last least most within is_first is_last there a b =
    let ahead : ℕ = length piece - many in
    let few : ahead ≤ many = omega arith in
    let fixed : at + length first ≡ at + many = ap (λ (k : ℕ). at + k) (ap length is_first ∙ length-take-le many piece least) in
    let whole : take (at + many) between ≡ take at old ++ first = ap (λ (k : ℕ). take k between) (sym (there ∙ fixed)) ∙ a in
    let front : take (at + ahead) between ≡ take at old ++ take ahead piece =
    front_of ahead many at old between _ few within whole ∙ ap (λ (xs : List ℕ). take at old ++ xs)
    (ap (take ahead) is_first ∙ take-take ahead many piece few) in
    b ∙ ap (λ (xs : List ℕ). xs ++ last) front ∙ ap (λ (xs : List ℕ). take at old ++ take ahead piece ++ xs) is_last
    ∙ append_assoc (take at old) (take ahead piece) (drop ahead piece) ∙ ap (λ (xs : List ℕ). take at old ++ xs) (take-append-drop ahead piece)
