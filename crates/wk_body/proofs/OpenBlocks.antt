-- Open blocks that are the bits of a number, and are spilled to a reader.
use Rattle.std.proofs.Common.{◌≡◌, ℕ, ◌+◌, ◌-◌, ◌*◌, ◌/◌, ◌%◌, ◌<◌, ◌≤◌, Bool, true, false, eqb, inl, inr, Some, List, [], ◌∷◌, ◌++◌, ◌^◌, length, take, drop}
use Rattle.std.proofs.Common.{reverse, length-take, length-drop, refl, sym, ap, ◌∙◌, arith}
use Rattle.std.proofs.lemmas.Nat.{pow-add}
use Rattle.std.proofs.lemmas.List.{length-reverse, reverse-append, take-append-drop, take_at, drop_at}
use Rattle.std.proofs.Math.Nat.{pow-le-pow_right}
use Rattle.std.proofs.lemmas.Bool.{cases_eq}
use Rattle.wk_body.specs.declared.types.Profile.{Profile}
use Rattle.wk_body.specs.declared.reencoder.Reencoder.{Reencoder}
use Rattle.wk_body.specs.Tree.{Close, Otherwise}
use Rattle.wk_body.specs.Reading.{after, may_else}
use Rattle.wk_body.specs.Reencoding.{Behind, GoesOn, Goes, Ends, TakesElse}
use Rattle.wk_body.specs.Minimal.{bit_of, number_of, blocks_after}
use Rattle.wk_body.proofs.Rewriting.{close_goes, close_ends}
use Rattle.wk_body.proofs.MinimalWalk.{number_some}

-- the first list, turned, in front of the second
abbrev pub turn : List Bool → List Bool → List Bool
turn [] ys = ys
turn (x ∷ xs) ys = turn xs (x ∷ ys)

turn-append : (xs ys zs : List Bool) → turn xs ys ++ zs ≡ turn xs (ys ++ zs)
turn-append [] ys zs = refl
turn-append (x ∷ xs) ys zs = turn-append xs (x ∷ ys) zs

-- of these blocks the innermost are turned
abbrev pub Turning : ℕ → ℕ → List Bool → Type 0
Turning turned left ks = (front : List Bool) × (rest : List Bool) × (turned ≡ number_of front) × (left ≡ number_of rest) × (turn front rest ≡ ks)

-- of these blocks the outermost are the reader's
abbrev pub Opening : ℕ → List Bool → List Bool → Type 0
Opening turned kinds all = (rest : List Bool) × (turned ≡ number_of rest) × (turn rest kinds ≡ all)

low_bit : (k : Bool) (n : ℕ) → (2 * n + bit_of k) % 2 ≡ bit_of k
low_bit true n = omega arith
low_bit false n = omega arith

high_bits : (k : Bool) (n : ℕ) → (2 * n + bit_of k) / 2 ≡ n
high_bits true n = omega arith
high_bits false n = omega arith

is_bit : (k : Bool) → eqb (bit_of k) 1 ≡ k
is_bit true = refl
is_bit false = refl

pub turns : (turned left double : ℕ) (front rest ks : List Bool) → double ≡ turned * 2 → 1 < left → turned ≡ number_of front → left ≡ number_of rest
    → turn front rest ≡ ks → Turning (double + left % 2) (left / 2) ks
turns turned left double front [] ks twice some a b e = absurd (omega arith)
turns turned left double front (k ∷ rest) ks twice some a b e =
    (k ∷ front, rest, omega (arith, a, twice, low_bit k (number_of rest), ap (λ (n : ℕ). n % 2) b), ap (λ (n : ℕ). n / 2) b ∙ high_bits k (number_of rest), e)

none_left : (left : ℕ) (front rest ks : List Bool) → left ≤ 1 → left ≡ number_of rest → turn front rest ≡ ks → turn front [] ≡ ks
none_left left front [] ks le b e = e
none_left left front (k ∷ rest) ks le b e = absurd (omega (arith, b, number_some rest))

pub turned_all : (turned left : ℕ) (ks kinds : List Bool) → left ≤ 1 → Turning turned left ks → Opening turned kinds (ks ++ kinds)
turned_all turned left ks kinds le h = (h.0, h.2, sym (turn-append h.0 [] kinds) ∙ ap (λ (bs : List Bool). bs ++ kinds) (none_left left h.0 h.1 ks le h.3 h.4))

pub opens : (turned : ℕ) (rest kinds all : List Bool) → 1 < turned → turned ≡ number_of rest → turn rest kinds ≡ all
    → Opening (turned / 2) (eqb (turned % 2) 1 ∷ kinds) all
opens turned [] kinds all some a e = absurd (omega arith)
opens turned (k ∷ rest) kinds all some a e =
    let bit : eqb (turned % 2) 1 ≡ k = ap (λ (n : ℕ). eqb (n % 2) 1) a ∙ ap (λ (n : ℕ). eqb n 1) (low_bit k (number_of rest)) ∙ is_bit k in
    (rest, ap (λ (n : ℕ). n / 2) a ∙ high_bits k (number_of rest), ap (λ (b : Bool). turn rest (b ∷ kinds)) bit ∙ e)

pub none_open : (turned : ℕ) (kinds all : List Bool) → turned ≤ 1 → Opening turned kinds all → kinds ≡ all
none_open turned kinds all le h = gone h.0 h.1 h.2
  where
    gone : (rest : List Bool) → turned ≡ number_of rest → turn rest kinds ≡ all → kinds ≡ all
    gone [] a e = e
    gone (k ∷ rest) a e = absurd (omega (arith, a, number_some rest))

number_short : (ks : List Bool) → number_of ks < 2 ^ (length ks + 1)
number_short [] = omega arith
number_short (k ∷ ks) =
    let long : length (k ∷ ks) + 1 ≡ length ks + 1 + 1 = omega arith in
    omega (arith, number_short ks, low k, pow-add 2 (length ks + 1) 1, ap (λ (i : ℕ). 2 ^ i) long)
  where
    low : (k : Bool) → bit_of k ≤ 1
    low true = omega arith
    low false = omega arith

-- few blocks, the innermost last
pub front_short : (blocks : List Bool) (i number : ℕ) → length blocks ≤ 31 → number ≡ number_of (reverse (take i blocks)) → number < 2 ^ 32
front_short blocks i number few is =
    let short : length (reverse (take i blocks)) ≤ 31 = omega (arith, length-reverse (take i blocks), length-take i blocks) in
    let less : 2 ^ (length (reverse (take i blocks)) + 1) ≤ 2 ^ 32 =
    pow-le-pow_right {n = 2} (omega arith) {i = length (reverse (take i blocks)) + 1} {j = 32} (omega arith) in
    omega (arith, number_short (reverse (take i blocks)))

pub none_inner : (number : ℕ) (ks : List Bool) → number ≤ 1 → number ≡ number_of ks → ks ≡ []
none_inner number [] le is = refl
none_inner number (k ∷ ks) le is = absurd (omega (arith, is, number_some ks))

-- ---- the innermost blocks of a list that has them last

turned_parts : (blocks : List Bool) (m : ℕ) → reverse blocks ≡ reverse (drop m blocks) ++ reverse (take m blocks)
turned_parts blocks m = ap (reverse {A = Bool}) (sym (take-append-drop m blocks)) ∙ reverse-append (take m blocks) (drop m blocks)

pub left_open : (blocks : List Bool) (n count : ℕ) → n ≡ length blocks → count ≤ length blocks → reverse (take (n - count) blocks) ≡ drop count (reverse blocks)
left_open blocks n count is within =
    let last = drop (n - count) blocks in
    let long : length (reverse last) ≡ count = omega (arith, length-reverse last, length-drop (n - count) blocks) in
    sym (ap (drop count) (turned_parts blocks (n - count)) ∙ drop_at (reverse last) (reverse (take (n - count) blocks)) count long)

pub last_turned : (blocks last : List Bool) (m : ℕ) → last ≡ drop m blocks → reverse last ≡ take (length last) (reverse blocks)
last_turned blocks last m is =
    let long : length (reverse (drop m blocks)) ≡ length last = omega (arith, ap length is, length-reverse (drop m blocks)) in
    ap (reverse {A = Bool}) is
    ∙ sym (ap (take (length last)) (turned_parts blocks m) ∙ take_at (reverse (drop m blocks)) (reverse (take m blocks)) (length last) long)

-- ---- ends, elses and openers

pub closes_bit : (inner : ℕ) (ks kinds : List Bool) → 1 < inner → inner ≡ number_of ks → Ends false (ks ++ kinds) (inner / 2) kinds
closes_bit inner [] kinds some is = absurd (omega arith)
closes_bit inner (k ∷ ks) kinds some is = (ks, ap (λ (n : ℕ). n / 2) is ∙ high_bits k (number_of ks), refl)

pub closes_kept : (inner number : ℕ) (ks next old closed kinds : List Bool) → inner ≤ 1 → inner ≡ number_of ks → after Close old ≡ Some closed
    → number ≡ number_of next → closed ≡ next ++ kinds → Ends false (ks ++ old) number kinds
closes_kept inner number ks next old closed kinds le is read taken same =
    (next, taken, ap (λ (bs : List Bool). after Close (bs ++ old)) (none_inner inner ks le is) ∙ read ∙ ap (λ (bs : List Bool). Some bs) same)

pub closes_none : (inner : ℕ) (ks old kinds : List Bool) → inner ≤ 1 → inner ≡ number_of ks → old ≡ [] → Ends true (ks ++ old) inner kinds
closes_none inner ks old kinds le is none = (ks, is, ap (λ (bs : List Bool). bs ++ old) (none_inner inner ks le is) ∙ none)

pub end_goes : (last : Bool) (profile : Profile) (before out : List ℕ) (first from to : Reencoder) (all kinds : List Bool) (number opcode : ℕ)
    → opcode ≡ 0x0B → Ends last all number kinds → Behind opcode from to
    → GoesOn profile before first all out from → (next : List Bool) × (number ≡ number_of next) × Goes last profile before first (next ++ kinds) out to
end_goes false profile before out first from to all kinds number opcode is e b g =
    (e.0, e.1, close_goes profile before out first from to all (e.0 ++ kinds) opcode is e.2 b g)
end_goes true profile before out first from to all kinds number opcode is e b g = (e.0, e.1, close_ends profile before out first from to all opcode is e.2 b g)

pub else_bit : (inner : ℕ) (ks kinds : List Bool) → inner ≡ number_of ks → 1 < inner → inner % 2 ≡ 1 → TakesElse (ks ++ kinds) (inner - 1) kinds
else_bit inner [] kinds is some odd = absurd (omega arith)
else_bit inner (true ∷ outer) kinds is some odd = (outer ++ kinds, false ∷ outer, refl, omega arith, refl)
else_bit inner (false ∷ outer) kinds is some odd = absurd (omega arith)

pub else_kept : (inner : ℕ) (ks old kinds : List Bool) → inner ≤ 1 → inner ≡ number_of ks → may_else old ≡ true → after (Otherwise 0) old ≡ Some kinds
    → TakesElse (ks ++ old) inner kinds
else_kept inner ks [] kinds le is may e = absurd cc
else_kept inner ks (false ∷ outer) kinds le is may e = absurd cc
else_kept inner ks (true ∷ outer) kinds le is may e =
    let none = none_inner inner ks le is in
    let same : false ∷ outer ≡ kinds = cc in
    (outer, ks, ap (λ (bs : List Bool). bs ++ true ∷ outer) none, is, ap (λ (bs : List Bool). bs ++ kinds) none ∙ sym same)

pub opened_bits : (opcode blocks : ℕ) (ks : List Bool) → 0x02 ≤ opcode → opcode ≤ 0x04 → blocks ≡ number_of ks
    → blocks_after opcode blocks ≡ number_of (eqb opcode 0x04 ∷ ks)
opened_bits opcode blocks ks low high is =
    elim (cases_eq opcode 0x02) [
      | inl e ↦ let bit = ap (λ (o : ℕ). bit_of (eqb o 0x04)) e in let after = ap (λ (o : ℕ). blocks_after o blocks) e in omega (arith, bit, after, is)
      | inr n2 ↦ elim (cases_eq opcode 0x03) [
        | inl e ↦ let bit = ap (λ (o : ℕ). bit_of (eqb o 0x04)) e in let after = ap (λ (o : ℕ). blocks_after o blocks) e in omega (arith, bit, after, is)
        | inr n3 ↦
            let e : opcode ≡ 0x04 = omega (arith, n2, n3) in
            let bit = ap (λ (o : ℕ). bit_of (eqb o 0x04)) e in
            let after = ap (λ (o : ℕ). blocks_after o blocks) e in
            omega (arith, bit, after, is)
      ]
    ]
