-- By how many bytes a module is longer than another, by how many its sections are.
use Rattle.std.proofs.Common.{◌≡◌, ℕ, zero, suc, ◌+◌, ◌*◌, ◌/◌, ◌^◌, ◌<◌, ◌≤◌, ◌==◌, if◌then◌else◌, not, inl, inr, Option, Some, None, List, [], ◌∷◌, ◌++◌}
use Rattle.std.proofs.Common.{length, map, ap, ◌∙◌, arith, length-append}
use Rattle.std.proofs.lemmas.Bool.{cases_lt}
use Rattle.std.proofs.lemmas.List.Sums.{sum_by-cons}
use Rattle.std.specs.List.{flat_map, sum_by}
use Rattle.wk_bytes.specs.Frames.{magic, version}
use Rattle.wk_bytes.specs.ListWords.{is_empty}
use Rattle.wk_bytes.specs.Short.{short}
use Rattle.wk_bytes.specs.ShortLaws.{short-last, short-more, short-some, short-few}
use Rattle.wk_body.specs.Bodies.{BodyOf}
use Rattle.wk_body.specs.Vectors.{written_vector}
use Rattle.wk_module.specs.declared.types.Custom.{Custom}
use Rattle.wk_module.specs.declared.types.Func.{Func}
use Rattle.wk_module.specs.declared.types.Parts.{Parts}
use Rattle.wk_module.specs.Sections.{SectionId, SectionLists, number, of_number, contents}
use Rattle.wk_module.specs.Shape.{lists_of}
use Rattle.wk_module.specs.Writing.{framed, written_section, section_by, section_of, customs_at, section_and_customs, ids, encoded}
use Rattle.wk_module.specs.WritingLaws.{short-rises, length-framed}

-- ---- the shortest spellings of sums

short_near : (a n : ℕ) → n ≤ 128 * a + 127 → length (short n) ≤ 1 + length (short a)
short_near a n near =
    elim (cases_lt n 128) [
      | inl small ↦ omega (arith, ap length (short-last n small))
      | inr large ↦ omega (arith, ap length (short-more n large), short-rises (n / 128) a (omega arith))
    ]

-- a sum is spelled in as many bytes as its parts
pub short_sum : (a b : ℕ) → length (short (a + b)) ≤ length (short a) + length (short b)
short_sum a b =
    elim (cases_lt a b) [
      | inl less ↦ omega (arith, short_near b (a + b) (omega arith), short-some a)
      | inr more ↦ omega (arith, short_near a (a + b) (omega arith), short-some b)
    ]

eighth_within : (k n : ℕ) → n ≤ k → 8 * length (short n) ≤ 8 + n
eighth_within zero n within = omega (arith, ap length (short-last n (omega arith)))
eighth_within (suc k) n within =
    elim (cases_lt n 128) [
      | inl small ↦ omega (arith, ap length (short-last n small))
      | inr large ↦ omega (arith, ap length (short-more n large), eighth_within k (n / 128) (omega arith))
    ]

-- a number has few bytes beside itself
pub short_eighth : (n : ℕ) → 8 * length (short n) ≤ 8 + n
short_eighth n = eighth_within n n (omega arith)

-- an integer of 32 bits has at most five
pub short_five : (n : ℕ) → n < 2 ^ 32 → length (short n) ≤ 5
short_five n few = omega (arith, short-few 32 n (omega arith) few)

-- ---- sections

-- a section that is a vector, which is left out where it is empty
abbrev pub list_section : {A : Type 0} → ℕ → (A → List ℕ) → List A → List ℕ
list_section id written xs = if not (is_empty xs) then framed id (written_vector written xs) else []

pub framed_longer : (id : ℕ) (a b : List ℕ) (n : ℕ) → length a ≤ length b + n → length (framed id a) ≤ length (framed id b) + n + length (short n)
framed_longer id a b n le =
    omega (arith, length-framed id a, length-framed id b, short-rises (length a) (length b + n) le, short_sum (length b) n)

-- one more item
pushed_bytes : {A : Type 0} (written : A → List ℕ) (xs : List A) (x : A)
    → length (flat_map written (xs ++ x ∷ [])) ≡ length (flat_map written xs) + length (written x)
pushed_bytes written [] x = omega (arith, length-append (written x) [])
pushed_bytes written (y ∷ xs) x =
    omega (arith, pushed_bytes written xs x, length-append (written y) (flat_map written xs), length-append (written y) (flat_map written (xs ++ x ∷ [])))

pushed_vector : {A : Type 0} (written : A → List ℕ) (xs : List A) (x : A)
    → length (written_vector written (xs ++ x ∷ [])) ≤ length (written_vector written xs) + (1 + length (written x))
pushed_vector written xs x =
    let more = xs ++ x ∷ [] in
    omega (
      arith,
      pushed_bytes written xs x,
      ap (λ (n : ℕ). length (short n)) (length-append xs (x ∷ [])),
      short_sum (length xs) 1,
      ap length (short-last 1 (omega arith)),
      length-append (short (length xs)) (flat_map written xs),
      length-append (short (length more)) (flat_map written more),
    )

pub pushed_section : {A : Type 0} (id : ℕ) (written : A → List ℕ) (xs : List A) (x : A)
    → length (list_section id written (xs ++ x ∷ [])) ≤ length (list_section id written xs) + length (written x) + length (short (1 + length (written x))) + 4
pushed_section id written [] x =
    let none = written_vector written [] in
    omega (
      arith,
      framed_longer id (written_vector written (x ∷ [])) none (1 + length (written x)) (pushed_vector written [] x),
      length-framed id none,
      length-append (short 0) (flat_map written []),
      ap length (short-last 0 (omega arith)),
      ap (λ (n : ℕ). length (short n)) (length-append (short 0) (flat_map written []) ∙ ap (λ (b : List ℕ). length b + 0) (short-last 0 (omega arith))),
      ap length (short-last 1 (omega arith)),
    )
pushed_section id written (y ∷ ys) x =
    let xs = y ∷ ys in
    omega (arith, framed_longer id (written_vector written (xs ++ x ∷ [])) (written_vector written xs) (1 + length (written x)) (pushed_vector written xs x))

-- as many items that have so many bytes more
pub changed_section : {A : Type 0} (id : ℕ) (written : A → List ℕ) (xs ys : List A) (n : ℕ) → length xs ≡ length ys
    → length (flat_map written xs) ≤ length (flat_map written ys) + n
    → length (list_section id written xs) ≤ length (list_section id written ys) + n + length (short n)
changed_section id written [] [] n many le = omega arith
changed_section id written [] (y ∷ ys) n many le = omega arith
changed_section id written (x ∷ xs) [] n many le = absurd (omega arith)
changed_section id written (x ∷ xs) (y ∷ ys) n many le =
    let new = x ∷ xs in
    let old = y ∷ ys in
    framed_longer id (written_vector written new) (written_vector written old) n (omega (
      arith,
      ap (λ (i : ℕ). length (short i)) many,
      length-append (short (length new)) (flat_map written new),
      length-append (short (length old)) (flat_map written old),
    ))

-- ---- modules

-- what functions put into their two sections
abbrev pub bodies_of : List Func → List BodyOf
bodies_of fs = map (λ f. f.body) fs

length-flat_map_more : {A : Type 0} (f g : A → List ℕ) (more : A → ℕ) → ((x : A) → length (f x) ≤ length (g x) + more x) → (xs : List A)
    → length (flat_map f xs) ≤ length (flat_map g xs) + sum_by more xs
length-flat_map_more f g more le [] = omega arith
length-flat_map_more f g more le (x ∷ xs) =
    omega (arith, le x, length-flat_map_more f g more le xs, sum_by-cons more x xs, length-append (f x) (flat_map f xs), length-append (g x) (flat_map g xs))

-- a number for one section, and 0 for all others
abbrev pub only : SectionId → ℕ → SectionId → ℕ
only j n k = if number j == number k then n else 0

abbrev pub by_id : (SectionId → ℕ) → Option SectionId → ℕ
by_id more None = 0
by_id more (Some k) = more k

-- the sum over all sections
abbrev pub over_sections : (SectionId → ℕ) → ℕ
over_sections more = sum_by (λ id. by_id more (of_number id)) ids

by_longer : (l n : SectionLists) (more : SectionId → ℕ)
    → ((k : SectionId) → length (written_section k (contents l k)) ≤ length (written_section k (contents n k)) + more k)
    → (k : Option SectionId) → length (section_by l k) ≤ length (section_by n k) + by_id more k
by_longer l n more each None = omega arith
by_longer l n more each (Some k) = each k

-- Where each section is longer by so much at most, and the customs are the same, the module is by the sum.
pub length-encoded_more : (m n : Parts) (more : SectionId → ℕ) → m.customs ≡ n.customs
    → ((k : SectionId) → length (written_section k (contents (lists_of m) k)) ≤ length (written_section k (contents (lists_of n) k)) + more k)
    → length (encoded m) ≤ length (encoded n) + over_sections more
unfolding encoded
length-encoded_more m n more same each =
    let le = length-flat_map_more (section_and_customs m) (section_and_customs n) (λ (id : ℕ). by_id more (of_number id))
    (λ id. omega (
      arith,
      by_longer (lists_of m) (lists_of n) more each (of_number id),
      ap (λ (cs : List Custom). length (customs_at id cs)) same,
      length-append (section_of m id) (customs_at id m.customs),
      length-append (section_of n id) (customs_at id n.customs),
    )) ids in
    omega (
      arith,
      le,
      length-append (magic ++ version) (flat_map (section_and_customs m) ids),
      length-append (magic ++ version) (flat_map (section_and_customs n) ids),
    )
