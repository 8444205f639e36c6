-- Laws of the ids of sections, and of what each holds after others were given.
use Rattle.std.proofs.Common.{◌≡◌, ◌≢◌, ◌<◌, ◌≤◌, ℕ, cond, eqb, ◌⊎◌, inl, inr, Option, Some, None, refl, sym, ap, ◌∙◌, arith}
use Rattle.std.proofs.lemmas.Bool.{cases_Bool, eqb-true, eqb-false}
use Rattle.wk_bytes.specs.LebLaws.{chosen, some_is}
use Rattle.wk_module.specs.Sections.{SectionId, TypeSection, ImportSection, FunctionSection, TableSection, MemorySection, GlobalSection, ExportSection}
use Rattle.wk_module.specs.Sections.{StartSection, ElementSection, CodeSection, DataSection, number, of_number, ContentsOf, SectionLists, contents, omitted}
use Rattle.wk_module.specs.Sections.{no_lists, pick, with_contents}

-- ---- ids and numbers

pub of_number-number : (k : SectionId) → of_number (number k) ≡ Some k
of_number-number TypeSection = refl
of_number-number k = refl

pub of_number-none : (n : ℕ) → n ≡ 0 → of_number n ≡ None
of_number-none n is = ap of_number is

pub of_number-is : (n : ℕ) (k : SectionId) → n ≡ number k → of_number n ≡ Some k
of_number-is n k is = ap of_number is ∙ of_number-number k

-- an id that stands first, or one of the others
first_or : (n : ℕ) (j k : SectionId) (others : Option SectionId) → cond (eqb n (number j)) (Some j) others ≡ Some k → (others ≡ Some k → n ≡ number k)
    → n ≡ number k
first_or n j k others e h =
    elim (chosen (eqb n (number j)) (Some j) others (Some k) e) [
      | inl p ↦ eqb-true n (number j) p.0 ∙ ap number (some_is j k p.1)
      | inr p ↦ h p.1
    ]

pub number-of_number : (n : ℕ) (k : SectionId) → of_number n ≡ Some k → n ≡ number k
number-of_number n k e =
    first_or n TypeSection k _ e (λ e.
    first_or n ImportSection k _ e (λ e.
    first_or n FunctionSection k _ e (λ e.
    first_or n TableSection k _ e (λ e.
    first_or n MemorySection k _ e (λ e.
    first_or n GlobalSection k _ e (λ e.
    first_or n ExportSection k _ e (λ e.
    first_or n StartSection k _ e (λ e.
    first_or n ElementSection k _ e (λ e.
    first_or n CodeSection k _ e (λ e.
    first_or n DataSection k _ e (λ e. absurd cc)))))))))))

not_first : (n : ℕ) (j : SectionId) (others : Option SectionId) → cond (eqb n (number j)) (Some j) others ≡ None → (n ≢ number j) × (others ≡ None)
not_first n j others e =
    elim (chosen (eqb n (number j)) (Some j) others None e) [
      | inl p ↦ absurd cc
      | inr p ↦ (eqb-false n (number j) p.0, p.1)
    ]

-- up to 11 only 0 is the id of no section
pub numbers_none : (n : ℕ) → n ≤ 11 → of_number n ≡ None → n ≡ 0
numbers_none n small e =
    let a = not_first n TypeSection _ e in
    let b = not_first n ImportSection _ a.1 in
    let c = not_first n FunctionSection _ b.1 in
    let d = not_first n TableSection _ c.1 in
    let f = not_first n MemorySection _ d.1 in
    let g = not_first n GlobalSection _ f.1 in
    let h = not_first n ExportSection _ g.1 in
    let i = not_first n StartSection _ h.1 in
    let j = not_first n ElementSection _ i.1 in
    let k = not_first n CodeSection _ j.1 in
    let l = not_first n DataSection _ k.1 in
    omega (arith, small, a.0, b.0, c.0, d.0, f.0, g.0, h.0, i.0, j.0, k.0, l.0)

-- what has that id: a custom section, or one that holds lists
abbrev pub HasId : ℕ → Type 0
HasId n = ((n ≡ 0) × (of_number n ≡ None)) ⊎ ((k : SectionId) × (n ≡ number k) × (of_number n ≡ Some k))

has_id_by : (n : ℕ) (o : Option SectionId) → n ≤ 11 → of_number n ≡ o → HasId n
has_id_by n None small e = inl (numbers_none n small e, e)
has_id_by n (Some k) small e = inr (k, number-of_number n k e, e)

pub has_id : (n : ℕ) → n ≤ 11 → HasId n
has_id n small = has_id_by n (of_number n) small refl

-- numbers differ where ids do
pub same_number : (j k : SectionId) → number j ≡ number k → j ≡ k
same_number j k e = some_is j k (sym (of_number-number j) ∙ ap of_number e ∙ of_number-number k)

pub other_number : (j k : SectionId) → j ≢ k → number j ≢ number k
other_number j k other e = other (same_number j k e)

pub same_or_other : (j k : SectionId) → (j ≡ k) ⊎ (j ≢ k)
same_or_other j k =
    elim (cases_Bool (eqb (number j) (number k))) [
      | inl t ↦ inl (same_number j k (eqb-true (number j) (number k) t))
      | inr f ↦ inr (λ e. eqb-false (number j) (number k) f (ap number e))
    ]

pub number_some : (k : SectionId) → 0 < number k
number_some TypeSection = omega arith
number_some k = omega arith

pub number_most : (k : SectionId) → number k < 12
number_most TypeSection = omega arith
number_most k = omega arith

-- ---- what each holds

pub pick_same : (k : SectionId) (x old : ContentsOf k) → pick k k x old ≡ x
pick_same TypeSection x old = refl
pick_same k x old = refl

pub pick_other : (k j : SectionId) (x : ContentsOf j) (old : ContentsOf k) → j ≢ k → pick k j x old ≡ old
pick_other TypeSection TypeSection x old other = absurd (other refl)
pick_other ImportSection ImportSection x old other = absurd (other refl)
pick_other FunctionSection FunctionSection x old other = absurd (other refl)
pick_other TableSection TableSection x old other = absurd (other refl)
pick_other MemorySection MemorySection x old other = absurd (other refl)
pick_other GlobalSection GlobalSection x old other = absurd (other refl)
pick_other ExportSection ExportSection x old other = absurd (other refl)
pick_other StartSection StartSection x old other = absurd (other refl)
pick_other ElementSection ElementSection x old other = absurd (other refl)
pick_other CodeSection CodeSection x old other = absurd (other refl)
pick_other DataSection DataSection x old other = absurd (other refl)
pick_other k j x old other = refl

pub contents-with : (j k : SectionId) (x : ContentsOf j) (l : SectionLists) → contents (with_contents j x l) k ≡ pick k j x (contents l k)
contents-with j TypeSection x l = refl
contents-with j k x l = refl

pub contents-here : (k : SectionId) (x : ContentsOf k) (l : SectionLists) → contents (with_contents k x l) k ≡ x
contents-here k x l = contents-with k k x l ∙ pick_same k x (contents l k)

pub contents-elsewhere : (j k : SectionId) (x : ContentsOf j) (l : SectionLists) → j ≢ k → contents (with_contents j x l) k ≡ contents l k
contents-elsewhere j k x l other = contents-with j k x l ∙ pick_other k j x (contents l k) other

pub contents-none : (k : SectionId) → contents no_lists k ≡ omitted k
contents-none TypeSection = refl
contents-none k = refl

-- lists are the same where each section's are
pub same_lists : (l n : SectionLists) → ((k : SectionId) → contents l k ≡ contents n k) → l ≡ n
same_lists l n e = λ i. record {
  types = e TypeSection i;
  imports = e ImportSection i;
  funcs = e FunctionSection i;
  tables = e TableSection i;
  memories = e MemorySection i;
  globals = e GlobalSection i;
  exports = e ExportSection i;
  start = e StartSection i;
  elems = e ElementSection i;
  codes = e CodeSection i;
  datas = e DataSection i;
}
