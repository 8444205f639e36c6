-- The pieces of a written form, put together, and how long they are.
use Rattle.std.proofs.Common.{◌≡◌, ◌≢◌, ℕ, suc, ◌+◌, ◌-◌, ◌<◌, ◌≤◌, List, [], ◌∷◌, ◌++◌, length, Some, None, Option, Ok, Err, Result, inl, inr, refl, sym, ap}
use Rattle.std.proofs.Common.{◌∙◌, arith, append_assoc, length-append}
use Rattle.std.proofs.lemmas.Bool.{cases_eq, ne_eqb}
use Rattle.std.specs.Prelude.{IfErr, MatchResult}
use Rattle.wk_body.specs.declared.fault.EncodeFault.{EncodeFault}
use Rattle.wk_body.specs.declared.fault.EncodeFault.TheVariants.{TooLarge}
use Rattle.std.proofs.lemmas.Grind.{flat_map-append}
use Rattle.std.specs.List.{flat_map, range_with_len}
use Rattle.wk_bytes.specs.Frames.{limit, magic, version}
use Rattle.wk_bytes.specs.Short.{short}
use Rattle.wk_bytes.specs.ShortLaws.{short-last}
use Rattle.wk_body.specs.Bodies.{BodyOf}
use Rattle.wk_module.specs.declared.types.Custom.{Custom}
use Rattle.wk_module.specs.declared.types.DataSeg.{DataSeg}
use Rattle.wk_module.specs.declared.types.Parts.{Parts}
use Rattle.wk_module.specs.Items.{written_code}
use Rattle.wk_module.specs.SectionLaws.{number-of_number}
use Rattle.wk_module.specs.Sections.{SectionId, CodeSection, DataSection, SectionLists, of_number}
use Rattle.wk_module.specs.Shape.{lists_of}
use Rattle.wk_module.specs.Writing.{encoded, section_by, contents_by, customs_at, section_and_customs, section_contents, written_section, ids, Fits}
use Rattle.wk_module.specs.WritingLaws.{contents_within}
use Rattle.wk_strip.specs.Written.{section_with, sections_from, code_front, IsTooLong}

-- ---- one section more

pub one_section : (l : SectionLists) (cs : List Custom) (id end : ℕ) (before between after whole : List ℕ) → id < end
    → between ≡ before ++ section_by l (of_number id) → after ≡ between ++ customs_at id cs
    → before ++ sections_from l cs id (end - id) ≡ whole → after ++ sections_from l cs (id + 1) (end - (id + 1)) ≡ whole
one_section l cs id end before between after whole lt section customs so_far =
    let later = sections_from l cs (id + 1) (end - (id + 1)) in
    let count : end - id ≡ suc (end - (id + 1)) = omega arith in
    let split : sections_from l cs id (end - id) ≡ section_with l cs id ++ later = ap (sections_from l cs id) count in
    let regroup : ((before ++ section_by l (of_number id)) ++ customs_at id cs) ++ later
    ≡ before ++ ((section_by l (of_number id) ++ customs_at id cs) ++ later) = simp append_assoc refl in
    ap (λ (b : List ℕ). b ++ later) (customs ∙ ap (λ (b : List ℕ). b ++ customs_at id cs) section) ∙ regroup
    ∙ ap (λ (b : List ℕ). before ++ b) (sym split) ∙ so_far

-- ---- the code section

abbrev pub codes_bytes : List BodyOf → List ℕ
codes_bytes bodies = flat_map written_code bodies

code_section_is : (bodies : List BodyOf) → written_section CodeSection bodies ≡ code_front (length bodies) (length (codes_bytes bodies)) ++ codes_bytes bodies
code_section_is [] = refl
code_section_is (b ∷ bs) =
    let count = short (length (b ∷ bs)) in
    let codes = codes_bytes (b ∷ bs) in
    let size : length (count ++ codes) ≡ length count + length codes = length-append count codes in
    rw (ne_eqb (length (b ∷ bs)) 0 (omega arith))
    (ap (λ (n : ℕ). 10 ∷ (short n ++ (count ++ codes))) size
    ∙ ap (λ (r : List ℕ). 10 ∷ r) (sym (append_assoc (short (length count + length codes)) count codes)))

-- ---- the whole

abbrev pub bare : SectionLists → SectionLists
bare l = record l { codes = [] }

module _ (l : SectionLists) (cs : List Custom) (bodies : List BodyOf) (x : List DataSeg) where
  abbrev Full : SectionLists
  Full = record l { codes = bodies; datas = x }

  abbrev Behind : SectionLists
  Behind = record l { codes = []; datas = x }

  front_is : sections_from Full cs 0 10 ≡ sections_from (bare l) cs 0 10
  front_is = refl

  behind_is : sections_from Full cs 10 2 ≡ (code_front (length bodies) (length (codes_bytes bodies)) ++ codes_bytes bodies) ++ sections_from Behind cs 10 2
  behind_is =
      let last = section_with Behind cs 11 ++ [] in
      ap (λ (b : List ℕ). (b ++ customs_at 10 cs) ++ last) (code_section_is bodies)
      ∙ append_assoc (code_front (length bodies) (length (codes_bytes bodies)) ++ codes_bytes bodies) (customs_at 10 cs) last

  parted : flat_map (section_with Full cs) ids ≡ sections_from (bare l) cs 0 10
      ++ ((code_front (length bodies) (length (codes_bytes bodies)) ++ codes_bytes bodies) ++ sections_from Behind cs 10 2)
  parted = flat_map-append (section_with Full cs) (range_with_len 0 10) (range_with_len 10 2)
      ∙ ap (λ (b : List ℕ). sections_from (bare l) cs 0 10 ++ b) behind_is

  pub whole_is : (m : Parts) → lists_of m ≡ Full → encoded (record m { customs = cs })
      ≡ (((magic ++ version) ++ sections_from (bare l) cs 0 10) ++ code_front (length bodies) (length (codes_bytes bodies)))
      ++ (codes_bytes bodies ++ sections_from Behind cs 10 2)
  unfolding encoded
  whole_is m lists =
      let front = sections_from (bare l) cs 0 10 in
      let head = code_front (length bodies) (length (codes_bytes bodies)) in
      let last = sections_from Behind cs 10 2 in
      let sections : flat_map (section_and_customs (record m { customs = cs })) ids ≡ front ++ ((head ++ codes_bytes bodies) ++ last) =
      ap (λ (k : SectionLists). flat_map (section_with k cs) ids) lists ∙ parted in
      let regroup : (magic ++ version) ++ (front ++ ((head ++ codes_bytes bodies) ++ last))
      ≡ (((magic ++ version) ++ front) ++ head) ++ (codes_bytes bodies ++ last) =
      ap (λ (b : List ℕ). (magic ++ version) ++ (front ++ b)) (append_assoc head (codes_bytes bodies) last)
      ∙ sym (append_assoc (magic ++ version) front (head ++ (codes_bytes bodies ++ last)))
      ∙ sym (append_assoc ((magic ++ version) ++ front) head (codes_bytes bodies ++ last)) in
      ap (λ (b : List ℕ). (magic ++ version) ++ b) sections ∙ regroup

  -- ---- how long the pieces are, in a module that fits

  by_front : (k : Option SectionId) → k ≢ Some CodeSection → k ≢ Some DataSection → contents_by (bare l) k ≡ contents_by Full k
  by_front None no_code no_data = refl
  by_front (Some CodeSection) no_code no_data = absurd (no_code refl)
  by_front (Some DataSection) no_code no_data = absurd (no_data refl)
  by_front (Some _) no_code no_data = refl

  by_behind : (k : Option SectionId) → k ≢ Some CodeSection → contents_by Behind k ≡ contents_by Full k
  by_behind None no_code = refl
  by_behind (Some CodeSection) no_code = absurd (no_code refl)
  by_behind (Some _) no_code = refl

  module _ (m : Parts) (lists : lists_of m ≡ Full) (fits : Fits (record m { customs = cs })) where
    within : (k : Option SectionId) → length (contents_by Full k) ≤ limit
    within k =
        let le = contents_within (record m { customs = cs }) k in
        omega (arith, le, fits, ap (λ (n : SectionLists). length (contents_by n k)) lists)

    pub front_short : IsTooLong (bare l) 0 10 → ⊥
    front_short (id, least, most, long) =
        let same = by_front (of_number id) (λ is. omega (arith, most, number-of_number id CodeSection is))
        (λ is. omega (arith, most, number-of_number id DataSection is)) in
        omega (arith, long, within (of_number id), ap length same)

    pub behind_short : IsTooLong Behind 10 12 → ⊥
    behind_short (id, least, most, long) =
        elim (cases_eq id 10) [
          | inl is ↦ let none : length (contents_by Behind (of_number 10)) ≡ 0 = refl in
              omega (arith, long, none, ap (λ (n : ℕ). length (contents_by Behind (of_number n))) is)
          | inr other ↦
              let same = by_behind (of_number id) (λ is. other (number-of_number id CodeSection is)) in
              omega (arith, long, within (of_number id), ap length same)
        ]

    codes_within : (bs : List BodyOf) → length (section_contents CodeSection bs) ≤ limit → length (short (length bs)) + length (codes_bytes bs) ≤ limit
    codes_within [] le = rw (short-last 0 (omega arith)) (omega arith)
    codes_within (b ∷ bs) le = omega (arith, le, length-append (short (length (b ∷ bs))) (codes_bytes (b ∷ bs)))

    pub codes_short : length (short (length bodies)) + length (codes_bytes bodies) ≤ limit
    codes_short = codes_within bodies (within (Some CodeSection))

-- ---- without a code section

module _ (m : Parts) (cs : List Custom) (l : SectionLists) (lists : lists_of m ≡ l) where
  pub all_is : encoded (record m { customs = cs }) ≡ (magic ++ version) ++ sections_from l cs 0 12
  unfolding encoded
  all_is = ap (λ (k : SectionLists). (magic ++ version) ++ flat_map (section_with k cs) ids) lists

  pub all_short : Fits (record m { customs = cs }) → IsTooLong l 0 12 → ⊥
  all_short fits (id, least, most, long) =
      let le = contents_within (record m { customs = cs }) (of_number id) in
      omega (arith, le, fits, long, ap (λ (n : SectionLists). length (contents_by n (of_number id))) lists)

-- ---- what was written or not

pub not_too_large : {A : Type 0} (r : Result A EncodeFault) (P : A → Type 0) (Long : Type 0) → MatchResult r P (λ e. e ≡ TooLarge → Long) → (Long → ⊥)
    → IfErr r (λ e. e ≢ TooLarge)
not_too_large (Ok x) P Long told none = tt
not_too_large (Err e) P Long told none = λ is. none (told is)
