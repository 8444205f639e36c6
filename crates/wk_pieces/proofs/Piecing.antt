-- The pieces of a module, and how long it is by them.
use Rattle.std.proofs.Common.{◌≡◌, Bool, ℕ, ◌+◌, ◌<◌, ◌≤◌, ◌==◌, nat_le, inl, inr, if◌then◌else◌, Some, None, List, [], ◌∷◌, length, map, set, refl}
use Rattle.std.proofs.Common.{sym, ap, ◌∙◌, arith, length-append}
use Rattle.std.proofs.lemmas.Bool.{cases_eq, cond-false, cond-true, le-leb, lt-leb, ne_eqb}
use Rattle.std.proofs.lemmas.List.{length-map}
use Rattle.std.proofs.lemmas.List.Folds.{flat_map-map}
use Rattle.std.proofs.lemmas.List.Sums.{sum_by-cons}
use Rattle.std.specs.List.{flat_map}
use Rattle.wk_bytes.specs.Frames.{limit}
use Rattle.wk_bytes.specs.Short.{short}
use Rattle.wk_body.specs.Lengths.{limited}
use Rattle.wk_body.specs.Written.{written_body}
use Rattle.wk_module.specs.declared.types.Func.{Func}
use Rattle.wk_module.specs.declared.types.Parts.{Parts}
use Rattle.wk_module.specs.Items.{written_code}
use Rattle.wk_module.specs.Sections.{CodeSection, of_number}
use Rattle.wk_module.specs.Shape.{lists_of, IsInOrderFrom}
use Rattle.wk_module.specs.Sizes.{entry_size, whole_size}
use Rattle.wk_module.specs.Writing.{encoded, section_contents, ids}
use Rattle.wk_module.specs.WritingLaws.{contents_by-lent, contents_size, contents_within, length-encoded, length-encoded_sizes}
use Rattle.wk_pieces.specs.Pieces.{code_of, codes_size, customs_size, entries_size, section_piece, section_pieces}

-- ---- the limit

-- a length past it
pub past_limit : (n : ℕ) → limit < n → None ≡ limited n
past_limit n past = sym (cond-false (nat_le n limit) (Some n) None (lt-leb n limit past))

-- one within it
pub limited_within : (n : ℕ) → n ≤ limit → Some n ≡ limited n
limited_within n less = sym (cond-true (nat_le n limit) (Some n) None (le-leb n limit less))

-- ---- codes

entry_sized : (f : Func) → length (written_code f.body) ≡ entry_size (length (code_of f))
entry_sized f = length-append (short (length (written_body f.body))) (written_body f.body)

pub entries_codes : (fs : List Func) → entries_size (map code_of fs) ≡ codes_size fs
entries_codes [] = refl
entries_codes (f ∷ fs) =
    omega (
      arith,
      sum_by-cons (λ (code : List ℕ). entry_size (length code)) (code_of f) (map code_of fs),
      entries_codes fs,
      entry_sized f,
      length-append (written_code f.body) (flat_map (λ (g : Func). written_code g.body) fs),
    )

some_codes : (f : Func) (fs : List Func) → length (short (length (f ∷ fs))) + codes_size (f ∷ fs)
    ≡ length (section_contents CodeSection (map (λ g. g.body) (f ∷ fs)))
some_codes f fs =
    let all : List Func = f ∷ fs in
    let bodies = map (λ (g : Func). g.body) all in
    omega (
      arith,
      ap (λ (n : ℕ). length (short n)) (length-map all (λ (g : Func). g.body)),
      ap length (flat_map-map written_code (λ (g : Func). g.body) all),
      length-append (short (length bodies)) (flat_map written_code bodies),
    )

-- the contents of the code section, by how many functions there are and how long their codes are
pub code_contents_size : (fs : List Func) → (if length fs == 0 then 0 else length (short (length fs)) + codes_size fs)
    ≡ length (section_contents CodeSection (map (λ f. f.body) fs))
code_contents_size [] = refl
code_contents_size (f ∷ fs) =
    let all : List Func = f ∷ fs in
    ap (λ (b : Bool). if b then 0 else length (short (length all)) + codes_size all) (ne_eqb (length all) 0 (λ none. absurd (omega (arith, none))))
    ∙ some_codes f fs

codes_le : (fs : List Func) → codes_size fs ≤ length (section_contents CodeSection (map (λ f. f.body) fs))
codes_le [] = omega arith
codes_le (f ∷ fs) = omega (arith, some_codes f fs)

pub codes_within : (m : Parts) → codes_size m.funcs ≤ length (encoded m)
codes_within m = omega (arith, codes_le m.funcs, contents_within m (Some CodeSection))

-- ---- sections

pub section_within : (id : ℕ) (m : Parts) → length (section_piece id m) ≤ length (encoded m)
section_within id m =
    elim (cases_eq id 10) [
      | inl same ↦ omega (arith, ap (λ (n : ℕ). length (section_piece n m)) same)
      | inr other ↦ omega (arith, ap length (contents_by-lent (lists_of m) id other), contents_within m (of_number id))
    ]

-- ---- custom sections

pub customs_within : (m : Parts) → IsInOrderFrom 0 m.customs → customs_size m.customs ≤ length (encoded m)
customs_within m order = omega (arith, length-encoded m order)

-- ---- of a module

pub length_by : (n : Parts) (sizes : List ℕ) (code customs : ℕ) → IsInOrderFrom 0 n.customs → sizes ≡ map length (section_pieces n)
    → code ≡ (if length n.funcs == 0 then 0 else length (short (length n.funcs)) + codes_size n.funcs) → customs ≡ customs_size n.customs
    → limited (whole_size (set sizes 10 code) customs) ≡ limited (length (encoded n))
length_by n sizes code customs order sections codes frames =
    let as_whole : List ℕ → ℕ → ℕ = λ all len. whole_size all len in
    ap (λ (all : List ℕ). limited (as_whole (set all 10 code) customs)) sections
    ∙ ap (λ (c : ℕ). limited (as_whole (set (map length (section_pieces n)) 10 c) customs)) (codes ∙ code_contents_size n.funcs)
    ∙ ap (λ (c : ℕ). limited (as_whole (map (contents_size n) ids) c)) frames
    ∙ ap limited (sym (length-encoded_sizes n order))
