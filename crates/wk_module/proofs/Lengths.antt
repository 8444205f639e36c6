-- Lengths up to the limit, and of pieces.
use Rattle.std.proofs.Common.{◌≡◌, ℕ, ◌+◌, ◌<◌, ◌≤◌, true, false, Option, Some, None, List, [], ◌∷◌, ◌++◌, length, map, take, get_or, nat_le, eqb, refl, sym}
use Rattle.std.proofs.Common.{ap, ◌∙◌, ◌==◌, arith, length-append}
use Rattle.std.proofs.lemmas.Bool.{eqb-true, eqb-false}
use Rattle.std.specs.Option.{option_eq}
use Rattle.std.specs.List.{flat_map, sum_by}
use Rattle.std.proofs.lemmas.Bool.{lt-leb, cond-false}
use Rattle.std.proofs.lemmas.List.{flat_map_more, get_or-map, take_more, length-map}
use Rattle.std.proofs.lemmas.List.Folds.{flat_map-map}
use Rattle.std.proofs.lemmas.List.Sums.{sum_by-cons}
use Rattle.wk_bytes.specs.Frames.{limit}
use Rattle.wk_bytes.specs.ListWords.{is_empty}
use Rattle.wk_bytes.specs.Short.{short}
use Rattle.wk_body.specs.Bodies.{BodyOf}
use Rattle.wk_body.specs.Lengths.{limited}
use Rattle.wk_body.specs.LengthsLaws.{limited_some, limited_none}
use Rattle.wk_body.specs.Written.{written_body}
use Rattle.wk_module.specs.declared.types.Func.{Func}
use Rattle.wk_module.specs.Codes.{body_sizes, code_contents}
use Rattle.wk_module.specs.Items.{written_code}
use Rattle.wk_module.specs.Sections.{CodeSection}
use Rattle.wk_module.specs.Sizes.{body_size, entry_size}
use Rattle.wk_module.specs.Writing.{list_contents, section_contents}
use Rattle.wk_module.specs.WritingLaws.{some_code, length_le_flat_map, piece_le, count_within}

-- whether a length is zero, as it is told
pub is_zero : (n : ℕ) (size : Option ℕ) → size ≡ limited n → true ≡ option_eq eqb size (Some 0) → n ≡ 0
is_zero n None is eq = absurd cc
is_zero n (Some m) is eq = omega (arith, (limited_some m n is).0, eqb-true m 0 (sym eq))

pub not_zero : (n : ℕ) (size : Option ℕ) → size ≡ limited n → false ≡ option_eq eqb size (Some 0) → 0 < n
not_zero n None is eq = omega (arith, limited_none n is)
not_zero n (Some m) is eq = omega (arith, (limited_some m n is).0, eqb-false m 0 (sym eq))

-- nothing is told past the limit
pub untold : (n : ℕ) → limit < n → None ≡ limited n
untold n past = sym (cond-false (nat_le n limit) (Some n) None (lt-leb n limit past))

-- one more piece
pub length_more : {A : Type 0} (f : A → List ℕ) (xs : List A) (i : ℕ) (x : A) → i < length xs → x ≡ get_or xs i x
    → length (flat_map f (take (i + 1) xs)) ≡ length (flat_map f (take i xs)) + length (f x)
length_more f xs i x within is =
    ap (λ ys. length (flat_map f ys)) (take_more xs i x within ∙ ap (λ y. take i xs ++ y ∷ []) (sym is))
    ∙ (ap length (sym (flat_map_more f [] (take i xs) x)) ∙ length-append (flat_map f (take i xs)) (f x))

-- the same of the bytes themselves, behind others
pub pieces_more : {A : Type 0} (f : A → List ℕ) (xs : List A) (i j : ℕ) (x : A) (before bytes now : List ℕ) → i < length xs → x ≡ get_or xs i x → j ≡ i + 1
    → bytes ≡ before ++ flat_map f (take i xs) → now ≡ bytes ++ f x → now ≡ before ++ flat_map f (take j xs)
pieces_more f xs i j x before bytes now within is next so_far more =
    more ∙ ap (λ (b : List ℕ). b ++ f x) so_far ∙ flat_map_more f before (take i xs) x
    ∙ ap (λ ys. before ++ flat_map f ys) (sym (ap (λ k. take k xs) next ∙ take_more xs i x within ∙ ap (λ y. take i xs ++ y ∷ []) (sym is)))

-- a list whose length is not zero has an item
pub some_items : {A : Type 0} (xs : List A) → (length xs == 0) ≡ false → is_empty xs ≡ false
some_items [] is = absurd cc
some_items (x ∷ xs) is = refl

pub some_length : {A : Type 0} (xs : List A) → (length xs == 0) ≡ false → 0 < length xs
some_length [] is = absurd cc
some_length (x ∷ xs) is = omega arith

-- ---- the contents of sections

-- a list of parts of items is written as the items are
pub list_contents-map : {A B : Type 0} (written : B → List ℕ) (part : A → B) (xs : List A)
    → list_contents (λ x. written (part x)) xs ≡ list_contents written (map part xs)
list_contents-map written part [] = refl
list_contents-map written part (x ∷ xs) =
    ap (λ (n : ℕ). short n ++ flat_map (λ y. written (part y)) (x ∷ xs)) (sym (length-map (x ∷ xs) part))
    ∙ ap (λ (b : List ℕ). short (length (map part (x ∷ xs))) ++ b) (sym (flat_map-map written part (x ∷ xs)))

-- the bytes of the codes of functions, one after the other
abbrev pub codes_of : List Func → List ℕ
codes_of funcs = flat_map (λ f. written_code f.body) funcs

-- the contents of the code section, where there are functions
pub codes_are : (funcs : List Func) → 0 < length funcs → code_contents funcs ≡ short (length funcs) ++ codes_of funcs
codes_are [] some = absurd (omega (arith, some))
codes_are (f ∷ fs) some = sym (list_contents-map written_code (λ (g : Func). g.body) (f ∷ fs))

pub codes_long : (funcs : List Func) → 0 < length funcs → length (code_contents funcs) ≡ length (codes_of funcs) + length (short (length funcs))
codes_long funcs some = omega (arith, ap length (codes_are funcs some), length-append (short (length funcs)) (codes_of funcs))

-- there are no more functions than bytes
pub few_funcs : (funcs : List Func) → length funcs ≤ length (code_contents funcs)
few_funcs funcs = omega (arith, count_within CodeSection (map (λ (f : Func). f.body) funcs), length-map funcs (λ (f : Func). f.body))

-- a body that is past the limit takes the code section past it
pub past_by_body : (funcs : List Func) (i : ℕ) (f : Func) → i < length funcs → f ≡ get_or funcs i f → None ≡ limited (length (written_body f.body))
    → limit < length (code_contents funcs)
past_by_body funcs i f within is none =
    omega (
      arith,
      limited_none (length (written_body f.body)) none,
      piece_le (λ (g : Func). written_code g.body) funcs i f within is,
      codes_long funcs (omega arith),
      length-append (short (length (written_body f.body))) (written_body f.body),
    )

-- ---- the code section, by the sizes of its bodies

-- the size that stands at an index is that of the body there
pub size_at : (funcs : List Func) (sizes : List ℕ) (i : ℕ) (f : Func) (size : ℕ) → sizes ≡ body_sizes funcs → i < length funcs → f ≡ get_or funcs i f
    → size ≡ get_or sizes i size → size ≡ body_size f.body
size_at funcs sizes i f size are within is sized =
    sized ∙ ap (λ (ns : List ℕ). get_or ns i size) are ∙ get_or-map (λ (g : Func). body_size g.body) funcs i f size within
    ∙ ap (λ (g : Func). body_size g.body) (sym is)

entries_sized : (bodies : List BodyOf) → sum_by entry_size (map body_size bodies) ≡ length (flat_map written_code bodies)
entries_sized [] = refl
entries_sized (b ∷ bs) =
    let code = written_body b in
    omega (
      arith,
      sum_by-cons entry_size (body_size b) (map body_size bs),
      entries_sized bs,
      length-append (written_code b) (flat_map written_code bs),
      length-append (short (length code)) code,
    )

-- there are no more bodies than bytes
pub bodies_few : (sizes : List ℕ) (bodies : List BodyOf) → sizes ≡ map body_size bodies → length sizes ≤ sum_by entry_size sizes
bodies_few sizes bodies is =
    omega (arith, ap length is, length-map bodies body_size, ap (sum_by entry_size) is, entries_sized bodies, length_le_flat_map written_code some_code bodies)

codes_none : (bodies : List BodyOf) → [] ≡ map body_size bodies → section_contents CodeSection bodies ≡ []
codes_none [] is = refl
codes_none (b ∷ bs) is = absurd cc

pub no_codes : (sizes : List ℕ) (bodies : List BodyOf) → sizes ≡ [] → sizes ≡ map body_size bodies → section_contents CodeSection bodies ≡ []
no_codes sizes bodies none is = codes_none bodies (sym none ∙ is)

sized_by : (bodies : List BodyOf) → 0 < length bodies → length (section_contents CodeSection bodies)
    ≡ sum_by entry_size (map body_size bodies) + length (short (length bodies))
sized_by [] some = absurd (omega (arith, some))
sized_by (b ∷ bs) some = omega (arith, length-append (short (length (b ∷ bs))) (flat_map written_code (b ∷ bs)), entries_sized (b ∷ bs))

pub codes_sized : (sizes : List ℕ) (bodies : List BodyOf) → 0 < length sizes → sizes ≡ map body_size bodies
    → length (section_contents CodeSection bodies) ≡ sum_by entry_size sizes + length (short (length sizes))
codes_sized sizes bodies some is =
    let count : length sizes ≡ length bodies = ap length is ∙ length-map bodies body_size in
    omega (arith, sized_by bodies (omega (arith, some, count)), ap (sum_by entry_size) is, ap (λ (n : ℕ). length (short n)) count)

pub sizes_of : (fs : List Func) → body_sizes fs ≡ map body_size (map (λ (f : Func). f.body) fs)
sizes_of [] = refl
sizes_of (f ∷ fs) = ap (λ (ns : List ℕ). body_size f.body ∷ ns) (sizes_of fs)

-- the length of the code section by the sizes of bodies
pub codes_len : (funcs : List Func) (lent sizes : List ℕ) (len : Option ℕ) → lent ≡ sizes → sizes ≡ body_sizes funcs
    → ((bodies : List BodyOf) → lent ≡ map body_size bodies → len ≡ limited (length (section_contents CodeSection bodies)))
    → len ≡ limited (length (code_contents funcs))
codes_len funcs lent sizes len same are told = told (map (λ (f : Func). f.body) funcs) (same ∙ (are ∙ sizes_of funcs))
