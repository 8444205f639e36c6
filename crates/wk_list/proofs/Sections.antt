-- Sections as they stand in the written form and in the listing of headers: none without contents, and else one with its own id.
use Rattle.std.proofs.Common.{◌≡◌, ℕ, ◌<◌, Bool, true, false, if◌then◌else◌, Option, Some, None, List, [], ◌++◌, length, refl, sym, ap, ◌∙◌, arith, append-nil}
use Rattle.std.specs.Prelude.{codes}
use Rattle.std.proofs.lemmas.List.{length-map}
use Rattle.wk_module.specs.declared.types.Func.{Func}
use Rattle.wk_module.specs.declared.types.Parts.{Parts}
use Rattle.wk_module.specs.Sections.{SectionId, FunctionSection, CodeSection, number, of_number, ContentsOf, contents, is_full, written_contents}
use Rattle.wk_module.specs.Shape.{lists_of}
use Rattle.wk_module.specs.Writing.{section_contents, contents_by}
use Rattle.wk_module.specs.SectionLaws.{number-of_number}
use Rattle.wk_module.specs.WritingLaws.{some_contents}
use Rattle.wk_list.specs.Sketches.{IsSketch}
use Rattle.wk_list.specs.Headers.{count_text, header_text, header_line, header_tail, header_by, tail_by, contents_start}
use Rattle.wk_list.proofs.Headings.{regroup}

-- ---- without contents

left_out : (k : SectionId) (x : ContentsOf k) (full : Bool) (line : List ℕ) → is_full k x ≡ full → length (if full then written_contents k x else []) ≡ 0
    → (if full then line else []) ≡ []
left_out k x true line is none = absurd (omega (arith, some_contents k x is, none))
left_out k x false line is none = refl

header_none : (m : Parts) (at : ℕ) (k : Option SectionId) → length (contents_by (lists_of m) k) ≡ 0 → header_by m at k ≡ []
header_none m at None none = refl
header_none m at (Some k) none = left_out k (contents (lists_of m) k) (is_full k (contents (lists_of m) k)) _ refl none

pub no_line : (m : Parts) (at : ℕ) (k : Option SectionId) (text : List ℕ) → length (contents_by (lists_of m) k) ≡ 0 → text ≡ text ++ header_by m at k
no_line m at k text none = sym (append-nil text) ∙ ap (λ (line : List ℕ). text ++ line) (sym (header_none m at k none))

-- ---- with contents

put_in : {A : Type 0} (k : SectionId) (x : ContentsOf k) (full : Bool) (some : List A) → 0 < length (if full then written_contents k x else [])
    → (if full then some else []) ≡ some
put_in k x true some few = refl
put_in k x false some few = absurd (omega arith)

header_some : (m : Parts) (at id : ℕ) (k : Option SectionId) → of_number id ≡ k → 0 < length (contents_by (lists_of m) k)
    → header_by m at k ≡ header_line id at (length (contents_by (lists_of m) k)) (tail_by m k)
header_some m at id None is some = absurd (omega arith)
header_some m at id (Some k) is some =
    let x = contents (lists_of m) k in
    put_in k x (is_full k x) (header_line (number k) at (length (section_contents k x)) (header_tail m k)) some
    ∙ ap (λ (n : ℕ). header_line n at (length (section_contents k x)) (header_tail m k)) (sym (number-of_number id k is))

-- ---- lines

-- a line that was gathered piece by piece
line : (id at size start : ℕ) (t tail a b c : List ℕ) → start ≡ contents_start at size → a ≡ t ++ header_text id start size → b ≡ a ++ tail
    → c ≡ b ++ codes "\n" → c ≡ t ++ header_line id at size tail
line id at size start t tail a b c is head behind end =
    end ∙ ap (λ (x : List ℕ). x ++ codes "\n") (behind ∙ ap (λ (x : List ℕ). x ++ tail) (head ∙ ap (λ (s : ℕ). t ++ header_text id s size) is))
    ∙ regroup t (header_text id (contents_start at size) size) tail (codes "\n")

pub section_line : (m : Parts) (id at size start : ℕ) (t a b c : List ℕ) → size ≡ length (contents_by (lists_of m) (of_number id)) → 0 < size
    → start ≡ contents_start at size → a ≡ t ++ header_text id start size → b ≡ a ++ tail_by m (of_number id) → c ≡ b ++ codes "\n"
    → c ≡ t ++ header_by m at (of_number id)
section_line m id at size start t a b c long some is head behind end =
    line id at size start t (tail_by m (of_number id)) a b c is head behind end
    ∙ ap (λ (n : ℕ). t ++ header_line id at n (tail_by m (of_number id))) long
    ∙ ap (λ (x : List ℕ). t ++ x) (sym (header_some m at id (of_number id) refl (omega (arith, long, some))))

-- ---- what stands behind the size tells nothing of bodies

pub many_funcs : (m d : Parts) → IsSketch m d → length d.funcs ≡ length m.funcs
many_funcs m d is = omega (arith, length-map d.funcs (λ (f : Func). f.ty), length-map m.funcs (λ (f : Func). f.ty), ap length is.types)

pub tail_same : (m d : Parts) → IsSketch m d → (k : Option SectionId) → tail_by d k ≡ tail_by m k
tail_same m d is None = refl
tail_same m d is (Some FunctionSection) = ap count_text (many_funcs m d is)
tail_same m d is (Some CodeSection) = ap count_text (many_funcs m d is)
tail_same m d is (Some k) = ap (λ (p : Parts). header_tail p k) is.rest
