-- In a module that fits every length is told: each piece of its written form is within the limit.
use Rattle.std.proofs.Common.{◌≡◌, ℕ, ◌<◌, ◌≤◌, List, Option, Some, None, length, get_or, ap, ◌∙◌, arith, length-append}
use Rattle.std.specs.Prelude.{unwrap_or}
use Rattle.std.proofs.lemmas.List.{get_or_default}
use Rattle.wk_bytes.specs.Short.{short}
use Rattle.wk_bytes.specs.Frames.{limit}
use Rattle.wk_body.specs.Lengths.{limited}
use Rattle.wk_body.specs.Written.{written_body}
use Rattle.wk_module.specs.declared.types.Parts.{Parts}
use Rattle.wk_module.specs.declared.types.Func.{Func}
use Rattle.wk_module.specs.declared.types.Custom.{Custom}
use Rattle.wk_module.specs.Customs.{written_custom}
use Rattle.wk_module.specs.Sections.{SectionId, SectionLists, contents}
use Rattle.wk_module.specs.Shape.{IsInOrderFrom}
use Rattle.wk_module.specs.Writing.{section_contents, contents_by, Fits, SectionLen}
use Rattle.wk_module.specs.WritingLaws.{code_within, custom_within, length-framed}
use Rattle.wk_list.proofs.Walk.{told}

pub told_section : (l : SectionLists) (k : Option SectionId) (len : Option ℕ) → SectionLen l k len → length (contents_by l k) ≤ limit
    → unwrap_or len 0 ≡ length (contents_by l k)
told_section l None len so fits = ap (λ (n : Option ℕ). unwrap_or n 0) so
told_section l (Some k) len so fits = told len (length (section_contents k (contents l k))) so fits

-- the length of an item of a list, whose bytes are within the limit
told_item : {A : Type 0} (bytes : A → List ℕ) (xs items : List A) (i : ℕ) (x other : A) (len : Option ℕ) → items ≡ xs → i < length xs
    → x ≡ get_or items i x → (x ≡ get_or xs i x → length (bytes x) ≤ limit) → len ≡ limited (length (bytes x))
    → unwrap_or len 0 ≡ length (bytes (get_or xs i other))
told_item bytes xs items i x other len same within is fits so =
    let at : x ≡ get_or xs i x = is ∙ ap (λ ys. get_or ys i x) same in
    told len (length (bytes x)) so (fits at) ∙ ap (λ y. length (bytes y)) (at ∙ get_or_default xs i x other within)

pub told_custom : (m : Parts) (items : List Custom) (i : ℕ) (c other : Custom) (len : Option ℕ) → items ≡ m.customs → i < length m.customs
    → c ≡ get_or items i c → IsInOrderFrom 0 m.customs → Fits m → len ≡ limited (length (written_custom c))
    → unwrap_or len 0 ≡ length (written_custom (get_or m.customs i other))
told_custom m items i c other len same within is order fits so =
    told_item written_custom m.customs items i c other len same within is
    (λ at. omega (arith, custom_within m i c within at order, length-framed 0 (written_custom c), fits)) so

pub told_body : (m : Parts) (items : List Func) (i : ℕ) (f other : Func) (len : Option ℕ) → items ≡ m.funcs → i < length m.funcs
    → f ≡ get_or items i f → Fits m → len ≡ limited (length (written_body f.body))
    → unwrap_or len 0 ≡ length (written_body (get_or m.funcs i other).body)
told_body m items i f other len same within is fits so =
    told_item (λ g. written_body g.body) m.funcs items i f other len same within is
    (λ at. omega (arith, code_within m i f within at, length-append (short (length (written_body f.body))) (written_body f.body), fits)) so
