-- What a module without its bodies tells of it.
use Rattle.std.proofs.Common.{◌≡◌, ◌≢◌, ℕ, Option, List, [], length, map, refl, sym, ap, ◌∙◌, subst, arith}
use Rattle.std.specs.Prelude.{unwrap_or}
use Rattle.std.proofs.lemmas.Simd.{map-map}
use Rattle.wk_module.specs.declared.types.Func.{Func}
use Rattle.wk_module.specs.declared.types.Parts.{Parts}
use Rattle.wk_module.specs.Outlines.{outlined, outlined_func}
use Rattle.wk_module.specs.Sections.{of_number}
use Rattle.wk_module.specs.Shape.{lists_of}
use Rattle.wk_module.specs.Writing.{contents_by, Fits, SectionLen}
use Rattle.wk_module.specs.WritingLaws.{contents_by-lent, contents_within}
use Rattle.wk_list.specs.Sketches.{IsSketch}
use Rattle.wk_list.proofs.Told.{told_section}

types_kept : (m : Parts) → map (λ (f : Func). f.ty) (outlined m).funcs ≡ map (λ (f : Func). f.ty) m.funcs
types_kept m = map-map (λ (f : Func). f.ty) outlined_func m.funcs

pub is_sketch : (m d n : Parts) → n ≡ d → d ≡ outlined m → IsSketch m n
is_sketch m d n same is = subst (IsSketch m) (sym (same ∙ is)) (record { rest = refl; types = types_kept m })

-- the contents of a section but that of the codes are those of the module
contents_kept : (m : Parts) (id : ℕ) → id ≢ 10 → contents_by (lists_of (outlined m)) (of_number id) ≡ contents_by (lists_of m) (of_number id)
contents_kept m id other =
    sym (contents_by-lent (lists_of (outlined m)) id other)
    ∙ ap (λ (ts : List ℕ). contents_by (record (lists_of m) { funcs = ts; codes = [] }) (of_number id)) (types_kept m) ∙ contents_by-lent (lists_of m) id other

pub told_apart : (m d : Parts) (id : ℕ) (len : Option ℕ) → d ≡ outlined m → id ≢ 10 → SectionLen (lists_of d) (of_number id) len → Fits m
    → unwrap_or len 0 ≡ length (contents_by (lists_of m) (of_number id))
told_apart m d id len is other so fits =
    let same : length (contents_by (lists_of d) (of_number id)) ≡ length (contents_by (lists_of m) (of_number id)) =
    ap (λ (n : Parts). length (contents_by (lists_of n) (of_number id))) is ∙ ap length (contents_kept m id other) in
    told_section (lists_of d) (of_number id) len so (omega (arith, same, contents_within m (of_number id), fits)) ∙ same
