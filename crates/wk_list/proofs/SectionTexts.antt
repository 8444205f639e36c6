-- The sections of the details listing by their ids.
use Rattle.std.proofs.Common.{◌≡◌, ◌≢◌, ℕ, ◌+◌, ◌<◌, ◌^◌, List, [], ◌∷◌, ◌++◌, Option, Some, None, length, map, refl, sym, ap, ◌∙◌, subst, arith}
use Rattle.std.proofs.lemmas.List.{length-map}
use Rattle.wk_module.specs.declared.types.Func.{Func}
use Rattle.wk_module.specs.declared.types.Parts.{Parts}
use Rattle.wk_module.specs.declared.types.Kind.TheVariants as kinds
use Rattle.wk_module.specs.Listed.{AreNumbered}
use Rattle.wk_module.specs.NumberedLaws.{module_numbered, numbered_with}
use Rattle.wk_module.specs.Sections.{SectionId, FunctionSection, CodeSection, of_number}
use Rattle.wk_module.specs.SectionLaws.{number-of_number}
use Rattle.wk_module.specs.Shape.{lists_of, IsShaped}
use Rattle.wk_list.specs.Sketches.{IsSketch}
use Rattle.wk_list.specs.Spaces.{count_of}
use Rattle.wk_list.specs.Text.{numbered}
use Rattle.wk_list.specs.Details.{func_line, heading, group, section_details, details_by}

-- the lists of a sketch are no longer than indexes count, as those of the module
pub sketch_numbered : (m p : Parts) → IsShaped m → IsSketch m p → AreNumbered (lists_of p)
sketch_numbered m p shaped same =
    let few = module_numbered m shaped.formed in
    let funcs : length (map (λ (f : Func). f.ty) p.funcs) < 2 ^ 32 = subst (λ (ts : List ℕ). length ts < 2 ^ 32) (sym same.types) few.funcs in
    subst (λ (q : Parts). AreNumbered (lists_of q)) (sym same.rest)
    (numbered_with CodeSection (map (λ (f : Func). f.body) p.funcs) _ tt
    (numbered_with FunctionSection (map (λ (f : Func). f.ty) p.funcs) (lists_of m) funcs few))

-- ---- lines of functions tell their types alone

lines_same : (from k : ℕ) (fs gs : List Func) → map (λ (f : Func). f.ty) fs ≡ map (λ (f : Func). f.ty) gs
    → numbered (λ n. func_line (k + n)) from fs ≡ numbered (λ n. func_line (k + n)) from gs
lines_same from k [] [] same = refl
lines_same from k [] (g ∷ gs) same = absurd cc
lines_same from k (f ∷ fs) [] same = absurd cc
lines_same from k (f ∷ fs) (g ∷ gs) same =
    let first : f.ty ≡ g.ty = cc in
    let others : map (λ (h : Func). h.ty) fs ≡ map (λ (h : Func). h.ty) gs = cc in
    ap (λ (x : ℕ). func_line (k + from) (record f { ty = x }) ++ numbered (λ n. func_line (k + n)) (from + 1) fs) first
    ∙ ap (λ (r : List ℕ). func_line (k + from) g ++ r) (lines_same (from + 1) k fs gs others)

rows_same : (id k : ℕ) (fs gs : List Func) → map (λ (f : Func). f.ty) fs ≡ map (λ (f : Func). f.ty) gs
    → group id (λ n. func_line (k + n)) fs ≡ group id (λ n. func_line (k + n)) gs
rows_same id k [] [] same = refl
rows_same id k [] (g ∷ gs) same = absurd cc
rows_same id k (f ∷ fs) [] same = absurd cc
rows_same id k (f ∷ fs) (g ∷ gs) same =
    let many : length (f ∷ fs) ≡ length (g ∷ gs) =
    omega (arith, length-map (f ∷ fs) (λ (h : Func). h.ty), length-map (g ∷ gs) (λ (h : Func). h.ty), ap length same) in
    ap (λ (r : List ℕ). heading id (length (f ∷ fs)) ++ r) (lines_same 0 k (f ∷ fs) (g ∷ gs) same)
    ∙ ap (λ (n : ℕ). heading id n ++ numbered (λ n. func_line (k + n)) 0 (g ∷ gs)) many

-- ---- the text of a section but that of the codes is that of a sketch

details_kept : (m p : Parts) (k : Option SectionId) → IsSketch m p → (k ≡ Some CodeSection → ⊥) → details_by p k ≡ details_by m k
details_kept m p None same other = refl
details_kept m p (Some FunctionSection) same other =
    ap (λ (q : Parts). group 3 (λ n. func_line (count_of kinds.Func q.imports + n)) p.funcs) same.rest
    ∙ rows_same 3 (count_of kinds.Func m.imports) p.funcs m.funcs same.types
details_kept m p (Some CodeSection) same other = absurd (other refl)
details_kept m p (Some k) same other = ap (λ (q : Parts). section_details q k) same.rest

pub section_same : (m p : Parts) (id : ℕ) → IsSketch m p → id ≢ 10 → details_by p (of_number id) ≡ details_by m (of_number id)
section_same m p id same other = details_kept m p (of_number id) same (λ e. other (number-of_number id CodeSection e))
