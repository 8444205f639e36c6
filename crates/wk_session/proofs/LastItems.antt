-- A module without the last item of one of its lists finds what the module finds to which the item came.
use Rattle.std.proofs.Common.{◌≡◌, ℕ, ◌-◌, List, [], ◌∷◌, ◌++◌, length, take, map, ap, ◌∙◌, arith, length-append}
use Rattle.std.proofs.Math.Seq.{take-append_seam}
use Rattle.wk_module.specs.declared.types.Parts.{Parts}
use Rattle.wk_module.specs.Sections.{SectionLists}
use Rattle.wk_check.specs.Spaces.{answer_in, spaces_of}
use Rattle.wk_check.specs.SpacesLaws.{answers_of}

-- all but the last
abbrev pub but_last : {A : Type 0} → List A → List A
but_last xs = take (length xs - 1) xs

pub but_last_push : {A : Type 0} (xs : List A) (x : A) → but_last (xs ++ x ∷ []) ≡ xs
but_last_push {A = A} xs x =
    let all : List A = xs ++ x ∷ [] in
    let count : length all - 1 ≡ length xs = omega (arith, length-append xs (x ∷ [])) in
    ap (λ (n : ℕ). take n all) count ∙ take-append_seam xs (x ∷ [])

-- what references find in the lists without the last item of a list, to which an item came
pub push_before : {A : Type 0} (m : Parts) (lists_with : List A → List ℕ → SectionLists) (xs ys : List A) (x : A) (fs : List ℕ) (l : SectionLists)
    → answer_in (spaces_of (lists_with xs (map (λ f. f.ty) m.funcs))) ≡ answers_of m
    → l ≡ lists_with (but_last ys) fs → ys ≡ xs ++ x ∷ [] → fs ≡ map (λ f. f.ty) m.funcs
    → answer_in (spaces_of l) ≡ answers_of m
push_before {A = A} m lists_with xs ys x fs l were is pushed funcs =
    ap (λ (k : SectionLists). answer_in (spaces_of k))
    (is ∙ ap (λ (zs : List A). lists_with zs fs) (ap but_last pushed ∙ but_last_push xs x) ∙ ap (lists_with xs) funcs)
    ∙ were
