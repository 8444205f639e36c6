-- The sections of the details listing, one id after the other.
use Rattle.std.proofs.Common.{◌≡◌, ℕ, ◌+◌, ◌<◌, List, ◌++◌, drop, sym, ap, ◌∙◌, append_assoc}
use Rattle.std.specs.List.{flat_map}
use Rattle.wk_module.specs.declared.types.Parts.{Parts}
use Rattle.wk_module.specs.Sections.{of_number}
use Rattle.wk_module.specs.Writing.{ids}
use Rattle.wk_module.specs.WritingLaws.{drop-ids}
use Rattle.wk_list.specs.Sketches.{IsSketch}
use Rattle.wk_list.specs.Details.{details_by, details_of}
use Rattle.wk_list.proofs.CustomSteps.{details_at}

-- the details from an id on
abbrev pub details_from : Parts → ℕ → List ℕ
details_from m id = flat_map (details_of m) (drop id ids)

-- a section comes next, and the customs behind it, which are those of a sketch
pub section_next : (m p : Parts) (id : ℕ) (t : List ℕ) → id < 12 → IsSketch m p
    → t ++ details_from m id ≡ (t ++ details_by m (of_number id)) ++ (details_at id p.customs ++ details_from m (id + 1))
section_next m p id t lt same =
    let of_sketch = ap (λ (q : Parts). details_at id q.customs) same.rest in
    ap (λ (r : List ℕ). t ++ r) (ap (flat_map (details_of m)) (drop-ids id lt)
    ∙ append_assoc (details_by m (of_number id)) (details_at id m.customs) (details_from m (id + 1)))
    ∙ sym (append_assoc t (details_by m (of_number id)) _)
    ∙ ap (λ (r : List ℕ). (t ++ details_by m (of_number id)) ++ (r ++ details_from m (id + 1))) (sym of_sketch)
