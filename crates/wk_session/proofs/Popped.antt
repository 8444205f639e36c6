-- Lists with one item more, and without it again.
use Rattle.std.proofs.Common.{◌≡◌, ℕ, List, [], ◌∷◌, ◌++◌, length, take, Option, Some, None, sym, ap, ◌∙◌, arith, length-append}
use Rattle.std.proofs.Math.Seq.{take-append_seam}
use Rattle.std.specs.Prelude.{IfSome, IfNone}

module _ {A : Type 0} where
  pub popped : (o : Option A) (old new ts : List A) (t : A) → old ≡ ts ++ t ∷ [] → IfSome o (λ d. old ≡ new ++ d ∷ [])
      → IfNone o ((old ≡ []) × (new ≡ [])) → new ≡ ts
  popped None old new ts t is some none = absurd (omega (arith, ap length is, ap length none.0, length-append ts (t ∷ [])))
  popped (Some d) old new ts t is some none =
      let lengths : length new ≡ length ts = omega (arith, ap length is, ap length some, length-append ts (t ∷ []), length-append new (d ∷ [])) in
      sym (take-append_seam new (d ∷ [])) ∙ ap (take (length new)) (sym some ∙ is) ∙ ap (λ (n : ℕ). take n (ts ++ t ∷ [])) lengths
      ∙ take-append_seam ts (t ∷ [])
