-- What stood before stands in front of what stands now.
use Rattle.std.proofs.Common.{◌≡◌, ℕ, List, ◌++◌, ap, ◌∙◌, append_assoc}
use Rattle.std.specs.Prelude.{Result, Ok, Err, OnErr}
use Rattle.wk_list.specs.Text.{StandsInFront}

pub front_more : (old between new x : List ℕ) → StandsInFront old between → new ≡ between ++ x → StandsInFront old new
front_more old between new x p e = (p.0 ++ x, e ∙ ap (λ (r : List ℕ). r ++ x) p.1 ∙ append_assoc old p.0 x)

pub front_refused : {T E : Type 0} (r : Result T E) (old between new : List ℕ) → StandsInFront old between → OnErr r (StandsInFront between new)
    → OnErr r (StandsInFront old new)
front_refused (Ok x) old between new p q = tt
front_refused (Err e) old between new p q = front_more old between new q.0 p q.1
