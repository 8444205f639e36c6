-- The whole of a listing: what was gathered last goes out at its end.
use Rattle.std.proofs.Common.{◌≡◌, ℕ, List, [], ◌++◌, append-nil, sym, ap, ◌∙◌}
use Rattle.std.specs.Prelude.{Result, Ok, Err, Option, OnErr}
use Rattle.wk_bytes.specs.Taken.{TakesFront}
use Rattle.wk_list.specs.Taken.{PutsOut}
use Rattle.wk_list.proofs.TakenLemmas.{puts_same, stops_on}

pub stops_last : {W U T E : Type 0} {taken : W → Option (List ℕ)} {failed : W → ℕ} {a b : W} {text left between : List ℕ} {u : U} (c : W) (r : Result T E)
    (all : List ℕ) → text ≡ [] → PutsOut taken failed a b (text ++ all) left (Ok u) → between ≡ left → OnErr r (TakesFront (taken b) (taken c) between)
    → OnErr r (TakesFront (taken a) (taken c) all)
stops_last c (Ok x) all none so_far same stopped = tt
stops_last {left = left} {between = between} c (Err e) all none so_far same stopped =
    stops_on _ _ _ all left between [] (puts_same (ap (λ (x : List ℕ). x ++ all) none) so_far).ok
    (sym (append-nil left) ∙ ap (λ (x : List ℕ). x ++ []) (sym same)) stopped
