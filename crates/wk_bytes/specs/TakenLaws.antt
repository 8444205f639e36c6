-- What calls of an `Out` take, one after the other.
use Rattle.std.proofs.Common.{ℕ, List, [], ◌++◌, Option, Some, None, refl, sym, ap, ◌∙◌, append_assoc, append-nil}
use Rattle.std.specs.Prelude.{Result, Ok, Err, OnErr}
use Rattle.std.specs.Io.KnownBytes.{Appends}
use Rattle.wk_bytes.specs.Taken.{TakesFront}

-- what holds in any case holds after a failure
pub on_err_known : {T E P : Type 0} (r : Result T E) → P → OnErr r P
on_err_known (Ok x) p = tt
on_err_known (Err e) p = p

-- a call that takes nothing
pub Appends-none : (a : Option (List ℕ)) → Appends a a []
Appends-none None = tt
Appends-none (Some s) = sym (append-nil s)

-- two calls that take all of their bytes
pub Appends-then : (a b c : Option (List ℕ)) (xs ys : List ℕ) → Appends a b xs → Appends b c ys → Appends a c (xs ++ ys)
Appends-then None b c xs ys p q = tt
Appends-then (Some s) None c xs ys p q = absurd p
Appends-then (Some s) (Some t) None xs ys p q = absurd q
Appends-then (Some s) (Some t) (Some u) xs ys p q = q ∙ ap (λ (r : List ℕ). r ++ ys) p ∙ append_assoc s xs ys

-- nothing is a beginning of any bytes
pub TakesFront-none : (a : Option (List ℕ)) (bytes : List ℕ) → TakesFront a a bytes
TakesFront-none a bytes = ([], bytes, refl, Appends-none a)

-- all of the bytes are a beginning of them
pub TakesFront-all : (a b : Option (List ℕ)) (bytes : List ℕ) → Appends a b bytes → TakesFront a b bytes
TakesFront-all a b bytes p = (bytes, [], sym (append-nil bytes), p)

-- a call that failed, and more was to come
pub TakesFront-first : (a b : Option (List ℕ)) (xs ys : List ℕ) → TakesFront a b xs → TakesFront a b (xs ++ ys)
TakesFront-first a b xs ys p = (p.0, p.1 ++ ys, ap (λ (r : List ℕ). r ++ ys) p.2 ∙ append_assoc p.0 p.1 ys, p.3)

-- a call that took all of its bytes, and then one that failed
pub TakesFront-then : (a b c : Option (List ℕ)) (xs ys : List ℕ) → Appends a b xs → TakesFront b c ys → TakesFront a c (xs ++ ys)
TakesFront-then a b c xs ys p q =
    (xs ++ q.0, q.1, ap (λ (r : List ℕ). xs ++ r) q.2 ∙ sym (append_assoc xs q.0 q.1), Appends-then a b c xs q.0 p q.3)
