-- Laws of results that are put one after the other.
use Rattle.std.proofs.Common.{◌≡◌, ℕ, Result, Ok, Err, refl}
use Rattle.wk_bytes.specs.Leb.{◌>>=◌}
use Rattle.wk_typing.specs.declared.fault.FaultKind.{FaultKind}
use Rattle.wk_typing.specs.Own.{TokenFault, at_token}

pub bind_ext : {A B E : Type 0} (m : Result A E) (f g : A → Result B E) → ((x : A) → f x ≡ g x) → (m >>= f) ≡ (m >>= g)
bind_ext (Ok x) f g h = h x
bind_ext (Err e) f g h = refl

pub bind_assoc : {A B C E : Type 0} (m : Result A E) (f : A → Result B E) (g : B → Result C E) → ((m >>= f) >>= g) ≡ (m >>= λ x. f x >>= g)
bind_assoc (Ok x) f g = refl
bind_assoc (Err e) f g = refl

pub at_bind : {A B C : Type 0} (k : ℕ) (m : Result A FaultKind) (f : A → B) (g : B → Result C TokenFault)
    → (at_token k (m >>= λ x. Ok (f x)) >>= g) ≡ (at_token k m >>= λ x. g (f x))
at_bind k (Ok x) f g = refl
at_bind k (Err e) f g = refl

-- two checks at one token
pub at_bind2 : {A B C D : Type 0} (k : ℕ) (m : Result A FaultKind) (x : B) (f : B → Result C FaultKind) (g : C → Result D TokenFault)
    → (at_token k ((m >>= λ u. Ok x) >>= f) >>= g) ≡ (at_token k m >>= λ u. at_token k (f x) >>= g)
at_bind2 k (Ok u) x f g = refl
at_bind2 k (Err e) x f g = refl
