-- What a call that looks for something answers.
use Rattle.std.proofs.Common.{◌≡◌, ℕ, Option, Some, None, ap}

pub found_is : (m n : ℕ) → Some m ≡ Some n → m ≡ n
found_is m n e = cc

pair_is : (p q : ℕ × ℕ) → Some p ≡ Some q → p ≡ q
pair_is p q e = cc

pub index_is : (x y m n : ℕ) → ◌≡◌ {A = Option (ℕ × ℕ)} (Some (x, m)) (Some (y, n)) → (x ≡ y) × (m ≡ n)
index_is x y m n e = let both = pair_is (x, m) (y, n) e in (ap (λ (p : ℕ × ℕ). p.0) both, ap (λ (p : ℕ × ℕ). p.1) both)

pub not_found : {A : Type 0} (x : A) → None ≡ Some x → ⊥
not_found x e = cc
