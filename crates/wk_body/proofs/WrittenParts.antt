-- The parts that are read behind a place, and whether an else branch that begins there is empty.
use Rattle.std.proofs.Common.{◌≡◌, ℕ, zero, suc, Bool, true, false, List, [], ◌∷◌, length, Option, Some, None, Result, Ok, Err, refl, ap, subst, arith}
use Rattle.wk_bytes.specs.declared.fault.ReadFault.{ReadFault}
use Rattle.wk_bytes.specs.Leb.{◌>>=◌}
use Rattle.wk_bytes.specs.SpanLaws.{ok_is}
use Rattle.wk_body.specs.declared.types.Profile.{Profile}
use Rattle.wk_body.specs.Tree.{Tok, Simple, Open, OpenIf, Otherwise, Close, Part, before}
use Rattle.wk_body.specs.Reading.{after, token_at, With, in_front, then_on, parts_at}
use Rattle.wk_body.specs.ToWrite.{Parted}

before_len : (t : Tok) (ks next : List Bool) (xs : List Part) → after t ks ≡ Some next → Parted next xs → Parted ks (before t xs)
before_len t ks next [] h parted = absurd (omega (arith, parted))
before_len (Simple p) ks next (x ∷ xs) h parted =
    let same : ks ≡ next = cc in
    omega (arith, parted, ap length same)
before_len (Open kind ty skip) ks next (x ∷ []) h parted =
    let same : false ∷ ks ≡ next = cc in
    absurd (omega (arith, parted, ap length same))
before_len (Open kind ty skip) ks next (x ∷ y ∷ ys) h parted =
    let same : false ∷ ks ≡ next = cc in
    omega (arith, parted, ap length same)
before_len (OpenIf ty skip) ks next (x ∷ []) h parted =
    let same : true ∷ ks ≡ next = cc in
    absurd (omega (arith, parted, ap length same))
before_len (OpenIf ty skip) ks next (x ∷ y ∷ ys) h parted =
    let same : true ∷ ks ≡ next = cc in
    omega (arith, parted, ap length same)
before_len (Otherwise skip) [] next (x ∷ xs) h parted =
    let same : [] ≡ next = cc in
    omega (arith, parted, ap length same)
before_len (Otherwise skip) (k ∷ ks) next (x ∷ xs) h parted =
    let same : false ∷ ks ≡ next = cc in
    omega (arith, parted, ap length same)
before_len Close [] next (x ∷ xs) h parted = absurd cc
before_len Close (k ∷ ks) next (x ∷ xs) h parted =
    let same : ks ≡ next = cc in
    omega (arith, parted, ap length same)

last_len : (t : Tok) (ks : List Bool) → after t ks ≡ None → Parted ks (before t [])
last_len (Simple p) ks h = absurd cc
last_len (Open kind ty skip) ks h = absurd cc
last_len (OpenIf ty skip) ks h = absurd cc
last_len (Otherwise skip) ks h = absurd cc
last_len Close [] h = refl
last_len Close (k ∷ ks) h = absurd cc

front_len : (t : Tok) (ks next : List Bool) (read : Result With ReadFault) (x : With) → after t ks ≡ Some next
    → ((y : With) → read ≡ Ok y → Parted next y.0) → in_front t read ≡ Ok x → Parted ks x.0
front_len t ks next (Err e) x a more h = absurd cc
front_len t ks next (Ok y) x a more h =
    let same : before t y.0 ≡ x.0 = ap (λ (w : With). w.0) (ok_is (before t y.0, y.1) x h) in
    subst (λ (xs : List Part). Parted ks xs) same (before_len t ks next y.0 a (more y refl))

then_len : (t : Tok) (rest : List ℕ) (ks : List Bool) (o : Option (List Bool)) (more : List Bool → Result With ReadFault) (x : With) → after t ks ≡ o
    → ((next : List Bool) (y : With) → more next ≡ Ok y → Parted next y.0) → then_on t rest o more ≡ Ok x → Parted ks x.0
then_len t rest ks None more x a h e =
    let same : before t [] ≡ x.0 = ap (λ (w : With). w.0) (ok_is (before t [], rest) x e) in
    subst (λ (xs : List Part). Parted ks xs) same (last_len t ks a)
then_len t rest ks (Some next) more x a h e = front_len t ks next (more next) x a (h next) e

on_len : (ks : List Bool) (r : Result (Tok × List ℕ) ReadFault) (more : List ℕ → List Bool → Result With ReadFault) (x : With)
    → ((rest : List ℕ) (next : List Bool) (y : With) → more rest next ≡ Ok y → Parted next y.0)
    → (r >>= λ t. then_on t.0 t.1 (after t.0 ks) (more t.1)) ≡ Ok x → Parted ks x.0
on_len ks (Err f) more x h e = absurd cc
on_len ks (Ok t) more x h e = then_len t.0 t.1 ks (after t.0 ks) (more t.1) x refl (h t.1) e

pub parts_len : (profile : Profile) (n : ℕ) (ks : List Bool) (end : ℕ) (bytes : List ℕ) (x : With) → parts_at profile n ks end bytes ≡ Ok x → Parted ks x.0
unfolding parts_at
parts_len profile zero ks end bytes x e = absurd cc
parts_len profile (suc n) ks end bytes x e = on_len ks (token_at profile ks end bytes) (λ rest next. parts_at profile n next end rest) x
    (λ rest next y h. parts_len profile n next end rest y h) e
