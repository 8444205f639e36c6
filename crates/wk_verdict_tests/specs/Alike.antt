-- Answers for tests that give each index of a kind the same.
use Rattle.std.specs.Prelude.{◌≡◌, ℕ, List, [], ◌∷◌}
use Rattle.std.proofs.Common.{refl}
use Rattle.wk_body.specs.declared.renumber.Moving.{Moving}
use Rattle.wk_body.specs.declared.renumber.Moving.TheVariants as moving
use Rattle.wk_body.specs.declared.references.Ref.{Ref}
use Rattle.wk_body.specs.declared.references.Ref.TheVariants.{Ty, Func, Global, Table, Memory}
use Rattle.wk_module.specs.declared.types.FuncType.{FuncType}
use Rattle.wk_module.specs.declared.types.GlobalType.{GlobalType}
use Rattle.wk_typing.specs.Answers.{Found, TypeIs, FuncIs, GlobalIs, IsPresent, IsOfKind}
use Rattle.wk_typing.specs.Carried.{Agree, AgreeMoved, moved_ref}

abbrev pub alike : FuncType → GlobalType → Ref → Found
alike t g (Ty x) = TypeIs t
alike t g (Func x) = FuncIs t
alike t g (Global x) = GlobalIs g
alike t g Table = IsPresent
alike t g Memory = IsPresent

pub alike_of_kind : (t : FuncType) (g : GlobalType) (r : Ref) → IsOfKind r (alike t g r)
alike_of_kind t g (Ty x) = tt
alike_of_kind t g (Func x) = tt
alike_of_kind t g (Global x) = tt
alike_of_kind t g Table = tt
alike_of_kind t g Memory = tt

pub alike_agree : (t : FuncType) (g : GlobalType) (rs : List Ref) → Agree (alike t g) (alike t g) rs
alike_agree t g [] = tt
alike_agree t g (r ∷ rs) = (refl, alike_agree t g rs)

-- a reference that moves finds what it found
moved_alike : (kind : Moving) (from : ℕ) (t : FuncType) (g : GlobalType) (r : Ref) → alike t g (moved_ref kind from r) ≡ alike t g r
moved_alike moving.Func from t g (Ty x) = refl
moved_alike moving.Func from t g (Func x) = refl
moved_alike moving.Func from t g (Global x) = refl
moved_alike moving.Func from t g Table = refl
moved_alike moving.Func from t g Memory = refl
moved_alike moving.Global from t g (Ty x) = refl
moved_alike moving.Global from t g (Func x) = refl
moved_alike moving.Global from t g (Global x) = refl
moved_alike moving.Global from t g Table = refl
moved_alike moving.Global from t g Memory = refl

pub alike_agree_moved : (kind : Moving) (from : ℕ) (t : FuncType) (g : GlobalType) (rs : List Ref) → AgreeMoved kind from (alike t g) (alike t g) rs
alike_agree_moved kind from t g [] = tt
alike_agree_moved kind from t g (r ∷ rs) = (moved_alike kind from t g r, alike_agree_moved kind from t g rs)
