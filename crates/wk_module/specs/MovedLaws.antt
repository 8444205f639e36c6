-- What stays as it is where an index space moves.
use Rattle.std.proofs.Common.{◌≡◌, ℕ, List, [], ◌∷◌, map, refl, ap}
use Rattle.wk_module.specs.declared.types.Kind.{Kind}
use Rattle.wk_module.specs.declared.types.Func.{Func}
use Rattle.wk_module.specs.declared.types.GlobalDef.{GlobalDef}
use Rattle.wk_module.specs.declared.types.GlobalType.{GlobalType}
use Rattle.wk_module.specs.Moving.{moved_func, moved_global}

-- the types of functions
pub types_stay : (kind : Kind) (from : ℕ) (fs : List Func) → map (λ (f : Func). f.ty) (map (moved_func kind from) fs) ≡ map (λ (f : Func). f.ty) fs
types_stay kind from [] = refl
types_stay kind from (f ∷ fs) = ap (λ (ts : List ℕ). f.ty ∷ ts) (types_stay kind from fs)

-- the types of globals
pub global_types_stay : (kind : Kind) (from : ℕ) (gs : List GlobalDef)
    → map (λ (g : GlobalDef). g.ty) (map (moved_global kind from) gs) ≡ map (λ (g : GlobalDef). g.ty) gs
global_types_stay kind from [] = refl
global_types_stay kind from (g ∷ gs) = ap (λ (ts : List GlobalType). g.ty ∷ ts) (global_types_stay kind from gs)
