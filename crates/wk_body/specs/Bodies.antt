-- What a contract sees of a body: its local groups, and its instructions as a tree (2.5.3, 5.5.13).
use Rattle.std.specs.Prelude.{◌≡◌, ℕ, ◌+◌, ◌<◌, ◌^◌, List, [], ◌∷◌, length}
use Rattle.std.proofs.Common.{refl, ap}
use Rattle.std.specs.Coded.{Coded, code_by, coded×, coded_ℕ, coded_list}
use Rattle.wk_body.specs.declared.types.ValType.{ValType}
use Rattle.wk_body.specs.declared.types.ValType.TheVariants.{I32, I64, F32, F64}
use Rattle.wk_body.specs.declared.types.LocalGroup.{LocalGroup}
use Rattle.wk_body.specs.ValTypes.{valtype_byte, valtype_of}
use Rattle.wk_body.specs.Tree.{Instrs}
use Rattle.wk_body.specs.TreeCode.{coded_instrs, value_or}

pub record BodyOf : Type 0 where
  pub groups : List LocalGroup
  pub instrs : Instrs

-- how many locals the groups declare
abbrev pub local_count : List LocalGroup → ℕ
local_count [] = 0
local_count (g ∷ gs) = g.count + local_count gs

-- the groups are ones that bytes can spell
pub record AreGroups (groups : List LocalGroup) : Type 0 where
  pub counted : length groups < 2 ^ 32
  pub few : local_count groups < 2 ^ 32

-- ---- how a body is stored

pub valtype_same : (t : ValType) → value_or (valtype_of (valtype_byte t)) ≡ t
valtype_same I32 = refl
valtype_same I64 = refl
valtype_same F32 = refl
valtype_same F64 = refl

pub group_same : (g : LocalGroup) → record { count = g.count; ty = value_or (valtype_of (valtype_byte g.ty)) } ≡ g
group_same g = ap (λ (t : ValType). record { count = g.count; ty = t }) (valtype_same g.ty)

abbrev pub coded_group : Coded LocalGroup
coded_group = code_by (ℕ × ℕ) (coded× coded_ℕ coded_ℕ) (λ g. (g.count, valtype_byte g.ty))
    (λ p. record { count = p.0; ty = value_or (valtype_of p.1) }) group_same

abbrev pub coded_body : Coded BodyOf
coded_body = code_by (List LocalGroup × Instrs) (coded× (coded_list coded_group) coded_instrs) (λ b. (b.groups, b.instrs))
    (λ p. record { groups = p.0; instrs = p.1 }) (λ _. refl)
