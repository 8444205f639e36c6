-- Trees that bytes can spell: each number in its range, and not too many blocks open at once.
use Rattle.std.specs.Prelude.{ℕ, suc, ◌≡◌, ◌<◌, ◌≤◌, ◌^◌, length, max}
use Rattle.std.specs.List.{AllByRecursion}
use Rattle.wk_bytes.specs.Leb.{IsSignedOf}
use Rattle.wk_body.specs.declared.types.Profile.{Profile}
use Rattle.wk_body.specs.declared.types.Profile.TheVariants.{Extended}
use Rattle.wk_body.specs.declared.types.BlockType.{BlockType}
use Rattle.wk_body.specs.declared.types.BlockType.TheVariants as types
use Rattle.wk_body.specs.Instructions.{Immediates, Nothing, Reserved, Index, IndexReserved, Labels, Memarg, Signed, Word, immediates, Allows}
use Rattle.wk_body.specs.Tree.{Instrs, Finish, One, Block, If}

-- the most blocks that are open at one place; the body itself is none
abbrev pub depth_limit : ℕ
depth_limit = 20000

-- how many blocks are open at most at one place
abbrev pub deep : Instrs → ℕ
deep Finish = 0
deep (One p rest) = deep rest
deep (Block kind ty inside rest) = max (suc (deep inside)) (deep rest)
deep (If ty first second rest) = max (suc (max (deep first) (deep second))) (deep rest)

abbrev pub IsU32 : ℕ → Type 0
IsU32 n = n < 2 ^ 32

-- the immediates are in their ranges
abbrev pub AreInRange : Immediates → Type 0
AreInRange Nothing = Unit {0}
AreInRange Reserved = Unit {0}
AreInRange (Index x) = IsU32 x
AreInRange (IndexReserved x) = IsU32 x
AreInRange (Labels labels other) = IsU32 (length labels) × AllByRecursion IsU32 labels × IsU32 other
AreInRange (Memarg align offset) = IsU32 align × IsU32 offset
AreInRange (Signed bits z) = IsSignedOf bits z
AreInRange (Word size word) = word < 256 ^ size

abbrev pub IsTypeInRange : BlockType → Type 0
IsTypeInRange (types.Index x) = IsU32 x
IsTypeInRange _ = Unit {0}

-- all numbers of a tree are in their ranges
abbrev pub IsInRange : Instrs → Type 0
IsInRange Finish = Unit {0}
IsInRange (One p rest) = AreInRange (immediates p) × IsInRange rest
IsInRange (Block kind ty inside rest) = IsTypeInRange ty × IsInRange inside × IsInRange rest
IsInRange (If ty first second rest) = IsTypeInRange ty × IsInRange first × IsInRange second × IsInRange rest

pub record IsShaped (t : Instrs) : Type 0 where
  pub in_range : IsInRange t
  pub shallow : deep t ≤ depth_limit

-- ---- profiles

-- a type index comes in one profile alone
abbrev pub AllowsType : Profile → BlockType → Type 0
AllowsType profile (types.Index x) = profile ≡ Extended
AllowsType profile _ = Unit {0}

-- The tree belongs to the profile. Each belongs to `Extended`.
abbrev pub IsOf : Profile → Instrs → Type 0
IsOf profile Finish = Unit {0}
IsOf profile (One p rest) = Allows profile p × IsOf profile rest
IsOf profile (Block kind ty inside rest) = AllowsType profile ty × IsOf profile inside × IsOf profile rest
IsOf profile (If ty first second rest) = AllowsType profile ty × IsOf profile first × IsOf profile second × IsOf profile rest
