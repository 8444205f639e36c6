-- What a body refers to outside of itself, and how references move.
use Rattle.std.specs.Prelude.{◌≡◌, ℕ, ◌+◌, ◌<◌, ◌⊎◌, ◌↔◌, List, [], ◌∷◌, ◌++◌, Bool, false, ◌&&◌, ◌||◌, nat_le, ◌==◌, if◌then◌else◌, IsTrue}
use Rattle.std.specs.List.{AllByRecursion}
use Rattle.wk_body.specs.declared.types.BlockType.{BlockType}
use Rattle.wk_body.specs.declared.types.BlockType.TheVariants.{Index}
use Rattle.wk_body.specs.declared.references.Ref.{Ref}
use Rattle.wk_body.specs.declared.references.Ref.TheVariants.{Ty, Func, Global, Table, Memory}
use Rattle.wk_body.specs.declared.renumber.Moving.{Moving}
use Rattle.wk_body.specs.declared.renumber.Moving.TheVariants as moving
use Rattle.wk_body.specs.declared.renumber.ShiftFault.{ShiftFault}
use Rattle.wk_body.specs.declared.renumber.ShiftFault.TheVariants as faults
use Rattle.wk_body.specs.Instructions.{Plain, Call, CallIndirect, GlobalGet, GlobalSet, Access, MemorySize, MemoryGrow}
use Rattle.wk_body.specs.Tree.{Instrs, Finish, One, Block, If, Tok, Simple, Open, OpenIf, Otherwise, Close}
use Rattle.wk_body.specs.Bodies.{BodyOf}

-- ---- references, in the order in which they are written

abbrev pub plain_refs : Plain → List Ref
plain_refs (Call x) = Func x ∷ []
plain_refs (CallIndirect x) = Ty x ∷ Table ∷ []
plain_refs (GlobalGet x) = Global x ∷ []
plain_refs (GlobalSet x) = Global x ∷ []
plain_refs (Access op align offset) = Memory ∷ []
plain_refs MemorySize = Memory ∷ []
plain_refs MemoryGrow = Memory ∷ []
plain_refs _ = []

-- a block of a type index refers to that type
abbrev pub type_refs : BlockType → List Ref
type_refs (Index x) = Ty x ∷ []
type_refs _ = []

abbrev pub refs_of : Instrs → List Ref
refs_of Finish = []
refs_of (One p rest) = plain_refs p ++ refs_of rest
refs_of (Block kind ty inside rest) = type_refs ty ++ (refs_of inside ++ refs_of rest)
refs_of (If ty first second rest) = type_refs ty ++ (refs_of first ++ (refs_of second ++ refs_of rest))

abbrev pub tok_refs : Tok → List Ref
tok_refs (Simple p) = plain_refs p
tok_refs (Open kind ty skip) = type_refs ty
tok_refs (OpenIf ty skip) = type_refs ty
tok_refs (Otherwise skip) = []
tok_refs Close = []

-- ---- references as a set

-- the reference is one of them
abbrev pub IsAmong : Ref → List Ref → Type 0
IsAmong r [] = ⊥
IsAmong r (x ∷ xs) = (r ≡ x) ⊎ IsAmong r xs

-- types come first, then functions, globals, the table and the memory
abbrev pub rank : Ref → ℕ
rank (Ty x) = 0
rank (Func x) = 1
rank (Global x) = 2
rank Table = 3
rank Memory = 4

abbrev pub index : Ref → ℕ
index (Ty x) = x
index (Func x) = x
index (Global x) = x
index Table = 0
index Memory = 0

-- the one reference comes before the other: by their kinds, and then by their indexes
abbrev pub IsBelow : Ref → Ref → Type 0
IsBelow a b = (rank a < rank b) ⊎ ((rank a ≡ rank b) × (index a < index b))

-- each reference comes before all behind it
abbrev pub AreRising : List Ref → Type 0
AreRising [] = Unit {0}
AreRising (x ∷ xs) = AllByRecursion (IsBelow x) xs × AreRising xs

-- the same references are among both
abbrev pub AreSame : List Ref → List Ref → Type 0
AreSame xs ys = (r : Ref) → IsAmong r xs ↔ IsAmong r ys

-- the new keys are the old ones and more
pub record Gains (old new more : List Ref) : Type 0 where
  pub rising : AreRising old → AreRising new
  pub same : AreSame new (old ++ more)

-- references, and the memory beside them where it is used
abbrev pub beside : List Ref → Bool → List Ref
beside rs memory = if memory then Memory ∷ rs else rs

-- the new keys, with the memory beside them where it is used, are the old ones and more
pub record Collects (old : List Ref) (was : Bool) (new : List Ref) (is : Bool) (more : List Ref) : Type 0 where
  pub rising : AreRising old → AreRising new
  pub same : AreSame (beside new is) (beside old was ++ more)

-- ---- moving: an import of the kind comes in front of the index `from`

-- each instruction that holds no others is changed
abbrev pub map_plain : (Plain → Plain) → Instrs → Instrs
map_plain f Finish = Finish
map_plain f (One p rest) = One (f p) (map_plain f rest)
map_plain f (Block kind ty inside rest) = Block kind ty (map_plain f inside) (map_plain f rest)
map_plain f (If ty first second rest) = If ty (map_plain f first) (map_plain f second) (map_plain f rest)

abbrev pub map_tok : (Plain → Plain) → Tok → Tok
map_tok f (Simple p) = Simple (f p)
map_tok f t = t

-- an index of the kind
abbrev pub moved : ℕ → ℕ → ℕ
moved from x = if nat_le from x then x + 1 else x

abbrev pub moved_plain : Moving → ℕ → Plain → Plain
moved_plain moving.Func from (Call x) = Call (moved from x)
moved_plain moving.Global from (GlobalGet x) = GlobalGet (moved from x)
moved_plain moving.Global from (GlobalSet x) = GlobalSet (moved from x)
moved_plain kind from p = p

-- the instructions with each reference of the kind moved
abbrev pub shift_instrs : Moving → ℕ → Instrs → Instrs
shift_instrs kind from t = map_plain (moved_plain kind from) t

abbrev pub shift_body : Moving → ℕ → BodyOf → BodyOf
shift_body kind from b = record { groups = b.groups; instrs = shift_instrs kind from b.instrs }

-- ---- where moving is undefined: a reference that moves is the greatest index

abbrev pub greatest : ℕ
greatest = 0xffff_ffff

abbrev pub is_stuck_at : ℕ → ℕ → Bool
is_stuck_at from x = nat_le from x && (x == greatest)

abbrev pub is_stuck : Moving → ℕ → Ref → Bool
is_stuck moving.Func from (Func x) = is_stuck_at from x
is_stuck moving.Global from (Global x) = is_stuck_at from x
is_stuck kind from r = false

abbrev pub any_stuck : Moving → ℕ → List Ref → Bool
any_stuck kind from [] = false
any_stuck kind from (r ∷ rs) = is_stuck kind from r || any_stuck kind from rs

-- a refusal: moving is undefined; or it is not, and memory was wanted
abbrev pub IsRefused : ShiftFault → Bool → Type 0
IsRefused faults.Overflow stuck = IsTrue stuck
IsRefused faults.Memory stuck = stuck ≡ false
