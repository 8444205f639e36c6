-- The grammar of expressions and bodies (5.4, 5.5.13), in a profile.
use Rattle.std.specs.Prelude.{◌≡◌, ℕ, pos, ◌≤◌, ◌⊎◌, List, [], ◌∷◌, ◌++◌}
use Rattle.wk_bytes.specs.Leb.{SpellsU, SpellsS}
use Rattle.wk_bytes.specs.Pieces.{SpellsWord}
use Rattle.wk_body.specs.declared.types.Profile.{Profile}
use Rattle.wk_body.specs.declared.types.Profile.TheVariants.{Extended}
use Rattle.wk_body.specs.declared.types.BlockType.{BlockType}
use Rattle.wk_body.specs.declared.types.BlockType.TheVariants.{Empty, Value}
use Rattle.wk_body.specs.declared.types.BlockType.TheVariants as types
use Rattle.wk_body.specs.declared.types.BlockKind.{BlockKind}
use Rattle.wk_body.specs.declared.types.BlockKind.TheVariants as kinds
use Rattle.wk_body.specs.declared.types.LocalGroup.{LocalGroup}
use Rattle.wk_body.specs.ValTypes.{valtype_byte, SpellsValType}
use Rattle.wk_body.specs.Vectors.{SpellsVector}
use Rattle.wk_body.specs.Instructions.{Plain, plain_opcode, Immediates, Nothing, Reserved, Index, IndexReserved, Labels, Memarg, Signed, Word, immediates}
use Rattle.wk_body.specs.Instructions.{Allows}
use Rattle.wk_body.specs.Tree.{Instrs, Finish, One, Block, If}
use Rattle.wk_body.specs.Shape.{deep, depth_limit}
use Rattle.wk_body.specs.Bodies.{BodyOf, AreGroups}

-- ---- instructions that hold no others (5.4.1 to 5.4.5)

abbrev pub SpellsImmediates : Immediates → List ℕ → Type 0
SpellsImmediates Nothing bytes = bytes ≡ []
SpellsImmediates Reserved bytes = bytes ≡ 0x00 ∷ []
SpellsImmediates (Index x) bytes = SpellsU 32 bytes x
SpellsImmediates (IndexReserved x) bytes = (a : List ℕ) × SpellsU 32 a x × (bytes ≡ a ++ 0x00 ∷ [])
SpellsImmediates (Labels labels other) bytes = (a : List ℕ) × (c : List ℕ) × SpellsVector (SpellsU 32) a labels × SpellsU 32 c other × (bytes ≡ a ++ c)
SpellsImmediates (Memarg align offset) bytes = (a : List ℕ) × (c : List ℕ) × SpellsU 32 a align × SpellsU 32 c offset × (bytes ≡ a ++ c)
SpellsImmediates (Signed bits z) bytes = SpellsS bits bytes z
SpellsImmediates (Word size word) bytes = SpellsWord size bytes word

abbrev pub SpellsPlain : Profile → Plain → List ℕ → Type 0
SpellsPlain profile p bytes = (a : List ℕ) × Allows profile p × SpellsImmediates (immediates p) a × (bytes ≡ plain_opcode p ∷ a)

-- ---- blocks (5.3.2, 5.4.1)

-- A type index is a signed integer of 33 bits that is not negative.
abbrev pub SpellsType : Profile → BlockType → List ℕ → Type 0
SpellsType profile Empty bytes = bytes ≡ 0x40 ∷ []
SpellsType profile (Value t) bytes = SpellsValType bytes t
SpellsType profile (types.Index x) bytes = (profile ≡ Extended) × SpellsS 33 bytes (pos x)

abbrev pub kind_byte : BlockKind → ℕ
kind_byte kinds.Block = 0x02
kind_byte kinds.Loop = 0x03

-- Instructions one after the other. An if whose else branch is empty may be written with an else or without.
abbrev pub Spells : Profile → Instrs → List ℕ → Type 0
Spells profile Finish bytes = bytes ≡ []
Spells profile (One p rest) bytes = (a : List ℕ) × (c : List ℕ) × SpellsPlain profile p a × Spells profile rest c × (bytes ≡ a ++ c)
Spells profile (Block kind ty inside rest) bytes = (a : List ℕ) × (c : List ℕ) × (e : List ℕ) × SpellsType profile ty a × Spells profile inside c
    × Spells profile rest e × (bytes ≡ kind_byte kind ∷ (a ++ (c ++ 0x0B ∷ e)))
Spells profile (If ty first second rest) bytes = (a : List ℕ) × (c : List ℕ) × (d : List ℕ) × (e : List ℕ) × SpellsType profile ty a × Spells profile first c
    × (((second ≡ Finish) × (d ≡ [])) ⊎ ((f : List ℕ) × Spells profile second f × (d ≡ 0x05 ∷ f)))
    × Spells profile rest e × (bytes ≡ 0x04 ∷ (a ++ (c ++ (d ++ 0x0B ∷ e))))

-- an expression: instructions and an end (5.4.6)
pub record SpellsExpr (profile : Profile) (t : Instrs) (bytes : List ℕ) : Type 0 where
  pub front : List ℕ
  pub spelled : Spells profile t front
  pub whole : bytes ≡ front ++ 0x0B ∷ []
  pub shallow : deep t ≤ depth_limit

-- ---- bodies (5.5.13): a code without its size

pub record SpellsGroup (bytes : List ℕ) (g : LocalGroup) : Type 0 where
  pub count : List ℕ
  pub parts : bytes ≡ count ++ valtype_byte g.ty ∷ []
  pub counts : SpellsU 32 count g.count

-- the local groups of a body
pub record SpellsGroups (groups : List LocalGroup) (bytes : List ℕ) : Type 0 where
  pub grouped : SpellsVector SpellsGroup bytes groups
  pub are_groups : AreGroups groups

pub record SpellsBody (profile : Profile) (b : BodyOf) (bytes : List ℕ) : Type 0 where
  pub locals : List ℕ
  pub code : List ℕ
  pub parts : bytes ≡ locals ++ code
  pub grouped : SpellsVector SpellsGroup locals b.groups
  pub spelled : SpellsExpr profile b.instrs code
  pub groups : AreGroups b.groups
