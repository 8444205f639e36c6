-- The standard's declarative rules (3.3): which operand stacks instructions may take to which. A stack is a list of value types
-- in the order in which they are written, the top last. No operand is of an open type, and no stack is dead. In 1.0 no block takes operands or
-- has more than one result: the rule for those that do is this project's own, as are the types of the sign extensions.
use Rattle.std.specs.Prelude.{◌≡◌, ℕ, List, [], ◌∷◌, ◌++◌, Option, Ok}
use Rattle.wk_body.specs.declared.types.ValType.{ValType}
use Rattle.wk_body.specs.declared.types.ValType.TheVariants.{I32}
use Rattle.wk_body.specs.declared.types.BlockType.{BlockType}
use Rattle.wk_body.specs.declared.types.BlockType.TheVariants.{Index}
use Rattle.wk_body.specs.declared.types.BlockKind.{BlockKind}
use Rattle.wk_body.specs.declared.types.BlockKind.TheVariants as kinds
use Rattle.wk_body.specs.declared.references.Ref.{Ref}
use Rattle.wk_body.specs.Bodies.{BodyOf}
use Rattle.wk_body.specs.Tree.{Instrs, Finish, One, Block, If}
use Rattle.wk_typing.specs.Answers.{Found}
use Rattle.wk_typing.specs.Effects.{Effect, Takes, Stops, Drops, Selects, effect_of, known, params_of, results_of, local_type}

-- An instruction of this effect has the type `[operands] → [results]`. One that does not go on may have any results, and any
-- operands below those that it takes; drop and select are there for each value type.
abbrev pub HasType : Effect → List ValType → List ValType → Type 0
HasType (Takes ts us) operands results = (operands ≡ ts) × (results ≡ us)
HasType (Stops ts) operands results = (below : List ValType) × (operands ≡ below ++ ts)
HasType Drops operands results = (t : ValType) × (operands ≡ t ∷ []) × (results ≡ [])
HasType Selects operands results = (t : ValType) × (operands ≡ t ∷ t ∷ I32 ∷ []) × (results ≡ t ∷ [])

-- what a branch to a block or a loop takes
abbrev pub label_of : (Ref → Found) → BlockKind → BlockType → List ValType
label_of A kinds.Block bt = results_of A bt
label_of A kinds.Loop bt = params_of A bt

-- Instructions have the type `[p] → [q]`, where references find A, locals have these types, the function these results, and the
-- labels these types. An empty list leaves a stack as it is. An instruction changes the top of a stack and leaves what is
-- below; the ones behind it go on from there. A block is one instruction, whose type is known and inside which its code, with
-- its label in front, has that type; so is an if, with both branches.
abbrev pub Derives : (Ref → Found) → (ℕ → Option ValType) → List ValType → List (List ValType) → Instrs → List ValType → List ValType → Type 0
Derives A locals final labels Finish p q = p ≡ q
Derives A locals final labels (One i rest) p q =
    (below operands results : List ValType) × (e : Effect) × (effect_of A locals final labels i ≡ Ok e) × HasType e operands results
    × (p ≡ below ++ operands) × Derives A locals final labels rest (below ++ results) q
Derives A locals final labels (Block kind bt inside rest) p q =
    (below : List ValType) × (known A bt ≡ Ok tt) × Derives A locals final (label_of A kind bt ∷ labels) inside (params_of A bt) (results_of A bt)
    × (p ≡ below ++ params_of A bt) × Derives A locals final labels rest (below ++ results_of A bt) q
Derives A locals final labels (If bt first second rest) p q =
    (below : List ValType) × (known A bt ≡ Ok tt) × Derives A locals final (results_of A bt ∷ labels) first (params_of A bt) (results_of A bt)
    × Derives A locals final (results_of A bt ∷ labels) second (params_of A bt) (results_of A bt)
    × (p ≡ below ++ (params_of A bt ++ I32 ∷ [])) × Derives A locals final labels rest (below ++ results_of A bt) q

-- A body of this type is valid (3.4.1): the type is known, and the instructions lead from an empty stack to the results.
pub record IsDerived (A : Ref → Found) (t : ℕ) (b : BodyOf) : Type 0 where
  pub known_type : known A (Index t) ≡ Ok tt
  pub derives : Derives A (local_type (params_of A (Index t)) b.groups) (results_of A (Index t)) (results_of A (Index t) ∷ []) b.instrs []
      (results_of A (Index t))
