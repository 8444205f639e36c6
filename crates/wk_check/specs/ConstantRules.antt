-- Constant expressions (3.3.7.2) by declarative rules, which are the standard's for 1.0.
use Rattle.std.specs.Prelude.{◌≡◌, false, [], ◌∷◌}
use Rattle.wk_body.specs.declared.types.ValType.{ValType}
use Rattle.wk_body.specs.declared.references.Ref.{Ref}
use Rattle.wk_body.specs.declared.references.Ref.TheVariants as refs
use Rattle.wk_body.specs.Instructions.{Plain, GlobalGet, I32Const, I64Const, F32Const, F64Const}
use Rattle.wk_body.specs.Tree.{Instrs, Finish, One, Block, If}
use Rattle.wk_typing.specs.Answers.{Found, GlobalIs}
use Rattle.wk_typing.specs.Constants.{no_locals}
use Rattle.wk_typing.specs.Derives.{Derives}

-- A `const` is constant, and so is the value of a global that is there and may not be set.
abbrev pub IsConstant : (Ref → Found) → Plain → Type 0
IsConstant A (I32Const z) = Unit {0}
IsConstant A (I64Const z) = Unit {0}
IsConstant A (F32Const word) = Unit {0}
IsConstant A (F64Const word) = Unit {0}
IsConstant A (GlobalGet x) = (t : ValType) × (A (refs.Global x) ≡ GlobalIs (record { val = t; mutable = false }))
IsConstant A _ = ⊥

-- Each instruction is constant.
abbrev pub AreConstant : (Ref → Found) → Instrs → Type 0
AreConstant A Finish = Unit {0}
AreConstant A (One i rest) = IsConstant A i × AreConstant A rest
AreConstant A (Block kind bt inside rest) = ⊥
AreConstant A (If bt first second rest) = ⊥

-- An expression is a constant of this type: its instructions are constant, and lead from an empty stack to one operand of the type.
pub record IsConstantOf (A : Ref → Found) (t : ValType) (is : Instrs) : Type 0 where
  pub constant : AreConstant A is
  pub derives : Derives A no_locals (t ∷ []) ((t ∷ []) ∷ []) is [] (t ∷ [])
