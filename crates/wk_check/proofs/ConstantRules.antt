-- A constant expression has no flaw exactly where the declarative rules make it a constant of its type.
use Rattle.std.proofs.Common.{◌≡◌, ℕ, ◌+◌, Bool, true, false, not, if◌then◌else◌, List, [], ◌∷◌, ◌++◌, Result, Ok, Err, Option, Some, None, refl, ap, ◌∙◌, inl}
use Rattle.std.proofs.Common.{inr}
use Rattle.std.proofs.lemmas.Bool.{cases_Bool}
use Rattle.wk_body.specs.declared.types.ValType.{ValType}
use Rattle.wk_body.specs.declared.references.Ref.{Ref}
use Rattle.wk_body.specs.declared.references.Ref.TheVariants as refs
use Rattle.wk_body.specs.Instructions as plain
use Rattle.wk_body.specs.Instructions.{Plain}
use Rattle.wk_body.specs.Tree.{Instrs, Finish, One, Block, If}
use Rattle.wk_typing.specs.Answers.{Found, TypeIs, NoType, FuncIs, FuncOfNoType, NoFunc, GlobalIs, NoGlobal, IsPresent, IsAbsent}
use Rattle.wk_typing.specs.Effects.{Effect, global_get, effect_of}
use Rattle.wk_typing.specs.Derives.{Derives}
use Rattle.wk_typing.specs.Own.{TokenFault}
use Rattle.wk_typing.specs.Typing.{code_result}
use Rattle.wk_typing.specs.Constants.{is_constant, is_constant_global, first_varying, no_locals, token_flaw, constant_by, constant_flaw}
use Rattle.wk_check.specs.ConstantRules.{IsConstant, AreConstant, IsConstantOf}
use Rattle.wk_typing.proofs.Sound.{code_derived, code_typed}

-- ---- one instruction

no_variable : (b : Bool) → not b ≡ true → b ≡ false
no_variable true e = absurd cc
no_variable false e = refl

global_constant : (f : Found) (e : Effect) → global_get f ≡ Ok e → is_constant_global f ≡ true
    → (t : ValType) × (f ≡ GlobalIs (record { val = t; mutable = false }))
global_constant (GlobalIs g) e typed constant = (g.val, ap (λ (b : Bool). GlobalIs (record { val = g.val; mutable = b })) (no_variable g.mutable constant))
global_constant (TypeIs t) e typed constant = absurd cc
global_constant NoType e typed constant = absurd cc
global_constant (FuncIs t) e typed constant = absurd cc
global_constant FuncOfNoType e typed constant = absurd cc
global_constant NoFunc e typed constant = absurd cc
global_constant NoGlobal e typed constant = absurd cc
global_constant IsPresent e typed constant = absurd cc
global_constant IsAbsent e typed constant = absurd cc

-- an instruction that has an effect, and passes for constant, is constant
module _ (A : Ref → Found) (locals : ℕ → Option ValType) (final : List ValType) (labels : List (List ValType)) where
  constant_is : (p : Plain) (e : Effect) → effect_of A locals final labels p ≡ Ok e → is_constant A p ≡ true → IsConstant A p
  constant_is (plain.I32Const z) e typed constant = tt
  constant_is (plain.I64Const z) e typed constant = tt
  constant_is (plain.F32Const w) e typed constant = tt
  constant_is (plain.F64Const w) e typed constant = tt
  constant_is (plain.GlobalGet x) e typed constant = global_constant (A (refs.Global x)) e typed constant
  constant_is plain.Unreachable e typed constant = absurd cc
  constant_is plain.Nop e typed constant = absurd cc
  constant_is (plain.Br l) e typed constant = absurd cc
  constant_is (plain.BrIf l) e typed constant = absurd cc
  constant_is (plain.BrTable ls l) e typed constant = absurd cc
  constant_is plain.Return e typed constant = absurd cc
  constant_is (plain.Call x) e typed constant = absurd cc
  constant_is (plain.CallIndirect x) e typed constant = absurd cc
  constant_is plain.Drop e typed constant = absurd cc
  constant_is plain.Select e typed constant = absurd cc
  constant_is (plain.LocalGet x) e typed constant = absurd cc
  constant_is (plain.LocalSet x) e typed constant = absurd cc
  constant_is (plain.LocalTee x) e typed constant = absurd cc
  constant_is (plain.GlobalSet x) e typed constant = absurd cc
  constant_is (plain.Access op align offset) e typed constant = absurd cc
  constant_is plain.MemorySize e typed constant = absurd cc
  constant_is plain.MemoryGrow e typed constant = absurd cc
  constant_is (plain.Numeric op) e typed constant = absurd cc

-- one that is constant passes for it
is_constant_passes : (A : Ref → Found) (p : Plain) → IsConstant A p → is_constant A p ≡ true
is_constant_passes A (plain.I32Const z) h = refl
is_constant_passes A (plain.I64Const z) h = refl
is_constant_passes A (plain.F32Const w) h = refl
is_constant_passes A (plain.F64Const w) h = refl
is_constant_passes A (plain.GlobalGet x) h = ap is_constant_global h.1
is_constant_passes A plain.Unreachable h = absurd h
is_constant_passes A plain.Nop h = absurd h
is_constant_passes A (plain.Br l) h = absurd h
is_constant_passes A (plain.BrIf l) h = absurd h
is_constant_passes A (plain.BrTable ls l) h = absurd h
is_constant_passes A plain.Return h = absurd h
is_constant_passes A (plain.Call x) h = absurd h
is_constant_passes A (plain.CallIndirect x) h = absurd h
is_constant_passes A plain.Drop h = absurd h
is_constant_passes A plain.Select h = absurd h
is_constant_passes A (plain.LocalGet x) h = absurd h
is_constant_passes A (plain.LocalSet x) h = absurd h
is_constant_passes A (plain.LocalTee x) h = absurd h
is_constant_passes A (plain.GlobalSet x) h = absurd h
is_constant_passes A (plain.Access op align offset) h = absurd h
is_constant_passes A plain.MemorySize h = absurd h
is_constant_passes A plain.MemoryGrow h = absurd h
is_constant_passes A (plain.Numeric op) h = absurd h

-- ---- expressions

none_varies : (A : Ref → Found) (locals : ℕ → Option ValType) (final : List ValType) (labels : List (List ValType)) (k : ℕ) (is : Instrs)
    (p q : List ValType) → Derives A locals final labels is p q → first_varying A k is ≡ None → AreConstant A is
none_varies A locals final labels k Finish p q h e = tt
none_varies A locals final labels k (One i rest) p q h e =
    elim (cases_Bool (is_constant A i)) [
      | inl t ↦ (constant_is A locals final labels i h.3 h.4 t, none_varies A locals final labels (k + 1) rest (h.0 ++ h.2) q h.7 (rw t at e))
      | inr f ↦ let some : Some k ≡ None = rw f at e in absurd cc
    ]
none_varies A locals final labels k (Block kind bt inside rest) p q h e = absurd cc
none_varies A locals final labels k (If bt first second rest) p q h e = absurd cc

all_constant : (A : Ref → Found) (k : ℕ) (is : Instrs) → AreConstant A is → first_varying A k is ≡ None
all_constant A k Finish h = refl
all_constant A k (One i rest) h =
    ap (λ (b : Bool). if b then first_varying A (k + 1) rest else Some k) (is_constant_passes A i h.0) ∙ all_constant A (k + 1) rest h.1
all_constant A k (Block kind bt inside rest) h = absurd h
all_constant A k (If bt first second rest) h = absurd h

by_parts : (k : Option ℕ) (r : Result (Unit {0}) TokenFault) → constant_by k (token_flaw r) ≡ None → (k ≡ None) × (r ≡ Ok tt)
by_parts None (Ok u) e = (refl, refl)
by_parts None (Err f) e = absurd cc
by_parts (Some k) r e = absurd cc

pub constant_derived : (A : Ref → Found) (t : ValType) (is : Instrs) → constant_flaw A t is ≡ None → IsConstantOf A t is
constant_derived A t is e =
    let p = by_parts (first_varying A 0 is) (code_result A no_locals (t ∷ []) is) e in
    let derives = code_derived A no_locals (t ∷ []) is p.1 in
    record { constant = none_varies A no_locals (t ∷ []) ((t ∷ []) ∷ []) 0 is [] (t ∷ []) derives p.0; derives = derives }

pub derived_constant : (A : Ref → Found) (t : ValType) (is : Instrs) → IsConstantOf A t is → constant_flaw A t is ≡ None
derived_constant A t is h =
    ap (λ (k : Option ℕ). constant_by k (token_flaw (code_result A no_locals (t ∷ []) is))) (all_constant A 0 is h.constant)
    ∙ ap token_flaw (code_typed A no_locals (t ∷ []) is h.derives)
