-- Only what a constant expression's references find matters.
use Rattle.std.proofs.Common.{◌≡◌, ℕ, ◌+◌, true, List, [], ◌∷◌, Option, Some, None, Ok, Err, Result, refl, sym, ap, inl, inr, ◌∙◌}
use Rattle.std.proofs.lemmas.Bool.{cases_Bool}
use Rattle.std.specs.List.{AllByRecursion}
use Rattle.wk_bytes.specs.Leb.{◌>>=◌}
use Rattle.wk_bytes.specs.LebLaws.{bind_ok}
use Rattle.wk_body.specs.declared.renumber.Moving.{Moving}
use Rattle.wk_body.specs.declared.renumber.Moving.TheVariants as moving
use Rattle.wk_body.specs.declared.references.Ref.{Ref}
use Rattle.wk_body.specs.declared.references.Ref.TheVariants as refs
use Rattle.wk_body.specs.declared.types.ValType.{ValType}
use Rattle.wk_body.specs.Instructions as plain
use Rattle.wk_body.specs.Instructions.{Plain, GlobalGet}
use Rattle.wk_body.specs.References.{plain_refs, refs_of, map_plain, moved_plain}
use Rattle.wk_body.specs.Tree.{Instrs, Finish, One, Block, If}
use Rattle.wk_typing.specs.declared.fault.Flaw.{Flaw}
use Rattle.wk_typing.specs.Answers.{Found}
use Rattle.wk_typing.specs.Carried.{moved_ref, Agree, AgreeMoved}
use Rattle.wk_typing.specs.Constants.{is_constant, is_constant_global, first_varying, no_locals, token_flaw, constant_by, constant_flaw}
use Rattle.wk_typing.specs.Finds.{AreThere, Grows}
use Rattle.wk_typing.specs.Own.{TokenFault, at_token, fresh, ended}
use Rattle.wk_typing.specs.Typing.{typed, count, code_result}
use Rattle.wk_typing.proofs.All.{front, back, both}
use Rattle.wk_typing.proofs.Frames.{GoesTogether, count_mapped, same_typed, same_effect, stays, moved_effect, type_stays}
use Rattle.wk_typing.proofs.ValidFinds.{all_there}

module _ (f : Plain → Plain) (g : Ref → Ref) (A1 A2 : Ref → Found) (goes : GoesTogether f g A1 A2)
    (constants : (p : Plain) → AllByRecursion (λ r. A2 (g r) ≡ A1 r) (plain_refs p) → is_constant A2 (f p) ≡ is_constant A1 p) where
  same_varying : (is : Instrs) (k : ℕ) → AllByRecursion (λ r. A2 (g r) ≡ A1 r) (refs_of is) → first_varying A2 k (map_plain f is) ≡ first_varying A1 k is
  same_varying Finish k h = refl
  same_varying (One p rest) k h =
      let here = front (λ r. A2 (g r) ≡ A1 r) (plain_refs p) (refs_of rest) h in
      let behind = back (λ r. A2 (g r) ≡ A1 r) (plain_refs p) (refs_of rest) h in
      rw (constants p here, same_varying rest (k + 1) behind) refl
  same_varying (Block kind bt inside rest) k h = refl
  same_varying (If bt first second rest) k h = refl

  -- what is wrong with a constant expression that is changed so
  same_constant : (t : ValType) (is : Instrs) → AllByRecursion (λ r. A2 (g r) ≡ A1 r) (refs_of is) → constant_flaw A2 t (map_plain f is) ≡ constant_flaw A1 t is
  same_constant t is h =
      let final = t ∷ [] in
      ap (λ o. constant_by o (token_flaw (code_result A2 no_locals final (map_plain f is)))) (same_varying is 0 h)
      ∙ ap (λ r. constant_by (first_varying A1 0 is) (token_flaw (r >>= λ s. at_token (count (map_plain f is)) (ended final s))))
      (same_typed f g A1 A2 goes no_locals final is h (final ∷ []) 0 fresh)
      ∙ ap (λ n. constant_by (first_varying A1 0 is)
      (token_flaw (typed A1 no_locals final (final ∷ []) 0 is fresh >>= λ s. at_token n (ended final s)))) (count_mapped f is)

constant_same : (A B : Ref → Found) (p : Plain) → Agree A B (plain_refs p) → is_constant B p ≡ is_constant A p
constant_same A B (GlobalGet x) h = ap is_constant_global h.0
constant_same A B p h = refl

-- ---- what is found is found still

parts_fine : (o : Option ℕ) (r : Result (Unit {0}) TokenFault) → constant_by o (token_flaw r) ≡ None → r ≡ Ok tt
parts_fine None (Ok u) e = refl
parts_fine None (Err f) e = absurd cc
parts_fine (Some k) r e = absurd cc

module _ (A B : Ref → Found) (grows : Grows A B) where
  pub agree : (rs : List Ref) → AreThere A rs → Agree A B rs
  agree [] h = tt
  agree (r ∷ rs) h = (grows r h.0, agree rs h.1)

  -- a constant expression of which nothing is wrong
  pub constant_fine : (t : ValType) (is : Instrs) → constant_flaw A t is ≡ None → constant_flaw B t is ≡ None
  constant_fine t is e =
      let final = t ∷ [] in
      let ok = parts_fine (first_varying A 0 is) (code_result A no_locals final is) e in
      let w = bind_ok (typed A no_locals final (final ∷ []) 0 is fresh) (λ s. at_token (count is) (ended final s)) tt ok in
      let there = all_there A no_locals final is (final ∷ []) 0 fresh w.0 w.1 in
      let goes : GoesTogether (λ p. p) (λ r. r) A B = record { types = λ x. refl; effects = same_effect A B } in
      ap (constant_flaw B t) (sym (stays is)) ∙ same_constant (λ p. p) (λ r. r) A B goes (constant_same A B) t is (agree (refs_of is) there) ∙ e

-- ---- globals are found as before, which are all that a constant expression refers to

varying_fine : (o : Option ℕ) (typing : Option Flaw) → constant_by o typing ≡ None → o ≡ None
varying_fine None typing e = refl
varying_fine (Some k) typing e = absurd cc

module _ (A B : Ref → Found) (same : (x : ℕ) → B (refs.Global x) ≡ A (refs.Global x)) where
  globals_agree : (p : Plain) → is_constant A p ≡ true → Agree A B (plain_refs p)
  globals_agree (GlobalGet x) e = (same x, tt)
  globals_agree (plain.GlobalSet x) e = absurd cc
  globals_agree (plain.Call x) e = absurd cc
  globals_agree (plain.CallIndirect x) e = absurd cc
  globals_agree (plain.Access op align offset) e = absurd cc
  globals_agree plain.MemorySize e = absurd cc
  globals_agree plain.MemoryGrow e = absurd cc
  globals_agree p e = tt

  constants_agree : (is : Instrs) (k : ℕ) → first_varying A k is ≡ None → Agree A B (refs_of is)
  constants_agree Finish k e = tt
  constants_agree (One p rest) k e =
      elim (cases_Bool (is_constant A p)) [
        | inl t ↦ both (λ r. B r ≡ A r) (plain_refs p) (refs_of rest) (globals_agree p t) (constants_agree rest (k + 1) (rw t at e))
        | inr f ↦ let wrong : Some k ≡ None = rw f at e in absurd cc
      ]
  constants_agree (Block kind bt inside rest) k e = absurd cc
  constants_agree (If bt first second rest) k e = absurd cc

  pub constant_by_globals : (t : ValType) (is : Instrs) → constant_flaw A t is ≡ None → constant_flaw B t is ≡ None
  constant_by_globals t is e =
      let goes : GoesTogether (λ p. p) (λ r. r) A B = record { types = λ x. refl; effects = same_effect A B } in
      let agree = constants_agree is 0 (varying_fine (first_varying A 0 is) (token_flaw (code_result A no_locals (t ∷ []) is)) e) in
      ap (constant_flaw B t) (sym (stays is)) ∙ same_constant (λ p. p) (λ r. r) A B goes (constant_same A B) t is agree ∙ e

-- ---- an import comes in front

constant_moved : (kind : Moving) (from : ℕ) (A B : Ref → Found) (p : Plain) → AllByRecursion (λ r. B (moved_ref kind from r) ≡ A r) (plain_refs p)
    → is_constant B (moved_plain kind from p) ≡ is_constant A p
constant_moved moving.Func from A B (GlobalGet x) h = ap is_constant_global h.0
constant_moved moving.Global from A B (GlobalGet x) h = ap is_constant_global h.0
constant_moved moving.Func from A B p h = refl
constant_moved moving.Global from A B p h = refl

-- a constant expression that moved, whose references, moved, find what they found
pub constant_renumbered : (kind : Moving) (from : ℕ) (A B : Ref → Found) (t : ValType) (is : Instrs) → AgreeMoved kind from A B (refs_of is)
    → constant_flaw B t (map_plain (moved_plain kind from) is) ≡ constant_flaw A t is
constant_renumbered kind from A B t is h =
    let goes : GoesTogether (moved_plain kind from) (moved_ref kind from) A B = record { types = type_stays kind from; effects = moved_effect kind from A B } in
    same_constant (moved_plain kind from) (moved_ref kind from) A B goes (constant_moved kind from A B) t is h

pub all_moved : (kind : Moving) (from : ℕ) (A B : Ref → Found) → ((r : Ref) → B (moved_ref kind from r) ≡ A r) → (rs : List Ref) → AgreeMoved kind from A B rs
all_moved kind from A B moves [] = tt
all_moved kind from A B moves (r ∷ rs) = (moves r, all_moved kind from A B moves rs)
