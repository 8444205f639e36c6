-- What a sketch of a module has as the module has it: the types of functions, and so all that references find.
use Rattle.std.proofs.Common.{◌≡◌, ℕ, Bool, true, false, List, [], ◌∷◌, ◌++◌, length, map, refl, sym, ap, ◌∙◌, arith}
use Rattle.std.proofs.lemmas.List.{length-map}
use Rattle.wk_body.specs.declared.references.Ref.{Ref}
use Rattle.wk_body.specs.declared.types.Profile.{Profile}
use Rattle.wk_module.specs.declared.types.Func.{Func}
use Rattle.wk_module.specs.declared.types.Import.{Import}
use Rattle.wk_module.specs.declared.types.Parts.{Parts}
use Rattle.wk_module.specs.Shape.{lists_of}
use Rattle.wk_typing.specs.Answers.{Found}
use Rattle.wk_check.specs.Spaces.{answer_in, spaces_of, imported, func_in}
use Rattle.wk_check.specs.SpacesLaws.{answers_of}
use Rattle.wk_session.specs.Edits.{import_place}
use Rattle.wk_draft.specs.Drafts.{AreDrafted, IsSketch}
use Rattle.wk_body.specs.declared.shifts.Shifts.{Shifts}

abbrev pub types_of : List Func → List ℕ
types_of fs = map (λ (f : Func). f.ty) fs

-- the types of functions that are drafted
pub same_types : (profile : Profile) (A : Ref → Found) (s : Shifts) (os : List Func) (deferred : List Bool) (fs gs : List Func)
    → AreDrafted profile A s os deferred fs gs → types_of gs ≡ types_of fs
same_types profile A s [] [] fs gs h = ap types_of (sym h)
same_types profile A s (o ∷ os) (true ∷ deferred) (f ∷ fs) (g ∷ gs) h =
    rw (ap (λ (x : Func). x.ty) h.0.stands, same_types profile A s os deferred fs gs h.1) refl
same_types profile A s (o ∷ os) (false ∷ deferred) (f ∷ fs) (g ∷ gs) h =
    rw (ap (λ (x : Func). x.ty) (sym h.0), same_types profile A s os deferred fs gs h.1) refl
same_types profile A s _ _ _ _ h = absurd h

module _ (s : Shifts) (os : List Func) (deferred : List Bool) (m d : Parts) (h : IsSketch s os deferred m d) where
  -- of a module and its draft
  pub types_drafted : types_of d.funcs ≡ types_of m.funcs
  types_drafted = same_types m.profile (answers_of m) s os deferred m.funcs d.funcs h.funcs

  -- how many functions the module defines
  pub same_count : length d.funcs ≡ length m.funcs
  same_count =
      let types = ap length types_drafted in
      omega (arith, types, length-map d.funcs (λ (f : Func). f.ty), length-map m.funcs (λ (f : Func). f.ty))

  pub same_spaces : spaces_of (lists_of d) ≡ spaces_of (lists_of m)
  same_spaces =
      ap (λ (p : Parts). spaces_of (lists_of p)) h.rest
      ∙ ap (λ (ts : List ℕ). record (spaces_of (lists_of m)) { funcs = imported func_in m.imports ++ ts }) types_drafted

  -- what references find
  pub same_answers : answers_of d ≡ answers_of m
  same_answers = ap answer_in same_spaces

  -- where an import comes
  pub place_same : (i : Import) → import_place i m ≡ import_place i d
  place_same i = sym (ap (import_place i) h.rest)
