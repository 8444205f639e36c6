-- A valid module that no edit has changed, and its draft: each body is deferred.
use Rattle.std.proofs.Common.{◌≡◌, ℕ, ◌+◌, nat_le, Bool, true, false, cond, List, [], ◌∷◌, length, map, Ok, refl, sym, ap, arith}
use Rattle.std.specs.Prelude.{replicate}
use Rattle.std.specs.List.{AllByRecursion}
use Rattle.wk_bytes.specs.Leb.{◌>>=◌}
use Rattle.wk_body.specs.declared.types.Profile.{Profile}
use Rattle.wk_body.specs.declared.types.ValType.{ValType}
use Rattle.wk_body.specs.declared.references.Ref.{Ref}
use Rattle.wk_body.specs.declared.references.Ref.TheVariants as refs
use Rattle.wk_body.specs.Bodies.{BodyOf}
use Rattle.wk_body.specs.Instructions.{Plain, Call, GlobalGet, GlobalSet}
use Rattle.wk_body.specs.References.{map_plain}
use Rattle.wk_body.specs.Tree.{Instrs, Finish, One, Block, If}
use Rattle.wk_module.specs.declared.types.Func.{Func}
use Rattle.wk_module.specs.declared.types.Kind.TheVariants as kinds
use Rattle.wk_module.specs.declared.types.Parts.{Parts}
use Rattle.wk_module.specs.Imports.{import_count}
use Rattle.wk_module.specs.Items.{IsCode}
use Rattle.wk_module.specs.Sections.{CodeSection}
use Rattle.wk_module.specs.Shape.{IsFormed}
use Rattle.wk_typing.specs.declared.fault.BodyVerdict.{BodyVerdict}
use Rattle.wk_typing.specs.declared.fault.BodyVerdict.TheVariants as bodies
use Rattle.wk_typing.specs.declared.fault.Verdict.TheVariants.{Valid}
use Rattle.wk_typing.specs.Answers.{Found, TypeIs}
use Rattle.wk_typing.specs.Effects.{local_type, params_found, results_found, known_found}
use Rattle.wk_check.specs.Growth.{HasValidBodies}
use Rattle.wk_typing.specs.Own.{at_token, popped, stopped}
use Rattle.wk_check.specs.SpacesLaws.{answers_of}
use Rattle.wk_typing.specs.Typing.{code_result, verdict_of, body_verdict}
use Rattle.wk_check.specs.Verdict.{func_verdict, module_verdict}
use Rattle.wk_draft.specs.Drafts.{AreDrafted, IsDraft}
use Rattle.wk_module.specs.Outlines.{stub, outlined_func, outlined}
use Rattle.wk_body.specs.declared.shifts.Shifts.{Shifts}
use Rattle.wk_body.specs.Shifts.{shifted, shifted_plain, shifted_body}

-- ---- nothing is shifted where nothing came

unshifted : (from by x : ℕ) → by ≡ 0 → shifted from by x ≡ x
unshifted from by x none = elim (nat_le from x) as (λ (b : Bool). cond b (x + by) x ≡ x) [ true ↦ omega (arith, none) | false ↦ refl ]

module _ (s : Shifts) (funcs_by : s.funcs_by ≡ 0) (globals_by : s.globals_by ≡ 0) where
  plain_unshifted : (p : Plain) → shifted_plain s p ≡ p
  plain_unshifted (Call x) = ap Call (unshifted s.funcs_from s.funcs_by x funcs_by)
  plain_unshifted (GlobalGet x) = ap GlobalGet (unshifted s.globals_from s.globals_by x globals_by)
  plain_unshifted (GlobalSet x) = ap GlobalSet (unshifted s.globals_from s.globals_by x globals_by)
  plain_unshifted p = refl

  instrs_unshifted : (t : Instrs) → map_plain (shifted_plain s) t ≡ t
  instrs_unshifted Finish = refl
  instrs_unshifted (One p rest) = rw (plain_unshifted p, instrs_unshifted rest) refl
  instrs_unshifted (Block kind ty inside rest) = rw (instrs_unshifted inside, instrs_unshifted rest) refl
  instrs_unshifted (If ty first second rest) = rw (instrs_unshifted first, instrs_unshifted second, instrs_unshifted rest) refl

  pub body_unshifted : (b : BodyOf) → shifted_body s b ≡ b
  body_unshifted b = ap (λ (t : Instrs). record b { instrs = t }) (instrs_unshifted b.instrs)

-- ---- a stub is valid where the body is that it stands for

-- operands of any type are popped behind what does not go on
popped_stopped : (ts : List ValType) → popped ts stopped ≡ Ok stopped
popped_stopped [] = refl
popped_stopped (t ∷ ts) = rw (popped_stopped ts) refl

stub_ends : (A : Ref → Found) (params results : List ValType) → verdict_of (code_result A (local_type params []) results stub.instrs) ≡ bodies.Valid
stub_ends A params results = rw (popped_stopped results) refl

-- the verdict of a body, by what its own type is found to be
abbrev verdict_by_type : (Ref → Found) → Found → BodyOf → BodyVerdict
verdict_by_type A x b =
    verdict_of (at_token 0 (known_found x) >>= λ u. code_result A (local_type (params_found x) b.groups) (results_found x) b.instrs)

stub_valid_by : (A : Ref → Found) (x : Found) (b : BodyOf) → verdict_by_type A x b ≡ bodies.Valid → verdict_by_type A x stub ≡ bodies.Valid
stub_valid_by A (TypeIs t) b valid = stub_ends A t.params t.results
stub_valid_by A x b valid = absurd cc

pub stub_valid : (A : Ref → Found) (t : ℕ) (b : BodyOf) → body_verdict A t b ≡ bodies.Valid → body_verdict A t stub ≡ bodies.Valid
stub_valid A t b valid = stub_valid_by A (A (refs.Ty t)) b valid

-- ---- all functions

module _ (profile : Profile) (A : Ref → Found) (s : Shifts) (funcs_by : s.funcs_by ≡ 0) (globals_by : s.globals_by ≡ 0) where
  all_drafted : (fs : List Func) → AllByRecursion (λ (f : Func). func_verdict A f ≡ bodies.Valid) fs
      → AllByRecursion (IsCode profile) (map (λ (f : Func). f.body) fs)
      → AreDrafted profile A s fs (map (λ (f : Func). true) fs) fs (map outlined_func fs)
  all_drafted [] valid codes = refl
  all_drafted (f ∷ fs) valid codes = (
    record {
      is = ap (λ (b : BodyOf). record f { body = b }) (sym (body_unshifted s funcs_by globals_by f.body));
      stands = refl;
      code = codes.0;
      valid = valid.0;
      stub_valid = stub_valid A f.ty f.body valid.0;
    },
    all_drafted fs valid.1 codes.1,
  )

pub all_deferred : (fs : List Func) → replicate (length fs) true ≡ map (λ (f : Func). true) fs
all_deferred [] = refl
all_deferred (f ∷ fs) = ap (λ (bs : List Bool). true ∷ bs) (all_deferred fs)

-- ---- the module

-- `has` is the clause `bodies` of `laws_of_valid_modules`
module _ (m : Parts) (valid : module_verdict m ≡ Valid) (has : HasValidBodies) (formed : IsFormed m) where
  pub opened_at : (s : Shifts) → s.funcs_from ≡ import_count kinds.Func m.imports → s.funcs_by ≡ 0
      → s.globals_from ≡ import_count kinds.Global m.imports → s.globals_by ≡ 0
      → IsDraft s m.funcs (map (λ (f : Func). true) m.funcs) m (outlined m)
  opened_at s funcs_from funcs_by globals_from globals_by = record {
    sketch = record {
      rest = refl;
      funcs = all_drafted m.profile (answers_of m) s funcs_by globals_by m.funcs (has m valid) (formed.valid CodeSection).1;
    };
    funcs_from = omega (arith, funcs_from, funcs_by);
    globals_from = omega (arith, globals_from, globals_by);
  }
