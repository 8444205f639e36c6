-- Where index spaces hold all that they held and more, nothing goes wrong with what was there.
use Rattle.std.proofs.Common.{◌≡◌, ℕ, ◌≤◌, true, List, [], ◌∷◌, length, map, take, Option, Some, None, refl, ap, subst, ◌∙◌, arith}
use Rattle.std.proofs.lemmas.List.{map-id}
use Rattle.std.specs.List.{AllByRecursion}
use Rattle.wk_body.specs.declared.references.Ref.{Ref}
use Rattle.wk_body.specs.declared.references.Ref.TheVariants as refs
use Rattle.wk_body.specs.References.{refs_of}
use Rattle.wk_module.specs.declared.types.FuncType.{FuncType}
use Rattle.wk_module.specs.declared.types.Func.{Func}
use Rattle.wk_module.specs.declared.types.GlobalDef.{GlobalDef}
use Rattle.wk_module.specs.declared.types.Export.{Export}
use Rattle.wk_module.specs.declared.types.Elem.{Elem}
use Rattle.wk_module.specs.declared.types.DataSeg.{DataSeg}
use Rattle.wk_module.specs.declared.types.Import.{Import}
use Rattle.wk_module.specs.declared.types.ImportDesc.{ImportDesc}
use Rattle.wk_module.specs.declared.types.ImportDesc.TheVariants as desc
use Rattle.wk_module.specs.declared.types.Kind.{Kind}
use Rattle.wk_module.specs.declared.types.Kind.TheVariants as kinds
use Rattle.wk_typing.specs.declared.fault.FaultKind.{FaultKind}
use Rattle.wk_typing.specs.declared.fault.FaultKind.TheVariants.{UnknownType, UnknownFunc, UnknownTable, UnknownMemory, UnknownGlobal}
use Rattle.wk_typing.specs.declared.fault.BodyVerdict.TheVariants as bodies
use Rattle.wk_typing.specs.Answers.{Found, FuncIs}
use Rattle.wk_typing.specs.Carried.{Agree}
use Rattle.wk_typing.specs.Finds.{is_there, Grows}
use Rattle.wk_check.specs.Flaws.{numbered, AreFine}
use Rattle.wk_typing.specs.Faults.{body_flaw}
use Rattle.wk_check.specs.Items.{within, import_flaw, global_flaw, elem_flaw, data_flaw, index_flaw, export_flaw, is_start, start_flaws}
use Rattle.wk_check.specs.Spaces.{Spaces, answer_in}
use Rattle.wk_check.specs.Verdict.{func_verdict}
use Rattle.wk_check.proofs.CarriedItems.{Carries, carried_elem, exports_carried, start_carried, elems_carried, datas_carried}
use Rattle.wk_check.proofs.ConstantFrames.{agree, constant_fine}
use Rattle.wk_check.proofs.FlawLists.{still_fine}
use Rattle.wk_typing.proofs.Frames.{frame}
use Rattle.wk_check.proofs.Valid.{is_valid, within_less, less_within}
use Rattle.wk_typing.proofs.ValidFinds.{valid_finds}

-- ---- indexes

more_within : {X : Type 0} (kind : FaultKind) (xs ys : List X) (x : ℕ) → length xs ≤ length ys → within kind xs x ≡ None → within kind ys x ≡ None
more_within kind xs ys x more e = less_within kind ys x (omega (arith, within_less kind xs x e, more))

pub imports_fine : (ts us : List FuncType) (is : List Import) → length ts ≤ length us
    → AreFine (numbered (λ item i. import_flaw ts (take item is) i.desc) 0 is) → AreFine (numbered (λ item i. import_flaw us (take item is) i.desc) 0 is)
imports_fine ts us is more = still_fine _ _ (λ item i. still (take item is) i.desc) 0 is
  where
    still : (before : List Import) (d : ImportDesc) → import_flaw ts before d ≡ None → import_flaw us before d ≡ None
    still before (desc.Func x) e = more_within UnknownType ts us x more e
    still before (desc.Table l) e = e
    still before (desc.Memory l) e = e
    still before (desc.Global g) e = e

pub funcs_fine : (ts us : List FuncType) (xs : List ℕ) → length ts ≤ length us → AreFine (numbered (λ item x. within UnknownType ts x) 0 xs)
    → AreFine (numbered (λ item x. within UnknownType us x) 0 xs)
funcs_fine ts us xs more = still_fine _ _ (λ item x. more_within UnknownType ts us x more) 0 xs

-- ---- what is found

pub starts_there : (w : Found) → is_start w ≡ true → is_there w ≡ true
starts_there (FuncIs t) e = refl
starts_there w e = absurd cc

module _ (A B : Ref → Found) (grows : Grows A B) where
  pub globals_fine : (gs : List GlobalDef) → AreFine (numbered (λ item g. global_flaw A g) 0 gs) → AreFine (numbered (λ item g. global_flaw B g) 0 gs)
  globals_fine gs = still_fine _ _ (λ item g. constant_fine A B grows g.ty.val g.init) 0 gs

  -- the references of a function whose body is valid
  func_agrees : (f : Func) → func_verdict A f ≡ bodies.Valid → Agree A B (refs.Ty f.ty ∷ refs_of f.body.instrs)
  func_agrees f valid = agree A B grows (refs.Ty f.ty ∷ refs_of f.body.instrs) (valid_finds A f.ty f.body valid)

  pub func_still : (f : Func) → func_verdict A f ≡ bodies.Valid → func_verdict B f ≡ func_verdict A f
  func_still f valid =
      let h = func_agrees f valid in
      frame A B f.ty f.ty f.body h.0 h.1

  pub bodies_agree : (fs : List Func) → AllByRecursion (λ f. func_verdict A f ≡ bodies.Valid) fs
      → AllByRecursion (λ (f : Func). Agree A B (refs.Ty f.ty ∷ refs_of f.body.instrs)) fs
  bodies_agree [] valid = tt
  bodies_agree (f ∷ fs) valid = (func_agrees f valid.0, bodies_agree fs valid.1)

  pub bodies_stay : (fs : List Func) → AllByRecursion (λ f. func_verdict A f ≡ bodies.Valid) fs → map (func_verdict B) fs ≡ map (func_verdict A) fs
  bodies_stay [] valid = refl
  bodies_stay (f ∷ fs) valid = rw (func_still f valid.0, bodies_stay fs valid.1) refl

pub valid_bodies : (A : Ref → Found) (fs : List Func) → AreFine (map body_flaw (map (func_verdict A) fs))
    → AllByRecursion (λ f. func_verdict A f ≡ bodies.Valid) fs
valid_bodies A [] fine = tt
valid_bodies A (f ∷ fs) fine = (is_valid (func_verdict A f) fine.0, valid_bodies A fs fine.1)

pub codes_fine : (A B : Ref → Found) → Grows A B → (fs : List Func) → AreFine (map body_flaw (map (func_verdict A) fs))
    → AreFine (map body_flaw (map (func_verdict B) fs))
codes_fine A B grows fs fine = rw (bodies_stay A B grows fs (valid_bodies A fs fine)) fine

-- ---- spaces, and others in which all that was there is there

pub record IsIn (s t : Spaces) : Type 0 where
  pub found : Grows (answer_in s) (answer_in t)
  pub funcs : length s.funcs ≤ length t.funcs
  pub tables : length s.tables ≤ length t.tables
  pub memories : length s.memories ≤ length t.memories
  pub globals : length s.globals ≤ length t.globals

module _ (s t : Spaces) (larger : IsIn s t) where
  index_still : (kind : Kind) (x : ℕ) → index_flaw s kind x ≡ None → index_flaw t kind x ≡ None
  index_still kinds.Func x e = more_within UnknownFunc s.funcs t.funcs x larger.funcs e
  index_still kinds.Table x e = more_within UnknownTable s.tables t.tables x larger.tables e
  index_still kinds.Memory x e = more_within UnknownMemory s.memories t.memories x larger.memories e
  index_still kinds.Global x e = more_within UnknownGlobal s.globals t.globals x larger.globals e

  start_still : (x : ℕ) → is_start (answer_in s (refs.Func x)) ≡ true → is_start (answer_in t (refs.Func x)) ≡ true
  start_still x e = ap is_start (larger.found (refs.Func x) (starts_there (answer_in s (refs.Func x)) e)) ∙ e

  still : Carries (λ kind x. x) (λ is. is) s t
  still = record { indexes = index_still; constants = constant_fine (answer_in s) (answer_in t) larger.found; starts = start_still }

  pub exports_fine : (es : List Export) → AreFine (numbered (λ item e. export_flaw s (take item es) e) 0 es)
      → AreFine (numbered (λ item e. export_flaw t (take item es) e) 0 es)
  exports_fine es fine =
      subst (λ xs. AreFine (numbered (λ item e. export_flaw t (take item xs) e) 0 xs)) (map-id es) (exports_carried (λ kind x. x) (λ is. is) s t still es fine)

  pub start_fine : (o : Option ℕ) → AreFine (start_flaws s o) → AreFine (start_flaws t o)
  start_fine None fine = tt
  start_fine (Some x) fine = start_carried (λ kind x. x) (λ is. is) s t still (Some x) fine

  pub elems_fine : (es : List Elem) → AreFine (numbered (λ item e. elem_flaw s e) 0 es) → AreFine (numbered (λ item e. elem_flaw t e) 0 es)
  elems_fine es fine =
      subst (λ xs. AreFine (numbered (λ item e. elem_flaw t e) 0 xs)) (elems_same es) (elems_carried (λ kind x. x) (λ is. is) s t still es fine)
    where
      elems_same : (es : List Elem) → map (carried_elem (λ kind x. x) (λ is. is)) es ≡ es
      elems_same [] = refl
      elems_same (e ∷ es) = rw (map-id e.funcs, elems_same es) refl

  pub datas_fine : (ds : List DataSeg) → AreFine (numbered (λ item d. data_flaw s d) 0 ds) → AreFine (numbered (λ item d. data_flaw t d) 0 ds)
  datas_fine ds fine =
      subst (λ xs. AreFine (numbered (λ item d. data_flaw t d) 0 xs)) (map-id ds) (datas_carried (λ kind x. x) (λ is. is) s t still ds fine)
