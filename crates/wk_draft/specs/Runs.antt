-- What edits make of a draft, beside what they make of the module.
use Rattle.std.specs.Prelude.{◌≡◌, ℕ, Bool, true, false, Option, Some, None, List, [], ◌∷◌, length, map, Result, Ok, Err, IfSome}
use Rattle.std.specs.List.{AllByRecursion}
use Rattle.wk_body.specs.Shifts.{shifted_body}
use Rattle.wk_body.specs.declared.shifts.Shifts.{Shifts}
use Rattle.wk_body.specs.Written.{written_body}
use Rattle.wk_module.specs.declared.types.Func.{Func}
use Rattle.wk_module.specs.declared.types.Kind.TheVariants as kinds
use Rattle.wk_module.specs.declared.types.Parts.{Parts}
use Rattle.wk_module.specs.Imports.{import_count}
use Rattle.wk_module.specs.Items.{IsCode}
use Rattle.wk_module.specs.Outlines.{outlined}
use Rattle.wk_module.specs.Shape.{IsShaped}
use Rattle.wk_module.specs.Writing.{encoded, Fits}
use Rattle.wk_typing.specs.declared.fault.Verdict.TheVariants.{Valid}
use Rattle.wk_check.specs.Verdict.{module_verdict}
use Rattle.wk_pieces.specs.Overlays.{with_items}
use Rattle.wk_pieces.specs.Pieces.{code_of}
use Rattle.wk_session.specs.declared.edit.Edit.{Edit}
use Rattle.wk_session.specs.declared.edit.EditFault.{EditFault}
use Rattle.wk_session.specs.declared.edit.Work.{Work}
use Rattle.wk_session.specs.Runs.{after, after_one, replies_of, reply_of}
use Rattle.wk_draft.specs.declared.draft.Draft.{Draft}
use Rattle.wk_draft.specs.declared.run.Drafted.{Drafted}
use Rattle.wk_draft.specs.declared.run.Drafted.TheVariants.{Made, Unmade}
use Rattle.wk_draft.specs.declared.run.Run.{Run}
use Rattle.wk_draft.specs.Drafts.{IsDraft}

-- ---- answers

-- what an edit is answered, beside its reply: the same, but for what an accepted edit is told
abbrev pub IsAlike : {A : Type 0} → Result A EditFault → Result Work EditFault → Type 0
IsAlike (Ok x) (Ok w) = Unit {0}
IsAlike (Err f) (Err g) = f ≡ g
IsAlike _ _ = ⊥

abbrev pub AreAlike : {A : Type 0} → List (Result A EditFault) → List (Result Work EditFault) → Type 0
AreAlike [] [] = Unit {0}
AreAlike (r ∷ rs) (q ∷ qs) = IsAlike r q × AreAlike rs qs
AreAlike _ _ = ⊥

-- ---- where references stand before any edit

pub record IsFirst (m : Parts) (s : Shifts) : Type 0 where
  pub funcs_from : s.funcs_from ≡ import_count kinds.Func m.imports
  pub funcs_by : s.funcs_by ≡ 0
  pub globals_from : s.globals_from ≡ import_count kinds.Global m.imports
  pub globals_by : s.globals_by ≡ 0

-- ---- a draft that is held, and a step of it

-- m is a module that fits, and d is held as its draft
pub record IsHeld (os : List Func) (m : Parts) (d : Draft) : Type 0 where
  pub draft : IsDraft d.shifts os d.deferred.items m d.session
  pub fits : Fits m

-- the edit leaves the draft of what it makes of the module, and was answered as the module would answer it
abbrev pub IsStepped : Bool → Edit → List Func → Parts → Result (Unit {0}) EditFault → Draft → Type 0
IsStepped keep e os m answer d = IsHeld os (after_one keep e false m) d × IsAlike answer (reply_of keep e false m)

-- ---- the codes of deferred bodies, where their references stand now, and nothing in the place of any other

abbrev pub deferred_codes : Shifts → List Func → List Bool → List (Option (List ℕ))
deferred_codes s (o ∷ os) (true ∷ deferred) = Some (written_body (shifted_body s o.body)) ∷ deferred_codes s os deferred
deferred_codes s (o ∷ os) (false ∷ deferred) = None ∷ deferred_codes s os deferred
deferred_codes s _ _ = []

-- ---- the module that was read

-- the outline of a module that is valid, as its parts and its codes
pub record IsOutlined (m sketch : Parts) (all_codes : List (List ℕ)) : Type 0 where
  pub outline : sketch ≡ outlined m
  pub codes : all_codes ≡ map code_of m.funcs
  pub formed : AllByRecursion (λ (f : Func). IsCode m.profile f.body) m.funcs
  pub shaped : IsShaped m
  pub fits : Fits m
  pub valid : module_verdict m ≡ Valid

-- ---- a draft of which edits were made

-- d is the draft of what the edits make of m, whose bodies were deferred at first; these codes come in the place of stubs, and the edits were
-- answered so
pub record IsMade (keep : Bool) (m : Parts) (edits : List Edit) (d : Draft) (news : List (Option (List ℕ)))
    (replies : List (Result (Unit {0}) EditFault)) : Type 0 where
  pub held : IsHeld m.funcs (after keep edits [] m) d
  pub many : length news ≡ length d.session.funcs
  pub codes : with_items (map code_of d.session.funcs) news ≡ map code_of (after keep edits [] m).funcs
  pub alike : AreAlike replies (replies_of keep edits [] m)

-- ---- a run

-- what the edits make of m, where none is refused for want of memory
pub record IsRun (keep : Bool) (m : Parts) (edits : List Edit) (r : Run) : Type 0 where
  pub edited : r.edited ≡ encoded (after keep edits [] m)
  pub shaped : IsShaped (after keep edits [] m)
  pub fits : Fits (after keep edits [] m)
  pub verdict : r.verdict ≡ module_verdict (after keep edits [] m)
  pub replies : AreAlike r.replies.items (replies_of keep edits [] m)

-- the run; or the verdict on m where it was judged, and the codes of its bodies where they are at hand
abbrev pub IsDrafted : Bool → Parts → List Edit → Drafted → Type 0
IsDrafted keep m edits (Made run) = IsRun keep m edits run
IsDrafted keep m edits (Unmade verdict codes) =
    IfSome verdict (λ v. v ≡ module_verdict m) × IfSome codes (λ cs. cs.items ≡ map code_of m.funcs)
