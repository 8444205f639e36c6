-- What a refusal of an edit's bytes says of them.
use Rattle.std.specs.Prelude.{◌≢◌, ℕ, List, [], ◌∷◌, Result, Err}
use Rattle.wk_bytes.specs.declared.fault.ReadFault.{ReadFault}
use Rattle.wk_bytes.specs.declared.fault.ReadKind.TheVariants as kinds
use Rattle.wk_bytes.specs.Stands.{StandsInCode}
use Rattle.wk_body.specs.declared.types.Profile.{Profile}
use Rattle.wk_body.specs.Meaning.{Whole}
use Rattle.wk_body.specs.Spelling.{SpellsBody, SpellsExpr}
use Rattle.wk_session.specs.declared.edit.Edit.{Edit}
use Rattle.wk_session.specs.declared.edit.Edit.TheVariants as edits
use Rattle.wk_session.specs.declared.edit.EditFault.{EditFault}
use Rattle.wk_session.specs.declared.edit.EditFault.TheVariants.{BadBytes}
use Rattle.wk_session.specs.declared.edit.Work.{Work}

-- Bytes that cannot be read spell nothing, and the fault stands in them and is never want of memory.
pub record IsUnread {V : Type 0} (SpelledBy : V → List ℕ → Type 0) (bytes : List ℕ) (fault : ReadFault) : Type 0 where
  pub none : (v : V) → ¬ (Whole SpelledBy v bytes)
  pub stands : StandsInCode bytes fault
  pub other : fault.kind ≢ kinds.Memory

-- The edit is refused for its code or its expression. No other edit is refused so.
abbrev pub HasBadBytes : Profile → Edit → ReadFault → Type 0
HasBadBytes profile (edits.Func ty code) fault = IsUnread (SpellsBody profile) code fault
HasBadBytes profile (edits.Body func code) fault = IsUnread (SpellsBody profile) code fault
HasBadBytes profile (edits.Global t init) fault = IsUnread (SpellsExpr profile) init fault
HasBadBytes profile e fault = ⊥

-- what a reply tells of an edit's bytes is so
abbrev pub IsTold : Profile → Edit → Result Work EditFault → Type 0
IsTold profile e (Err (BadBytes fault)) = HasBadBytes profile e fault
IsTold profile e reply = Unit {0}

abbrev pub AreTold : Profile → List Edit → List (Result Work EditFault) → Type 0
AreTold profile [] replies = Unit {0}
AreTold profile (e ∷ es) [] = Unit {0}
AreTold profile (e ∷ es) (reply ∷ replies) = IsTold profile e reply × AreTold profile es replies
