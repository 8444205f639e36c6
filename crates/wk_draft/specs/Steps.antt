-- What an edit makes of a module, by what it makes of its draft.
use Rattle.std.specs.Prelude.{◌≡◌, ◌≤◌, nat_le, nat_lt, ℕ, ◌+◌, ◌-◌, ◌*◌, Bool, true, false, ◌&&◌, if◌then◌else◌, Option, Some, None, List, length, set, Result}
use Rattle.std.specs.Prelude.{Ok, Err}
use Rattle.wk_bytes.specs.Frames.{limit}
use Rattle.wk_bytes.specs.Short.{short}
use Rattle.wk_body.specs.declared.shifts.Shifts.{Shifts}
use Rattle.wk_module.specs.declared.types.Func.{Func}
use Rattle.wk_module.specs.declared.types.Kind.{Kind}
use Rattle.wk_module.specs.declared.types.Kind.TheVariants as kinds
use Rattle.wk_module.specs.declared.types.Parts.{Parts}
use Rattle.wk_module.specs.Items.{desc_kind}
use Rattle.wk_module.specs.Shape.{IsShaped}
use Rattle.wk_module.specs.Writing.{encoded}
use Rattle.wk_session.specs.declared.edit.Edit.{Edit}
use Rattle.wk_session.specs.declared.edit.Edit.TheVariants as edits
use Rattle.wk_session.specs.declared.edit.EditFault.{EditFault}
use Rattle.wk_session.specs.declared.edit.EditFault.TheVariants.{TooLarge, WouldBreak, Memory}
use Rattle.wk_session.specs.Edits.{entry_of, made}
use Rattle.wk_draft.specs.Drafts.{IsDraft, deferred_room}

-- ---- where bodies stand after an edit

abbrev pub deferred_without : Option ℕ → List Bool → List Bool
deferred_without None deferred = deferred
deferred_without (Some entry) deferred = set deferred entry false

-- which of the functions that a module defines has an index, by how many it imports and how many it defines
abbrev pub entry_among : ℕ → ℕ → ℕ → Option ℕ
entry_among x imported defined = if nat_le imported x && nat_lt (x - imported) defined then Some (x - imported) else None

-- ... the one whose body an edit replaces
abbrev pub replaced_entry : Edit → ℕ → ℕ → Option ℕ
replaced_entry (edits.Body x code) imported defined = entry_among x imported defined
replaced_entry _ imported defined = None

-- a body that is replaced is deferred no more
abbrev pub deferred_after : Edit → Parts → List Bool → List Bool
deferred_after (edits.Body x code) d deferred = deferred_without (entry_of x d) deferred
deferred_after _ d deferred = deferred

abbrev pub one_more : Kind → Shifts → Shifts
one_more kinds.Func s = record s { funcs_by = s.funcs_by + 1 }
one_more kinds.Global s = record s { globals_by = s.globals_by + 1 }
one_more _ s = s

abbrev pub shifts_after : Edit → Shifts → Shifts
shifts_after (edits.Import i) s = one_more (desc_kind i.desc) s
shifts_after _ s = s

-- ---- how many bytes an edit may bring

abbrev pub edit_room : Edit → ℕ
edit_room (edits.Ty t) = 2 * (length t.params + length t.results) + 64
edit_room (edits.Func t code) = 2 * length code + length (short t) + 64
edit_room (edits.Body x code) = 2 * length code + 64
edit_room (edits.Global t init) = 2 * length init + 64
edit_room (edits.Export e) = 2 * length e.name + length (short e.index) + 64
edit_room _ = 0

-- what is not told of: an import, which makes indexes longer, and a custom section, which no verdict asks for
abbrev pub is_unmeasured : Edit → Bool
is_unmeasured (edits.Import i) = true
is_unmeasured (edits.SetCustom name bytes) = true
is_unmeasured _ = false

-- ---- the outcome of an edit of the module, by that of the same edit of its draft

-- A refusal that the module gives too: that a module would be invalid comes behind its being too large, so that there has to be room.
abbrev pub IsSure : Edit → ℕ → EditFault → Type 0
IsSure e len TooLarge = ⊥
IsSure e len Memory = ⊥
IsSure e len (WouldBreak fault) = (is_unmeasured e ≡ false) × (len + edit_room e ≤ limit)
IsSure e len _ = Unit {0}

-- Where the draft d comes to n, and there is room for the deferred bodies, the module m comes to one of which n is the draft.
-- Where the edit of the draft is refused, so is that of the module, if the refusal is sure.
abbrev pub Follows : Bool → Edit → Shifts → List Func → List Bool → Parts → Parts → Result Parts EditFault → Type 0
Follows keep e s os deferred m d (Ok n) =
    IsShaped n → length (encoded n) + deferred_room os ≤ limit
    → ((p : Parts) × (made keep e m ≡ Ok p) × IsDraft (shifts_after e s) os (deferred_after e d deferred) p n)
Follows keep e s os deferred m d (Err f) = IsSure e (length (encoded d) + deferred_room os) f → made keep e m ≡ Err f
