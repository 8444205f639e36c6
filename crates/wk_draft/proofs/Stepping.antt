-- One edit of a draft that is held: what it answers is what the module would, and the draft that is left is that of what the module comes to.
use Rattle.std.proofs.Common.{◌≡◌, ◌≢◌, ℕ, ◌+◌, ◌≤◌, Bool, false, List, length, Result, Ok, Err, refl, sym, ap, subst, ◌∙◌}
use Rattle.wk_bytes.specs.Frames.{limit}
use Rattle.wk_body.specs.declared.shifts.Shifts.{Shifts}
use Rattle.wk_module.specs.declared.types.Func.{Func}
use Rattle.wk_module.specs.declared.types.Parts.{Parts}
use Rattle.wk_module.specs.declared.types.Kind.TheVariants as kinds
use Rattle.wk_module.specs.Imports.{import_count}
use Rattle.wk_module.specs.Shape.{IsShaped, IsInOrderFrom}
use Rattle.wk_module.specs.Writing.{encoded, Fits}
use Rattle.wk_session.specs.declared.edit.Edit.{Edit}
use Rattle.wk_session.specs.declared.edit.Edit.TheVariants as edits
use Rattle.wk_session.specs.declared.edit.EditFault.{EditFault}
use Rattle.wk_session.specs.declared.edit.EditFault.TheVariants.{TooLarge}
use Rattle.wk_session.specs.declared.edit.EditFault.TheVariants.{Memory}
use Rattle.wk_session.specs.declared.edit.Work.{Work}
use Rattle.wk_session.specs.Edits.{made}
use Rattle.wk_session.specs.Runs.{after_one, is_memory, left_by, reply_of, reply_to}
use Rattle.wk_draft.specs.declared.draft.Draft.{Draft}
use Rattle.wk_draft.specs.Drafts.{IsDraft, deferred_room}
use Rattle.wk_draft.specs.Runs.{IsAlike, IsHeld, IsStepped}
use Rattle.wk_draft.specs.Steps.{Follows, IsSure, entry_among, deferred_after, replaced_entry, shifts_after, deferred_without}
use Rattle.wk_draft.proofs.DraftLengths.{draft_fits}

-- ---- what a reply tells of the outcome

accepted_by : (e : Edit) (d : Parts) (r : Result Parts EditFault) (w : Work) → Ok w ≡ reply_to e d r → r ≡ Ok (left_by d r)
accepted_by e d (Ok n) w is = refl
accepted_by e d (Err f) w is = absurd cc

refused_by : (e : Edit) (d : Parts) (r : Result Parts EditFault) (f : EditFault) → Err f ≡ reply_to e d r → (r ≡ Err f) × (left_by d r ≡ d)
refused_by e d (Ok n) f is = absurd cc
refused_by e d (Err g) f is = (cc, refl)

other_fault : (f : EditFault) → f ≢ Memory → is_memory (Err f) ≡ false
other_fault Memory other = absurd (other refl)
other_fault _ other = refl

-- what is sure is no want of memory
pub sure_other : (e : Edit) (n : ℕ) (f : EditFault) → IsSure e n f → f ≢ Memory
sure_other e n TooLarge sure = absurd sure
sure_other e n Memory sure = absurd sure
sure_other e n _ sure = λ same. absurd cc

-- ---- the body that is replaced

-- where a draft's imports are counted, this is the body that an edit replaces
pub deferred_replaced : (e : Edit) (d : Parts) (imported : ℕ) (deferred : List Bool) → import_count kinds.Func d.imports ≡ imported
    → deferred_after e d deferred ≡ deferred_without (replaced_entry e imported (length d.funcs)) deferred
deferred_replaced (edits.Body x code) d imported deferred counted = ap (λ (k : ℕ). deferred_without (entry_among x k (length d.funcs)) deferred) counted
deferred_replaced _ d imported deferred counted = refl

-- ---- the step

module _ (keep : Bool) (e : Edit) (os : List Func) (m : Parts) (old new : Draft) (held : IsHeld os m old)
    (follows : Follows keep e old.shifts os old.deferred.items m old.session (made keep e old.session)) where
  -- what the accepted edit makes of the module
  pub stepped : (w : Work) → Ok w ≡ reply_of keep e false old.session → new.session ≡ after_one keep e false old.session
      → IsShaped new.session → length (encoded new.session) + deferred_room os ≤ limit
      → new.shifts ≡ shifts_after e old.shifts → new.deferred.items ≡ deferred_after e old.session old.deferred.items
      → IsStepped keep e os m (Ok tt) new
  stepped w replied is shaped room shifts deferred =
      let r = made keep e old.session in
      let makes : r ≡ Ok new.session = accepted_by e old.session r w replied ∙ ap (λ (n : Parts). let q : Result Parts EditFault = Ok n in q) (sym is) in
      let led = subst (Follows keep e old.shifts os old.deferred.items m old.session) makes follows shaped room in
      let p = led.0 in
      let comes : made keep e m ≡ Ok p = led.1 in
      let drafted : IsDraft new.shifts os new.deferred.items p new.session =
      subst (λ (t : Shifts). IsDraft t os new.deferred.items p new.session) (sym shifts)
      (subst (λ (ms : List Bool). IsDraft (shifts_after e old.shifts) os ms p new.session) (sym deferred) led.2) in
      let same_customs : new.session.customs ≡ p.customs = ap (λ (q : Parts). q.customs) drafted.sketch.rest in
      let fits : Fits p = draft_fits new.shifts os new.deferred.items p new.session drafted.sketch
      (subst (IsInOrderFrom 0) same_customs shaped.formed.order) room in
      let stands : IsHeld os p new = record { draft = drafted; fits = fits } in
      subst (λ (q : Result Parts EditFault). IsHeld os (left_by m q) new × IsAlike {A = Unit {0}} (Ok tt) (reply_to e m q)) (sym comes) (stands, tt)

  pub refused : (f : EditFault) → f ≢ Memory → Err f ≡ reply_of keep e (is_memory (Err f)) old.session
      → new.session ≡ after_one keep e (is_memory (Err f)) old.session
      → IsSure e (length (encoded old.session) + deferred_room os) f → new.shifts ≡ old.shifts → new.deferred.items ≡ old.deferred.items
      → IsStepped keep e os m (Err f) new
  refused f other replied is sure shifts deferred =
      let r = made keep e old.session in
      let told = refused_by e old.session r f (replied ∙ ap (λ (b : Bool). reply_of keep e b old.session) (other_fault f other)) in
      let comes : made keep e m ≡ Err f = subst (Follows keep e old.shifts os old.deferred.items m old.session) told.0 follows sure in
      let same : new.session ≡ old.session = is ∙ ap (λ (b : Bool). after_one keep e b old.session) (other_fault f other) ∙ told.1 in
      let drafted : IsDraft new.shifts os new.deferred.items m new.session =
      subst (λ (t : Shifts). IsDraft t os new.deferred.items m new.session) (sym shifts)
      (subst (λ (ms : List Bool). IsDraft old.shifts os ms m new.session) (sym deferred)
      (subst (IsDraft old.shifts os old.deferred.items m) (sym same) held.draft)) in
      let stands : IsHeld os m new = record { draft = drafted; fits = held.fits } in
      subst (λ (q : Result Parts EditFault). IsHeld os (left_by m q) new × IsAlike {A = Unit {0}} (Err f) (reply_to e m q)) (sym comes) (stands, refl)
