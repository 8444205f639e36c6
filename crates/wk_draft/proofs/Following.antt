-- What an edit makes of a module follows from what it makes of its draft.
use Rattle.std.proofs.Common.{◌≡◌, ℕ, ◌+◌, ◌≤◌, Bool, true, false, cond, Option, Some, None, List, [], ◌∷◌, length, Result, Ok, Err, refl, sym, ap, subst}
use Rattle.std.proofs.Common.{arith}
use Rattle.std.specs.Prelude.{filter, not}
use Rattle.std.specs.List.{list_any}
use Rattle.std.proofs.lemmas.Bool.{cond_both}
use Rattle.wk_bytes.specs.declared.fault.ReadFault.{ReadFault}
use Rattle.wk_bytes.specs.Frames.{limit}
use Rattle.wk_bytes.specs.Leb.{◌>>=◌}
use Rattle.wk_bytes.specs.LebLaws.{IsBytes}
use Rattle.wk_body.specs.declared.types.Profile.{Profile}
use Rattle.wk_body.specs.Reading.{all_body_at, all_expr_at, whole_at}
use Rattle.wk_module.specs.declared.types.Custom.{Custom}
use Rattle.wk_module.specs.declared.types.Export.{Export}
use Rattle.wk_module.specs.declared.types.Func.{Func}
use Rattle.wk_module.specs.declared.types.FuncType.{FuncType}
use Rattle.wk_module.specs.declared.types.GlobalType.{GlobalType}
use Rattle.wk_module.specs.declared.types.Import.{Import}
use Rattle.wk_module.specs.declared.types.Kind.{Kind}
use Rattle.wk_module.specs.declared.types.Parts.{Parts}
use Rattle.wk_module.specs.Changes.{with_type, with_func, with_body, with_global, with_export, without_first}
use Rattle.wk_module.specs.Items.{desc_kind}
use Rattle.wk_module.specs.Moving.{moved_parts, are_parts_stuck}
use Rattle.wk_module.specs.Shape.{settle, IsInOrderFrom, IsFormed, IsShaped}
use Rattle.wk_module.specs.Writing.{encoded, Fits}
use Rattle.wk_typing.specs.Carried.{Keeps, KeepsMoved}
use Rattle.wk_typing.specs.Finds.{ValidFinds}
use Rattle.wk_session.specs.declared.edit.Edit.{Edit}
use Rattle.wk_session.specs.declared.edit.Edit.TheVariants as edits
use Rattle.wk_session.specs.declared.edit.EditFault.{EditFault}
use Rattle.wk_session.specs.declared.edit.EditFault.TheVariants.{NoSuchCustom, IndexOverflow, TooLarge, WouldBreak}
use Rattle.wk_session.specs.declared.edit.EditFault.TheVariants.{Memory}
use Rattle.wk_session.specs.Edits.{fitting, from_bytes, import_place, entry_of, body_put, with_exports, is_named, without_customs, with_bytes, custom_put}
use Rattle.wk_session.specs.Edits.{with_custom, without_all_customs, lasting, made}
use Rattle.wk_session.specs.Imported.{after_import}
use Rattle.wk_session.specs.Kept.{standing}
use Rattle.wk_draft.specs.Drafts.{IsDraft, deferred_room}
use Rattle.wk_body.specs.declared.shifts.Shifts.{Shifts}
use Rattle.wk_session.specs.Making.{HasBytes}
use Rattle.wk_draft.specs.Steps.{deferred_without, deferred_after, shifts_after, edit_room, is_unmeasured, Follows}
use Rattle.wk_draft.proofs.BodySketches.{entry_same, body_sketch}
use Rattle.wk_draft.proofs.CodeLengths.{CodeIsLeast, written_within, written_expr_within}
use Rattle.wk_draft.proofs.GrownLengths.{type_grown, func_grown, body_grown, global_grown, export_grown}
use Rattle.wk_draft.proofs.GrownSketches.{type_sketch, func_sketch, global_sketch, export_sketch, exports_sketch, customs_sketch}
use Rattle.wk_draft.proofs.ImportSketches.{import_after}
use Rattle.wk_draft.proofs.Sketches.{formed_draft}
use Rattle.wk_draft.proofs.Standing.{IsLed, settled_led, standing_led}
use Rattle.wk_draft.proofs.StuckSketches.{import_stuck_alike}

-- ---- customs that are put stay in order

put_in_order : (name bytes : List ℕ) (least : ℕ) (cs : List Custom) → least ≤ 11 → IsInOrderFrom least cs → IsInOrderFrom least (custom_put name bytes cs)
put_in_order name bytes least [] le order = (le, omega arith, tt)
put_in_order name bytes least (c ∷ cs) le order =
    cond_both (is_named name c) (with_bytes bytes c ∷ cs) (c ∷ custom_put name bytes cs) (IsInOrderFrom least)
    (λ t. order)
    (λ f. (order.0, order.1, put_in_order name bytes c.place cs order.1 order.2))

module _ (keep : Bool) (s : Shifts) (os : List Func) (deferred : List Bool) (m d : Parts) where
  -- there is room where a refusal by what an edit would break is sure
  abbrev Room : Edit → Type 0
  Room e = (is_unmeasured e ≡ false) × ((length (encoded d) + deferred_room os) + edit_room e ≤ limit)

  follows_led : (e : Edit) (r : Result Parts EditFault) → IsLed (Room e) (shifts_after e s) os (deferred_after e d deferred) r (made keep e m)
      → Follows keep e s os deferred m d r
  follows_led e (Ok n) led = led
  follows_led e (Err TooLarge) led = λ sure. absurd sure
  follows_led e (Err (WouldBreak f)) led = λ sure. led sure
  follows_led e (Err Memory) led = λ sure. absurd sure
  follows_led e (Err f) led = λ sure. led

-- by what other calls ensure: the laws of verdicts, of moving and of code
module _ (keeps : Keeps) (keeps_moved : KeepsMoved) (finds : ValidFinds)
    (moved_formed : (kind : Kind) (from : ℕ) (m : Parts) → are_parts_stuck kind from m ≡ false → IsFormed m → IsFormed (moved_parts kind from m))
    (least : CodeIsLeast)
    (keep : Bool) (s : Shifts) (os : List Func) (deferred : List Bool) (m d : Parts)
    (h : IsDraft s os deferred m d) (shaped : IsShaped d) (fits : Fits m) where
  same_profile : m.profile ≡ d.profile
  same_profile = sym (ap (λ (p : Parts). p.profile) h.sketch.rest)

  order : IsInOrderFrom 0 d.customs
  order = shaped.formed.order

  -- ---- what comes behind

  type_follows : (t : FuncType) → Follows keep (edits.Ty t) s os deferred m d (made keep (edits.Ty t) d)
  type_follows t =
      let e = edits.Ty t in
      follows_led keep s os deferred m d e (made keep e d)
      (standing_led (Room keep s os deferred m d e) s os deferred (with_type t m) (with_type t d) (type_sketch keeps finds s os deferred m d h t) order
      (λ r. let room = r.1 in omega (arith, room, type_grown t d)) keep)

  -- what bytes spell comes to a list of both, or is given to both
  read_led : {A : Type 0} (e : Edit) (now : List Bool) (put : A → Parts → Parts) (r : Result A ReadFault)
      → ((x : A) → r ≡ Ok x → IsLed (Room keep s os deferred m d e) s os now (standing keep (put x d)) (standing keep (put x m)))
      → IsLed (Room keep s os deferred m d e) s os now ((from_bytes r >>= λ x. fitting (settle (put x d))) >>= lasting keep)
      ((from_bytes r >>= λ x. fitting (settle (put x m))) >>= lasting keep)
  read_led e now put (Err f) led = refl
  read_led e now put (Ok x) led = led x refl

  spelled_led : {A : Type 0} (e : Edit) (now : List Bool) (put : A → Parts → Parts) (spelled : Profile → Result A ReadFault)
      → ((x : A) → spelled m.profile ≡ Ok x → IsLed (Room keep s os deferred m d e) s os now (standing keep (put x d)) (standing keep (put x m)))
      → IsLed (Room keep s os deferred m d e) s os now ((from_bytes (spelled d.profile) >>= λ x. fitting (settle (put x d))) >>= lasting keep)
      ((from_bytes (spelled m.profile) >>= λ x. fitting (settle (put x m))) >>= lasting keep)
  spelled_led {A = A} e now put spelled led =
      subst (λ (profile : Profile). IsLed (Room keep s os deferred m d e) s os now
      ((from_bytes (spelled profile) >>= λ (x : A). fitting (settle (put x d))) >>= lasting keep)
      ((from_bytes (spelled m.profile) >>= λ (x : A). fitting (settle (put x m))) >>= lasting keep))
      same_profile (read_led e now put (spelled m.profile) led)

  func_follows : (t : ℕ) (code : List ℕ) → IsBytes code → Follows keep (edits.Func t code) s os deferred m d (made keep (edits.Func t code) d)
  func_follows t code bytes =
      let e = edits.Func t code in
      follows_led keep s os deferred m d e (made keep e d)
      (spelled_led e deferred (λ b p. with_func t b p) (λ profile. whole_at (all_body_at profile) code) (λ b is.
      let le = written_within least m.profile code bytes b is in
      standing_led (Room keep s os deferred m d e) s os deferred (with_func t b m) (with_func t b d) (func_sketch keeps finds s os deferred m d h t b) order
      (λ r. let room = r.1 in omega (arith, room, func_grown t b code d le (omega arith))) keep))

  global_follows : (t : GlobalType) (init : List ℕ) → IsBytes init → Follows keep (edits.Global t init) s os deferred m d (made keep (edits.Global t init) d)
  global_follows t init bytes =
      let e = edits.Global t init in
      follows_led keep s os deferred m d e (made keep e d)
      (spelled_led e deferred (λ x p. with_global t x p) (λ profile. whole_at (all_expr_at profile) init) (λ x is.
      let le = written_expr_within least m.profile init bytes x is in
      standing_led (Room keep s os deferred m d e) s os deferred (with_global t x m) (with_global t x d)
      (global_sketch keeps finds s os deferred m d h t x) order (λ r. let room = r.1 in omega (arith, room, global_grown t x init d le)) keep))

  export_follows : (x : Export) → Follows keep (edits.Export x) s os deferred m d (made keep (edits.Export x) d)
  export_follows x =
      let e = edits.Export x in
      follows_led keep s os deferred m d e (made keep e d)
      (standing_led (Room keep s os deferred m d e) s os deferred (with_export x m) (with_export x d) (export_sketch s os deferred m d h x) order
      (λ r. let room = r.1 in omega (arith, room, export_grown x d (omega arith))) keep)

  -- ---- another body

  body_led : (x : ℕ) (code : List ℕ) → IsBytes code → (entry : Option ℕ)
      → IsLed (Room keep s os deferred m d (edits.Body x code)) s os (deferred_without entry deferred) (body_put entry code d >>= lasting keep)
      (body_put entry code m >>= lasting keep)
  body_led x code bytes None = refl
  body_led x code bytes (Some i) =
      let e = edits.Body x code in
      spelled_led e (deferred_without (Some i) deferred) (λ b p. with_body i b p) (λ profile. whole_at (all_body_at profile) code) (λ b is.
      let le = written_within least m.profile code bytes b is in
      standing_led (Room keep s os deferred m d e) s os (deferred_without (Some i) deferred) (with_body i b m) (with_body i b d)
      (body_sketch s os deferred i b m d h) order (λ r. let room = r.1 in omega (arith, room, body_grown x i b code d le)) keep)

  body_follows : (x : ℕ) (code : List ℕ) → IsBytes code → Follows keep (edits.Body x code) s os deferred m d (made keep (edits.Body x code) d)
  body_follows x code bytes =
      let e = edits.Body x code in
      follows_led keep s os deferred m d e (made keep e d)
      (subst (λ (entry : Option ℕ). IsLed (Room keep s os deferred m d e) s os (deferred_after e d deferred) (made keep e d)
      (body_put entry code m >>= lasting keep))
      (sym (entry_same s os deferred x m d h.sketch)) (body_led x code bytes (entry_of x d)))

  -- ---- exports and customs that go, which are not measured

  exports_led : (name : List ℕ) (es : Option (List Export)) → IsLed (Room keep s os deferred m d (edits.Unexport name)) s os deferred
      (with_exports es d >>= lasting keep) (with_exports es m >>= lasting keep)
  exports_led name None = refl
  exports_led name (Some es) = settled_led (Room keep s os deferred m d (edits.Unexport name)) s os deferred (record m { exports = es })
      (record d { exports = es }) (exports_sketch s os deferred m d h es) keep

  unexport_follows : (name : List ℕ) → Follows keep (edits.Unexport name) s os deferred m d (made keep (edits.Unexport name) d)
  unexport_follows name =
      let e = edits.Unexport name in
      follows_led keep s os deferred m d e (made keep e d)
      (subst (λ (es : Option (List Export)). IsLed (Room keep s os deferred m d e) s os deferred (made keep e d) (with_exports es m >>= lasting keep))
      (ap (λ (p : Parts). without_first name p.exports) h.sketch.rest) (exports_led name (without_first name d.exports)))

  strip_led : (name : List ℕ) (b : Bool) → IsLed (Room keep s os deferred m d (edits.StripCustom name)) s os deferred
      (cond b (Ok (settle (without_customs name d))) (Err NoSuchCustom) >>= lasting keep)
      (cond b (Ok (settle (without_customs name m))) (Err NoSuchCustom) >>= lasting keep)
  strip_led name false = refl
  strip_led name true =
      settled_led (Room keep s os deferred m d (edits.StripCustom name)) s os deferred (without_customs name m) (without_customs name d)
      (customs_sketch s os deferred m d h (filter (λ c. not (is_named name c)))) keep

  strip_follows : (name : List ℕ) → Follows keep (edits.StripCustom name) s os deferred m d (made keep (edits.StripCustom name) d)
  strip_follows name =
      let e = edits.StripCustom name in
      follows_led keep s os deferred m d e (made keep e d)
      (subst (λ (b : Bool). IsLed (Room keep s os deferred m d e) s os deferred (made keep e d)
      (cond b (Ok (settle (without_customs name m))) (Err NoSuchCustom) >>= lasting keep))
      (ap (λ (p : Parts). list_any (is_named name) p.customs) h.sketch.rest) (strip_led name (list_any (is_named name) d.customs)))

  strip_all_follows : Follows keep edits.StripAll s os deferred m d (made keep edits.StripAll d)
  strip_all_follows =
      let e = edits.StripAll in
      follows_led keep s os deferred m d e (made keep e d)
      (settled_led (Room keep s os deferred m d e) s os deferred (without_all_customs m) (without_all_customs d) (customs_sketch s os deferred m d h (λ cs. []))
      keep)

  -- ---- what is measured, but not told of

  custom_follows : (name bytes : List ℕ) → Follows keep (edits.SetCustom name bytes) s os deferred m d (made keep (edits.SetCustom name bytes) d)
  custom_follows name bytes =
      let e = edits.SetCustom name bytes in
      follows_led keep s os deferred m d e (made keep e d)
      (standing_led (Room keep s os deferred m d e) s os deferred (with_custom name bytes m) (with_custom name bytes d)
      (customs_sketch s os deferred m d h (custom_put name bytes))
      (put_in_order name bytes 0 d.customs (omega arith) order) (λ r. let never = r.0 in absurd cc) keep)

  import_led : (i : Import) (b : Bool) → are_parts_stuck (desc_kind i.desc) (import_place i m) m ≡ b
      → IsLed (Room keep s os deferred m d (edits.Import i)) (shifts_after (edits.Import i) s) os deferred
      (cond b (Err IndexOverflow) (fitting (settle (after_import i d))) >>= lasting keep)
      (cond b (Err IndexOverflow) (fitting (settle (after_import i m))) >>= lasting keep)
  import_led i true is = refl
  import_led i false is =
      standing_led (Room keep s os deferred m d (edits.Import i)) (shifts_after (edits.Import i) s) os deferred (after_import i m) (after_import i d)
      (import_after keeps keeps_moved finds moved_formed s os deferred i m d h (formed_draft s os deferred m d h.sketch shaped.formed) is)
      order (λ r. let never = r.0 in absurd cc) keep

  import_follows : (i : Import) → Follows keep (edits.Import i) s os deferred m d (made keep (edits.Import i) d)
  import_follows i =
      let e = edits.Import i in
      follows_led keep s os deferred m d e (made keep e d)
      (subst (λ (b : Bool). IsLed (Room keep s os deferred m d e) (shifts_after e s) os deferred
      (cond b (Err IndexOverflow) (fitting (settle (after_import i d))) >>= lasting keep) (made keep e m))
      (import_stuck_alike finds s os deferred i m d h fits) (import_led i (are_parts_stuck (desc_kind i.desc) (import_place i m) m) refl))

  -- ---- all edits

  pub follows : (e : Edit) → HasBytes e → Follows keep e s os deferred m d (made keep e d)
  follows (edits.Ty t) bytes = type_follows t
  follows (edits.Import i) bytes = import_follows i
  follows (edits.Func t code) bytes = func_follows t code bytes
  follows (edits.Body x code) bytes = body_follows x code bytes
  follows (edits.Global t init) bytes = global_follows t init bytes
  follows (edits.Export x) bytes = export_follows x
  follows (edits.Unexport name) bytes = unexport_follows name
  follows (edits.SetCustom name b) bytes = custom_follows name b
  follows (edits.StripCustom name) bytes = strip_follows name
  follows edits.StripAll bytes = strip_all_follows
