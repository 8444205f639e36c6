-- Where an edit is refused for its bytes, they spell nothing, and the fault stands in them.
use Rattle.std.proofs.Common.{◌≡◌, ◌<◌, ℕ, nat_le, Bool, true, false, cond, inl, inr, Option, Some, None, List, [], ◌∷◌, length, Result, Ok, Err}
use Rattle.std.proofs.Common.{refl, sym, ap, subst, arith}
use Rattle.std.specs.List.{list_any}
use Rattle.wk_bytes.specs.declared.fault.ReadFault.{ReadFault}
use Rattle.wk_bytes.specs.Frames.{limit}
use Rattle.wk_bytes.specs.Leb.{◌>>=◌}
use Rattle.wk_bytes.specs.Fault.{long_input}
use Rattle.wk_bytes.specs.LebLaws.{chosen}
use Rattle.wk_body.specs.declared.types.Profile.{Profile}
use Rattle.wk_body.specs.Spelling.{SpellsBody, SpellsExpr}
use Rattle.wk_body.specs.Meaning.{IsAllReadAs, NeverMemory}
use Rattle.wk_body.specs.Reading.{all_body_at, all_expr_at, whole_at}
use Rattle.wk_module.specs.declared.types.Parts.{Parts}
use Rattle.wk_module.specs.Changes.{with_type, with_import, with_func, with_body, with_global, with_export, without_first}
use Rattle.wk_module.specs.Items.{desc_kind}
use Rattle.wk_module.specs.Moving.{are_parts_stuck, moved_parts}
use Rattle.wk_module.specs.Shape.{settle}
use Rattle.wk_module.specs.Writing.{encoded}
use Rattle.wk_typing.specs.declared.fault.Verdict.{Verdict}
use Rattle.wk_typing.specs.declared.fault.Verdict.TheVariants.{Valid, Invalid}
use Rattle.wk_check.specs.Verdict.{module_verdict}
use Rattle.wk_session.specs.declared.edit.Edit.{Edit}
use Rattle.wk_session.specs.declared.edit.Edit.TheVariants as edits
use Rattle.wk_session.specs.declared.edit.EditFault.{EditFault}
use Rattle.wk_session.specs.declared.edit.EditFault.TheVariants.{NoSuchCustom, IndexOverflow, TooLarge, BadBytes}
use Rattle.wk_session.specs.Edits.{fitting, from_bytes, import_place, entry_of, body_put, with_exports, is_named, without_customs, with_custom}
use Rattle.wk_session.specs.Edits.{without_all_customs, edited, unbroken, lasting, made}
use Rattle.wk_session.specs.MadeLaws.{Gives, then_lasting, fitting_gives, bytes_gives, body_gives, import_gives, exports_gives, customs_gives}
use Rattle.wk_session.specs.declared.edit.Work.{Work}
use Rattle.wk_session.specs.Runs.{left_by, is_memory, reply_to, reply_of, after_one, replies_of}
use Rattle.wk_session.specs.Told.{IsUnread, HasBadBytes, IsTold, AreTold}

-- ---- bytes that are not read

module _ {V : Type 0} (Spells : V → List ℕ → Type 0) (read : ℕ → List ℕ → Result V ReadFault) (reads : IsAllReadAs Spells read) (never : NeverMemory read) where
  unread : (bytes : List ℕ) (f : ReadFault) → whole_at read bytes ≡ Err f → IsUnread Spells bytes f
  unfolding whole_at
  unread bytes f h = elim (chosen (nat_le (length bytes) 2147483647) (read (length bytes) bytes) (Err long_input) (Err f) h) [
    | inl p ↦
        let fails : read (length bytes) bytes ≡ Err f = p.1 in
        record {
          none = λ v w. let back = reads.again (length bytes) v bytes w.1 in absurd cc;
          stands = inr (inr (reads.stands (length bytes) bytes f fails (omega arith)));
          other = never bytes f h;
        }
    | inr p ↦
        let long : 2147483647 < length bytes = grind (arith, p.0) in
        let is : long_input ≡ f = cc in
        record { none = λ v w. absurd (omega (arith, w.0, long)); stands = inr (inl (sym is, long)); other = never bytes f h }
  ]

-- what `reading_of_code` of `wk_body` says of reading a code or an expression that is all of the bytes
pub record ReadsCode : Type 0 where
  pub body : (profile : Profile) → IsAllReadAs (SpellsBody profile) (all_body_at profile)
  pub expr : (profile : Profile) → IsAllReadAs (SpellsExpr profile) (all_expr_at profile)
  pub body_never : (profile : Profile) → NeverMemory (all_body_at profile)
  pub expr_never : (profile : Profile) → NeverMemory (all_expr_at profile)

module _ (code : ReadsCode) where
  unread_body : (profile : Profile) (bytes : List ℕ) (f : ReadFault) → whole_at (all_body_at profile) bytes ≡ Err f → IsUnread (SpellsBody profile) bytes f
  unread_body profile = unread (SpellsBody profile) (all_body_at profile) (code.body profile) (code.body_never profile)

  unread_expr : (profile : Profile) (bytes : List ℕ) (f : ReadFault) → whole_at (all_expr_at profile) bytes ≡ Err f → IsUnread (SpellsExpr profile) bytes f
  unread_expr profile = unread (SpellsExpr profile) (all_expr_at profile) (code.expr profile) (code.expr_never profile)

-- ---- edits that are refused for their bytes

module _ (reads : ReadsCode) (keep : Bool) (f : ReadFault) where
  lasting_other : (n : Parts) → lasting keep n ≡ Err (BadBytes f) → ⊥
  lasting_other n h = by keep (module_verdict n) refl h
    where
      by : (k : Bool) (v : Verdict) → module_verdict n ≡ v → lasting k n ≡ Err (BadBytes f) → ⊥
      by false v judged h = absurd cc
      by true Valid judged h = let ok : unbroken n Valid ≡ Err (BadBytes f) = rw judged at h in absurd cc
      by true (Invalid g) judged h = let broken : unbroken n (Invalid g) ≡ Err (BadBytes f) = rw judged at h in absurd cc

  fitting_other : (n : Parts) → (fitting n >>= lasting keep) ≡ Err (BadBytes f) → ⊥
  fitting_other n h = by (nat_le (length (encoded n)) limit) h
    where
      by : (b : Bool) → (cond b (Ok n) (Err TooLarge) >>= lasting keep) ≡ Err (BadBytes f) → ⊥
      by true h = lasting_other n h
      by false h = absurd cc

  bytes_told : {V : Type 0} (Spells : V → List ℕ → Type 0) (bytes : List ℕ) (r : Result V ReadFault) (next : V → Parts)
      → ((e : ReadFault) → r ≡ Err e → IsUnread Spells bytes e) → ((from_bytes r >>= λ v. fitting (next v)) >>= lasting keep) ≡ Err (BadBytes f)
      → IsUnread Spells bytes f
  bytes_told Spells bytes (Ok v) next tells h = absurd (fitting_other (next v) h)
  bytes_told Spells bytes (Err e) next tells h = let is : e ≡ f = cc in subst (IsUnread Spells bytes) is (tells e refl)

  body_told : (x : ℕ) (code : List ℕ) (m : Parts) (entry : Option ℕ) → (body_put entry code m >>= lasting keep) ≡ Err (BadBytes f)
      → IsUnread (SpellsBody m.profile) code f
  body_told x code m None h = absurd cc
  body_told x code m (Some entry) h =
      bytes_told (SpellsBody m.profile) code (whole_at (all_body_at m.profile) code) (λ b. settle (with_body entry b m)) (unread_body reads m.profile code) h

  import_other : (b : Bool) (n : Parts) → (cond b (Err IndexOverflow) (fitting n) >>= lasting keep) ≡ Err (BadBytes f) → ⊥
  import_other true n h = absurd cc
  import_other false n h = fitting_other n h

  exports_other : (es : Option (List _)) (m : Parts) → (with_exports es m >>= lasting keep) ≡ Err (BadBytes f) → ⊥
  exports_other None m h = absurd cc
  exports_other (Some es) m h = lasting_other (settle (record m { exports = es })) h

  customs_other : (b : Bool) (n : Parts) → (cond b (Ok n) (Err NoSuchCustom) >>= lasting keep) ≡ Err (BadBytes f) → ⊥
  customs_other true n h = lasting_other n h
  customs_other false n h = absurd cc

  bad_bytes : (e : Edit) (m : Parts) → made keep e m ≡ Err (BadBytes f) → HasBadBytes m.profile e f
  bad_bytes (edits.Ty t) m h = fitting_other (settle (with_type t m)) h
  bad_bytes (edits.Import i) m h =
      import_other (are_parts_stuck (desc_kind i.desc) (import_place i m) m) (settle (with_import i (moved_parts (desc_kind i.desc) (import_place i m) m))) h
  bad_bytes (edits.Func t code) m h =
      bytes_told (SpellsBody m.profile) code (whole_at (all_body_at m.profile) code) (λ b. settle (with_func t b m)) (unread_body reads m.profile code) h
  bad_bytes (edits.Body x code) m h = body_told x code m (entry_of x m) h
  bad_bytes (edits.Global t init) m h =
      bytes_told (SpellsExpr m.profile) init (whole_at (all_expr_at m.profile) init) (λ e. settle (with_global t e m)) (unread_expr reads m.profile init) h
  bad_bytes (edits.Export e) m h = fitting_other (settle (with_export e m)) h
  bad_bytes (edits.Unexport name) m h = exports_other (without_first name m.exports) m h
  bad_bytes (edits.SetCustom name bytes) m h = fitting_other (settle (with_custom name bytes m)) h
  bad_bytes (edits.StripCustom name) m h = customs_other (list_any (is_named name) m.customs) (settle (without_customs name m)) h
  bad_bytes edits.StripAll m h = lasting_other (settle (without_all_customs m)) h

-- ---- no edit changes the profile

abbrev IsAlike : Parts → Parts → Type 0
IsAlike m n = n.profile ≡ m.profile

module _ (m : Parts) where
  edited_alike : (e : Edit) → Gives (IsAlike m) (edited e m)
  unfolding Gives
  edited_alike (edits.Ty t) = fitting_gives (IsAlike m) (settle (with_type t m)) refl
  edited_alike (edits.Import i) =
      import_gives (IsAlike m) (are_parts_stuck (desc_kind i.desc) (import_place i m) m)
      (settle (with_import i (moved_parts (desc_kind i.desc) (import_place i m) m))) refl
  edited_alike (edits.Func t code) = bytes_gives (IsAlike m) (whole_at (all_body_at m.profile) code) (λ b. settle (with_func t b m)) (λ b. refl)
  edited_alike (edits.Body x code) = body_gives (IsAlike m) (entry_of x m) code m (λ i is b. refl)
  edited_alike (edits.Global t init) = bytes_gives (IsAlike m) (whole_at (all_expr_at m.profile) init) (λ e. settle (with_global t e m)) (λ e. refl)
  edited_alike (edits.Export e) = fitting_gives (IsAlike m) (settle (with_export e m)) refl
  edited_alike (edits.Unexport name) = exports_gives (IsAlike m) (without_first name m.exports) m (λ es. refl)
  edited_alike (edits.SetCustom name bytes) = fitting_gives (IsAlike m) (settle (with_custom name bytes m)) refl
  edited_alike (edits.StripCustom name) = customs_gives (IsAlike m) (list_any (is_named name) m.customs) (settle (without_customs name m)) refl
  edited_alike edits.StripAll = refl

  left_alike : (r : Result Parts EditFault) → Gives (IsAlike m) r → (left_by m r).profile ≡ m.profile
  unfolding Gives
  left_alike (Ok n) is = is
  left_alike (Err f) is = refl

  after_alike : (keep : Bool) (e : Edit) (x : Bool) → (after_one keep e x m).profile ≡ m.profile
  after_alike keep e true = refl
  after_alike keep e false = left_alike (made keep e m) (then_lasting (IsAlike m) keep (edited e m) (edited_alike e))

-- ---- all replies

-- a reply that is the definition's tells so
reply_inverts : (e : Edit) (m : Parts) (r : Result Parts EditFault) (f : ReadFault) → Err (BadBytes f) ≡ reply_to e m r → r ≡ Err (BadBytes f)
reply_inverts e m (Ok n) f h = absurd cc
reply_inverts e m (Err g) f h = let is : BadBytes f ≡ g = cc in ap (λ (x : EditFault). let q : Result Parts EditFault = Err x in q) (sym is)

pub reply_told : ReadsCode → (keep : Bool) (e : Edit) (m : Parts) (r : Result Work EditFault) → r ≡ reply_of keep e (is_memory r) m → IsTold m.profile e r
reply_told reads keep e m (Ok w) h = tt
reply_told reads keep e m (Err (BadBytes f)) h = bad_bytes reads keep f e m (reply_inverts e m (made keep e m) f h)
reply_told reads keep e m (Err f) h = tt

-- what the definition answers tells so
one_told : (reads : ReadsCode) (keep : Bool) (e : Edit) (x : Bool) (m : Parts) → IsTold m.profile e (reply_of keep e x m)
one_told reads keep e true m = tt
one_told reads keep e false m = by (made keep e m) (λ f h. bad_bytes reads keep f e m h)
  where
    by : (r : Result Parts EditFault) → ((f : ReadFault) → r ≡ Err (BadBytes f) → HasBadBytes m.profile e f) → IsTold m.profile e (reply_to e m r)
    by (Ok n) tells = tt
    by (Err (BadBytes f)) tells = tells f refl
    by (Err g) tells = tt

-- one reply tells so, and all those behind it do, which are answered of the module that it leaves
more_told : (keep : Bool) (e : Edit) (x : Bool) (es : List Edit) (m : Parts) (reply : Result Work EditFault) (replies : List (Result Work EditFault))
    → IsTold m.profile e reply → AreTold (after_one keep e x m).profile es replies → AreTold m.profile (e ∷ es) (reply ∷ replies)
more_told keep e x es m reply replies one rest = (one, subst (λ (p : Profile). AreTold p es replies) (after_alike m keep e x) rest)

-- so do the replies to all edits, whichever of them want memory
pub replies_told : ReadsCode → (keep : Bool) (es : List Edit) (xs : List Bool) (m : Parts) → AreTold m.profile es (replies_of keep es xs m)
replies_told reads keep [] xs m = tt
replies_told reads keep (e ∷ es) [] m =
    let n = after_one keep e false m in
    more_told keep e false es m (reply_of keep e false m) (replies_of keep es [] n) (one_told reads keep e false m) (replies_told reads keep es [] n)
replies_told reads keep (e ∷ es) (x ∷ xs) m =
    let n = after_one keep e x m in
    more_told keep e x es m (reply_of keep e x m) (replies_of keep es xs n) (one_told reads keep e x m) (replies_told reads keep es xs n)

pub all_told : ReadsCode → (keep : Bool) (es : List Edit) (m : Parts) → AreTold m.profile es (replies_of keep es [] m)
all_told reads keep es m = replies_told reads keep es [] m
