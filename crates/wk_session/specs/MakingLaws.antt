-- What an edit makes by its definition, which reads its bytes, is what these spell.
use Rattle.std.proofs.Common.{◌≡◌, ◌≤◌, ℕ, nat_le, Bool, true, false, inl, inr, Option, Some, None, List, [], ◌∷◌, ◌++◌, length, Result, Ok, Err}
use Rattle.std.proofs.Common.{refl, subst, arith}
use Rattle.std.specs.List.{AllByRecursion, list_any}
use Rattle.wk_bytes.specs.declared.fault.ReadFault.{ReadFault}
use Rattle.wk_bytes.specs.Fault.{long_input}
use Rattle.wk_bytes.specs.Leb.{◌>>=◌}
use Rattle.wk_bytes.specs.LebLaws.{IsBytes, chosen}
use Rattle.wk_body.specs.Bodies.{BodyOf}
use Rattle.wk_body.specs.Meaning.{IsAllReadAs}
use Rattle.wk_body.specs.Reading.{all_body_at, all_expr_at, whole_at}
use Rattle.wk_body.specs.Spelling.{SpellsBody, SpellsExpr}
use Rattle.wk_module.specs.declared.types.Export.{Export}
use Rattle.wk_module.specs.declared.types.Parts.{Parts}
use Rattle.wk_module.specs.Changes.{with_type, with_import, with_func, with_body, with_global, with_export, without_first}
use Rattle.wk_module.specs.Items.{desc_kind}
use Rattle.wk_module.specs.Moving.{are_parts_stuck, moved_parts}
use Rattle.wk_module.specs.Shape.{settle}
use Rattle.wk_session.specs.declared.edit.Edit.{Edit}
use Rattle.wk_session.specs.declared.edit.Edit.TheVariants as edits
use Rattle.wk_session.specs.declared.edit.EditFault.{EditFault}
use Rattle.wk_session.specs.declared.edit.Work.{Work}
use Rattle.wk_session.specs.Edits.{fitting, from_bytes, import_place, entry_of, body_put, with_exports, is_named, without_customs, with_custom}
use Rattle.wk_session.specs.Edits.{edited, made}
use Rattle.wk_session.specs.MadeLaws.{Gives, then_lasting, fitting_gives, import_gives, customs_gives}
use Rattle.wk_session.specs.Making.{SpellsOnly, Makes, IsMade, AreMade, HasBytes}
use Rattle.wk_session.specs.Runs.{left_by, reply_to, reply_of, after_one, replies_of, after}
use Rattle.wk_session.specs.ToldLaws.{ReadsCode}

-- ---- what is read of all of the bytes is what they spell

module _ {V : Type 0} (SpelledBy : V → List ℕ → Type 0) (read : ℕ → List ℕ → Result V ReadFault) (reads : IsAllReadAs SpelledBy read) where
  spelled_only : (bytes : List ℕ) → IsBytes bytes → (v : V) → whole_at read bytes ≡ Ok v → SpellsOnly SpelledBy v bytes
  unfolding whole_at
  spelled_only bytes are v h = elim (chosen (nat_le (length bytes) 2147483647) (read (length bytes) bytes) (Err long_input) (Ok v) h) [
    | inl p ↦
        let at : read (length bytes) bytes ≡ Ok v = p.1 in
        let fits : length bytes ≤ 2147483647 = grind (arith, p.0) in
        record { spelled = (fits, reads.takes (length bytes) bytes v are at); only = λ w s. let back = reads.again (length bytes) w bytes s.1 in cc }
    | inr p ↦ absurd (cc p.1)
  ]

-- ---- one edit

module _ (P : Parts → Type 0) where
  read_gives : {V : Type 0} (r : Result V ReadFault) (next : V → Parts) → ((v : V) → r ≡ Ok v → P (next v))
      → Gives P (from_bytes r >>= λ v. fitting (next v))
  unfolding Gives
  read_gives (Ok v) next is = fitting_gives P (next v) (is v refl)
  read_gives (Err e) next is = tt

  placed_gives : (entry : Option ℕ) (code : List ℕ) (m : Parts)
      → ((i : ℕ) → entry ≡ Some i → (b : BodyOf) → whole_at (all_body_at m.profile) code ≡ Ok b → P (settle (with_body i b m)))
      → Gives P (body_put entry code m)
  unfolding Gives
  placed_gives None code m is = tt
  placed_gives (Some i) code m is = read_gives (whole_at (all_body_at m.profile) code) (λ b. settle (with_body i b m)) (is i refl)

  removed_gives : (es : Option (List Export)) (m : Parts) → ((left : List Export) → es ≡ Some left → P (settle (record m { exports = left })))
      → Gives P (with_exports es m)
  unfolding Gives
  removed_gives None m is = tt
  removed_gives (Some es) m is = is es refl

module _ (reads : ReadsCode) (m : Parts) where
  body_spelled : (code : List ℕ) → IsBytes code → (b : BodyOf) → whole_at (all_body_at m.profile) code ≡ Ok b → SpellsOnly (SpellsBody m.profile) b code
  body_spelled = spelled_only (SpellsBody m.profile) (all_body_at m.profile) (reads.body m.profile)

  edited_makes : (e : Edit) → HasBytes e → Gives (Makes e m) (edited e m)
  unfolding Gives
  edited_makes (edits.Ty t) are = fitting_gives (Makes (edits.Ty t) m) (settle (with_type t m)) refl
  edited_makes (edits.Import i) are =
      import_gives (Makes (edits.Import i) m) (are_parts_stuck (desc_kind i.desc) (import_place i m) m)
      (settle (with_import i (moved_parts (desc_kind i.desc) (import_place i m) m))) refl
  edited_makes (edits.Func t code) are =
      read_gives (Makes (edits.Func t code) m) (whole_at (all_body_at m.profile) code) (λ b. settle (with_func t b m))
      (λ b at. (b, body_spelled code are b at, refl))
  edited_makes (edits.Body x code) are =
      placed_gives (Makes (edits.Body x code) m) (entry_of x m) code m (λ i is b at. (b, body_spelled code are b at, (i, is, refl)))
  edited_makes (edits.Global t init) are =
      read_gives (Makes (edits.Global t init) m) (whole_at (all_expr_at m.profile) init) (λ e. settle (with_global t e m))
      (λ e at. (e, spelled_only (SpellsExpr m.profile) (all_expr_at m.profile) (reads.expr m.profile) init are e at, refl))
  edited_makes (edits.Export e) are = fitting_gives (Makes (edits.Export e) m) (settle (with_export e m)) refl
  edited_makes (edits.Unexport name) are =
      removed_gives (Makes (edits.Unexport name) m) (without_first name m.exports) m (λ es is. (es, is, refl))
  edited_makes (edits.SetCustom name bytes) are = fitting_gives (Makes (edits.SetCustom name bytes) m) (settle (with_custom name bytes m)) refl
  edited_makes (edits.StripCustom name) are =
      customs_gives (Makes (edits.StripCustom name) m) (list_any (is_named name) m.customs) (settle (without_customs name m)) refl
  edited_makes edits.StripAll are = refl

  pub made_makes : (keep : Bool) (e : Edit) → HasBytes e → Gives (Makes e m) (made keep e m)
  made_makes keep e are = then_lasting (Makes e m) keep (edited e m) (edited_makes e are)

  edit_made : (keep : Bool) (e : Edit) → HasBytes e → (x : Bool) → IsMade e (reply_of keep e x m) m (after_one keep e x m)
  unfolding Gives
  edit_made keep e are true = refl
  edit_made keep e are false = by (made keep e m) (made_makes keep e are)
    where
      by : (r : Result Parts EditFault) → Gives (Makes e m) r → IsMade e (reply_to e m r) m (left_by m r)
      by (Ok n) makes = makes
      by (Err f) makes = refl

-- ---- all edits, whichever of them want memory

pub edits_made : ReadsCode → (keep : Bool) (es : List Edit) → AllByRecursion HasBytes es → (xs : List Bool) (m : Parts)
    → AreMade es (replies_of keep es xs m) m (after keep es xs m)
edits_made reads keep [] are xs m = refl
edits_made reads keep (e ∷ es) are [] m =
    let n = after_one keep e false m in
    (n, edit_made reads m keep e are.0 false, edits_made reads keep es are.1 [] n)
edits_made reads keep (e ∷ es) are (x ∷ xs) m =
    let n = after_one keep e x m in
    (n, edit_made reads m keep e are.0 x, edits_made reads keep es are.1 xs n)

-- one edit more
pub made_more : (es : List Edit) (replies : List (Result Work EditFault)) (e : Edit) (reply : Result Work EditFault) (m n p : Parts)
    → AreMade es replies m n → IsMade e reply n p → AreMade (es ++ e ∷ []) (replies ++ reply ∷ []) m p
made_more [] [] e reply m n p all last = (p, subst (λ (k : Parts). IsMade e reply k p) all last, refl)
made_more (d ∷ es) (r ∷ replies) e reply m n p all last = (all.0, all.1, made_more es replies e reply all.0 n p all.2 last)
made_more _ _ e reply m n p all last = absurd all
