-- Edits by which an item comes to a list of a module that no function and no custom section is in.
use Rattle.std.proofs.Common.{◌≡◌, ℕ, Bool, true, false, Option, List, length, Result, Ok, Err, refl, sym, ap, subst, ◌∙◌}
use Rattle.std.specs.Prelude.{IfSome}
use Rattle.std.specs.Option.{is_some}
use Rattle.wk_body.specs.declared.fault.EncodeFault.{EncodeFault}
use Rattle.wk_body.specs.declared.references.Ref.{Ref}
use Rattle.wk_body.specs.Lengths.{limited}
use Rattle.wk_module.specs.declared.types.Parts.{Parts}
use Rattle.wk_module.specs.Shape.{IsFormed, IsInOrderFrom, settle}
use Rattle.wk_module.specs.Writing.{encoded}
use Rattle.wk_typing.specs.declared.fault.Verdict.{Verdict}
use Rattle.wk_typing.specs.Answers.{Found}
use Rattle.wk_typing.specs.Finds.{Grows}
use Rattle.wk_check.specs.SpacesLaws.{answers_of}
use Rattle.wk_pieces.specs.Longer.{IsLonger}
use Rattle.wk_pieces.specs.Pieces.{IsOverlong, section_piece}
use Rattle.wk_session.specs.declared.cache.Cache.{Cache}
use Rattle.wk_session.specs.declared.edit.Edit.{Edit}
use Rattle.wk_session.specs.declared.edit.EditFault.{EditFault}
use Rattle.wk_session.specs.declared.edit.EditFault.TheVariants.{TooLarge, Memory}
use Rattle.wk_session.specs.declared.edit.Work.{Work}
use Rattle.wk_session.specs.declared.edits.plan_append.Judgement.{Judgement}
use Rattle.wk_session.specs.declared.edits.plan_append.NewItem.{NewItem}
use Rattle.wk_session.specs.Dependents.{work_of}
use Rattle.wk_session.specs.Judged.{AreKept, IsGrown, IsJudged, IsKnown}
use Rattle.wk_session.specs.Edits.{fitting, is_decided, is_large, made}
use Rattle.wk_session.specs.Kept.{IsKept, Leads, standing}
use Rattle.wk_session.specs.Added.{IsNewItem}
use Rattle.wk_session.specs.Refusals.{encode_refusal}
use Rattle.wk_session.proofs.Keeping.{others_kept}
use Rattle.wk_session.proofs.Leading.{Returns, returned, wants_memory, refused, kept_again, accepted, too_large, is_none_at, not_large}
use Rattle.wk_session.proofs.LongerLists.{longer_by, overlong_more}
use Rattle.wk_session.proofs.Oversized.{unwritten}

-- ---- the module with the item, judged by lists in which references find what they found without it

module _ (m : Parts) {before : Ref → Found} {n p : Parts} (found : before ≡ answers_of m) (pushed : p ≡ n) where
  pub grows_before : Grows (answers_of m) (answers_of n) → Grows before (answers_of p)
  grows_before grows =
      subst (λ (A : Ref → Found). Grows A (answers_of p)) (sym found) (subst (λ (q : Parts). Grows (answers_of m) (answers_of q)) (sym pushed) grows)

  pub kept_before : (k : Cache) → n.funcs ≡ m.funcs → n.customs ≡ m.customs → IsKept m k → AreKept before p k
  kept_before k funcs customs kept =
      subst (λ (A : Ref → Found). AreKept A p k) (sym found)
      (subst (λ (q : Parts). AreKept (answers_of m) q k) (sym pushed) (others_kept m n k funcs customs kept))

  pub known_before : (known : Option Verdict) → IfSome known (IsKnown (answers_of m) n) → IfSome known (IsKnown before p)
  known_before known is =
      subst (λ (A : Ref → Found). IfSome known (IsKnown A p)) (sym found) (subst (λ (q : Parts). IfSome known (IsKnown (answers_of m) q)) (sym pushed) is)

  pub judged_before : (keep : Bool) (k : Cache) (typed : ℕ) (r : Result Judgement EditFault) → IsJudged keep before p k typed r
      → IsJudged keep (answers_of m) n k typed r
  judged_before keep k typed r judged =
      subst (λ (q : Parts). IsJudged keep (answers_of m) q k typed r) pushed (subst (λ (A : Ref → Found). IsJudged keep A p k typed r) found judged)

-- ---- the item in its section

module _ (keep : Bool) (m n : Parts) (k : Cache) (typed : ℕ) {id count : ℕ} {alone : List ℕ}
    (longer : IsLonger id count alone k.pieces.sections.items n) where
  -- it can't be made
  pub item_refused : (e : EncodeFault) (r : Result ℕ EditFault) → IsInOrderFrom 0 n.customs → IsOverlong alone e
      → Returns r (encode_refusal e) → IsGrown keep (answers_of m) n typed 1 k k r
  item_refused e r order over returns =
      let due = unwritten keep id n e order (overlong_more alone (section_piece id n) e longer.within over) in
      subst (IsGrown keep (answers_of m) n typed 1 k k) (sym (returned r (encode_refusal e) returns)) (due, record { others = refl; sections = refl })

  -- it is kept there, if the module with it may stay
  pub item_grown : (new : Cache) (item : NewItem) (judged : Result Judgement EditFault) (r : Result ℕ EditFault) → IsNewItem id count alone item
      → n.funcs ≡ m.funcs → n.customs ≡ m.customs → IsKept m k
      → IsJudged keep (answers_of m) n k typed judged
      → (AreKept (answers_of m) n k → IsLonger item.id item.count item.alone k.pieces.sections.items n → IsJudged keep (answers_of m) n k typed judged
      → IsGrown keep (answers_of m) n typed item.made k new r)
      → IsGrown keep (answers_of m) n typed 1 k new r
  item_grown new item judged r is funcs customs kept told grown =
      subst (λ (made : ℕ). IsGrown keep (answers_of m) n typed made k new r) is.made
      (grown (others_kept m n k funcs customs kept) (longer_by id count alone k.pieces.sections.items n item is longer) told)

-- ---- what the edit leads to

-- a refusal by which nothing has grown, where the edit makes n if that may stay
pub grown_refused : (keep : Bool) (e : Edit) (m n p : Parts) (k new : Cache) (typed sections : ℕ) (f : EditFault) (r : Result Work EditFault) → Returns r f
    → made keep e m ≡ standing keep n → IsGrown keep (answers_of m) n typed sections k new (Err f) → is_decided e m ≡ false → p ≡ m → IsKept m k
    → Leads keep e m r p new
grown_refused keep e m n p k new typed sections f r returns makes grown decided same kept =
    refused keep e m new (kept_again m k new grown.1 kept) n p f r returns makes grown.0 (λ wanted. decided) same

-- An edit that puts x into m, by which m gets so long: this is known before memory is asked for, and the edit is refused first if it is too much.
pub record IsAddition {X : Type 0} (edit : X → Edit) (put : X → Parts → Parts) (keep : Bool) (x : X) (m : Parts) (k : Cache) (len : Option ℕ) : Type 0 where
  pub order : IsInOrderFrom 0 (put x m).customs
  pub long : len ≡ limited (length (encoded (put x m)))
  pub kept : IsKept m k
  pub makes : made keep (edit x) m ≡ standing keep (put x m)
  pub decides : is_decided (edit x) m ≡ is_large (fitting (settle (put x m)))

module _ {X : Type 0} {edit : X → Edit} {put : X → Parts → Parts} {keep : Bool} {x : X} {m : Parts} {k : Cache} {len : Option ℕ}
    (added : IsAddition edit put keep x m k len) where
  pub too_long : is_some len ≡ false → Leads keep (edit x) m (Err TooLarge) m k
  too_long none =
      ((λ other. added.makes ∙ too_large keep (put x m) added.order (sym (is_none_at len none) ∙ added.long)), (λ same. absurd cc), refl, added.kept)

  undecided : is_some len ≡ true → is_decided (edit x) m ≡ false
  undecided some = added.decides ∙ ap is_large (not_large (put x m) len added.order added.long some)

  -- where it can't be copied
  pub uncopied : is_some len ≡ true → (r : Result Work EditFault) → Returns r Memory → Leads keep (edit x) m r m k
  uncopied some r returns = wants_memory keep (edit x) m k added.kept r returns (undecided some)

  -- by its copy
  module _ (y : X) (copied : y ≡ x) where
    pub copy_long : len ≡ limited (length (encoded (put y m)))
    copy_long = added.long ∙ ap (λ (z : X). limited (length (encoded (put z m)))) (sym copied)

    -- where it can't be put there
    pub unpushed : is_some len ≡ true → (p : Parts) (new : Cache) (typed sections : ℕ) (f : EditFault) (r : Result Work EditFault) → Returns r f
        → IsGrown keep (answers_of m) (put y m) typed sections k new (Err f) → p ≡ m → Leads keep (edit x) m r p new
    unpushed some p new typed sections f r returns grown same =
        grown_refused keep (edit x) m (put x m) p k new typed sections f r returns added.makes
        (subst (λ (z : X). IsGrown keep (answers_of m) (put z m) typed sections k new (Err f)) copied grown) (undecided some) same added.kept

    -- where it is there
    pub pushed : (p : Parts) (new : Cache) (typed sections made_anew : ℕ) (w : Work) → p ≡ put y m
        → IsGrown keep (answers_of m) (put y m) typed made_anew k new (Ok sections) → w ≡ work_of (edit y) m (settle (put y m)) → IsFormed (put y m)
        → Leads keep (edit x) m (Ok w) p new
    pushed p new typed sections made_anew w is grown works formed =
        let makes = subst (λ (z : X). made keep (edit z) m ≡ standing keep (put z m)) (sym copied) added.makes in
        subst (λ (z : X). Leads keep (edit z) m (Ok w) p new) copied
        (accepted keep (edit y) m (put y m) p k new w is makes grown.0 works formed grown.1)
