-- One more edit in a run that none refuses for want of memory.
use Rattle.std.proofs.Common.{◌≡◌, ℕ, ◌+◌, ◌<◌, Bool, false, List, [], ◌∷◌, ◌++◌, length, take, get_or, Result, refl, sym, ap, subst, ◌∙◌}
use Rattle.std.proofs.lemmas.List.{take_more}
use Rattle.wk_module.specs.declared.types.Func.{Func}
use Rattle.wk_module.specs.declared.types.Parts.{Parts}
use Rattle.wk_session.specs.declared.edit.Edit.{Edit}
use Rattle.wk_session.specs.declared.edit.EditFault.{EditFault}
use Rattle.wk_session.specs.declared.edit.Work.{Work}
use Rattle.wk_session.specs.Runs.{after, after_one, replies_of, reply_of}
use Rattle.wk_draft.specs.declared.draft.Draft.{Draft}
use Rattle.wk_draft.specs.Runs.{AreAlike, IsAlike, IsHeld, IsStepped}

module _ (keep : Bool) where
  after_push : (es : List Edit) (e : Edit) (m : Parts) → after keep (es ++ e ∷ []) [] m ≡ after_one keep e false (after keep es [] m)
  after_push [] e m = refl
  after_push (d ∷ es) e m = after_push es e (after_one keep d false m)

  replies_push : (es : List Edit) (e : Edit) (m : Parts) → replies_of keep (es ++ e ∷ []) [] m
      ≡ replies_of keep es [] m ++ reply_of keep e false (after keep es [] m) ∷ []
  replies_push [] e m = refl
  replies_push (d ∷ es) e m = ap (λ rs. reply_of keep d false m ∷ rs) (replies_push es e (after_one keep d false m))

pub alike_push : {A : Type 0} (rs : List (Result A EditFault)) (qs : List (Result Work EditFault)) (r : Result A EditFault) (q : Result Work EditFault)
    → AreAlike rs qs → IsAlike r q → AreAlike (rs ++ r ∷ []) (qs ++ q ∷ [])
alike_push [] [] r q all last = (last, tt)
alike_push [] (p ∷ qs) r q all last = absurd all
alike_push (s ∷ rs) [] r q all last = absurd all
alike_push (s ∷ rs) (p ∷ qs) r q all last = (all.0, alike_push rs qs r q all.1 last)

module _ (keep : Bool) (es : List Edit) (i : ℕ) (e : Edit) (within : i < length es) (at : e ≡ get_or es i e) where
  taken : take (i + 1) es ≡ take i es ++ e ∷ []
  taken = take_more es i e within ∙ ap (λ y. take i es ++ y ∷ []) (sym at)

  pub held_more : (os : List Func) (m : Parts) (reply : Result (Unit {0}) EditFault) (d : Draft)
      → IsStepped keep e os (after keep (take i es) [] m) reply d → IsHeld os (after keep (take (i + 1) es) [] m) d
  held_more os m reply d is =
      subst (λ (n : Parts). IsHeld os n d) (sym (ap (λ (ds : List Edit). after keep ds [] m) taken ∙ after_push keep (take i es) e m)) is.0

  pub alike_more : (os : List Func) (m : Parts) (rs rs' : List (Result (Unit {0}) EditFault)) (reply : Result (Unit {0}) EditFault) (d : Draft)
      → IsStepped keep e os (after keep (take i es) [] m) reply d
      → rs' ≡ rs ++ reply ∷ [] → AreAlike rs (replies_of keep (take i es) [] m) → AreAlike rs' (replies_of keep (take (i + 1) es) [] m)
  alike_more os m rs rs' reply d is pushed sofar =
      subst (λ (ts : List (Result (Unit {0}) EditFault)). AreAlike ts (replies_of keep (take (i + 1) es) [] m)) (sym pushed)
      (subst (AreAlike (rs ++ reply ∷ [])) (sym (ap (λ (ds : List Edit). replies_of keep ds [] m) taken ∙ replies_push keep (take i es) e m))
      (alike_push rs (replies_of keep (take i es) [] m) reply _ sofar is.1))
