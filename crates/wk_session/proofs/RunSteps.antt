-- One more edit in a run.
use Rattle.std.proofs.Common.{◌≡◌, Bool, ℕ, ◌+◌, ◌<◌, List, [], ◌∷◌, ◌++◌, length, take, get_or, true, false, Result, Ok, Err, refl, ap, sym, subst, ◌∙◌, arith}
use Rattle.std.specs.Prelude.{IfErr}
use Rattle.std.proofs.lemmas.List.{take_more, length-take}
use Rattle.wk_module.specs.declared.types.Parts.{Parts}
use Rattle.wk_session.specs.declared.edit.Edit.{Edit}
use Rattle.wk_session.specs.declared.edit.Work.{Work}
use Rattle.wk_session.specs.declared.edit.EditFault.{EditFault}
use Rattle.wk_session.specs.declared.edit.EditFault.TheVariants.{Memory}
use Rattle.wk_session.specs.Edits.{is_decided}
use Rattle.wk_session.specs.Making.{IsMade, AreMade}
use Rattle.wk_session.specs.MakingLaws.{made_more}
use Rattle.wk_session.specs.Runs.{reply_of, after_one, is_memory, replies_of, after, refused_for_memory, AreUndecided}
use Rattle.wk_session.specs.Told.{AreTold}
use Rattle.wk_session.specs.ToldLaws.{ReadsCode, replies_told}

replies_end : (keep : Bool) (es : List Edit) (rs : List (Result Work EditFault)) (m : Parts) (e : Edit) (r : Result Work EditFault) → length rs ≡ length es
    → replies_of keep (es ++ e ∷ []) (refused_for_memory (rs ++ r ∷ [])) m
    ≡ replies_of keep es (refused_for_memory rs) m ++ reply_of keep e (is_memory r) (after keep es (refused_for_memory rs) m) ∷ []
replies_end keep [] [] m e r h = refl
replies_end keep [] (s ∷ rs) m e r h = absurd (omega arith)
replies_end keep (d ∷ es) [] m e r h = absurd (omega arith)
replies_end keep (d ∷ es) (s ∷ rs) m e r h = ap (λ ys. reply_of keep d (is_memory s) m ∷ ys)
    (replies_end keep es rs (after_one keep d (is_memory s) m) e r (omega arith))

after_end : (keep : Bool) (es : List Edit) (rs : List (Result Work EditFault)) (m : Parts) (e : Edit) (r : Result Work EditFault) → length rs ≡ length es
    → after keep (es ++ e ∷ []) (refused_for_memory (rs ++ r ∷ [])) m ≡ after_one keep e (is_memory r) (after keep es (refused_for_memory rs) m)
after_end keep [] [] m e r h = refl
after_end keep [] (s ∷ rs) m e r h = absurd (omega arith)
after_end keep (d ∷ es) [] m e r h = absurd (omega arith)
after_end keep (d ∷ es) (s ∷ rs) m e r h = after_end keep es rs (after_one keep d (is_memory s) m) e r (omega arith)

-- whether a reply that is want of memory was not decided without any
abbrev WasUndecided : Edit → Parts → Bool → Type 0
WasUndecided e m true = is_decided e m ≡ false
WasUndecided e m false = Unit {0}

undecided_last : (keep : Bool) (e : Edit) (x : Bool) (m : Parts) → WasUndecided e m x → AreUndecided keep (e ∷ []) (x ∷ []) m
undecided_last keep e true m was = (was, tt)
undecided_last keep e false m was = tt

-- behind one edit more
undecided_cons : (keep : Bool) (d : Edit) (es : List Edit) (xs : List Bool) (e : Edit) (r : Result Work EditFault) (rs : List (Result Work EditFault))
    (x : Bool) (m : Parts)
    → ((p : Parts) → AreUndecided keep es xs p → WasUndecided e (after keep es xs p) (is_memory r)
    → AreUndecided keep (es ++ e ∷ []) (refused_for_memory (rs ++ r ∷ [])) p)
    → AreUndecided keep (d ∷ es) (x ∷ xs) m → WasUndecided e (after keep es xs (after_one keep d x m)) (is_memory r)
    → AreUndecided keep ((d ∷ es) ++ e ∷ []) (x ∷ refused_for_memory (rs ++ r ∷ [])) m
undecided_cons keep d es xs e r rs true m next all last = (all.0, next m all.1 last)
undecided_cons keep d es xs e r rs false m next all last = next (after_one keep d false m) all last

undecided_end : (keep : Bool) (es : List Edit) (rs : List (Result Work EditFault)) (m : Parts) (e : Edit) (r : Result Work EditFault) → length rs ≡ length es
    → AreUndecided keep es (refused_for_memory rs) m → WasUndecided e (after keep es (refused_for_memory rs) m) (is_memory r)
    → AreUndecided keep (es ++ e ∷ []) (refused_for_memory (rs ++ r ∷ [])) m
undecided_end keep [] [] m e r h all last = undecided_last keep e (is_memory r) m last
undecided_end keep [] (s ∷ rs) m e r h all last = absurd (omega arith)
undecided_end keep (d ∷ es) [] m e r h all last = absurd (omega arith)
undecided_end keep (d ∷ es) (s ∷ rs) m e r h all last =
    undecided_cons keep d es (refused_for_memory rs) e r rs (is_memory s) m (λ p a l. undecided_end keep es rs p e r (omega arith) a l) all last

pub was_undecided : (e : Edit) (m : Parts) (r : Result Work EditFault) → IfErr r (λ f. f ≡ Memory → is_decided e m ≡ false) → WasUndecided e m (is_memory r)
was_undecided e m (Ok w) h = tt
was_undecided e m (Err Memory) h = h refl
was_undecided e m (Err f) h = tt

-- replies that are the definition's tell so
pub told_by : ReadsCode → (keep : Bool) (es : List Edit) (m : Parts) (rs : List (Result Work EditFault))
    → rs ≡ replies_of keep es (refused_for_memory rs) m → AreTold m.profile es rs
told_by reads keep es m rs is = subst (AreTold m.profile es) (sym is) (replies_told reads keep es (refused_for_memory rs) m)

pub made_end : (es : List Edit) (i : ℕ) (e : Edit) (rs rs' : List (Result Work EditFault)) (r : Result Work EditFault) (m s s' : Parts) → i < length es
    → e ≡ get_or es i e → rs' ≡ rs ++ r ∷ [] → AreMade (take i es) rs m s → IsMade e r s s' → AreMade (take (i + 1) es) rs' m s'
made_end es i e rs rs' r m s s' within at pushed sofar one =
    let taken : take (i + 1) es ≡ take i es ++ e ∷ [] = take_more es i e within ∙ ap (λ y. take i es ++ y ∷ []) (sym at) in
    rw (taken, pushed) (made_more (take i es) rs e r m s s' sofar one)

module _ (keep : Bool) (es : List Edit) (i : ℕ) (e : Edit) (rs rs' : List (Result Work EditFault)) (r : Result Work EditFault) (m s s' : Parts)
    (within : i < length es) (at : e ≡ get_or es i e) (len : length rs ≡ i) (pushed : rs' ≡ rs ++ r ∷ [])
    (sofar : s ≡ after keep (take i es) (refused_for_memory rs) m) where
  taken : take (i + 1) es ≡ take i es ++ e ∷ []
  taken = take_more es i e within ∙ ap (λ y. take i es ++ y ∷ []) (sym at)

  aligned : length rs ≡ length (take i es)
  aligned = omega (arith, length-take i es)

  pub replies_more : r ≡ reply_of keep e (is_memory r) s → rs ≡ replies_of keep (take i es) (refused_for_memory rs) m
      → rs' ≡ replies_of keep (take (i + 1) es) (refused_for_memory rs') m
  replies_more told inv =
      pushed ∙ (ap (λ ys. ys ++ r ∷ []) inv
      ∙ (ap (λ q. replies_of keep (take i es) (refused_for_memory rs) m ++ q ∷ []) (told ∙ ap (reply_of keep e (is_memory r)) sofar)
      ∙ (sym (replies_end keep (take i es) rs m e r aligned)
      ∙ (ap (λ ds. replies_of keep ds (refused_for_memory (rs ++ r ∷ [])) m) (sym taken)
      ∙ ap (λ qs. replies_of keep (take (i + 1) es) (refused_for_memory qs) m) (sym pushed)))))

  pub after_more : s' ≡ after_one keep e (is_memory r) s → s' ≡ after keep (take (i + 1) es) (refused_for_memory rs') m
  after_more told =
      told ∙ (ap (after_one keep e (is_memory r)) sofar
      ∙ (sym (after_end keep (take i es) rs m e r aligned)
      ∙ (ap (λ ds. after keep ds (refused_for_memory (rs ++ r ∷ [])) m) (sym taken)
      ∙ ap (λ qs. after keep (take (i + 1) es) (refused_for_memory qs) m) (sym pushed))))

  pub undecided_more : WasUndecided e s (is_memory r) → AreUndecided keep (take i es) (refused_for_memory rs) m
      → AreUndecided keep (take (i + 1) es) (refused_for_memory rs') m
  undecided_more was inv =
      subst (λ (ds : List Edit). AreUndecided keep ds (refused_for_memory rs') m) (sym taken)
      (subst (λ (qs : List (Result Work EditFault)). AreUndecided keep (take i es ++ e ∷ []) (refused_for_memory qs) m) (sym pushed)
      (undecided_end keep (take i es) rs m e r aligned inv (subst (λ (p : Parts). WasUndecided e p (is_memory r)) sofar was)))
