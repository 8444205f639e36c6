-- Steps of the loop over replies, beside those of a module, of which they may tell less.
use Rattle.std.proofs.Common.{◌≡◌, ◌<◌, ◌≤◌, ◌+◌, ℕ, zero, suc, List, [], ◌∷◌, ◌++◌, length, drop, get_or, Result, refl, sym, ap, subst, ◌∙◌, append_assoc}
use Rattle.std.proofs.Common.{arith}
use Rattle.std.proofs.lemmas.List.{drop_all}
use Rattle.wk_session.specs.declared.edit.EditFault.{EditFault}
use Rattle.wk_session.specs.declared.edit.Work.{Work}
use Rattle.wk_typing.specs.declared.fault.Verdict.{Verdict}
use Rattle.wk_draft.specs.Runs.{AreAlike, IsAlike}
use Rattle.wk_check.specs.VerdictLines.{verdict_line}
use Rattle.wk_edit.specs.ReportText.{reply_line, report_text}

alike_len : {A : Type 0} (rs : List (Result A EditFault)) (qs : List (Result Work EditFault)) → AreAlike rs qs → length rs ≡ length qs
alike_len [] [] alike = refl
alike_len (r ∷ rs) (q ∷ qs) alike = ap suc (alike_len rs qs alike.1)
alike_len _ _ alike = absurd alike

-- the reply of the module at an index, and those behind it
alike_at : {A : Type 0} (rs : List (Result A EditFault)) (qs : List (Result Work EditFault)) (i : ℕ) (r : Result A EditFault) → i < length rs → AreAlike rs qs
    → (q : Result Work EditFault) × IsAlike (get_or rs i r) q × (drop i qs ≡ q ∷ drop (suc i) qs)
alike_at [] qs i r less alike = absurd (omega arith)
alike_at (s ∷ rs) [] i r less alike = absurd alike
alike_at (s ∷ rs) (q ∷ qs) zero r less alike = (q, alike.0, refl)
alike_at (s ∷ rs) (q ∷ qs) (suc i) r less alike = alike_at rs qs i r (omega arith) alike.1

pub more : {A : Type 0} (old new whole : List ℕ) (n i : ℕ) (rs : List (Result A EditFault)) (qs : List (Result Work EditFault)) (r : Result A EditFault)
    (v : Verdict) → i < length rs → r ≡ get_or rs i r → AreAlike rs qs
    → ((q : Result Work EditFault) → IsAlike r q → new ≡ old ++ reply_line n q) → old ++ report_text n (drop i qs) v ≡ whole
    → new ++ report_text (n + 1) (drop (i + 1) qs) v ≡ whole
unfolding report_text
more old new whole n i rs qs r v less at alike put e =
    let here = alike_at rs qs i r less alike in
    let q = here.0 in
    let like : IsAlike r q = subst (λ s. IsAlike s q) (sym at) here.1 in
    let next : suc i ≡ i + 1 = omega arith in
    let behind : drop i qs ≡ q ∷ drop (i + 1) qs = here.2 ∙ ap (λ (k : ℕ). q ∷ drop k qs) next in
    rw (put q like, append_assoc) (rw behind at e)

pub last : {A : Type 0} (old new line whole : List ℕ) (n i : ℕ) (rs : List (Result A EditFault)) (qs : List (Result Work EditFault)) (v : Verdict)
    → length rs ≤ i → AreAlike rs qs → new ≡ old ++ line → line ≡ verdict_line v
    → old ++ report_text n (drop i qs) v ≡ whole → new ≡ whole
unfolding report_text
last old new line whole n i rs qs v past alike put is e =
    let all : length qs ≤ i = omega (arith, alike_len rs qs alike, past) in
    put ∙ ap (λ (t : List ℕ). old ++ t) is ∙ (rw (drop_all i qs all) at e)
