-- Replies that tell less than those of a module make the same status.
use Rattle.std.proofs.Common.{◌≡◌, List, [], ◌∷◌, Result, Ok, Err, refl, subst}
use Rattle.std.specs.List.{list_all}
use Rattle.wk_session.specs.declared.edit.EditFault.{EditFault}
use Rattle.wk_session.specs.declared.edit.Work.{Work}
use Rattle.wk_draft.specs.Runs.{AreAlike, IsAlike}
use Rattle.wk_edit.specs.Outcome.{is_accepted}
use Rattle.wk_edit.specs.Prepared.{is_made}

-- what is told is told
same_alike : (r : Result Work EditFault) → IsAlike r r
same_alike (Ok w) = tt
same_alike (Err f) = refl

all_alike : (rs : List (Result Work EditFault)) → AreAlike rs rs
all_alike [] = tt
all_alike (r ∷ rs) = (same_alike r, all_alike rs)

-- equal replies tell the same
pub all_same : {rs qs : List (Result Work EditFault)} → rs ≡ qs → AreAlike rs qs
all_same {rs} same = subst (AreAlike rs) same (all_alike rs)

alike_made : {A : Type 0} (r : Result A EditFault) (q : Result Work EditFault) → IsAlike r q → is_made r ≡ is_accepted q
alike_made (Ok x) (Ok w) alike = refl
alike_made (Err f) (Err g) alike = refl
alike_made _ _ alike = absurd alike

pub all_made : {A : Type 0} (rs : List (Result A EditFault)) (qs : List (Result Work EditFault)) → AreAlike rs qs
    → list_all is_made rs ≡ list_all is_accepted qs
all_made [] [] alike = refl
all_made (r ∷ rs) (q ∷ qs) alike = rw (alike_made r q alike.0, all_made rs qs alike.1) refl
all_made _ _ alike = absurd alike
