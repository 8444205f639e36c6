-- The codes of deferred bodies, put in the place of stubs.
use Rattle.std.proofs.Common.{◌≡◌, ℕ, zero, suc, ◌+◌, ◌-◌, ◌<◌, ◌≤◌, Bool, true, false, Option, Some, None, List, [], ◌∷◌, ◌++◌, length, map, take, get_or}
use Rattle.std.proofs.Common.{refl, sym, ap, subst, ◌∙◌, arith, append_assoc}
use Rattle.std.proofs.lemmas.List.{append-nil, take_all, length-map, replicate-append-replicate}
use Rattle.std.specs.Prelude.{replicate}
use Rattle.std.specs.List.{AllByRecursion}
use Rattle.wk_body.specs.declared.references.Ref.{Ref}
use Rattle.wk_body.specs.declared.shifts.Shifts.{Shifts}
use Rattle.wk_body.specs.declared.types.Profile.{Profile}
use Rattle.wk_body.specs.Bodies.{BodyOf}
use Rattle.wk_body.specs.Shifts.{shifted_body}
use Rattle.wk_body.specs.Written.{written_body}
use Rattle.wk_module.specs.declared.types.Func.{Func}
use Rattle.wk_module.specs.Items.{IsCode}
use Rattle.wk_typing.specs.Answers.{Found}
use Rattle.wk_pieces.specs.Overlays.{with_items}
use Rattle.wk_pieces.specs.Pieces.{code_of}
use Rattle.wk_draft.specs.Drafts.{AreDrafted}
use Rattle.wk_draft.specs.Runs.{deferred_codes}

-- nothing new changes nothing
none_new : {A : Type 0} (xs : List A) (k : ℕ) → with_items xs (replicate k None) ≡ xs
none_new [] k = refl
none_new (x ∷ xs) zero = refl
none_new (x ∷ xs) (suc k) = ap (λ ys. x ∷ ys) (none_new xs k)

pub deferred_put : (profile : Profile) (A : Ref → Found) (s : Shifts) (os : List Func) (deferred : List Bool) (fs gs : List Func) (k : ℕ)
    → AreDrafted profile A s os deferred fs gs
    → with_items (map code_of gs) (deferred_codes s os deferred ++ replicate k None) ≡ map code_of fs
deferred_put profile A s [] [] fs gs k are = none_new (map code_of gs) k ∙ ap (map code_of) (sym are)
deferred_put profile A s (o ∷ os) (true ∷ deferred) (f ∷ fs) (g ∷ gs) k are =
    ap (λ c. c ∷ with_items (map code_of gs) (deferred_codes s os deferred ++ replicate k None)) (sym (ap code_of (are.0).is))
    ∙ ap (λ cs. code_of f ∷ cs) (deferred_put profile A s os deferred fs gs k are.1)
deferred_put profile A s (o ∷ os) (false ∷ deferred) (f ∷ fs) (g ∷ gs) k are =
    ap (λ c. code_of c ∷ with_items (map code_of gs) (deferred_codes s os deferred ++ replicate k None)) (sym are.0)
    ∙ ap (λ cs. code_of f ∷ cs) (deferred_put profile A s os deferred fs gs k are.1)
deferred_put profile A s _ _ _ _ k are = absurd are

-- one more

-- what comes for a code, by its flag
abbrev pub IsNew : Shifts → List ℕ → Option (List ℕ) → Bool → Type 0
IsNew s code new true = (profile : Profile) (b : BodyOf) → IsCode profile b → code ≡ written_body b → new ≡ Some (written_body (shifted_body s b))
IsNew s code new false = new ≡ None

deferred_more : (s : Shifts) (profile : Profile) (os : List Func) (deferred : List Bool) (i : ℕ) (code : List ℕ) (b : Bool) (new : Option (List ℕ))
    → AllByRecursion (λ (o : Func). IsCode profile o.body) os → i < length os → i < length deferred → code ≡ get_or (map code_of os) i code
    → IsNew s code new (get_or deferred i b)
    → deferred_codes s (take (suc i) os) deferred ≡ deferred_codes s (take i os) deferred ++ new ∷ []
deferred_more s profile [] deferred i code b new all within inside at is = absurd (omega arith)
deferred_more s profile (p ∷ os) [] i code b new all within inside at is = absurd (omega arith)
deferred_more s profile (p ∷ os) (true ∷ deferred) zero code b new all within inside at is = ap (λ n. n ∷ []) (sym (is profile p.body all.0 at))
deferred_more s profile (p ∷ os) (false ∷ deferred) zero code b new all within inside at is = ap (λ n. n ∷ []) (sym is)
deferred_more s profile (p ∷ os) (true ∷ deferred) (suc i) code b new all within inside at is =
    ap (λ cs. Some (written_body (shifted_body s p.body)) ∷ cs) (deferred_more s profile os deferred i code b new all.1 (omega arith) (omega arith) at is)
deferred_more s profile (p ∷ os) (false ∷ deferred) (suc i) code b new all within inside at is =
    ap (λ cs. None ∷ cs) (deferred_more s profile os deferred i code b new all.1 (omega arith) (omega arith) at is)

-- news are what comes for the first i codes
abbrev pub AreMade : Shifts → List (List ℕ) → List Bool → List (Option (List ℕ)) → ℕ → Type 0
AreMade s codes deferred news i = (profile : Profile) (os : List Func) → codes ≡ map code_of os → AllByRecursion (λ (o : Func). IsCode profile o.body) os
    → news ≡ deferred_codes s (take i os) deferred

pub made_none : (s : Shifts) (codes : List (List ℕ)) (deferred : List Bool) (news : List (Option (List ℕ))) → news ≡ [] → AreMade s codes deferred news 0
made_none s codes deferred news none profile os told all = none

many_told : (codes : List (List ℕ)) (os : List Func) → codes ≡ map code_of os → length codes ≡ length os
many_told codes os told = ap length told ∙ length-map os code_of

pub made_more : (s : Shifts) (codes : List (List ℕ)) (deferred : List Bool) (i j : ℕ) (code : List ℕ) (b : Bool) (new : Option (List ℕ))
    (news after : List (Option (List ℕ)))
    → length deferred ≡ length codes → i < length codes → j ≡ suc i → code ≡ get_or codes i code → b ≡ get_or deferred i b → after ≡ news ++ new ∷ []
    → IsNew s code new b
    → AreMade s codes deferred news i → AreMade s codes deferred after j
made_more s codes deferred i j code b new news after many within next at flag pushed is sofar profile os told all =
    let count = many_told codes os told in
    pushed ∙ ap (λ ns. ns ++ new ∷ []) (sofar profile os told all)
    ∙ sym (deferred_more s profile os deferred i code b new all (omega arith) (omega arith) (at ∙ ap (λ cs. get_or cs i code) told)
    (subst (IsNew s code new) flag is))
    ∙ ap (λ k. deferred_codes s (take k os) deferred) (sym next)

pub made_all : (s : Shifts) (codes : List (List ℕ)) (deferred : List Bool) (news : List (Option (List ℕ))) (i : ℕ) → length codes ≤ i
    → AreMade s codes deferred news i
    → (profile : Profile) (os : List Func) → codes ≡ map code_of os → AllByRecursion (λ (o : Func). IsCode profile o.body) os
    → news ≡ deferred_codes s os deferred
made_all s codes deferred news i past made profile os told all =
    let count = many_told codes os told in
    made profile os told all ∙ ap (λ ps. deferred_codes s ps deferred) (take_all i os (omega arith))

-- ---- nothing for each function behind

none_more : {A : Type 0} (k : ℕ) → replicate {A = Option A} (suc k) None ≡ replicate k None ++ None ∷ []
none_more {A} k = let one : suc k ≡ k + 1 = omega arith in ap (λ (n : ℕ). replicate {A = Option A} n None) one ∙ sym (replicate-append-replicate k 1 None)

pub filled_none : {A : Type 0} (front news : List (Option A)) (i j : ℕ) → news ≡ front → j ≡ i → news ≡ front ++ replicate (j - i) None
filled_none {A} front news i j is same =
    let none : j - i ≡ 0 = omega arith in
    is ∙ sym (append-nil front) ∙ ap (λ (k : ℕ). front ++ replicate {A = Option A} k None) (sym none)

pub filled_more : {A : Type 0} (front news after : List (Option A)) (i j k : ℕ) → i ≤ j → k ≡ j + 1 → after ≡ news ++ None ∷ []
    → news ≡ front ++ replicate (j - i) None
    → after ≡ front ++ replicate (k - i) None
filled_more {A} front news after i j k order next pushed is =
    let one : suc (j - i) ≡ k - i = omega arith in
    pushed ∙ ap (λ ns. ns ++ None ∷ []) is ∙ append_assoc front (replicate (j - i) None) (None ∷ [])
    ∙ ap (λ ns. front ++ ns) (sym (none_more (j - i))) ∙ ap (λ (n : ℕ). front ++ replicate {A = Option A} n None) one
