-- What the verdict of a module tells of its bodies holds.
use Rattle.std.proofs.Common.{◌≡◌, ℕ, zero, suc, ◌+◌, ◌<◌, ◌≤◌, List, [], ◌∷◌, length, map, take, slice_get, nat_lt, if◌then◌else◌, Bool, true, false, Option}
use Rattle.std.proofs.Common.{Some, None, refl, sym, ap, subst, ◌∙◌, arith}
use Rattle.std.specs.Prelude.{IfSome, option_map}
use Rattle.std.proofs.lemmas.Bool.{ltb-true, ltb-false}
use Rattle.std.specs.List.{AllByRecursion}
use Rattle.wk_body.specs.declared.references.Ref.{Ref}
use Rattle.wk_module.specs.declared.types.Func.{Func}
use Rattle.wk_module.specs.declared.types.Parts.{Parts}
use Rattle.wk_module.specs.Shape.{lists_of}
use Rattle.wk_typing.specs.declared.fault.BodyVerdict.{BodyVerdict}
use Rattle.wk_typing.specs.declared.fault.BodyVerdict.TheVariants as bodies
use Rattle.wk_typing.specs.declared.fault.Fault.{Fault}
use Rattle.wk_typing.specs.declared.fault.FaultKind.{FaultKind}
use Rattle.wk_typing.specs.declared.fault.Verdict.{Verdict}
use Rattle.wk_typing.specs.declared.fault.Verdict.TheVariants.{Valid, Invalid}
use Rattle.wk_typing.specs.Answers.{Found}
use Rattle.wk_typing.specs.Faults.{fault_at}
use Rattle.wk_check.specs.Flaws.{first_in, first_fault, verdict_by, AreFine}
use Rattle.wk_typing.specs.Faults.{body_flaw}
use Rattle.wk_check.specs.Items.{earlier}
use Rattle.wk_check.specs.SpacesLaws.{answers_of}
use Rattle.wk_check.specs.Verdict.{func_verdict, code_flaws, data_flaws, code_fault, flaws_before_code, front_fault, module_verdict}
use Rattle.wk_session.specs.Known.{AreKnown, body_told, told_by}

-- ---- lists

pub all_first : {A : Type 0} (P : A → Type 0) (n : ℕ) (xs : List A) → AllByRecursion P xs → AllByRecursion P (take n xs)
all_first P zero xs all = tt
all_first P (suc n) [] all = tt
all_first P (suc n) (x ∷ xs) all = (all.0, all_first P n xs all.1)

-- ---- the place of the first flaw of a section

section_of : (section item : ℕ) (ws : List (Option _)) (fault : Fault) → first_in section item ws ≡ Some fault → fault.place.section ≡ section
section_of section item [] fault e = absurd cc
section_of section item (None ∷ ws) fault e = section_of section (item + 1) ws fault e
section_of section item (Some w ∷ ws) fault e = let here : fault ≡ fault_at section item w = cc in ap (λ (f : Fault). f.place.section) here

-- its item is none in front of the first
item_behind : (section item : ℕ) (ws : List (Option _)) (fault : Fault) → first_in section item ws ≡ Some fault → item ≤ fault.place.item
item_behind section item [] fault e = absurd cc
item_behind section item (None ∷ ws) fault e = omega (arith, item_behind section (item + 1) ws fault e)
item_behind section item (Some w ∷ ws) fault e = let here : fault ≡ fault_at section item w = cc in omega (arith, ap (λ (f : Fault). f.place.item) here)

-- the items in front of it are fine
fine_before : (section item n : ℕ) (ws : List (Option _)) (fault : Fault) → first_in section item ws ≡ Some fault → fault.place.item ≡ item + n
    → AreFine (take n ws)
fine_before section item n [] fault e is = absurd cc
fine_before section item zero (w ∷ ws) fault e is = tt
fine_before section item (suc n) (None ∷ ws) fault e is = (refl, fine_before section (item + 1) n ws fault e (omega (arith, is)))
fine_before section item (suc n) (Some w ∷ ws) fault e is = let here : fault ≡ fault_at section item w = cc in
    absurd (omega (arith, is, ap (λ (f : Fault). f.place.item) here))

all_fine : (section item : ℕ) (ws : List (Option _)) → first_in section item ws ≡ None → AreFine ws
all_fine section item [] e = tt
all_fine section item (None ∷ ws) e = (refl, all_fine section (item + 1) ws e)
all_fine section item (Some w ∷ ws) e = absurd cc

-- the first flaw of sections stands in one of them
section_within : (section : ℕ) (wss : List (List (Option _))) (fault : Fault) → first_fault section wss ≡ Some fault
    → fault.place.section < section + length wss
section_within section [] fault e = absurd cc
section_within section (ws ∷ wss) fault e = among (section_within (section + 1) wss fault) (first_in section 0 ws) refl
  where
    among : (first_fault (section + 1) wss ≡ Some fault → fault.place.section < section + 1 + length wss) → (here : Option Fault)
        → first_in section 0 ws ≡ here → fault.place.section < section + suc (length wss)
    among rest (Some f) is =
        let same : first_in section 0 ws ≡ Some fault = is ∙ sym (ap (λ (o : Option Fault). earlier o (first_fault (section + 1) wss)) is) ∙ e in
        omega (arith, section_of section 0 ws fault same)
    among rest None is =
        let later : first_fault (section + 1) wss ≡ Some fault = sym (ap (λ (o : Option Fault). earlier o (first_fault (section + 1) wss)) is) ∙ e in
        omega (arith, rest later)

-- ---- bodies

fine_valid : (v : BodyVerdict) → body_flaw v ≡ None → v ≡ bodies.Valid
fine_valid bodies.Valid e = refl
fine_valid (bodies.Invalid kind token) e = absurd cc

all_valid : (A : Ref → Found) (n : ℕ) (fs : List Func) → AreFine (take n (map body_flaw (map (func_verdict A) fs)))
    → AllByRecursion (λ f. func_verdict A f ≡ bodies.Valid) (take n fs)
all_valid A zero fs fine = tt
all_valid A (suc n) [] fine = tt
all_valid A (suc n) (f ∷ fs) fine = (fine_valid (func_verdict A f) fine.0, all_valid A n fs fine.1)

-- the first fault, where it is that of a body
own_kind : (kind : FaultKind) (t item : ℕ) (fault : Fault) (token : ℕ) → first_in 10 item (body_flaw (bodies.Invalid kind t) ∷ []) ≡ Some fault
    → fault.place.token ≡ Some token
    → bodies.Invalid kind t ≡ bodies.Invalid fault.kind token
own_kind kind t item fault token first at =
    let same : record { kind = kind; place = record { section = 10; item = item; token = Some t } } ≡ fault = cc in
    subst (λ (f : Fault). f.place.token ≡ Some token → bodies.Invalid kind t ≡ bodies.Invalid f.kind token) same
    (λ here. let is : t ≡ token = cc in ap (bodies.Invalid kind) is) at

own_item : (kind : FaultKind) (t item : ℕ) (fault : Fault) → first_in 10 item (body_flaw (bodies.Invalid kind t) ∷ []) ≡ Some fault → item ≡ fault.place.item
own_item kind t item fault first =
    let same : record { kind = kind; place = record { section = 10; item = item; token = Some t } } ≡ fault = cc in
    ap (λ (f : Fault). f.place.item) same

-- the body that the first fault names has it: of the first of some, and of those behind it
at_first : (A : Ref → Found) (item n : ℕ) (v : BodyVerdict) (g : Func) (fs : List Func) (f : Func) (fault : Fault) (token : ℕ) → func_verdict A g ≡ v
    → ((k : ℕ) → fault.place.item ≡ item + 1 + k → slice_get fs k ≡ Some f
    → first_in 10 (item + 1) (map body_flaw (map (func_verdict A) fs)) ≡ Some fault → func_verdict A f ≡ bodies.Invalid fault.kind token)
    → first_in 10 item (body_flaw v ∷ map body_flaw (map (func_verdict A) fs)) ≡ Some fault
    → fault.place.item ≡ item + n → slice_get (g ∷ fs) n ≡ Some f → fault.place.token ≡ Some token → func_verdict A f ≡ bodies.Invalid fault.kind token
at_first A item zero bodies.Valid g fs f fault token v_is more first is there at =
    absurd (omega (arith, is, item_behind 10 (item + 1) (map body_flaw (map (func_verdict A) fs)) fault first))
at_first A item (suc k) bodies.Valid g fs f fault token v_is more first is there at = more k (omega (arith, is)) there first
at_first A item zero (bodies.Invalid kind t) g fs f fault token v_is more first is there at =
    let same : g ≡ f = cc in ap (func_verdict A) (sym same) ∙ v_is ∙ own_kind kind t item fault token first at
at_first A item (suc k) (bodies.Invalid kind t) g fs f fault token v_is more first is there at = absurd (omega (arith, is, own_item kind t item fault first))

at_fault : (A : Ref → Found) (item n : ℕ) (fs : List Func) (f : Func) (fault : Fault) (token : ℕ)
    → first_in 10 item (map body_flaw (map (func_verdict A) fs)) ≡ Some fault
    → fault.place.item ≡ item + n → slice_get fs n ≡ Some f → fault.place.token ≡ Some token → func_verdict A f ≡ bodies.Invalid fault.kind token
at_fault A item n [] f fault token first is there at = absurd cc
at_fault A item n (g ∷ fs) f fault token first is there at =
    at_first A item n (func_verdict A g) g fs f fault token refl
    (λ k later has behind. at_fault A (item + 1) k fs f fault token behind later has at) first is there at

-- the verdict of a body, where the first so many are valid
nth_valid : (A : Ref → Found) (n i : ℕ) (fs : List Func) (f : Func) → AllByRecursion (λ g. func_verdict A g ≡ bodies.Valid) (take n fs) → i < n
    → slice_get fs i ≡ Some f → func_verdict A f ≡ bodies.Valid
nth_valid A n i [] f all few at = absurd cc
nth_valid A zero i (g ∷ fs) f all few at = absurd (omega (arith, few))
nth_valid A (suc n) zero (g ∷ fs) f all few at = let is : g ≡ f = cc in ap (func_verdict A) (sym is) ∙ all.0
nth_valid A (suc n) (suc i) (g ∷ fs) f all few at = nth_valid A n i fs f all.1 (omega (arith, few)) at

-- ---- the verdict of a module

module _ (m : Parts) where
  -- the first fault in front of the bodies, and behind them
  abbrev Front : Option Fault
  Front = front_fault m.profile (lists_of m)

  abbrev Back : Option Fault
  Back = first_in 11 0 (data_flaws (lists_of m))

  abbrev AreValid : ℕ → Type 0
  AreValid n = AllByRecursion (λ f. func_verdict (answers_of m) f ≡ bodies.Valid) (take n m.funcs)

  -- what the verdict tells of the three parts of a module
  no_code : (front code back : Option Fault) → verdict_by (earlier front (earlier code back)) ≡ Valid → code ≡ None
  no_code (Some f) code back e = absurd cc
  no_code None (Some f) back e = absurd cc
  no_code None None back e = refl

  none_known : (n : ℕ) → code_fault m ≡ None → AreValid n
  none_known n e = all_valid (answers_of m) n m.funcs (all_first (λ w. w ≡ None) n _ (all_fine 10 0 _ e))

  -- where the first fault stands among the bodies, it is the first one there
  fault_in : (fault : Fault) → module_verdict m ≡ Invalid fault → fault.place.section ≡ 10 → code_fault m ≡ Some fault
  fault_in fault e here = among Front (code_fault m) Back refl refl refl e
    where
      among : (front code back : Option Fault) → Front ≡ front → code_fault m ≡ code → Back ≡ back
          → verdict_by (earlier front (earlier code back)) ≡ Invalid fault → code_fault m ≡ Some fault
      among (Some f) code back is_front is_code is_back all =
          let same : f ≡ fault = cc in
          absurd (omega (arith, here, section_within 1 (flaws_before_code m.profile (lists_of m)) fault (is_front ∙ ap Some same)))
      among None (Some f) back is_front is_code is_back all = let same : f ≡ fault = cc in is_code ∙ ap Some same
      among None None (Some f) is_front is_code is_back all =
          let same : f ≡ fault = cc in
          absurd (omega (arith, here, section_of 11 0 (data_flaws (lists_of m)) fault (is_back ∙ ap Some same)))
      among None None None is_front is_code is_back all = absurd cc

  -- where it stands behind them, there is none
  none_in : (fault : Fault) → module_verdict m ≡ Invalid fault → 10 < fault.place.section → code_fault m ≡ None
  none_in fault e behind = among Front (code_fault m) refl refl e
    where
      among : (front code : Option Fault) → Front ≡ front → code_fault m ≡ code → verdict_by (earlier front (earlier code Back)) ≡ Invalid fault
          → code_fault m ≡ None
      among (Some f) code is_front is_code all =
          let same : f ≡ fault = cc in
          absurd (omega (arith, behind, section_within 1 (flaws_before_code m.profile (lists_of m)) fault (is_front ∙ ap Some same)))
      among None (Some f) is_front is_code all =
          let same : f ≡ fault = cc in
          absurd (omega (arith, behind, section_of 10 0 (code_flaws (lists_of m) m.funcs) fault (is_code ∙ ap Some same)))
      among None None is_front is_code all = is_code

  module _ (i : ℕ) (f : Func) (there : slice_get m.funcs i ≡ Some f) where
    abbrev Holds : Option BodyVerdict → Type 0
    Holds told = IfSome told (λ v. v ≡ func_verdict (answers_of m) f)

    in_front : (n : ℕ) → AreValid n → i < n → bodies.Valid ≡ func_verdict (answers_of m) f
    in_front n all few = sym (nth_valid (answers_of m) n i m.funcs f all few there)

    by_fault : (fault : Fault) → module_verdict m ≡ Invalid fault → Holds (told_by fault i)
    by_fault fault e = go (nat_lt fault.place.section 10) (nat_lt 10 fault.place.section) (nat_lt i fault.place.item)
        (nat_lt fault.place.item i) fault.place.token refl refl refl refl refl
      where
        go : (early late front back : Bool) (token : Option ℕ) → nat_lt fault.place.section 10 ≡ early → nat_lt 10 fault.place.section ≡ late
            → nat_lt i fault.place.item ≡ front
            → nat_lt fault.place.item i ≡ back → fault.place.token ≡ token
            → Holds (if early then None
            else (if late then Some bodies.Valid
            else (if front then Some bodies.Valid else (if back then None else option_map (bodies.Invalid fault.kind) token))))
        go true late front back token is_early is_late is_front is_back at = tt
        go false true front back token is_early is_late is_front is_back at =
            in_front (i + 1) (none_known (i + 1) (none_in fault e (ltb-true 10 fault.place.section is_late))) (omega arith)
        go false false true back token is_early is_late is_front is_back at =
            let here : fault.place.section ≡ 10 = omega (arith, ltb-false fault.place.section 10 is_early, ltb-false 10 fault.place.section is_late) in
            in_front fault.place.item
            (all_valid (answers_of m) fault.place.item m.funcs (fine_before 10 0 fault.place.item _ fault (fault_in fault e here) (omega arith)))
            (ltb-true i fault.place.item is_front)
        go false false false true token is_early is_late is_front is_back at = tt
        go false false false false None is_early is_late is_front is_back at = tt
        go false false false false (Some token) is_early is_late is_front is_back at =
            let here : fault.place.section ≡ 10 = omega (arith, ltb-false fault.place.section 10 is_early, ltb-false 10 fault.place.section is_late) in
            sym (at_fault (answers_of m) 0 i m.funcs f fault token (fault_in fault e here)
            (omega (arith, ltb-false i fault.place.item is_front, ltb-false fault.place.item i is_back)) there at)

    by_verdict : (v : Verdict) → module_verdict m ≡ v → Holds (body_told (Some v) i)
    by_verdict Valid e = in_front (i + 1) (none_known (i + 1) (no_code Front (code_fault m) Back e)) (omega arith)
    by_verdict (Invalid fault) e = by_fault fault e

  -- what the verdict of a module tells of its bodies, holds
  pub told_bodies : (known : Option Verdict) → IfSome known (λ v. v ≡ module_verdict m) → AreKnown known (answers_of m) m.funcs
  told_bodies None is = λ i f there. tt
  told_bodies (Some v) is = λ i f there. by_verdict i f there v (sym is)
