-- The first of many flaws, by section and item.
use Rattle.std.specs.Prelude.{◌≡◌, ℕ, ◌+◌, Option, Some, None, List, [], ◌∷◌, ◌++◌, length}
use Rattle.std.specs.List.{AllByRecursion}
use Rattle.wk_typing.specs.declared.fault.Flaw.{Flaw}
use Rattle.wk_typing.specs.declared.fault.Fault.{Fault}
use Rattle.wk_typing.specs.declared.fault.Verdict.{Verdict}
use Rattle.wk_typing.specs.declared.fault.Verdict.TheVariants.{Valid, Invalid}
use Rattle.wk_typing.specs.Faults.{fault_at}
use Rattle.wk_check.specs.Items.{earlier}

-- what a rule finds at each item, from an index on
abbrev pub numbered : {X : Type 0} → (ℕ → X → Option Flaw) → ℕ → List X → List (Option Flaw)
numbered rule item [] = []
numbered rule item (x ∷ xs) = rule item x ∷ numbered rule (item + 1) xs

-- the first flaw of a section's items, from an index on
abbrev pub first_in : ℕ → ℕ → List (Option Flaw) → Option Fault
first_in section item [] = None
first_in section item (None ∷ ws) = first_in section (item + 1) ws
first_in section item (Some w ∷ ws) = Some (fault_at section item w)

-- the first flaw of sections, from an id on
abbrev pub first_fault : ℕ → List (List (Option Flaw)) → Option Fault
first_fault section [] = None
first_fault section (ws ∷ others) = earlier (first_in section 0 ws) (first_fault (section + 1) others)

abbrev pub verdict_by : Option Fault → Verdict
verdict_by None = Valid
verdict_by (Some fault) = Invalid fault

-- ---- in words: nothing is wrong, or this comes first

abbrev pub AreFine : List (Option Flaw) → Type 0
AreFine = AllByRecursion (λ w. w ≡ None)

-- The fault is that of an item: the items before it in its section are fine, and so are those of all sections before it.
pub record IsFirst (section : ℕ) (flaws : List (List (Option Flaw))) (fault : Fault) : Type 0 where
  pub sections_before : List (List (Option Flaw))
  pub items_before : List (Option Flaw)
  pub flaw : Flaw
  pub items_behind : List (Option Flaw)
  pub sections_behind : List (List (Option Flaw))
  pub parts : flaws ≡ sections_before ++ (items_before ++ Some flaw ∷ items_behind) ∷ sections_behind
  pub fine_sections : AllByRecursion AreFine sections_before
  pub fine_items : AreFine items_before
  pub is : fault ≡ fault_at (section + length sections_before) (length items_before) flaw

abbrev pub IsVerdictOn : List (List (Option Flaw)) → Verdict → Type 0
IsVerdictOn flaws Valid = AllByRecursion AreFine flaws
IsVerdictOn flaws (Invalid fault) = IsFirst 1 flaws fault
