-- The first flaw of a section, of sections that are put together, and of a module.
use Rattle.std.proofs.Common.{◌≡◌, ℕ, suc, ◌+◌, ◌<◌, List, [], ◌∷◌, ◌++◌, length, map, Bool, true, false, nat_lt, get_or, take, drop, Option, Some, None, refl}
use Rattle.std.proofs.Common.{ap, sym, ◌∙◌, add-zero, add-one, arith, length-append}
use Rattle.std.proofs.Math.Nat.{zero-add}
use Rattle.std.proofs.Math.Seq.{take-suc, drop-cons}
use Rattle.std.specs.List.{AllByRecursion}
use Rattle.wk_body.specs.declared.types.Profile.{Profile}
use Rattle.wk_body.specs.declared.types.Profile.TheVariants.{Core, Extended}
use Rattle.wk_module.specs.declared.types.Import.{Import}
use Rattle.wk_module.specs.declared.types.ImportDesc.{ImportDesc}
use Rattle.wk_module.specs.declared.types.Parts.{Parts}
use Rattle.wk_module.specs.declared.types.FuncType.{FuncType}
use Rattle.wk_module.specs.Sections.{SectionLists}
use Rattle.wk_module.specs.Shape.{lists_of}
use Rattle.wk_typing.specs.declared.fault.Flaw.{Flaw}
use Rattle.wk_typing.specs.declared.fault.Fault.{Fault}
use Rattle.wk_typing.specs.declared.fault.FaultKind.TheVariants.{TypeArity}
use Rattle.wk_typing.specs.Faults.{fault_at}
use Rattle.wk_check.specs.Flaws.{numbered, first_in, first_fault, verdict_by, AreFine, IsFirst, IsVerdictOn}
use Rattle.wk_check.specs.Items.{earlier, unless, type_flaw}
use Rattle.wk_check.specs.Spaces.{and_more, imported}
use Rattle.wk_check.specs.SpacesLaws.{imported_push}
use Rattle.wk_check.specs.Verdict.{type_flaws, code_flaws, data_flaws, code_fault, flaws_before_code, module_flaws, front_fault, verdict_from, module_verdict}
use Rattle.wk_check.specs.Verdict.{IsVerdict, IsNotArity, extended}

-- ---- steps of loops

-- an item is fine: its section is as far as its rest
pub fine_step : {X : Type 0} (rule : ℕ → X → Option Flaw) (section item : ℕ) (xs : List X) (x : X) → item < length xs → x ≡ get_or xs item x
    → rule item x ≡ None
    → first_in section item (numbered rule item (drop item xs)) ≡ first_in section (item + 1) (numbered rule (item + 1) (drop (item + 1) xs))
fine_step rule section item xs x here is fine = rw (add-one, drop-cons xs item x, ← is, fine, add-one)

-- a rule that does not look at the index
pub numbered_map : {X Y : Type 0} (f : Y → Option Flaw) (g : X → Y) (item : ℕ) (xs : List X) → numbered (λ at x. f (g x)) item xs ≡ map f (map g xs)
numbered_map f g item [] = refl
numbered_map f g item (x ∷ xs) = ap (λ ws. f (g x) ∷ ws) (numbered_map f g (item + 1) xs)

-- one import more
pub imported_step : {X : Type 0} (pick : ImportDesc → Option X) (is : List Import) (at : ℕ) (i : Import) → at < length is → i ≡ get_or is at i
    → length (imported pick (take (at + 1) is)) ≡ length (imported pick (take at is)) + length (and_more (pick i.desc) [])
imported_step pick is at i here found =
    rw (add-one, take-suc is at i, ← found)
    (ap (λ xs. length xs) (imported_push pick (take at is) i) ∙ length-append (imported pick (take at is)) (and_more (pick i.desc) []))

-- ---- the first of several

pub earlier_assoc : {X : Type 0} (a b c : Option X) → earlier (earlier a b) c ≡ earlier a (earlier b c)
earlier_assoc None b c = refl
earlier_assoc (Some x) b c = refl

pub earlier_none : {X : Type 0} (a : Option X) → earlier a None ≡ a
earlier_none None = refl
earlier_none (Some x) = refl

-- sections that are put together
pub first_fault_joined : (section : ℕ) (front back : List (List (Option Flaw)))
    → first_fault section (front ++ back) ≡ earlier (first_fault section front) (first_fault (section + length front) back)
first_fault_joined section [] back = rw add-zero
first_fault_joined section (ws ∷ front) back =
    let next : section + 1 + length front ≡ section + suc (length front) = omega arith in
    ap (earlier (first_in section 0 ws)) (rw next at (first_fault_joined (section + 1) front back))
    ∙ sym (earlier_assoc (first_in section 0 ws) (first_fault (section + 1) front) (first_fault (section + suc (length front)) back))

-- ---- in words

-- what is found in a section, from an index on
abbrev IsFoundIn : ℕ → ℕ → List (Option Flaw) → Option Fault → Type 0
IsFoundIn section item ws None = AreFine ws
IsFoundIn section item ws (Some fault) =
    (before : List (Option Flaw)) × (w : Flaw) × (behind : List (Option Flaw))
    × (ws ≡ before ++ Some w ∷ behind) × AreFine before × (fault ≡ fault_at section (item + length before) w)

found_later : (section item : ℕ) (ws : List (Option Flaw)) (r : Option Fault) → IsFoundIn section (item + 1) ws r → IsFoundIn section item (None ∷ ws) r
found_later section item ws None fine = (refl, fine)
found_later section item ws (Some fault) h =
    let place : item + 1 + length h.0 ≡ item + suc (length h.0) = omega arith in
    (None ∷ h.0, h.1, h.2, ap (λ rest. None ∷ rest) h.3, (refl, h.4), rw place at h.5)

found_in : (section item : ℕ) (ws : List (Option Flaw)) → IsFoundIn section item ws (first_in section item ws)
found_in section item [] = tt
found_in section item (None ∷ ws) = found_later section item ws (first_in section (item + 1) ws) (found_in section (item + 1) ws)
found_in section item (Some w ∷ ws) = ([], w, ws, refl, tt, rw add-zero)

-- what is found in sections, from an id on
abbrev IsFoundFrom : ℕ → List (List (Option Flaw)) → Option Fault → Type 0
IsFoundFrom section flaws None = AllByRecursion AreFine flaws
IsFoundFrom section flaws (Some fault) = IsFirst section flaws fault

found_or : (section : ℕ) (ws : List (Option Flaw)) (others : List (List (Option Flaw))) (here there : Option Fault)
    → IsFoundIn section 0 ws here → IsFoundFrom (section + 1) others there → IsFoundFrom section (ws ∷ others) (earlier here there)
found_or section ws others (Some fault) there h rest = record {
  sections_before = [];
  items_before = h.0;
  flaw = h.1;
  items_behind = h.2;
  sections_behind = others;
  parts = ap (λ first. first ∷ others) h.3;
  fine_sections = tt;
  fine_items = h.4;
  is = rw add-zero (rw zero-add at h.5);
}
found_or section ws others None None fine rest = (fine, rest)
found_or section ws others None (Some fault) fine rest =
    let place : section + 1 + length rest.sections_before ≡ section + suc (length rest.sections_before) = omega arith in
    record {
      sections_before = ws ∷ rest.sections_before;
      items_before = rest.items_before;
      flaw = rest.flaw;
      items_behind = rest.items_behind;
      sections_behind = rest.sections_behind;
      parts = ap (λ behind. ws ∷ behind) rest.parts;
      fine_sections = (fine, rest.fine_sections);
      fine_items = rest.fine_items;
      is = rw place at rest.is;
    }

found_from : (section : ℕ) (flaws : List (List (Option Flaw))) → IsFoundFrom section flaws (first_fault section flaws)
found_from section [] = tt
found_from section (ws ∷ others) = found_or section ws others (first_in section 0 ws) (first_fault (section + 1) others) (found_in section 0 ws)
    (found_from (section + 1) others)

told : (flaws : List (List (Option Flaw))) (r : Option Fault) → IsFoundFrom 1 flaws r → IsVerdictOn flaws (verdict_by r)
told flaws None fine = fine
told flaws (Some fault) first = first

-- the verdict by the first fault is the one that words tell
pub verdict_told : (flaws : List (List (Option Flaw))) → IsVerdictOn flaws (verdict_by (first_fault 1 flaws))
verdict_told flaws = told flaws (first_fault 1 flaws) (found_from 1 flaws)

-- ---- modules

-- the code section comes behind those in front of it, and the data section behind it
pub module_flaws_are : (m : Parts) → verdict_by (first_fault 1 (module_flaws m)) ≡ module_verdict m
module_flaws_are m =
    let before = flaws_before_code m.profile (lists_of m) in
    let codes = code_flaws (lists_of m) m.funcs in
    let datas = data_flaws (lists_of m) in
    ap verdict_by (first_fault_joined 1 before (codes ∷ datas ∷ [])
    ∙ ap (λ last. earlier (first_fault 1 before) (earlier (first_in 10 0 codes) last)) (earlier_none (first_in 11 0 datas)))

-- the verdict around a module's code section is that of the module
pub verdict_of_lists : (m : Parts) (profile : Profile) (l : SectionLists) (before : Option Fault) → profile ≡ m.profile
    → l ≡ record (lists_of m) { codes = [] } → before ≡ earlier (front_fault profile l) (first_in 10 0 (code_flaws l m.funcs))
    → verdict_from l before ≡ module_verdict m
verdict_of_lists m profile l before profile_is lists_are before_is =
    rw (before_is, lists_are, profile_is)
    (ap verdict_by (earlier_assoc (front_fault m.profile (lists_of m)) (code_fault m) (first_in 11 0 (data_flaws (lists_of m)))))

-- the verdict of a module is the one that words tell
pub module_verdict_told : (m : Parts) → IsVerdict m (module_verdict m)
module_verdict_told m = rw (module_flaws_are m) at (verdict_told (module_flaws m))

-- ---- under the rules of the other profile

-- nothing, or a type with many results
abbrev IsOfArity : Option Fault → Type 0
IsOfArity None = Unit {0}
IsOfArity (Some fault) = fault.kind ≡ TypeArity

arity_or : (few : Bool) (item : ℕ) (rest : List (Option Flaw)) → IsOfArity (first_in 1 (item + 1) rest)
    → IsOfArity (first_in 1 item (unless TypeArity few ∷ rest))
arity_or true item rest behind = behind
arity_or false item rest behind = refl

type_fault_of_arity : (profile : Profile) (item from : ℕ) (types : List FuncType)
    → IsOfArity (first_in 1 item (numbered (λ at t. type_flaw profile t) from types))
type_fault_of_arity profile item from [] = tt
type_fault_of_arity Extended item from (t ∷ types) = type_fault_of_arity Extended (item + 1) (from + 1) types
type_fault_of_arity Core item from (t ∷ types) =
    arity_or (nat_lt (length t.results) 2) item (numbered (λ at u. type_flaw Core u) (from + 1) types) (type_fault_of_arity Core (item + 1) (from + 1) types)

no_type_fault : (item from : ℕ) (types : List FuncType) → first_in 1 item (numbered (λ at t. type_flaw Extended t) from types) ≡ None
no_type_fault item from [] = refl
no_type_fault item from (t ∷ types) = no_type_fault (item + 1) (from + 1) types

-- a fault that is not one of arity comes from what is behind the types
kept_behind : (first other rest behind : Option Fault) → other ≡ None → IsOfArity first → IsNotArity (verdict_by (earlier (earlier first rest) behind))
    → verdict_by (earlier (earlier other rest) behind) ≡ verdict_by (earlier (earlier first rest) behind)
kept_behind None other rest behind none arity differs = rw none
kept_behind (Some fault) other rest behind none arity differs = absurd (differs arity)

-- so it is that of the same module under the rules of the other profile
pub verdict_extended : (m : Parts) → IsNotArity (module_verdict m) → module_verdict (extended m) ≡ module_verdict m
verdict_extended m =
    kept_behind
    (first_in 1 0 (type_flaws m.profile (lists_of m)))
    (first_in 1 0 (type_flaws Extended (lists_of m)))
    _
    (earlier (code_fault m) (first_in 11 0 (data_flaws (lists_of m))))
    (no_type_fault 0 0 m.types)
    (type_fault_of_arity m.profile 0 0 m.types)
