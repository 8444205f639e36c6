-- Sections that are judged while they are read, one after the other: each of them, those up to the code section, and those behind it.
use Rattle.std.proofs.Common.{◌≡◌, ◌≢◌, ℕ, ◌+◌, ◌<◌, ◌≤◌, max, true, false, List, [], ◌∷◌, Option, Some, None, Result, Ok, Err}
use Rattle.std.proofs.Common.{refl, sym, ap, subst, ◌∙◌, ◌⊎◌, inl, inr, arith, MatchOption}
use Rattle.std.specs.Option.{is_some, IsSomeAnd}
use Rattle.wk_bytes.specs.declared.fault.ReadKind.{ReadKind}
use Rattle.wk_bytes.specs.declared.fault.ReadKind.TheVariants.{SectionSize, Memory}
use Rattle.wk_bytes.specs.declared.fault.ReadFault.{ReadFault}
use Rattle.wk_bytes.specs.declared.raw.RawSection.{RawSection}
use Rattle.wk_bytes.specs.Frames.{Section, MayCome}
use Rattle.wk_bytes.specs.Leb.{◌>>=◌}
use Rattle.wk_bytes.specs.LebLaws.{bind_ok, done}
use Rattle.wk_bytes.specs.Raw.{raw_view}
use Rattle.wk_bytes.specs.Span.{Span, fault, u32_at, name_at}
use Rattle.wk_bytes.specs.SpanLaws.{ok_is}
use Rattle.wk_bytes.specs.Stands.{StandsAt}
use Rattle.wk_body.specs.declared.types.Profile.{Profile}
use Rattle.wk_body.specs.Reads.{FailsAs, Reads}
use Rattle.wk_body.specs.ReadsLaws.{fails_on}
use Rattle.wk_body.specs.Vectors.{vector_at}
use Rattle.wk_module.specs.Formats.{Reader, made_at, all_at}
use Rattle.wk_module.specs.Items.{export_at}
use Rattle.wk_module.specs.ListReading.{Rise, lists_read, with_listed}
use Rattle.wk_module.specs.Reading.{section_end}
use Rattle.wk_module.specs.Sections.{SectionId, CodeSection, DataSection, number, of_number, SectionLists, no_lists}
use Rattle.wk_module.specs.SectionLaws.{has_id, number-of_number, number_some, number_most, of_number-is}
use Rattle.wk_module.proofs.ListReading.{fair_fails, keeps_codes}
use Rattle.wk_module.proofs.SectionSteps.{lists_break}
use Rattle.wk_typing.specs.declared.fault.Flaw.{Flaw}
use Rattle.wk_typing.specs.declared.fault.Fault.{Fault}
use Rattle.wk_typing.specs.Faults.{fault_at}
use Rattle.wk_judging.specs.Contexts.{ModuleContext, AreOmittedFrom, IsFront, context_of, items_judged, items_at_once, lists_fault, section_judged}
use Rattle.wk_judging.specs.Contexts.{spaces_in, next_export_flaw, add_export, exports_at_once, start_at_once, behind_at_once}
use Rattle.wk_check.specs.Flaws.{first_in}
use Rattle.wk_check.specs.Items.{earlier, start_flaw, start_flaws}
use Rattle.wk_check.specs.Spaces.{spaces_of}
use Rattle.wk_check.specs.Verdict.{data_flaws}
use Rattle.wk_judging.proofs.JudgedSections.{IsAtOnce, export_section, start_section, no_section}
use Rattle.wk_judging.proofs.SectionFaults.{omitted_at_first, omitted_behind, omitted_here, section_step, behind_step, no_datas}

-- ---- in general

-- a fault of bytes is that of reading them
pub stands_fails : {Y : Type 0} (e : ReadFault) (kind : ReadKind) (skipped from : List ℕ) (read : Result Y ReadFault)
    → StandsAt kind skipped from → read ≡ Err e → FailsAs e kind read
stands_fails e Memory skipped from read stands is = absurd stands
stands_fails e _ skipped from read stands is = is

-- what is made of what is read fails where reading fails
unread : {X Y : Type 0} (f : X → Y) (r : Result X ReadFault) (e : ReadFault) → (r >>= λ x. Ok (f x)) ≡ Err e → r ≡ Err e
unread f (Ok x) e bad = absurd cc
unread f (Err d) e bad = cc

-- ---- the start section, which is read by this cursor

module _ (c : ModuleContext) (before : Option Fault) (s : Section) (at : Span) (opens : at ≡ record { rest = s.contents; end = section_end s }) where
  at_front : (r : Result (ℕ × List ℕ) ReadFault) → u32_at at.end at.rest ≡ r → u32_at (section_end s) s.contents ≡ r
  at_front r is = sym (ap (λ (p : Span). u32_at p.end p.rest) opens) ∙ is

  pub start_fails : (e : ReadFault) → u32_at at.end at.rest ≡ Err e → start_at_once c before s ≡ Err e
  unfolding made_at
  start_fails e bad = rw (at_front (Err e) bad) refl

  past : (x : ℕ) (left : List ℕ) → u32_at (section_end s) s.contents ≡ Ok (x, left) → left ≢ []
      → start_at_once c before s ≡ Err (fault SectionSize (section_end s) left)
  unfolding made_at
  past x [] is some = absurd (some refl)
  past x (y ∷ rest) is some = rw is refl

  pub start_goes_past : (x : ℕ) (left : Span) → u32_at at.end at.rest ≡ Ok (x, left.rest) → left.end ≡ at.end → left.rest ≢ []
      → start_at_once c before s ≡ Err (fault SectionSize left.end left.rest)
  start_goes_past x left is same some =
      past x left.rest (at_front (Ok (x, left.rest)) is) some
      ∙ ap (λ (end : ℕ). Err (fault SectionSize end left.rest)) (sym (same ∙ ap (λ (p : Span). p.end) opens))

  -- or it is read whole
  pub start_is_read : (x : ℕ) (left : List ℕ) → u32_at at.end at.rest ≡ Ok (x, left) → left ≡ []
      → start_at_once c before s ≡ Ok (earlier before (first_in 8 0 (start_flaw (spaces_in c) x ∷ [])))
  unfolding made_at
  start_is_read x left is none = rw (at_front (Ok (x, left)) is, none) refl

-- behind a fault the start function is not looked at
pub start_after : (before : Option Fault) (w : Option Flaw) → true ≡ is_some before → earlier before (first_in 8 0 (w ∷ [])) ≡ before
start_after (Some f) w is = refl
start_after None w is = absurd cc

-- and else what is wrong with it is told at its place
pub start_told : {P : Flaw → Fault → Type 0} (before : Option Fault) (w o : Option Flaw) (r : Option Fault) → false ≡ is_some before → o ≡ w
    → MatchOption o (r ≡ None) (λ v. IsSomeAnd r (P v)) → ((v : Flaw) (f : Fault) → P v f → f ≡ fault_at 8 0 v)
    → earlier before (first_in 8 0 (w ∷ [])) ≡ r
start_told (Some f) w o r is same told each = absurd cc
start_told None w None r is same told each = rw (← same, told) refl
start_told None w (Some v) None is same told each = absurd told
start_told None w (Some v) (Some f) is same told each = rw (← same, each v f told) refl

-- ---- one section

abbrev pub with_fault : ModuleContext → Option Fault → ModuleContext × Option Fault
with_fault c o = (c, o)

-- the id is a number, from which on sections are left out
pub omitted_at : (n id : ℕ) (l : SectionLists) → id ≡ n → AreOmittedFrom id l → AreOmittedFrom n l
omitted_at n id l is none = subst (λ (m : ℕ). AreOmittedFrom m l) is none

-- what its items come to, read and judged in the context of these lists, it comes to
pub items_come_to : {X : Type 0} (k : SectionId) (read : Reader X) (wrong : ModuleContext → X → Option Flaw) (add : ModuleContext → X → ModuleContext)
    (profile : Profile) (l : SectionLists) (before : Option Fault) (s : Section) (c new : ModuleContext) (answer : Result (Option Fault) ReadFault)
    → IsAtOnce profile l before s k read wrong add → c ≡ context_of l → s.id ≡ number k → AreOmittedFrom s.id l
    → Reads (with_fault new) answer (items_at_once read wrong add c before s) → Reads (with_fault new) answer (section_judged profile l before s)
items_come_to k read wrong add profile l before s c new answer at_once same is none reads =
    subst (Reads (with_fault new) answer)
    (ap (λ (d : ModuleContext). items_at_once read wrong add d before s) same ∙ sym (at_once is (omitted_at (number k) s.id l is none))) reads

-- exports and the start function leave the context
leaves : {X : Type 0} (c : ModuleContext) (l : SectionLists) (f : X → Option Fault) (r : Result X ReadFault) (answer : Result (Option Fault) ReadFault)
    → c ≡ context_of l → Reads (λ o. o) answer (r >>= λ x. Ok (f x)) → Reads (with_fault c) answer (r >>= λ x. Ok (context_of l, f x))
leaves c l f (Ok x) (Ok o) same reads = rw (← same) (ap (λ (o : Option Fault). done (with_fault c o)) (ok_is _ _ reads))
leaves c l f (Err d) (Ok o) same reads = absurd cc
leaves c l f r (Err e) same reads =
    fails_on e e.kind (r >>= λ x. Ok (f x)) (r >>= λ x. Ok (context_of l, f x)) (λ bad. rw (unread f r e bad) refl) reads

module _ (profile : Profile) (l : SectionLists) (before : Option Fault) (s : Section) (c : ModuleContext) (answer : Result (Option Fault) ReadFault)
    (same : c ≡ context_of l) where
  pub exports_leave : s.id ≡ 7 → Reads (λ o. o) answer (exports_at_once c before s) → Reads (with_fault c) answer (section_judged profile l before s)
  exports_leave is reads =
      subst (Reads (with_fault c) answer) (sym (export_section profile l before s is))
      (leaves c l (λ es. (items_judged next_export_flaw add_export 7 (record { context = context_of l; names = [] }) before 0 es).1)
      (all_at (vector_at export_at) (section_end s) s.contents) answer same
      (subst (λ (d : ModuleContext). Reads (λ o. o) answer (exports_at_once d before s)) same reads))

  pub start_leaves : s.id ≡ 8 → Reads (λ o. o) answer (start_at_once c before s) → Reads (with_fault c) answer (section_judged profile l before s)
  start_leaves is reads =
      subst (Reads (with_fault c) answer) (sym (start_section profile l before s is))
      (leaves c l (λ x. earlier before (first_in 8 0 (start_flaws (spaces_of l) x)))
      (all_at (made_at Some u32_at) (section_end s) s.contents) answer same
      (subst (λ (d : ModuleContext). Reads (λ o. o) answer (start_at_once d before s)) same reads))

pub omitted_from : (id : ℕ) (l : SectionLists) → 1 ≤ id → id ≤ 11 → ((k : SectionId) → of_number id ≡ Some k → AreOmittedFrom (number k) l)
    → AreOmittedFrom id l
omitted_from id l some small none =
    elim (has_id id small) [
      | inl p ↦ absurd (omega (arith, p.0, some))
      | inr p ↦ omitted_at id (number p.0) l (sym p.1) (none p.0 p.2)
    ]

-- no other id is a number
none_by : (n : ℕ) (o : Option SectionId) → of_number n ≡ o → (n < 1) ⊎ (12 ≤ n) → o ≡ None
none_by n None is out = refl
none_by n (Some k) is (inl low) = absurd (omega (arith, number-of_number n k is, low, number_some k))
none_by n (Some k) is (inr high) = absurd (omega (arith, number-of_number n k is, high, number_most k))

pub of_none : (n : ℕ) → (n < 1) ⊎ (12 ≤ n) → of_number n ≡ None
of_none n out = none_by n (of_number n) refl out

-- a section of no such id, of which the name is read by this cursor
module _ (profile : Profile) (l : SectionLists) (before : Option Fault) (s : Section) (at : Span)
    (opens : at ≡ record { rest = s.contents; end = section_end s }) (none : of_number s.id ≡ None) where
  named : (r : Result (List ℕ × List ℕ) ReadFault) → name_at at.end at.rest ≡ r
      → section_judged profile l before s ≡ (r >>= λ name. Ok (context_of l, before))
  named r is =
      no_section profile l before s none
      ∙ ap (λ (r : Result (List ℕ × List ℕ) ReadFault). r >>= λ name. Ok (context_of l, before))
      (sym (ap (λ (p : Span). name_at p.end p.rest) opens) ∙ is)

  pub custom_fails : (e : ReadFault) → name_at at.end at.rest ≡ Err e → section_judged profile l before s ≡ Err e
  custom_fails e bad = named (Err e) bad

  pub custom_is_read : (c : ModuleContext) (x : List ℕ × List ℕ) → c ≡ context_of l → name_at at.end at.rest ≡ Ok x
      → section_judged profile l before s ≡ Ok (c, before)
  custom_is_read c x c_is is = named (Ok x) is ∙ ap (λ (d : ModuleContext). done (d, before)) (sym c_is)

-- ---- steps of loops

next_rises : (last : ℕ) (s : Section) (left rest : List (Result Section ReadFault)) → left ≡ Ok s ∷ rest → Rise last left
    → MayCome last s.id × Rise (max last s.id) rest
next_rises last s left rest first rise = subst (Rise last) first rise

next_is_fair : (last : ℕ) (e : ReadFault) (left rest : List (Result Section ReadFault)) → left ≡ Err e ∷ rest → Rise last left → Rise last (Err e ∷ rest)
next_is_fair last e left rest first rise = subst (Rise last) first rise

module _ (profile : Profile) (l : SectionLists) (left rest : List (Result Section ReadFault)) (s : Section) (first : left ≡ Ok s ∷ rest) where
  lists_next : (q : SectionLists) → with_listed profile l s ≡ Ok q → lists_read profile l left ≡ lists_read profile q rest
  unfolding lists_read
  lists_next q read = rw (first, read) refl

  lists_stop : (e : ReadFault) → with_listed profile l s ≡ Err e → lists_read profile l left ≡ Err e
  unfolding lists_read
  lists_stop e bad = rw (first, bad) refl

lists_end : (profile : Profile) (l : SectionLists) (left : List (Result Section ReadFault)) → left ≡ [] → lists_read profile l left ≡ Ok l
unfolding lists_read
lists_end profile l left none = rw none refl

-- a section that may come finds the sections from its own on left out
pub may_find : (last : ℕ) (s : Section) (l : SectionLists) (left rest : List (Result Section ReadFault)) → left ≡ Ok s ∷ rest → Rise last left
    → AreOmittedFrom (last + 1) l → (k : SectionId) → of_number s.id ≡ Some k → AreOmittedFrom (number k) l
may_find last s l left rest first rise none k is = omitted_here last s k l (next_rises last s left rest first rise).0 is none

-- ---- up to the code section

-- of all sections these are left, and those in front of them are judged
pub record IsOnWay (profile : Profile) (all : List (Result Section ReadFault)) (c : ModuleContext) (left : List (Result Section ReadFault))
    (fault : Option Fault) : Type 0 where
  pub lists : SectionLists
  pub last : ℕ
  pub context_is : c ≡ context_of lists
  pub omitted : AreOmittedFrom (last + 1) lists
  pub fault_is : fault ≡ lists_fault profile lists
  pub no_codes : lists.codes ≡ []
  pub rise : Rise last left
  pub reads : lists_read profile no_lists all ≡ lists_read profile lists left

pub front_begins : (profile : Profile) (all : List (Result Section ReadFault)) (c : ModuleContext) → c ≡ context_of no_lists → Rise 0 all
    → IsOnWay profile all c all None
front_begins profile all c is rise = record {
  lists = no_lists;
  last = 0;
  context_is = is;
  omitted = omitted_at_first;
  fault_is = refl;
  no_codes = refl;
  rise = rise;
  reads = refl;
}

module _ (profile : Profile) (all left rest : List (Result Section ReadFault)) (c : ModuleContext) (f : Option Fault)
    (so : IsOnWay profile all c left f) where
  pub front_breaks : (e : ReadFault) → left ≡ Err e ∷ rest → FailsAs e e.kind (lists_read profile no_lists all)
  front_breaks e first =
      fair_fails e e.kind (lists_read profile no_lists all) (next_is_fair so.last e left rest first so.rise)
      (so.reads ∙ lists_break profile so.lists left rest e first)

  pub front_ends : left ≡ [] → IsFront profile all c rest f None
  front_ends none = record {
    lists = so.lists;
    context_is = so.context_is;
    fault_is = so.fault_is;
    no_codes = so.no_codes;
    ends = so.reads ∙ lists_end profile so.lists left none;
    omitted = tt;
  }

  to_codes : (last id : ℕ) → MayCome last id → id ≡ 10 → max last id ≡ 10
  to_codes last id (inl custom) is = absurd (omega (arith, custom, is))
  to_codes last id (inr above) is = omega (arith, above.0, is)

  pub front_meets : (s : RawSection) → left ≡ Ok (raw_view s) ∷ rest → s.id ≡ 10 → IsFront profile all c rest f (Some s)
  front_meets s first is =
      let next = next_rises so.last (raw_view s) left rest first so.rise in
      record {
        lists = so.lists;
        context_is = so.context_is;
        fault_is = so.fault_is;
        no_codes = so.no_codes;
        ends = (
          is,
          subst (λ (n : ℕ). Rise n rest) (to_codes so.last s.id next.0 is) next.1,
          so.reads ∙ ap (lists_read profile so.lists) first,
        );
        omitted = omitted_here so.last (raw_view s) CodeSection so.lists next.0 (of_number-is s.id CodeSection is) so.omitted;
      }

  module _ (s : Section) (first : left ≡ Ok s ∷ rest) where
    in_step : section_judged profile so.lists f s ≡ (with_listed profile so.lists s >>= λ q. Ok (context_of q, lists_fault profile q))
    in_step =
        ap (λ (o : Option Fault). section_judged profile so.lists o s) so.fault_is
        ∙ section_step profile so.last s so.lists (next_rises so.last s left rest first so.rise).0 so.omitted

    pub front_stops : (e : ReadFault) → FailsAs e e.kind (section_judged profile so.lists f s) → FailsAs e e.kind (lists_read profile no_lists all)
    front_stops e fails =
        fails_on e e.kind (section_judged profile so.lists f s) (lists_read profile no_lists all)
        (λ bad. so.reads ∙ lists_stop profile so.lists left rest s first e
        (unread (λ q. (context_of q, lists_fault profile q)) (with_listed profile so.lists s) e (sym in_step ∙ bad))) fails

    pub front_goes_on : (d : ModuleContext) (g : Option Fault) → s.id ≢ 10 → section_judged profile so.lists f s ≡ Ok (d, g) → IsOnWay profile all d rest g
    front_goes_on d g other judged =
        let next = next_rises so.last s left rest first so.rise in
        let a = bind_ok (with_listed profile so.lists s) (λ q. done (context_of q, lists_fault profile q)) (d, g) (sym in_step ∙ judged) in
        let both : (context_of a.0, lists_fault profile a.0) ≡ (d, g) = ok_is _ _ a.2 in
        record {
          lists = a.0;
          last = max so.last s.id;
          context_is = sym (ap (λ (p : ModuleContext × Option Fault). p.0) both);
          omitted = omitted_behind profile so.last s so.lists a.0 next.0 so.omitted a.1;
          fault_is = sym (ap (λ (p : ModuleContext × Option Fault). p.1) both);
          no_codes = keeps_codes profile so.lists a.0 s other a.1 ∙ so.no_codes;
          rise = next.1;
          reads = so.reads ∙ lists_next profile so.lists left rest s first a.0 a.1;
        }

-- ---- behind the code section

-- of all sections behind the code section these are left, where lists were read up to it, and the first fault up to it is given
pub record IsOnWayBehind (profile : Profile) (from : SectionLists) (before : Option Fault) (all : List (Result Section ReadFault)) (c : ModuleContext)
    (left : List (Result Section ReadFault)) (fault : Option Fault) : Type 0 where
  pub lists : SectionLists
  pub last : ℕ
  pub above : 10 ≤ last
  pub context_is : c ≡ context_of lists
  pub omitted : AreOmittedFrom (last + 1) lists
  pub fault_is : fault ≡ earlier before (first_in 11 0 (data_flaws lists))
  pub rise : Rise last left
  pub reads : lists_read profile from all ≡ lists_read profile lists left

-- those that are left rise from above the code section on
abbrev pub RiseBehind : List (Result Section ReadFault) → Type 0
RiseBehind left = (last : ℕ) × (10 ≤ last) × Rise last left

pub not_codes : (s : Section) (left rest : List (Result Section ReadFault)) → left ≡ Ok s ∷ rest → RiseBehind left → s.id ≢ 10
not_codes s left rest first rise is =
    elim (next_rises rise.0 s left rest first rise.2).0 [
      | inl custom ↦ omega (arith, custom, is)
      | inr above ↦ omega (arith, above.0, is, rise.1)
    ]

pub rest_rises : (s : Section) (left rest : List (Result Section ReadFault)) → left ≡ Ok s ∷ rest → RiseBehind left → RiseBehind rest
rest_rises s left rest first rise = (max rise.0 s.id, omega (arith, rise.1), (next_rises rise.0 s left rest first rise.2).1)

pub behind_begins : (profile : Profile) (l : SectionLists) (before : Option Fault) (all : List (Result Section ReadFault)) (c : ModuleContext)
    → c ≡ context_of l → AreOmittedFrom 11 l → Rise 10 all → IsOnWayBehind profile l before all c all before
behind_begins profile l before all c is none rise = record {
  lists = l;
  last = 10;
  above = omega arith;
  context_is = is;
  omitted = none;
  fault_is = sym (no_datas profile l before (none DataSection (omega arith)));
  rise = rise;
  reads = refl;
}

module _ (profile : Profile) (from : SectionLists) (before : Option Fault) (all left rest : List (Result Section ReadFault)) (c : ModuleContext)
    (f : Option Fault) (so : IsOnWayBehind profile from before all c left f) where
  abbrev with_datas : Result SectionLists ReadFault → Result (Option Fault) ReadFault
  with_datas r = r >>= λ q. Ok (earlier before (first_in 11 0 (data_flaws q)))

  pub behind_breaks : (e : ReadFault) → left ≡ Err e ∷ rest → FailsAs e e.kind (behind_at_once profile from before all)
  behind_breaks e first =
      fair_fails e e.kind (behind_at_once profile from before all) (next_is_fair so.last e left rest first so.rise)
      (ap with_datas (so.reads ∙ lists_break profile so.lists left rest e first))

  pub behind_ends : left ≡ [] → behind_at_once profile from before all ≡ Ok f
  behind_ends none =
      ap with_datas (so.reads ∙ lists_end profile so.lists left none) ∙ ap (λ (o : Option Fault). done o) (sym so.fault_is)

  module _ (s : Section) (first : left ≡ Ok s ∷ rest) where
    step_behind : section_judged profile so.lists f s
        ≡ (with_listed profile so.lists s >>= λ q. Ok (context_of q, earlier before (first_in 11 0 (data_flaws q))))
    step_behind =
        behind_step profile so.last s so.lists f before so.fault_is (next_rises so.last s left rest first so.rise).0 so.above so.omitted

    pub behind_stops : (e : ReadFault) → FailsAs e e.kind (section_judged profile so.lists f s) → FailsAs e e.kind (behind_at_once profile from before all)
    behind_stops e fails =
        fails_on e e.kind (section_judged profile so.lists f s) (behind_at_once profile from before all)
        (λ bad. ap with_datas (so.reads ∙ lists_stop profile so.lists left rest s first e
        (unread (λ q. (context_of q, earlier before (first_in 11 0 (data_flaws q)))) (with_listed profile so.lists s) e (sym step_behind ∙ bad)))) fails

    pub behind_goes_on : (d : ModuleContext) (g : Option Fault) → section_judged profile so.lists f s ≡ Ok (d, g)
        → IsOnWayBehind profile from before all d rest g
    behind_goes_on d g judged =
        let next = next_rises so.last s left rest first so.rise in
        let high : 10 ≤ max so.last s.id = omega (arith, so.above) in
        let a = bind_ok (with_listed profile so.lists s) (λ q. done (context_of q, earlier before (first_in 11 0 (data_flaws q)))) (d, g)
        (sym step_behind ∙ judged) in
        let both : (context_of a.0, earlier before (first_in 11 0 (data_flaws a.0))) ≡ (d, g) = ok_is _ _ a.2 in
        record {
          lists = a.0;
          last = max so.last s.id;
          above = high;
          context_is = sym (ap (λ (p : ModuleContext × Option Fault). p.0) both);
          omitted = omitted_behind profile so.last s so.lists a.0 next.0 so.omitted a.1;
          fault_is = sym (ap (λ (p : ModuleContext × Option Fault). p.1) both);
          rise = next.1;
          reads = so.reads ∙ lists_next profile so.lists left rest s first a.0 a.1;
        }
