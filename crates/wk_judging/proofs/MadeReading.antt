-- Sections whose items are judged while they are read, as a loop has them.
use Rattle.std.proofs.Common.{◌≡◌, ◌≢◌, ℕ, ◌+◌, ◌-◌, ◌<◌, ◌≤◌, Bool, true, false, not, List, [], Option, Result, Ok, Err, sym, ap, subst}
use Rattle.std.proofs.Common.{◌∙◌}
use Rattle.std.specs.Option.{is_some}
use Rattle.wk_bytes.specs.declared.fault.ReadKind.TheVariants.{SectionSize}
use Rattle.wk_bytes.specs.declared.fault.ReadFault.{ReadFault}
use Rattle.wk_bytes.specs.Leb.{◌>>=◌}
use Rattle.wk_bytes.specs.Span.{Span, fault, u32_at}
use Rattle.wk_body.specs.Reads.{FailsAs}
use Rattle.wk_body.specs.Vectors.{items_at, vector_at}
use Rattle.wk_module.specs.Formats.{Reader, made_at, all_at}
use Rattle.wk_module.proofs.Formats.{made_steps}
use Rattle.wk_typing.specs.declared.fault.Flaw.{Flaw}
use Rattle.wk_typing.specs.declared.fault.Fault.{Fault}
use Rattle.wk_judging.specs.Contexts.{next_judged, items_judged}
use Rattle.wk_judging.proofs.JudgedItems.{by_flaw, judged_rest, goes_on_to, stops, is_done, begins, not_begun, section_ends, section_goes_past, section_fails}

-- ---- faults

-- bytes that are left over
pub fault_of_size : {Y : Type 0} (e : ReadFault) (end : ℕ) (left : List ℕ) (read : Result Y ReadFault) → e ≡ fault SectionSize end left
    → read ≡ Err (fault SectionSize end left) → FailsAs e e.kind read
fault_of_size e end left read is bad = subst (λ (d : ReadFault). FailsAs d d.kind read) (sym is) bad

-- ---- a thing that is made of what is read

module _ {A B : Type 0} (make : A → B) (read : Reader A) where
  abbrev made : A × List ℕ → B × List ℕ
  made x = (make x.0, x.1)

  one_failed : (e : ReadFault) (r : Result (A × List ℕ) ReadFault) → (r >>= λ x. Ok (made x)) ≡ Err e → r ≡ Err e
  one_failed e (Ok x) bad = absurd cc
  one_failed e (Err d) bad = cc

  pub made_fails : (end : ℕ) (bytes : List ℕ) (e : ReadFault) → made_at make read end bytes ≡ Err e → read end bytes ≡ Err e
  unfolding made_at
  made_fails end bytes e bad = one_failed e (read end bytes) bad

-- ---- the items of a section in front of an index are read and judged

pub record InSection {S X : Type 0} (read : Reader X) (wrong : S → X → Option Flaw) (add : S → X → S) (section end : ℕ) (bytes : List ℕ) (s : S)
    (before : Option Fault) (count item : ℕ) (at : Span) (now : S) (first : Option Fault) : Type 0 where
  pub ends : at.end ≡ end
  pub so_far : judged_rest wrong add section now first item (items_at read (count - item) at.end at.rest)
      ≡ judged_rest wrong add section s before 0 (vector_at read end bytes)

module _ {S X : Type 0} (read : Reader X) (wrong : S → X → Option Flaw) (add : S → X → S) (section end : ℕ) (bytes : List ℕ) (s : S)
    (before : Option Fault) where
  abbrev In : ℕ → ℕ → Span → S → Option Fault → Type 0
  In count item at now first = InSection read wrong add section end bytes s before count item at now first

  -- what all of its items come to
  abbrev whole : Result (S × Option Fault) ReadFault
  whole = all_at (vector_at read) end bytes >>= λ xs. Ok (items_judged wrong add section s before 0 xs)

  abbrev failed : ReadFault → Result (S × Option Fault) ReadFault
  failed e = Err e

  -- their number cannot be read
  pub no_count : (at : Span) (e : ReadFault) → at ≡ record { rest = bytes; end = end } → u32_at at.end at.rest ≡ Err e → whole ≡ Err e
  no_count at e is bad =
      section_fails read wrong add section end bytes s before e
      (not_begun read wrong add section end bytes s before e (ap (λ (p : Span). u32_at p.end p.rest) (sym is) ∙ bad))

  -- or is
  pub starts : (at new : Span) (count : ℕ) → at ≡ record { rest = bytes; end = end } → u32_at at.end at.rest ≡ Ok (count, new.rest) → new.end ≡ at.end
      → In count 0 new s before
  starts at new count is counts same =
      let ends : new.end ≡ end = same ∙ ap (λ (p : Span). p.end) is in
      record {
        ends = ends;
        so_far =
            ap (λ (k : ℕ). judged_rest wrong add section s before 0 (items_at read (count - 0) k new.rest)) ends
            ∙ begins read wrong add section end count bytes new.rest s before (ap (λ (p : Span). u32_at p.end p.rest) (sym is) ∙ counts);
      }

  module _ (count item : ℕ) (at : Span) (now : S) (first : Option Fault) (inside : In count item at now first) where
    -- an item more is read and judged
    pub goes_on_in : (new : Span) (x : X) (next : S × Option Flaw) (first' : Option Fault) → item < count → read at.end at.rest ≡ Ok (x, new.rest)
        → new.end ≡ at.end → next ≡ next_judged wrong add (not (is_some first)) now x → first' ≡ by_flaw first section item next.1
        → In count (item + 1) new next.0 first'
    goes_on_in new x next first' here is same next_is first_is = record {
      ends = same ∙ inside.ends;
      so_far =
          goes_on_to read wrong add section count item at.end new.end at.rest new.rest x now first first' next
          (judged_rest wrong add section s before 0 (vector_at read end bytes)) here is same next_is first_is inside.so_far;
    }

    -- it cannot be read
    pub stops_in : (e : ReadFault) → item < count → read at.end at.rest ≡ Err e → whole ≡ Err e
    stops_in e here bad =
        section_fails read wrong add section end bytes s before e
        (stops read wrong add section count item at.end at.rest now first e
        (judged_rest wrong add section s before 0 (vector_at read end bytes)) here bad inside.so_far)

    all_done : count ≤ item → judged_rest wrong add section s before 0 (vector_at read end bytes) ≡ Ok ((now, first), at.rest)
    all_done past = sym inside.so_far ∙ is_done read wrong add section count item at.end at.rest now first past

    -- none is left, nor any byte
    pub ends_in : count ≤ item → at.rest ≡ [] → whole ≡ Ok (now, first)
    ends_in past none = section_ends read wrong add section end bytes at.rest s now before first (all_done past) none

    -- bytes are left
    pub goes_past : count ≤ item → at.rest ≢ [] → whole ≡ Err (fault SectionSize at.end at.rest)
    goes_past past some =
        section_goes_past read wrong add section end bytes at.rest s now before first (all_done past) some
        ∙ ap (λ (k : ℕ). failed (fault SectionSize k at.rest)) (sym inside.ends)

    -- ---- where what is wrong with an item is told by a call that reads it too

    asked_is : (asked : Bool) → is_some first ≡ not asked → asked ≡ not (is_some first)
    asked_is true is = ap not (sym is)
    asked_is false is = ap not (sym is)

    pub judges_next : (new : Span) (asked : Bool) (next : S × Option Flaw) (first' : Option Fault) → item < count → is_some first ≡ not asked
        → made_at (next_judged wrong add asked now) read at.end at.rest ≡ Ok (next, new.rest) → new.end ≡ at.end
        → first' ≡ by_flaw first section item next.1 → In count (item + 1) new next.0 first'
    judges_next new asked next first' here is_asked made same first_is =
        let m = made_steps (next_judged wrong add asked now) read at.end at.rest next new.rest made in
        goes_on_in new m.0 next first' here m.1 same
        (sym m.2 ∙ ap (λ (b : Bool). next_judged wrong add b now m.0) (asked_is asked is_asked)) first_is

    pub stops_next : (asked : Bool) (e : ReadFault) → item < count → made_at (next_judged wrong add asked now) read at.end at.rest ≡ Err e → whole ≡ Err e
    stops_next asked e here bad = stops_in e here (made_fails (next_judged wrong add asked now) read at.end at.rest e bad)
