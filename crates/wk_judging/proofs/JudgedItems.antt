-- The items of a section that are judged while they are read, one after the other.
use Rattle.std.proofs.Common.{◌≡◌, ◌≢◌, ℕ, suc, ◌+◌, ◌-◌, ◌<◌, ◌≤◌, not, if◌then◌else◌, List, [], ◌∷◌, Option, Some, None, Result, Ok, Err, refl, sym, ap}
use Rattle.std.proofs.Common.{◌∙◌, arith}
use Rattle.std.specs.Option.{is_some}
use Rattle.wk_bytes.specs.declared.fault.ReadKind.TheVariants.{SectionSize}
use Rattle.wk_bytes.specs.declared.fault.ReadFault.{ReadFault}
use Rattle.wk_bytes.specs.Leb.{◌>>=◌}
use Rattle.wk_bytes.specs.LebLaws.{done}
use Rattle.wk_bytes.specs.Span.{fault, u32_at}
use Rattle.wk_body.specs.Vectors.{items_at, vector_at}
use Rattle.wk_module.specs.Formats.{taking_all, all_at}
use Rattle.wk_typing.specs.declared.fault.Flaw.{Flaw}
use Rattle.wk_typing.specs.declared.fault.Fault.{Fault}
use Rattle.wk_typing.specs.Faults.{fault_at}
use Rattle.wk_check.specs.Flaws.{first_in}
use Rattle.wk_check.specs.Items.{earlier}
use Rattle.wk_judging.specs.Contexts.{flaws_along, all_added, next_judged, items_judged}
use Rattle.wk_check.proofs.Flaws.{earlier_none}

-- the first fault with one item more, where this is what is wrong with it
abbrev pub by_flaw : Option Fault → ℕ → ℕ → Option Flaw → Option Fault
by_flaw before section item None = before
by_flaw before section item (Some w) = Some (fault_at section item w)

-- what the items that are still to be read come to, from an index on, and what is left of the bytes
abbrev pub judged_rest : {S X : Type 0} → (S → X → Option Flaw) → (S → X → S) → ℕ → S → Option Fault → ℕ → Result (List X × List ℕ) ReadFault
    → Result ((S × Option Fault) × List ℕ) ReadFault
judged_rest wrong add section s before item r = r >>= λ xs. Ok (items_judged wrong add section s before item xs.0, xs.1)

-- behind a fault what is wrong with an item is not asked
one_more : (section item : ℕ) (before : Option Fault) (w : Option Flaw) (ws : List (Option Flaw))
    → earlier before (first_in section item (w ∷ ws))
    ≡ earlier (by_flaw before section item (if not (is_some before) then w else None)) (first_in section (item + 1) ws)
one_more section item (Some first) w ws = refl
one_more section item None None ws = refl
one_more section item None (Some v) ws = refl

module _ {S X : Type 0} (read : ℕ → List ℕ → Result (X × List ℕ) ReadFault) (wrong : S → X → Option Flaw) (add : S → X → S) (section : ℕ) where
  regroup : (s : S) (before now : Option Fault) (item : ℕ) (x : X) (next : S × Option Flaw) (r : Result (List X × List ℕ) ReadFault)
      → next ≡ next_judged wrong add (not (is_some before)) s x → now ≡ by_flaw before section item next.1
      → judged_rest wrong add section s before item (r >>= λ xs. Ok (x ∷ xs.0, xs.1)) ≡ judged_rest wrong add section next.0 now (item + 1) r
  regroup s before now item x next (Ok xs) next_is now_is =
      rw (now_is, next_is)
      (ap (λ (o : Option Fault). done ((all_added add (add s x) xs.0, o), xs.1))
      (one_more section item before (wrong s x) (flaws_along wrong add (add s x) xs.0)))
  regroup s before now item x next (Err e) next_is now_is = refl

  -- ---- steps of the loop

  -- an item more is read and judged
  pub goes_on : (count i end : ℕ) (bytes after : List ℕ) (x : X) (s : S) (before now : Option Fault) (next : S × Option Flaw) → i < count
      → read end bytes ≡ Ok (x, after) → next ≡ next_judged wrong add (not (is_some before)) s x → now ≡ by_flaw before section i next.1
      → judged_rest wrong add section s before i (items_at read (count - i) end bytes)
      ≡ judged_rest wrong add section next.0 now (i + 1) (items_at read (count - (i + 1)) end after)
  goes_on count i end bytes after x s before now next here is next_is now_is =
      let k : count - i ≡ suc (count - (i + 1)) = omega arith in
      rw (k, is) (regroup s before now i x next (items_at read (count - (i + 1)) end after) next_is now_is)

  -- so that the loop goes on
  pub goes_on_to : (count i end end_now : ℕ) (bytes after : List ℕ) (x : X) (s : S) (before now : Option Fault) (next : S × Option Flaw)
      (whole : Result ((S × Option Fault) × List ℕ) ReadFault) → i < count → read end bytes ≡ Ok (x, after) → end_now ≡ end
      → next ≡ next_judged wrong add (not (is_some before)) s x → now ≡ by_flaw before section i next.1
      → judged_rest wrong add section s before i (items_at read (count - i) end bytes) ≡ whole
      → judged_rest wrong add section next.0 now (i + 1) (items_at read (count - (i + 1)) end_now after) ≡ whole
  goes_on_to count i end end_now bytes after x s before now next whole here is same next_is now_is so_far =
      rw same (sym (goes_on count i end bytes after x s before now next here is next_is now_is) ∙ so_far)

  -- an item cannot be read
  pub stops : (count i end : ℕ) (bytes : List ℕ) (s : S) (before : Option Fault) (e : ReadFault) (whole : Result ((S × Option Fault) × List ℕ) ReadFault)
      → i < count → read end bytes ≡ Err e → judged_rest wrong add section s before i (items_at read (count - i) end bytes) ≡ whole → whole ≡ Err e
  stops count i end bytes s before e whole here bad so_far =
      let k : count - i ≡ suc (count - (i + 1)) = omega arith in
      sym so_far ∙ rw (k, bad) refl

  -- none is left
  pub is_done : (count i end : ℕ) (bytes : List ℕ) (s : S) (before : Option Fault) → count ≤ i
      → judged_rest wrong add section s before i (items_at read (count - i) end bytes) ≡ Ok ((s, before), bytes)
  is_done count i end bytes s before le =
      let k : count - i ≡ 0 = omega arith in
      rw k (ap (λ (o : Option Fault). done ((s, o), bytes)) (earlier_none before))

  -- ---- the section

  -- the number of items is read
  pub begins : (end count : ℕ) (bytes after : List ℕ) (s : S) (before : Option Fault) → u32_at end bytes ≡ Ok (count, after)
      → judged_rest wrong add section s before 0 (items_at read (count - 0) end after) ≡ judged_rest wrong add section s before 0 (vector_at read end bytes)
  unfolding vector_at
  begins end count bytes after s before is = let k : count - 0 ≡ count = omega arith in rw (is, k) refl

  -- or cannot be
  pub not_begun : (end : ℕ) (bytes : List ℕ) (s : S) (before : Option Fault) (e : ReadFault) → u32_at end bytes ≡ Err e
      → judged_rest wrong add section s before 0 (vector_at read end bytes) ≡ Err e
  unfolding vector_at
  not_begun end bytes s before e bad = rw bad refl

  closed : (end : ℕ) (s : S) (before : Option Fault) (r : Result (List X × List ℕ) ReadFault)
      → (r >>= taking_all end >>= λ xs. Ok (items_judged wrong add section s before 0 xs)) ≡ (judged_rest wrong add section s before 0 r >>= taking_all end)
  closed end s before (Ok (xs, [])) = refl
  closed end s before (Ok (xs, y ∷ rest)) = refl
  closed end s before (Err e) = refl

  -- what all of a section's items come to, where that many bytes are left behind them
  pub of_section : (end : ℕ) (bytes : List ℕ) (s : S) (before : Option Fault) (whole : Result ((S × Option Fault) × List ℕ) ReadFault)
      → judged_rest wrong add section s before 0 (vector_at read end bytes) ≡ whole
      → (all_at (vector_at read) end bytes >>= λ xs. Ok (items_judged wrong add section s before 0 xs)) ≡ (whole >>= taking_all end)
  of_section end bytes s before whole is =
      closed end s before (vector_at read end bytes) ∙ ap (λ (w : Result ((S × Option Fault) × List ℕ) ReadFault). w >>= taking_all end) is

  -- all items are read and judged
  pub section_ends : (end : ℕ) (bytes left : List ℕ) (s s' : S) (before before' : Option Fault)
      → judged_rest wrong add section s before 0 (vector_at read end bytes) ≡ Ok ((s', before'), left) → left ≡ []
      → (all_at (vector_at read) end bytes >>= λ xs. Ok (items_judged wrong add section s before 0 xs)) ≡ Ok (s', before')
  section_ends end bytes left s s' before before' is none =
      of_section end bytes s before (Ok ((s', before'), left)) is ∙ ap (λ (rest : List ℕ). taking_all end ((s', before'), rest)) none

  past : (end : ℕ) (left : List ℕ) (x : S × Option Fault) → left ≢ [] → taking_all end (x, left) ≡ Err (fault SectionSize end left)
  past end [] x some = absurd (some refl)
  past end (y ∷ rest) x some = refl

  -- or the section goes on behind them
  pub section_goes_past : (end : ℕ) (bytes left : List ℕ) (s s' : S) (before before' : Option Fault)
      → judged_rest wrong add section s before 0 (vector_at read end bytes) ≡ Ok ((s', before'), left) → left ≢ []
      → (all_at (vector_at read) end bytes >>= λ xs. Ok (items_judged wrong add section s before 0 xs)) ≡ Err (fault SectionSize end left)
  section_goes_past end bytes left s s' before before' is some =
      of_section end bytes s before (Ok ((s', before'), left)) is ∙ past end left (s', before') some

  -- or one of them cannot be read
  pub section_fails : (end : ℕ) (bytes : List ℕ) (s : S) (before : Option Fault) (e : ReadFault)
      → judged_rest wrong add section s before 0 (vector_at read end bytes) ≡ Err e
      → (all_at (vector_at read) end bytes >>= λ xs. Ok (items_judged wrong add section s before 0 xs)) ≡ Err e
  section_fails end bytes s before e is = of_section end bytes s before (Err e) is
