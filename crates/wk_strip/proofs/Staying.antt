-- The custom sections that stay, as they are found in the frames.
use Rattle.std.proofs.Common.{◌≡◌, ◌≢◌, ℕ, ◌+◌, ◌≤◌, Bool, true, false, eqb, List, [], ◌++◌, length, map, Result, Ok, Err, Option, Some, None, IsTrue, not}
use Rattle.std.proofs.Common.{refl, sym, ap, subst, ◌∙◌, inl, inr, if◌then◌else◌, ◌∷◌, arith, append-nil, append_assoc, length-append}
use Rattle.std.specs.List.{filter}
use Rattle.wk_bytes.specs.declared.fault.ReadFault.{ReadFault}
use Rattle.wk_bytes.specs.Leb.{SpellsU}
use Rattle.wk_bytes.specs.LebLaws.{ok_is, one_SpellsU}
use Rattle.wk_bytes.specs.Frames.{Frame, Section, frame_of, SpellsFraming, without_fault}
use Rattle.wk_bytes.specs.Pieces.{SpellsName}
use Rattle.wk_bytes.specs.Short.{short}
use Rattle.wk_bytes.specs.ShortLaws.{short-least}
use Rattle.wk_bytes.specs.Span.{name_at}
use Rattle.wk_module.specs.declared.types.Custom.{Custom}
use Rattle.wk_module.specs.Customs.{SpellsCustom, SpellsCustoms, IsEmptyFrame, IsPlaceAfter, custom_at, written_custom}
use Rattle.wk_module.proofs.CodesApart.{no_items}
use Rattle.wk_module.proofs.ModuleReading.{custom_again}
use Rattle.wk_strip.specs.Stripped.{is_kept}

-- ---- one custom

abbrev pub custom_of : ℕ → List ℕ → List ℕ → Custom
custom_of place name bytes = record { place = place; name = name; bytes = bytes }

pub custom_is : (place end : ℕ) (b name rest : List ℕ) (c : Custom) → c.place ≡ place → SpellsCustom b c → name_at end b ≡ Ok (name, rest)
    → custom_of place name rest ≡ c
unfolding custom_at
custom_is place end b name rest c is s read = ok_is _ _ (rw read at (custom_again place end b c s is))

err_ok : {A : Type 0} (e : ReadFault) (x : A) (r : Result A ReadFault) → r ≡ Err e → r ≡ Ok x → ⊥
err_ok e x r bad good = absurd cc

pub custom_has_name : (place end : ℕ) (b : List ℕ) (e : ReadFault) (c : Custom) → c.place ≡ place → SpellsCustom b c → name_at end b ≡ Err e → ⊥
unfolding custom_at
custom_has_name place end b e c is s bad = err_ok e c (custom_at place end b) (rw bad refl) (custom_again place end b c s is)

-- what is written of a custom is no longer than what it was read of
pub sized : (b front name rest : List ℕ) → SpellsName front name → b ≡ front ++ rest → length (short (length name)) + length name + length rest ≤ length b
sized b front name rest s parts =
    omega (arith, ap length parts, length-append front rest, ap length s.parts, length-append s.size name, short-least 32 (length name) s.size s.counts)

pub size_is : (name bytes : List ℕ) (place : ℕ) → length (written_custom (custom_of place name bytes))
    ≡ length (short (length name)) + length name + length bytes
size_is name bytes place = omega (arith, length-append (short (length name)) (name ++ bytes), length-append name bytes)

pub negated : (b : Bool) → true ≡ not b → b ≡ false
negated true h = absurd cc
negated false h = refl

pub affirmed : (b : Bool) → false ≡ not b → b ≡ true
affirmed true h = refl
affirmed false h = absurd cc

pub kept_by : {A : Type 0} (b : Bool) (x y : A) → x ≡ y → b ≡ true → Some x ≡ (if b then Some y else None)
kept_by b x y same is = rw is (ap (λ z. Some z) same)

-- ---- sections that are empty

none_left : (xs : List ℕ) → length xs ≡ 0 → xs ≡ []
none_left [] h = refl
none_left (x ∷ xs) h = absurd (omega arith)

-- of contents that spell a number in front, and then go on, no others are a count of zero than those that end at that zero
pub only_count : (f : Frame) (front rest : List ℕ) (count : ℕ) → SpellsU 32 front count → f.contents ≡ front ++ rest → IsEmptyFrame f
    → (count ≡ 0) × (rest ≡ [])
only_count f front rest count spelled parts is =
    let one = one_SpellsU 32 f.contents front [] rest 0 count is.none spelled (append-nil f.contents ∙ parts) in
    (sym one.1, none_left rest (omega (arith, ap length parts, ap length one.0, length-append front rest)))

pub is_count : (f : Frame) (front rest : List ℕ) (count : ℕ) → SpellsU 32 front count → f.contents ≡ front ++ rest → f.id ≢ 8 → count ≡ 0 → rest ≡ []
    → IsEmptyFrame f
is_count f front rest count spelled parts vector zero_is none =
    let all : front ≡ f.contents = sym (parts ∙ ap (λ (r : List ℕ). front ++ r) none ∙ append-nil front) in
    record { vector = vector; none = subst (λ (b : List ℕ). SpellsU 32 b 0) all (subst (SpellsU 32 front) zero_is spelled) }

decides : (e : Bool) (rest : List ℕ) (P : Type 0) → e ≡ eqb (length rest) 0 → (rest ≡ [] → P) → (P → rest ≡ []) → (IsTrue e → P) × (P → IsTrue e)
decides true rest P is to from = (λ t. to (no_items rest (sym is)), λ p. refl)
decides false [] P is to from = absurd cc
decides false (x ∷ rest) P is to from = (λ t. absurd cc, λ p. absurd (omega (arith, ap length (from p))))

pub empty_decides : (f : Frame) (front rest : List ℕ) (count : ℕ) (e : Bool) → SpellsU 32 front count → f.contents ≡ front ++ rest → f.id ≢ 8
    → count ≡ 0 → e ≡ eqb (length rest) 0 → (IsTrue e → IsEmptyFrame f) × (IsEmptyFrame f → IsTrue e)
empty_decides f front rest count e spelled parts vector zero_is is =
    decides e rest (IsEmptyFrame f) is (is_count f front rest count spelled parts vector zero_is) (λ h. (only_count f front rest count spelled parts h).1)

-- ---- the customs of the frames, one after the other

-- What was kept, and what stays of the frames that are left, are the customs that stay of all frames.
abbrev pub IsLeft : List ℕ → List ℕ → ℕ → List Custom → List (Result Section ReadFault) → Type 0
IsLeft name b place kept items =
    (fs : List Frame) (cs : List Custom) → SpellsFraming b fs → SpellsCustoms 0 fs cs
    → (ss : List Section) × (later : List Custom) × (items ≡ without_fault ss) × SpellsCustoms place (map frame_of ss) later
    × (kept ++ filter (is_kept (Some name)) later ≡ filter (is_kept (Some name)) cs)

module _ (name b : List ℕ) where
  abbrev Stays : Custom → Bool
  Stays c = is_kept (Some name) c

  -- before the first frame
  pub left_first : (items : List (Result Section ReadFault))
      → ((fs : List Frame) → SpellsFraming b fs → (ss : List Section) × (map frame_of ss ≡ fs) × (items ≡ without_fault ss)) → IsLeft name b 0 [] items
  left_first items all fs cs framing customs =
      let read = all fs framing in
      (read.0, cs, read.2, subst (λ (gs : List Frame). SpellsCustoms 0 gs cs) (sym read.1) customs, refl)

  -- behind the last one, or where a fault comes
  none_later : (items : List (Result Section ReadFault)) (ss : List Section) → items ≡ [] → items ≡ without_fault ss → ss ≡ []
  none_later items [] none is = refl
  none_later items (s ∷ ss) none is = absurd cc

  no_fault : (e : ReadFault) (items more : List (Result Section ReadFault)) (ss : List Section) → items ≡ Err e ∷ more → items ≡ without_fault ss → ⊥
  no_fault e items more [] first is = absurd cc
  no_fault e items more (s ∷ ss) first is = absurd cc

  pub left_last : (place : ℕ) (kept : List Custom) (items : List (Result Section ReadFault)) → items ≡ [] → IsLeft name b place kept items
      → (fs : List Frame) (cs : List Custom) → SpellsFraming b fs → SpellsCustoms 0 fs cs → kept ≡ filter Stays cs
  left_last place kept items none left fs cs framing customs =
      let all = left fs cs framing customs in
      let ended = none_later items all.0 none all.2 in
      let no_more : all.1 ≡ [] = subst (λ (ss : List Section). SpellsCustoms place (map frame_of ss) all.1) ended all.3 in
      sym (append-nil kept) ∙ ap (λ (ds : List Custom). kept ++ filter Stays ds) (sym no_more) ∙ all.4

  pub left_faulty : (place : ℕ) (kept : List Custom) (e : ReadFault) (items more : List (Result Section ReadFault)) → items ≡ Err e ∷ more
      → IsLeft name b place kept items → (fs : List Frame) (cs : List Custom) → SpellsFraming b fs → SpellsCustoms 0 fs cs → kept ≡ filter Stays cs
  left_faulty place kept e items more first left fs cs framing customs =
      let all = left fs cs framing customs in
      absurd (no_fault e items more all.0 first all.2)

  -- one more frame
  abbrev Behind : Section → List (Result Section ReadFault) → List Section → Type 0
  Behind s more ss = (ts : List Section) × (ss ≡ s ∷ ts) × (more ≡ without_fault ts)

  next_is : (s : Section) (items more : List (Result Section ReadFault)) (ss : List Section) → items ≡ Ok s ∷ more → items ≡ without_fault ss → Behind s more ss
  next_is s items more [] first is = absurd cc
  next_is s items more (t ∷ ts) first is = (ts, cc, cc)

  module _ (place : ℕ) (kept : List Custom) (s : Section) (items more : List (Result Section ReadFault)) (first : items ≡ Ok s ∷ more)
      (left : IsLeft name b place kept items) where
    abbrev pub keeping : (x : Option Custom) → List Custom
    keeping None = kept
    keeping (Some c) = kept ++ c ∷ []

    one_kept : (c : Custom) (later : List Custom) (x : Option Custom) (stays : Bool) → Stays c ≡ stays → x ≡ (if stays then Some c else None)
        → keeping x ++ filter Stays later ≡ kept ++ filter Stays (c ∷ later)
    one_kept c later (Some d) true is same =
        let known : d ≡ c = cc in
        rw is (append_assoc kept (d ∷ []) (filter Stays later) ∙ ap (λ (e : Custom). kept ++ e ∷ filter Stays later) known)
    one_kept c later None true is same = absurd cc
    one_kept c later (Some d) false is same = absurd cc
    one_kept c later None false is same = rw is refl

    pub left_custom : (x : Option Custom) → s.id ≡ 0
        → ((c : Custom) → c.place ≡ place → SpellsCustom s.contents c → x ≡ (if Stays c then Some c else None)) → IsLeft name b place (keeping x) more
    left_custom x is found fs cs framing customs =
        let all = left fs cs framing customs in
        let behind = next_is s items more all.0 first all.2 in
        let spelled : SpellsCustoms place (frame_of s ∷ map frame_of behind.0) all.1 =
        subst (λ (ss : List Section). SpellsCustoms place (map frame_of ss) all.1) behind.1 all.3 in
        elim spelled [
          | inl h ↦
              let one = one_kept h.1 h.2 x (Stays h.1) refl (found h.1 h.4 h.5) in
              (behind.0, h.2, behind.2, h.6, one ∙ ap (λ (ds : List Custom). kept ++ filter Stays ds) (sym h.3) ∙ all.4)
          | inr h ↦ absurd (h.0 is)
        ]

    -- a frame of another section
    after_frame : (next : ℕ) → s.id ≢ 0 → ((q : ℕ) → IsPlaceAfter place (frame_of s) q → q ≡ next) → IsLeft name b next kept more
    after_frame next other one fs cs framing customs =
        let all = left fs cs framing customs in
        let behind = next_is s items more all.0 first all.2 in
        let spelled : SpellsCustoms place (frame_of s ∷ map frame_of behind.0) all.1 =
        subst (λ (ss : List Section). SpellsCustoms place (map frame_of ss) all.1) behind.1 all.3 in
        elim spelled [
          | inl h ↦ absurd (other h.0)
          | inr h ↦ (behind.0, all.1, behind.2, subst (λ (q : ℕ). SpellsCustoms q (map frame_of behind.0) all.1) (one h.1 h.2) h.3, all.4)
        ]

    pub left_empty : s.id ≢ 0 → IsEmptyFrame (frame_of s) → IsLeft name b place kept more
    left_empty other empty = after_frame place other (λ q after. elim after [ inl h ↦ h.1 | inr h ↦ absurd (h.0 empty) ])

    pub left_full : s.id ≢ 0 → ¬ IsEmptyFrame (frame_of s) → IsLeft name b s.id kept more
    left_full other full = after_frame s.id other (λ q after. elim after [ inl h ↦ absurd (full h.0) | inr h ↦ h.1 ])

-- where no name is given none stays
pub none_kept : (cs : List Custom) → filter (is_kept None) cs ≡ []
none_kept [] = refl
none_kept (c ∷ cs) = none_kept cs
