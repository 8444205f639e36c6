-- A walk over the tokens of a code that copies them, moved: step by step.
use Rattle.std.proofs.Common.{◌≡◌, ℕ, suc, ◌+◌, ◌-◌, ◌^◌, ◌<◌, ◌≤◌, inl, inr, Option, Some, List, [], ◌∷◌, ◌++◌, length, map, take, drop, get_or, refl, sym, ap}
use Rattle.std.proofs.Common.{subst, ◌∙◌, arith, append_assoc}
use Rattle.std.proofs.Math.Seq.{take-add, take-append_seam, drop-append_seam}
use Rattle.std.specs.List.{flat_map}
use Rattle.std.proofs.lemmas.List.{append-nil, drop-drop, drop_all, drop_more, length-drop}
use Rattle.wk_bytes.specs.Short.{short}
use Rattle.wk_body.specs.declared.shifts.Shifts.{Shifts}
use Rattle.wk_body.specs.TokenLen.{stride, IsMinimal}
use Rattle.wk_body.specs.Tree.{Tok}
use Rattle.wk_body.specs.Written.{tok_bytes}
use Rattle.wk_body.specs.ShiftSteps.{AreIntegers, IsReferring, index_after, shifted_tok, IsTokInRange, AreToksInRange, between, Shifting}
use Rattle.wk_body.proofs.Found.{found_is, index_is}
use Rattle.wk_body.proofs.Integers.{brief_integers}
use Rattle.wk_body.proofs.ShiftShapes.{IsReference, sort, front_at, not_regular, not_table, not_word, table_is_none, word_is_none}

-- ---- opcodes

pub not_referring : (opcode : ℕ) → (opcode ≡ 0x10 → ⊥) → (opcode ≡ 0x23 → ⊥) → (opcode ≡ 0x24 → ⊥) → IsReferring opcode → ⊥
not_referring opcode a b d (inl e) = a e
not_referring opcode a b d (inr (inl e)) = b e
not_referring opcode a b d (inr (inr e)) = d e

-- ---- runs

-- a run is longer by the bytes behind it
pub between_more : (run at : ℕ) (code bytes later : List ℕ) → run ≤ at → drop at code ≡ bytes ++ later
    → between run (at + length bytes) code ≡ between run at code ++ bytes
between_more run at code bytes later le ahead =
    let long : at + length bytes - run ≡ (at - run) + length bytes = omega arith in
    let place : run + (at - run) ≡ at = omega arith in
    let there : drop (at - run) (drop run code) ≡ bytes ++ later = drop-drop (at - run) run code ∙ ap (λ (n : ℕ). drop n code) place ∙ ahead in
    ap (λ (n : ℕ). take n (drop run code)) long
    ∙ take-add (at - run) (length bytes) (drop run code)
    ∙ ap (λ (b : List ℕ). between run at code ++ b) (ap (take (length bytes)) there ∙ take-append_seam bytes later)

pub behind_bytes : (at : ℕ) (code bytes later : List ℕ) → drop at code ≡ bytes ++ later → drop (at + length bytes) code ≡ later
behind_bytes at code bytes later ahead = sym (drop-drop (length bytes) at code) ∙ ap (drop (length bytes)) ahead ∙ drop-append_seam bytes later

none_between : (at : ℕ) (code : List ℕ) → between at at code ≡ []
none_between at code = let none : at - at ≡ 0 = omega arith in ap (λ (n : ℕ). take n (drop at code)) none

-- ---- the token at an offset

module _ (s : Shifts) (all : List Tok) (goal code out : List ℕ) (run at : ℕ) where
  pub record Next : Type 0 where
    pub token : Tok
    pub others : List Tok
    pub here : IsTokInRange token
    pub in_range : AreToksInRange others
    pub fits : AreToksInRange (map (shifted_tok s) all) → IsTokInRange (shifted_tok s token) × AreToksInRange (map (shifted_tok s) others)
    pub ahead : drop at code ≡ tok_bytes token ++ flat_map tok_bytes others
    pub written : (out ++ between run at code) ++ (tok_bytes (shifted_tok s token) ++ flat_map tok_bytes (map (shifted_tok s) others)) ≡ goal

  next_by : (left : List Tok) → at < length code → AreToksInRange left
      → (AreToksInRange (map (shifted_tok s) all) → AreToksInRange (map (shifted_tok s) left)) → drop at code ≡ flat_map tok_bytes left
      → (out ++ between run at code) ++ flat_map tok_bytes (map (shifted_tok s) left) ≡ goal → Next
  next_by [] lt r f ahead written = absurd (omega (arith, length-drop at code, ap length ahead))
  next_by (t ∷ ts) lt r f ahead written = record { token = t; others = ts; here = r.0; in_range = r.1; fits = f; ahead = ahead; written = written }

  pub next_of : at < length code → Shifting s all goal code out run at → Next
  next_of lt w = next_by w.left lt w.in_range w.fits w.ahead w.written

  -- what may not move stays
  pub still_bytes : (n : Next) (opcode : ℕ) → at < length code → opcode ≡ get_or code at 0 → (IsReferring opcode → ⊥)
      → tok_bytes (shifted_tok s n.token) ≡ tok_bytes n.token
  still_bytes n opcode lt there still =
      elim (sort n.token n.here) [
        | inl f ↦ ap tok_bytes (f.stays s)
        | inr (inl f) ↦ ap tok_bytes (f.stays s)
        | inr (inr (inl f)) ↦ ap tok_bytes (f.stays s)
        | inr (inr (inr f)) ↦
            let b = front_at code at opcode f.opcode (tok_bytes n.token) (short f.index) (flat_map tok_bytes n.others) lt there n.ahead f.bytes in
            absurd (still (subst IsReferring (sym b.0) f.refers))
      ]

  -- it stays as it is
  pub still_step : (n : Next) (end : ℕ) → run ≤ at → tok_bytes (shifted_tok s n.token) ≡ tok_bytes n.token → end ≡ at + length (tok_bytes n.token)
      → Shifting s all goal code out run end
  still_step n end le same is =
      let bytes = tok_bytes n.token in
      let behind = flat_map tok_bytes (map (shifted_tok s) n.others) in
      let longer : between run end code ≡ between run at code ++ bytes =
      ap (λ (k : ℕ). between run k code) is ∙ between_more run at code bytes (flat_map tok_bytes n.others) le n.ahead in
      record {
        left = n.others;
        in_range = n.in_range;
        fits = λ f. (n.fits f).1;
        ahead = ap (λ (k : ℕ). drop k code) is ∙ behind_bytes at code bytes (flat_map tok_bytes n.others) n.ahead;
        written =
            ap (λ (b : List ℕ). (out ++ b) ++ behind) longer
            ∙ ap (λ (b : List ℕ). b ++ behind) (sym (append_assoc out (between run at code) bytes))
            ∙ append_assoc (out ++ between run at code) bytes behind
            ∙ ap (λ (b : List ℕ). (out ++ between run at code) ++ (b ++ behind)) (sym same)
            ∙ n.written;
      }

  -- the run is written, and behind it the token, moved
  pub moved_step : (n : Next) (then last : List ℕ) (end : ℕ) → then ≡ out ++ between run at code → last ≡ then ++ tok_bytes (shifted_tok s n.token)
      → end ≡ at + length (tok_bytes n.token) → Shifting s all goal code last end end
  moved_step n then last end copied put is =
      let moved = tok_bytes (shifted_tok s n.token) in
      let behind = flat_map tok_bytes (map (shifted_tok s) n.others) in
      record {
        left = n.others;
        in_range = n.in_range;
        fits = λ f. (n.fits f).1;
        ahead = ap (λ (k : ℕ). drop k code) is ∙ behind_bytes at code (tok_bytes n.token) (flat_map tok_bytes n.others) n.ahead;
        written =
            ap (λ (b : List ℕ). (last ++ b) ++ behind) (none_between end code)
            ∙ ap (λ (b : List ℕ). b ++ behind) (append-nil last ∙ put ∙ ap (λ (b : List ℕ). b ++ moved) copied)
            ∙ append_assoc (out ++ between run at code) moved behind
            ∙ n.written;
      }

  -- all tokens are behind
  ended_by : (left : List Tok) → length code ≤ at → drop at code ≡ flat_map tok_bytes left → AreToksInRange left
      → (out ++ between run at code) ++ flat_map tok_bytes (map (shifted_tok s) left) ≡ goal → out ++ between run at code ≡ goal
  ended_by [] le ahead r written = sym (append-nil (out ++ between run at code)) ∙ written
  ended_by (t ∷ ts) le ahead r written = absurd (no_token t ts r.0 (sym ahead ∙ drop_all at code le))
    where
      no_token : (t : Tok) (ts : List Tok) → IsTokInRange t → tok_bytes t ++ flat_map tok_bytes ts ≡ [] → ⊥
      no_token t ts r e =
          elim (sort t r) [
            | inl f ↦ let none = rw f.bytes at e in cc
            | inr (inl f) ↦ let none = rw f.bytes at e in cc
            | inr (inr (inl f)) ↦ let none = rw f.bytes at e in cc
            | inr (inr (inr f)) ↦ let none = rw f.bytes at e in cc
          ]

  pub ended : length code ≤ at → Shifting s all goal code out run at → out ++ between run at code ≡ goal
  ended le w = ended_by w.left le w.ahead w.in_range w.written

  -- ---- a reference

  pub record Refers (opcode : ℕ) : Type 0 where
    pub next : Next
    pub reference : IsReference next.token
    pub same : opcode ≡ reference.opcode
    pub behind : drop (at + 1) code ≡ short reference.index ++ flat_map tok_bytes next.others

  refers_by : (opcode : ℕ) (n : Next) → at < length code → opcode ≡ get_or code at 0 → IsReferring opcode → Refers opcode
  refers_by opcode n lt there refers =
      let later = flat_map tok_bytes n.others in
      elim (sort n.token n.here) [
        | inl f ↦
            let b = front_at code at opcode f.opcode (tok_bytes n.token) f.behind later lt there n.ahead f.bytes in
            absurd (not_regular opcode f.opcode f.count refers b.0 f.long)
        | inr (inl f) ↦ absurd (not_table opcode refers (front_at code at opcode 0x0E (tok_bytes n.token) _ later lt there n.ahead f.bytes).0)
        | inr (inr (inl f)) ↦
            let b = front_at code at opcode f.opcode (tok_bytes n.token) f.behind later lt there n.ahead f.bytes in
            absurd (not_word opcode f.opcode f.size refers b.0 f.sized)
        | inr (inr (inr f)) ↦
            let b = front_at code at opcode f.opcode (tok_bytes n.token) (short f.index) later lt there n.ahead f.bytes in
            record { next = n; reference = f; same = b.0; behind = b.1 }
      ]

  pub refers_of : (opcode : ℕ) → at < length code → opcode ≡ get_or code at 0 → IsReferring opcode → Shifting s all goal code out run at → Refers opcode
  refers_of opcode lt there refers w = refers_by opcode (next_of lt w) lt there refers

  -- the token whose index was found, as it stands and as it moves
  pub record Referred (opcode x end : ℕ) : Type 0 where
    pub next : Next
    pub written : opcode ∷ short x ≡ tok_bytes next.token
    pub moved : opcode ∷ short (index_after s opcode x) ≡ tok_bytes (shifted_tok s next.token)
    pub ends : end ≡ at + length (tok_bytes next.token)
    pub fits : IsTokInRange (shifted_tok s next.token) → index_after s opcode x < 2 ^ 32

  pub referred : (opcode x end : ℕ) → at < length code → opcode ≡ get_or code at 0 → IsReferring opcode
      → ((n : ℕ) (later : List ℕ) → n < 2 ^ 32 → drop (at + 1) code ≡ short n ++ later
      → ◌≡◌ {A = Option (ℕ × ℕ)} (Some (x, end)) (Some (n, at + 1 + length (short n)))) → Shifting s all goal code out run at → Referred opcode x end
  referred opcode x end lt there refers exact w =
      let r = refers_of opcode lt there refers w in
      let f = r.reference in
      let both = index_is x f.index end (at + 1 + length (short f.index)) (exact f.index (flat_map tok_bytes r.next.others) f.small r.behind) in
      let y : index_after s opcode x ≡ index_after s f.opcode f.index = ap (λ (o : ℕ). index_after s o x) r.same ∙ ap (index_after s f.opcode) both.0 in
      record {
        next = r.next;
        written = ap (λ (o : ℕ). o ∷ short x) r.same ∙ ap (λ (n : ℕ). f.opcode ∷ short n) both.0 ∙ sym f.bytes;
        moved = ap (λ (o : ℕ). o ∷ short (index_after s opcode x)) r.same ∙ ap (λ (n : ℕ). f.opcode ∷ short n) y ∙ sym (f.moves s);
        ends = omega (arith, both.1, ap length f.bytes);
        fits = λ h. omega (arith, y, f.fits s h);
      }

  -- ---- a token that is as short as it may be

  brief_by : (n : Next) (opcode len x y : ℕ) → at + 2 < length code → opcode ≡ get_or code at 0 → x ≡ get_or code (at + 1) 0
      → y ≡ get_or code (at + 2) 0 → len ≡ stride opcode → len ≤ 3 → IsMinimal len x y
      → (tok_bytes (shifted_tok s n.token) ≡ tok_bytes n.token) × (length (tok_bytes n.token) ≡ len)
  brief_by n opcode len x y lt there first second is few brief =
      let later = flat_map tok_bytes n.others in
      let near : at < length code = omega arith in
      let after : at + 1 + 1 ≡ at + 2 = omega arith in
      let two : drop (at + 1) code ≡ x ∷ y ∷ drop (at + 2 + 1) code =
      drop_more code (at + 1) 0 (omega arith) ∙ ap (λ (k : ℕ). get_or code (at + 1) 0 ∷ drop k code) after
      ∙ ap (λ (b : List ℕ). get_or code (at + 1) 0 ∷ b) (drop_more code (at + 2) 0 lt)
      ∙ ap (λ (b : ℕ). b ∷ get_or code (at + 2) 0 ∷ drop (at + 2 + 1) code) (sym first) ∙ ap (λ (b : ℕ). x ∷ b ∷ drop (at + 2 + 1) code) (sym second) in
      elim (sort n.token n.here) [
        | inl f ↦
            let b = front_at code at opcode f.opcode (tok_bytes n.token) f.behind later near there n.ahead f.bytes in
            let long : len ≡ suc f.count = is ∙ ap stride b.0 ∙ f.long in
            let short_one = brief_integers f.count f.behind later (drop (at + 2 + 1) code) x y (omega (arith, long)) f.integers (sym b.1 ∙ two)
            (λ l. brief.1 (omega (arith, long))) (λ l. brief.2 (omega (arith, long))) in
            (ap tok_bytes (f.stays s), omega (arith, ap length f.bytes, short_one, long))
        | inr (inl f) ↦
            let b = front_at code at opcode 0x0E (tok_bytes n.token) _ later near there n.ahead f.bytes in
            absurd (table_is_none opcode (len - 1) b.0 (sym is ∙ more len brief.0))
        | inr (inr (inl f)) ↦
            let b = front_at code at opcode f.opcode (tok_bytes n.token) f.behind later near there n.ahead f.bytes in
            absurd (word_is_none f.opcode f.size (len - 1) f.sized (sym (ap stride b.0) ∙ sym is ∙ more len brief.0))
        | inr (inr (inr f)) ↦
            let b = front_at code at opcode f.opcode (tok_bytes n.token) (short f.index) later near there n.ahead f.bytes in
            absurd (not_regular f.opcode f.opcode (len - 1) f.refers refl (sym (ap stride b.0) ∙ sym is ∙ more len brief.0))
      ]
    where
      more : (n : ℕ) → 0 < n → n ≡ suc (n - 1)
      more n h = omega arith

  pub brief_step : (opcode len x y end : ℕ) → at + 2 < length code → run ≤ at → opcode ≡ get_or code at 0 → x ≡ get_or code (at + 1) 0
      → y ≡ get_or code (at + 2) 0 → len ≡ stride opcode → len ≤ 3 → IsMinimal len x y → end ≡ at + len
      → Shifting s all goal code out run at → Shifting s all goal code out run end
  brief_step opcode len x y end lt le there first second is few brief to w =
      let n = next_of (omega arith) w in
      let b = brief_by n opcode len x y lt there first second is few brief in
      still_step n end le b.0 (to ∙ ap (λ (k : ℕ). at + k) (sym b.1))

  -- ---- a token that has integers alone behind its opcode

  regular_by : (n : Next) (opcode count end : ℕ) → at < length code → run ≤ at → opcode ≡ get_or code at 0 → stride opcode ≡ suc count
      → ((front later : List ℕ) → AreIntegers count front → drop (at + 1) code ≡ front ++ later → Some end ≡ Some (at + 1 + length front))
      → Shifting s all goal code out run end
  regular_by n opcode count end lt le there long exact =
      let later = flat_map tok_bytes n.others in
      elim (sort n.token n.here) [
        | inl f ↦
            let b = front_at code at opcode f.opcode (tok_bytes n.token) f.behind later lt there n.ahead f.bytes in
            let same : f.count ≡ count = omega (arith, f.long, ap stride b.0, long) in
            let place = found_is end (at + 1 + length f.behind) (exact f.behind later (subst (λ (k : ℕ). AreIntegers k f.behind) same f.integers) b.1) in
            still_step n end le (ap tok_bytes (f.stays s)) (omega (arith, place, ap length f.bytes))
        | inr (inl f) ↦
            let b = front_at code at opcode 0x0E (tok_bytes n.token) _ later lt there n.ahead f.bytes in
            absurd (table_is_none opcode count b.0 long)
        | inr (inr (inl f)) ↦
            let b = front_at code at opcode f.opcode (tok_bytes n.token) f.behind later lt there n.ahead f.bytes in
            absurd (word_is_none f.opcode f.size count f.sized (sym (ap stride b.0) ∙ long))
        | inr (inr (inr f)) ↦
            let b = front_at code at opcode f.opcode (tok_bytes n.token) (short f.index) later lt there n.ahead f.bytes in
            absurd (not_regular f.opcode f.opcode count f.refers refl (sym (ap stride b.0) ∙ long))
      ]

  pub regular_step : (opcode count end : ℕ) → at < length code → run ≤ at → opcode ≡ get_or code at 0 → stride opcode ≡ suc count
      → ((front later : List ℕ) → AreIntegers count front → drop (at + 1) code ≡ front ++ later → Some end ≡ Some (at + 1 + length front))
      → Shifting s all goal code out run at → Shifting s all goal code out run end
  regular_step opcode count end lt le there long exact w = regular_by (next_of lt w) opcode count end lt le there long exact
