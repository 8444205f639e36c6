-- The token that is looked for among instructions is the one that stands there, and the other way round.
use Rattle.std.proofs.Common.{◌≡◌, ◌≢◌, ℕ, zero, suc, ◌-◌, ◌<◌, Bool, true, false, eqb, cond, inl, inr, List, [], ◌∷◌, ◌++◌, length}
use Rattle.std.proofs.Common.{Option, Some, None, Result, Ok, Err, refl, sym, ap, subst, ◌∙◌, append_assoc, arith}
use Rattle.std.proofs.lemmas.Bool.{cases_Bool, eqb-true, eqb-false, ne_eqb, false≢true}
use Rattle.wk_bytes.specs.declared.fault.ReadFault.{ReadFault}
use Rattle.wk_bytes.specs.LebLaws.{IsBytes, bind_ok, chosen, ok_is, IsBytes-after}
use Rattle.wk_bytes.specs.Span.{Span}
use Rattle.wk_body.specs.declared.types.Profile.{Profile}
use Rattle.wk_body.specs.Reading.{token_at, after, behind_at, may_else}
use Rattle.wk_body.specs.TokenReadingLaws.{token_shorter}
use Rattle.wk_body.specs.Tree.{Tok, Simple, Otherwise, Close}
use Rattle.wk_body.proofs.GrammarTokens.{SpellsTok, MayCome, token_takes, token_again}
use Rattle.wk_module.specs.Sections.{number}
use Rattle.wk_place.specs.Places.{SpellsToks, counted, IsEmptyElse, IsTokenAt}
use Rattle.wk_place.specs.Seeking.{rest_at, is_empty_else, go_on, token_from, find_token_at}
use Rattle.wk_place.proofs.FoundInstrs.{at_span, some_span, span_is, none_some}

-- ---- which tokens are counted

-- the first is an else, and the second an end
abbrev pub drops : Tok → Tok → Bool
drops (Otherwise skip) Close = true
drops t u = false

one_counted : (t : Tok) → length (counted (t ∷ [])) ≡ 1
one_counted (Simple p) = refl
one_counted t = refl

dropped : (t u : Tok) (ts : List Tok) → drops t u ≡ true → length (counted (t ∷ u ∷ ts)) ≡ length (counted (u ∷ ts))
dropped (Otherwise skip) Close ts e = refl
dropped t u ts e = absurd cc

kept : (t u : Tok) (ts : List Tok) → drops t u ≡ false → length (counted (t ∷ u ∷ ts)) ≡ suc (length (counted (u ∷ ts)))
kept (Otherwise skip) Close ts e = absurd cc
kept t u ts e = refl

some_counted : (t : Tok) (ts : List Tok) → 0 < length (counted (t ∷ ts))
some_counted t [] = omega (arith, one_counted t)
some_counted t (u ∷ ts) =
    elim (cases_Bool (drops t u)) [
      | inl p ↦ omega (arith, dropped t u ts p, some_counted u ts)
      | inr p ↦ omega (arith, kept t u ts p)
    ]

-- ---- what their bytes are

abbrev pub read_to : Tok → List ℕ → Result (Tok × List ℕ) ReadFault
read_to t rest = Ok (t, rest)

same_read : (t u : Tok) (a b : List ℕ) → read_to t a ≡ read_to u b → (t ≡ u) × (a ≡ b)
same_read t u a b e =
    let both = ok_is (t, a) (u, b) e in
    (ap (λ (x : Tok × List ℕ). x.0) both, ap (λ (x : Tok × List ℕ). x.1) both)

module _ (profile : Profile) where
  pub close_read : (ks : List Bool) (end : ℕ) (rest : List ℕ) → token_at profile ks end (0x0B ∷ rest) ≡ read_to Close rest
  unfolding behind_at
  close_read ks end rest = refl

  else_read : (ks : List Bool) (end : ℕ) (rest : List ℕ) (x : Tok × List ℕ) → token_at profile ks end (0x05 ∷ rest) ≡ Ok x
      → (x.0 ≡ Otherwise 0) × (x.1 ≡ rest)
  unfolding behind_at
  else_read ks end rest x e =
      elim (chosen (may_else ks) (read_to (Otherwise 0) rest) (Err _) (Ok x) e) [
        | inl p ↦ let s = same_read (Otherwise 0) x.0 rest x.1 p.1 in (sym s.0, sym s.1)
        | inr p ↦ absurd cc
      ]

  close_byte : (ks : List Bool) (end y : ℕ) (rest after : List ℕ) → IsBytes (y ∷ rest) → token_at profile ks end (y ∷ rest) ≡ read_to Close after → y ≡ 0x0B
  close_byte ks end y rest after fits e =
      let t = token_takes profile ks end (y ∷ rest) (Close, after) fits e in
      let parts : y ∷ rest ≡ 0x0B ∷ after = t.0.parts ∙ ap (λ (f : List ℕ). f ++ after) t.0.spelled in
      cc

  else_byte : (ks : List Bool) (end x skip : ℕ) (rest after : List ℕ) → IsBytes (x ∷ rest)
      → token_at profile ks end (x ∷ rest) ≡ read_to (Otherwise skip) after → x ≡ 0x05
  else_byte ks end x skip rest after fits e =
      let t = token_takes profile ks end (x ∷ rest) (Otherwise skip, after) fits e in
      let parts : x ∷ rest ≡ 0x05 ∷ after = t.0.parts ∙ ap (λ (f : List ℕ). f ++ after) t.0.spelled.1 in
      cc

  -- of two tokens of which the first is no else, or the second no end
  no_else : (t u : Tok) → ((skip : ℕ) → t ≡ Otherwise skip → ⊥) → drops t u ≡ false
  no_else (Otherwise skip) u h = absurd (h skip refl)
  no_else t u h = refl

  no_end : (t u : Tok) → (u ≡ Close → ⊥) → drops t u ≡ false
  no_end (Otherwise skip) Close h = absurd (h refl)
  no_end t u h = refl

  drop_of : (t u : Tok) (skip : ℕ) → t ≡ Otherwise skip → u ≡ Close → drops t u ≡ true
  drop_of t u skip e f = rw (e, f) refl

  -- the first of two tokens is an else and the second an end exactly where their bytes say so
  pub two_read : (ks next : List Bool) (end : ℕ) (bytes rest later : List ℕ) (t u : Tok) → IsBytes bytes → IsBytes rest
      → token_at profile ks end bytes ≡ read_to t rest → token_at profile next end rest ≡ read_to u later → drops t u ≡ is_empty_else bytes
  two_read ks next end [] rest later t u fits fits' e f = absurd cc
  two_read ks next end (x ∷ []) rest later t u fits fits' e f =
      no_else t u (λ skip is.
      let byte = else_byte ks end x skip [] rest fits (e ∙ ap (λ (v : Tok). read_to v rest) is) in
      let there = else_read ks end [] (t, rest) (ap (λ (y : ℕ). token_at profile ks end (y ∷ [])) (sym byte) ∙ e) in
      nothing_read next end rest later u there.1 f)
    where
      nothing_read : (next : List Bool) (end : ℕ) (rest later : List ℕ) (u : Tok) → rest ≡ [] → token_at profile next end rest ≡ read_to u later → ⊥
      nothing_read next end [] later u is f = absurd cc
      nothing_read next end (x ∷ rest) later u is f = absurd cc
  two_read ks next end (x ∷ y ∷ bytes) rest later t u fits fits' e f =
      elim (cases_Bool (eqb x 0x05)) [
        | inl p ↦
            let byte = eqb-true x 0x05 p in
            let there = else_read ks end (y ∷ bytes) (t, rest) (ap (λ (z : ℕ). token_at profile ks end (z ∷ y ∷ bytes)) (sym byte) ∙ e) in
            let second : token_at profile next end (y ∷ bytes) ≡ read_to u later = ap (token_at profile next end) (sym there.1) ∙ f in
            elim (cases_Bool (eqb y 0x0B)) [
              | inl q ↦
                  let last = eqb-true y 0x0B q in
                  let closed = same_read Close u bytes later
                  (sym (close_read next end bytes) ∙ ap (λ (z : ℕ). token_at profile next end (z ∷ bytes)) (sym last) ∙ second) in
                  drop_of t u 0 there.0 (sym closed.0) ∙ sym (rw (p, q) refl)
              | inr q ↦
                  no_end t u (λ is. eqb-false y 0x0B q
                  (close_byte next end y bytes later (subst IsBytes there.1 fits') (second ∙ ap (λ (v : Tok). read_to v later) is)))
                  ∙ sym (rw (p, q) refl)
            ]
        | inr p ↦
            no_else t u (λ skip is. eqb-false x 0x05 p
            (else_byte ks end x skip (y ∷ bytes) rest fits (e ∙ ap (λ (v : Tok). read_to v rest) is)))
            ∙ sym (rw p refl)
      ]

-- how many tokens are counted with one more in front, where it is dropped or not
abbrev pub number_of : Bool → ℕ → ℕ
number_of true n = n
number_of false n = suc n

pub count_step : (u v : Tok) (ts vs : List Tok) (b : Bool) → ts ≡ v ∷ vs → drops u v ≡ b → length (counted (u ∷ ts)) ≡ number_of b (length (counted ts))
count_step u v ts vs true is e = rw is (dropped u v vs e)
count_step u v ts vs false is e = rw is (kept u v vs e)

-- ---- tokens one after the other

module _ (profile : Profile) where
  -- the token of that number from here on, where these blocks are open
  pub record TokenFrom (ks : List Bool) (n end : ℕ) (bytes : List ℕ) (t : Tok) (s : Span) : Type 0 where
    pub before : List Tok
    pub front : List ℕ
    pub blocks : List Bool
    pub own : List ℕ
    pub later : List ℕ
    pub parts : bytes ≡ front ++ s.rest
    pub here : s.rest ≡ own ++ later
    pub spelled : SpellsToks profile ks before front blocks
    pub token : SpellsTok profile t own
    pub may : MayCome blocks t
    pub number : length (counted (before ++ t ∷ [])) ≡ suc n
    pub full : IsEmptyElse t later → ⊥
    pub ends : s.end ≡ end

  -- the first of these tokens is read
  abbrev pub HeadRead : List Bool → ℕ → List ℕ → List Tok → Type 0
  HeadRead ks end bytes ts = (v : Tok) × (vs : List Tok) × (later : List ℕ) × (ts ≡ v ∷ vs) × (token_at profile ks end bytes ≡ read_to v later)

  pub head_read : (ks blocks : List Bool) (end : ℕ) (bytes front own later : List ℕ) (before : List Tok) (t : Tok) → bytes ≡ front ++ (own ++ later)
      → SpellsToks profile ks before front blocks → SpellsTok profile t own → MayCome blocks t → HeadRead ks end bytes (before ++ t ∷ [])
  head_read ks blocks end bytes front own later [] t parts spelled token may =
      let whole : bytes ≡ own ++ later = parts ∙ ap (λ (f : List ℕ). f ++ (own ++ later)) spelled.0 in (
        t,
        [],
        later,
        refl,
        ap (token_at profile ks end) whole
            ∙ token_again profile ks end t own later token (subst (λ (ls : List Bool). MayCome ls t) spelled.1 may),
      )
  head_read ks blocks end bytes front own later (v ∷ vs) t parts spelled token may =
      let rest = spelled.1 ++ (own ++ later) in
      let whole : bytes ≡ spelled.0 ++ rest =
      parts ∙ ap (λ (f : List ℕ). f ++ (own ++ later)) spelled.3 ∙ append_assoc spelled.0 spelled.1 (own ++ later) in
      (v, vs ++ t ∷ [], rest, refl, ap (token_at profile ks end) whole ∙ token_again profile ks end v spelled.0 rest spelled.4 spelled.5)

  -- an empty else is one by its bytes
  empty_bytes : (t : Tok) (bytes own later : List ℕ) → bytes ≡ own ++ later → SpellsTok profile t own → IsEmptyElse t later → is_empty_else bytes ≡ true
  empty_bytes (Otherwise skip) bytes own later parts token empty =
      ap is_empty_else (parts ∙ ap (λ (f : List ℕ). f ++ later) token.1 ∙ ap (λ (r : List ℕ). 0x05 ∷ r) empty.1)
  empty_bytes t bytes own later parts token empty = absurd empty

  full_bytes : (ks : List Bool) (end : ℕ) (bytes later : List ℕ) (t : Tok) → token_at profile ks end bytes ≡ read_to t later → (IsEmptyElse t later → ⊥)
      → is_empty_else bytes ≡ false
  full_bytes ks end [] later t read full = refl
  full_bytes ks end (x ∷ []) later t read full = refl
  full_bytes ks end (x ∷ y ∷ bytes) later t read full =
      elim (cases_Bool (eqb x 0x05)) [
        | inl p ↦ elim (cases_Bool (eqb y 0x0B)) [
          | inl q ↦
              let there = else_read profile ks end (y ∷ bytes) (t, later)
              (ap (λ (z : ℕ). token_at profile ks end (z ∷ y ∷ bytes)) (sym (eqb-true x 0x05 p)) ∙ read) in
              let last : later ≡ 0x0B ∷ bytes = there.1 ∙ ap (λ (z : ℕ). z ∷ bytes) (eqb-true y 0x0B q) in
              absurd (full (is_empty t later there.0 bytes last))
          | inr q ↦ rw (p, q) refl
        ]
        | inr p ↦ rw p refl
      ]
    where
      is_empty : (t : Tok) (later : List ℕ) → t ≡ Otherwise 0 → (rest : List ℕ) → later ≡ 0x0B ∷ rest → IsEmptyElse t later
      is_empty t later is rest last = subst (λ (u : Tok). IsEmptyElse u later) (sym is) (rest, last)

  -- ---- what is found stands there

  go_found : (o : Option (List Bool)) (more : List Bool → Result (Option Span) ReadFault) (s : Span) → go_on o more ≡ some_span s
      → (next : List Bool) × (o ≡ Some next) × (more next ≡ some_span s)
  go_found None more s e = absurd (none_some s e)
  go_found (Some next) more s e = (next, refl, e)

  -- one more token in front
  pub behind_token : (ks next : List Bool) (m n end : ℕ) (bytes rest : List ℕ) (u t : Tok) (s : Span) (b : Bool) → IsBytes bytes
      → token_at profile ks end bytes ≡ read_to u rest → after u ks ≡ Some next → is_empty_else bytes ≡ b → suc n ≡ number_of b (suc m)
      → TokenFrom next m end rest t s → TokenFrom ks n end bytes t s
  behind_token ks next m n end bytes rest u t s b fits read opens empty counts h =
      let taken = token_takes profile ks end bytes (u, rest) fits read in
      let took = taken.0 in
      let head = head_read next h.blocks end rest h.front h.own h.later h.before t (h.parts ∙ ap (λ (c : List ℕ). h.front ++ c) h.here)
      h.spelled h.token h.may in
      let drop = two_read profile ks next end bytes rest head.2 u head.0 fits took.rest_fits read head.4 in
      record {
        before = u ∷ h.before;
        front = took.front ++ h.front;
        blocks = h.blocks;
        own = h.own;
        later = h.later;
        parts =
            took.parts ∙ ap (λ (c : List ℕ). took.front ++ c) h.parts ∙ sym (append_assoc took.front h.front s.rest);
        here = h.here;
        spelled = (took.front, h.front, next, refl, took.spelled, taken.1, opens, h.spelled);
        token = h.token;
        may = h.may;
        number =
            count_step u head.0 (h.before ++ t ∷ []) head.1 b head.3 (drop ∙ empty) ∙ ap (number_of b) h.number ∙ sym counts;
        full = h.full;
        ends = h.ends;
      }

  -- the first token
  pub first_token : (ks : List Bool) (n end : ℕ) (bytes rest : List ℕ) (u : Tok) (s : Span) → IsBytes bytes → token_at profile ks end bytes ≡ read_to u rest
      → is_empty_else bytes ≡ false → n ≡ 0 → at_span end bytes ≡ s → TokenFrom ks n end bytes u s
  first_token ks n end bytes rest u s fits read full none is =
      let taken = token_takes profile ks end bytes (u, rest) fits read in
      let took = taken.0 in
      let same : bytes ≡ s.rest = ap (λ (t : Span). t.rest) is in
      record {
        before = [];
        front = [];
        blocks = ks;
        own = took.front;
        later = rest;
        parts = same;
        here = sym same ∙ took.parts;
        spelled = (refl, refl);
        token = took.spelled;
        may = taken.1;
        number = one_counted u ∙ ap suc (sym none);
        full = λ empty. false≢true (sym full ∙ empty_bytes u bytes took.front rest took.parts took.spelled empty);
        ends = sym (ap (λ (t : Span). t.end) is);
      }

  token_found : (steps : ℕ) (ks : List Bool) (n end : ℕ) (bytes : List ℕ) (s : Span) → IsBytes bytes
      → token_from profile steps ks n end bytes ≡ some_span s → (t : Tok) × TokenFrom ks n end bytes t s
  token_found zero ks n end bytes s fits e = absurd (none_some s e)
  token_found (suc steps) ks n end bytes s fits e =
      let a = bind_ok (token_at profile ks end bytes) (λ t. cond (is_empty_else bytes)
      (go_on (after t.0 ks) (λ next. token_from profile steps next n end t.1))
      (cond (eqb n 0) (rest_at end bytes) (go_on (after t.0 ks) (λ next. token_from profile steps next (n - 1) end t.1)))) (Some s) e in
      let u = a.0.0 in
      let rest = a.0.1 in
      let rest_fits : IsBytes rest = (token_takes profile ks end bytes a.0 fits a.1).0.rest_fits in
      elim (chosen (is_empty_else bytes) (go_on (after u ks) (λ next. token_from profile steps next n end rest))
      (cond (eqb n 0) (rest_at end bytes) (go_on (after u ks) (λ next. token_from profile steps next (n - 1) end rest))) (some_span s) a.2) [
        | inl p ↦
            let g = go_found (after u ks) (λ next. token_from profile steps next n end rest) s p.1 in
            let h = token_found steps g.0 n end rest s rest_fits g.2 in
            (h.0, behind_token ks g.0 n n end bytes rest u h.0 s true fits a.1 g.1 p.0 refl h.1)
        | inr p ↦ elim (chosen (eqb n 0) (rest_at end bytes) (go_on (after u ks) (λ next. token_from profile steps next (n - 1) end rest)) (some_span s) p.1) [
          | inl q ↦ (u, first_token ks n end bytes rest u s fits a.1 p.0 (eqb-true n 0 q.0) (span_is (at_span end bytes) s q.1))
          | inr q ↦
              let g = go_found (after u ks) (λ next. token_from profile steps next (n - 1) end rest) s q.1 in
              let h = token_found steps g.0 (n - 1) end rest s rest_fits g.2 in
              let some : n ≢ 0 = eqb-false n 0 q.0 in
              let counts : suc n ≡ suc (suc (n - 1)) = omega (arith, some) in
              (h.0, behind_token ks g.0 (n - 1) n end bytes rest u h.0 s false fits a.1 g.1 p.0 counts h.1)
        ]
      ]

  -- ---- what stands there is found

  token_again_by : (steps : ℕ) (before : List Tok) (ks blocks : List Bool) (n end : ℕ) (bytes front own later : List ℕ) (t : Tok) (s : Span) → IsBytes bytes
      → length bytes < steps → bytes ≡ front ++ s.rest → s.rest ≡ own ++ later → SpellsToks profile ks before front blocks → SpellsTok profile t own
      → MayCome blocks t → length (counted (before ++ t ∷ [])) ≡ suc n → (IsEmptyElse t later → ⊥) → s.end ≡ end
      → token_from profile steps ks n end bytes ≡ some_span s
  token_again_by zero before ks blocks n end bytes front own later t s fits le parts here spelled token may number full ends = absurd (omega arith)
  token_again_by (suc steps) [] ks blocks n end bytes front own later t s fits le parts here spelled token may number full ends =
      let same : bytes ≡ s.rest = parts ∙ ap (λ (f : List ℕ). f ++ s.rest) spelled.0 in
      let read : token_at profile ks end bytes ≡ read_to t later =
      ap (token_at profile ks end) (same ∙ here)
      ∙ token_again profile ks end t own later token (subst (λ (ls : List Bool). MayCome ls t) spelled.1 may) in
      let none : n ≡ 0 = omega (arith, one_counted t, number) in
      rw (read, full_bytes ks end bytes later t read full, none) (λ i. some_span (record { rest = same i; end = sym ends i }))
  token_again_by (suc steps) (u ∷ us) ks blocks n end bytes front own later t s fits le parts here spelled token may number full ends =
      let rest = spelled.1 ++ s.rest in
      let next = spelled.2 in
      let whole : bytes ≡ spelled.0 ++ rest = parts ∙ ap (λ (f : List ℕ). f ++ s.rest) spelled.3 ∙ append_assoc spelled.0 spelled.1 s.rest in
      let read : token_at profile ks end bytes ≡ read_to u rest =
      ap (token_at profile ks end) whole ∙ token_again profile ks end u spelled.0 rest spelled.4 spelled.5 in
      let rest_fits : IsBytes rest = IsBytes-after spelled.0 rest bytes whole fits in
      let shorter = token_shorter profile ks end bytes (u, rest) read in
      let head = head_read next blocks end rest spelled.1 own later us t (ap (λ (c : List ℕ). spelled.1 ++ c) here) spelled.7 token may in
      let drop = two_read profile ks next end bytes rest head.2 u head.0 fits rest_fits read head.4 in
      elim (cases_Bool (is_empty_else bytes)) [
        | inl p ↦
            let fewer : length (counted (us ++ t ∷ [])) ≡ suc n =
            sym (count_step u head.0 (us ++ t ∷ []) head.1 true head.3 (drop ∙ p)) ∙ number in
            rw (read, p, spelled.6)
            (token_again_by steps us next blocks n end rest spelled.1 own later t s rest_fits (omega (arith, shorter)) refl here spelled.7 token may fewer
            full ends)
        | inr p ↦
            let more : suc (length (counted (us ++ t ∷ []))) ≡ suc n =
            sym (count_step u head.0 (us ++ t ∷ []) head.1 false head.3 (drop ∙ p)) ∙ number in
            let some : 0 < length (counted (us ++ t ∷ [])) = rw head.3 (some_counted head.0 head.1) in
            let other : n ≢ 0 = λ e. absurd (omega (arith, e, more, some)) in
            let fewer : length (counted (us ++ t ∷ [])) ≡ suc (n - 1) = omega (arith, more, some) in
            rw (read, p, ne_eqb n 0 other, spelled.6)
            (token_again_by steps us next blocks (n - 1) end rest spelled.1 own later t s rest_fits (omega (arith, shorter)) refl here spelled.7 token may
            fewer full ends)
      ]

  -- ---- the token of a number of an expression

  pub token_is : (n : ℕ) (code s : Span) (t : Tok) → TokenFrom [] n code.end code.rest t s → IsTokenAt profile code n t s
  token_is n code s t h = record {
    before = h.before;
    front = h.front;
    blocks = h.blocks;
    bytes = h.own;
    later = h.later;
    parts = h.parts;
    here = h.here;
    spelled = h.spelled;
    token = h.token;
    may = h.may;
    number = h.number;
    full = h.full;
    ends = h.ends;
  }

  pub find_found : (n : ℕ) (code s : Span) → IsBytes code.rest → find_token_at profile n code.end code.rest ≡ Ok (Some s)
      → (t : Tok) × IsTokenAt profile code n t s
  unfolding find_token_at
  find_found n code s fits e =
      let f = token_found (suc (length code.rest)) [] n code.end code.rest s fits e in
      (f.0, token_is n code s f.0 f.1)

  pub find_again : (n : ℕ) (code s : Span) (t : Tok) → IsBytes code.rest → IsTokenAt profile code n t s
      → find_token_at profile n code.end code.rest ≡ Ok (Some s)
  unfolding find_token_at
  find_again n code s t fits h =
      token_again_by (suc (length code.rest)) h.before [] h.blocks n code.end code.rest h.front h.bytes h.later t s fits (omega arith) h.parts h.here
      h.spelled h.token h.may h.number h.full h.ends
