-- The tokens that bytes spell of a tree, and how many of them are counted.
use Rattle.std.proofs.Common.{◌≡◌, ◌≢◌, ◌⊎◌, ℕ, zero, suc, ◌+◌, ◌-◌, ◌<◌, ◌≤◌, Bool, true, false, inl, inr, List, [], ◌∷◌, ◌++◌, length}
use Rattle.std.proofs.Common.{Some, refl, sym, ap, subst, ◌∙◌, append_assoc, arith}
use Rattle.std.proofs.lemmas.Bool.{cases_Bool}
use Rattle.wk_bytes.specs.LebLaws.{IsBytes, IsBytes-after}
use Rattle.wk_bytes.specs.Span.{Span}
use Rattle.wk_body.specs.declared.types.Profile.{Profile}
use Rattle.wk_body.specs.Reading.{token_at, after}
use Rattle.wk_body.specs.Shape.{deep, depth_limit}
use Rattle.wk_body.specs.Spelling.{Spells, SpellsExpr, kind_byte}
use Rattle.wk_body.specs.Tree.{Instrs, Finish, One, Block, If, Tok, Simple, Open, OpenIf, Otherwise, Close}
use Rattle.wk_body.proofs.GrammarTokens.{SpellsTok, MayCome, token_again}
use Rattle.wk_typing.specs.Typing.{count, is_finish, else_count}
use Rattle.wk_place.specs.Places.{SpellsToks, counted, IsTokenAt}
use Rattle.wk_place.specs.Seeking.{is_empty_else}
use Rattle.wk_place.proofs.FoundInstrs.{at_span}
use Rattle.wk_place.proofs.FoundTokens.{read_to, count_step, close_read, two_read, TokenFrom, head_read, behind_token, first_token, token_is}

-- ---- tokens one after the other

module _ (profile : Profile) where
  joined : (ks ms ls : List Bool) (ts us : List Tok) (a c : List ℕ) → SpellsToks profile ks ts a ms → SpellsToks profile ms us c ls
      → SpellsToks profile ks (ts ++ us) (a ++ c) ls
  joined ks ms ls [] us a c s t =
      let whole : a ++ c ≡ c = ap (λ (x : List ℕ). x ++ c) s.0 in
      subst (λ (x : List ℕ). SpellsToks profile ks us x ls) (sym whole) (subst (λ (k : List Bool). SpellsToks profile k us c ls) s.1 t)
  joined ks ms ls (v ∷ vs) us a c s t =
      (s.0, s.1 ++ c, s.2, ap (λ (x : List ℕ). x ++ c) s.3 ∙ append_assoc s.0 s.1 c, s.4, s.5, s.6, joined s.2 ms ls vs us s.1 c s.7 t)

  one_before : (ks next ls : List Bool) (t : Tok) (ts : List Tok) (own c : List ℕ) → SpellsTok profile t own → MayCome ks t → after t ks ≡ Some next
      → SpellsToks profile next ts c ls → SpellsToks profile ks (t ∷ ts) (own ++ c) ls
  one_before ks next ls t ts own c token may opens s = (own, c, next, refl, token, may, opens, s)

  -- what the tokens of a tree begin with: nothing where it is empty, and else no end
  abbrev Head : Instrs → List Tok → Type 0
  Head Finish ts = ts ≡ []
  Head _ ts = (v : Tok) × (vs : List Tok) × (ts ≡ v ∷ vs) × (v ≢ Close)

  -- the tokens that bytes spell of a tree, where these blocks are open before them and behind them
  record Told (t : Instrs) (bytes : List ℕ) (ks : List Bool) : Type 0 where
    toks : List Tok
    spelled : SpellsToks profile ks toks bytes ks
    counts : (us : List Tok) → length (counted (toks ++ us)) ≡ count t + length (counted us)
    head : Head t toks

  after_one : (t : Tok) (u : List Tok) → ((skip : ℕ) → t ≡ Otherwise skip → ⊥) → length (counted (t ∷ u)) ≡ suc (length (counted u))
  after_one (Otherwise skip) u h = absurd (h skip refl)
  after_one t u h = refl

  -- an else whose branch has a token is counted
  not_dropped : (v : Tok) (ts : List Tok) → v ≢ Close → length (counted (Otherwise 0 ∷ v ∷ ts)) ≡ suc (length (counted (v ∷ ts)))
  not_dropped Close ts other = absurd (other refl)
  not_dropped v ts other = refl

  full_else : (v : Tok) (vs ts us : List Tok) (n : ℕ) → ts ≡ v ∷ vs → v ≢ Close
      → ((xs : List Tok) → length (counted (ts ++ xs)) ≡ n + length (counted xs))
      → length (counted (Otherwise 0 ∷ (ts ++ Close ∷ us))) ≡ 1 + n + suc (length (counted us))
  full_else v vs ts us n is other counts =
      let begins : ts ++ Close ∷ us ≡ v ∷ (vs ++ Close ∷ us) = ap (λ (x : List Tok). x ++ Close ∷ us) is in
      let one : length (counted (Otherwise 0 ∷ (ts ++ Close ∷ us))) ≡ suc (length (counted (ts ++ Close ∷ us))) =
      rw begins (not_dropped v (vs ++ Close ∷ us) other) in
      omega (arith, one, counts (Close ∷ us))

  -- an else, its branch and its end
  else_counts : (second : Instrs) (ts us : List Tok) → Head second ts → ((xs : List Tok) → length (counted (ts ++ xs)) ≡ count second + length (counted xs))
      → length (counted (Otherwise 0 ∷ (ts ++ Close ∷ us))) ≡ else_count (is_finish second) + count second + suc (length (counted us))
  else_counts Finish ts us head counts =
      let none : length (counted (Otherwise 0 ∷ (ts ++ Close ∷ us))) ≡ suc (length (counted us)) =
      ap (λ (x : List Tok). length (counted (Otherwise 0 ∷ (x ++ Close ∷ us)))) head in
      omega (arith, none)
  else_counts (One p rest) ts us head counts = full_else head.0 head.1 ts us (count (One p rest)) head.2 head.3 counts
  else_counts (Block kind ty inside rest) ts us head counts = full_else head.0 head.1 ts us (count (Block kind ty inside rest)) head.2 head.3 counts
  else_counts (If ty first second rest) ts us head counts = full_else head.0 head.1 ts us (count (If ty first second rest)) head.2 head.3 counts

  -- one list behind another, and then more
  regrouped : (a b us : List Tok) (t : Tok) → length (counted ((a ++ t ∷ b) ++ us)) ≡ length (counted (a ++ t ∷ (b ++ us)))
  regrouped a b us t = ap (λ (x : List Tok). length (counted x)) (append_assoc a (t ∷ b) us)

  tree_toks : (t : Instrs) (bytes : List ℕ) (ks : List Bool) → Spells profile t bytes → length ks + deep t ≤ depth_limit → Told t bytes ks
  tree_toks Finish bytes ks s le = record { toks = []; spelled = (s, refl); counts = λ us. omega arith; head = refl }
  tree_toks (One p rest) bytes ks s le =
      let more = tree_toks rest s.1 ks s.3 le in
      record {
        toks = Simple p ∷ more.toks;
        spelled =
            subst (λ (b : List ℕ). SpellsToks profile ks (Simple p ∷ more.toks) b ks) (sym s.4)
            (one_before ks ks ks (Simple p) more.toks s.0 s.1 s.2 tt refl more.spelled);
        counts = λ us. omega (arith, more.counts us, after_one (Simple p) (more.toks ++ us) (λ skip e. absurd cc));
        head = (Simple p, more.toks, refl, λ e. absurd cc);
      }
  tree_toks (Block kind ty inside rest) bytes ks s le =
      let inner = tree_toks inside s.1 (false ∷ ks) s.4 (omega (arith, le)) in
      let others = tree_toks rest s.2 ks s.5 (omega (arith, le)) in
      let opener = Open kind ty 0 in
      let tail = Close ∷ others.toks in
      let closed : SpellsToks profile (false ∷ ks) tail (0x0B ∷ s.2) ks =
      one_before (false ∷ ks) ks ks Close others.toks (0x0B ∷ []) s.2 refl tt refl others.spelled in
      let within = joined (false ∷ ks) (false ∷ ks) ks inner.toks tail s.1 (0x0B ∷ s.2) inner.spelled closed in
      let may : length ks < depth_limit = omega (arith, le) in
      let whole : SpellsToks profile ks (opener ∷ (inner.toks ++ tail)) ((kind_byte kind ∷ s.0) ++ (s.1 ++ 0x0B ∷ s.2)) ks =
      one_before ks (false ∷ ks) ks opener (inner.toks ++ tail) (kind_byte kind ∷ s.0) (s.1 ++ 0x0B ∷ s.2) (refl, s.0, s.3, refl) may refl within in
      record {
        toks = opener ∷ (inner.toks ++ tail);
        spelled = subst (λ (b : List ℕ). SpellsToks profile ks (opener ∷ (inner.toks ++ tail)) b ks) (sym s.6) whole;
        counts = λ us. omega (
          arith,
          after_one opener ((inner.toks ++ tail) ++ us) (λ skip e. absurd cc),
          regrouped inner.toks others.toks us Close,
          inner.counts (Close ∷ (others.toks ++ us)),
          after_one Close (others.toks ++ us) (λ skip e. absurd cc),
          others.counts us,
        );
        head = (opener, inner.toks ++ tail, refl, λ e. absurd cc);
      }
  tree_toks (If ty first second rest) bytes ks (a, c, d, e, typed, one_spelled, inl p, rest_spelled, parts) le =
      let one = tree_toks first c (true ∷ ks) one_spelled (omega (arith, le)) in
      let others = tree_toks rest e ks rest_spelled (omega (arith, le)) in
      let opener = OpenIf ty 0 in
      let tail = Close ∷ others.toks in
      let closed : SpellsToks profile (true ∷ ks) tail (0x0B ∷ e) ks =
      one_before (true ∷ ks) ks ks Close others.toks (0x0B ∷ []) e refl tt refl others.spelled in
      let within = joined (true ∷ ks) (true ∷ ks) ks one.toks tail c (0x0B ∷ e) one.spelled closed in
      let may : length ks < depth_limit = omega (arith, le) in
      let whole : SpellsToks profile ks (opener ∷ (one.toks ++ tail)) ((0x04 ∷ a) ++ (c ++ 0x0B ∷ e)) ks =
      one_before ks (true ∷ ks) ks opener (one.toks ++ tail) (0x04 ∷ a) (c ++ 0x0B ∷ e) (refl, a, typed, refl) may refl within in
      let same : (0x04 ∷ a) ++ (c ++ 0x0B ∷ e) ≡ bytes = sym (parts ∙ ap (λ (x : List ℕ). 0x04 ∷ (a ++ (c ++ (x ++ 0x0B ∷ e)))) p.1) in
      let no_else : else_count (is_finish second) ≡ 0 = ap (λ (t : Instrs). else_count (is_finish t)) p.0 in
      let no_second : count second ≡ 0 = ap count p.0 in
      record {
        toks = opener ∷ (one.toks ++ tail);
        spelled = subst (λ (b : List ℕ). SpellsToks profile ks (opener ∷ (one.toks ++ tail)) b ks) same whole;
        counts = λ us. omega (
          arith,
          after_one opener ((one.toks ++ tail) ++ us) (λ skip e. absurd cc),
          regrouped one.toks others.toks us Close,
          one.counts (Close ∷ (others.toks ++ us)),
          after_one Close (others.toks ++ us) (λ skip e. absurd cc),
          others.counts us,
          no_else,
          no_second,
        );
        head = (opener, one.toks ++ tail, refl, λ e. absurd cc);
      }
  tree_toks (If ty first second rest) bytes ks (a, c, d, e, typed, one_spelled, inr p, rest_spelled, parts) le =
      let f = p.0 in
      let one = tree_toks first c (true ∷ ks) one_spelled (omega (arith, le)) in
      let two = tree_toks second f (false ∷ ks) p.1 (omega (arith, le)) in
      let others = tree_toks rest e ks rest_spelled (omega (arith, le)) in
      let opener = OpenIf ty 0 in
      let tail = Close ∷ others.toks in
      let branch = Otherwise 0 ∷ (two.toks ++ tail) in
      let closed : SpellsToks profile (false ∷ ks) tail (0x0B ∷ e) ks =
      one_before (false ∷ ks) ks ks Close others.toks (0x0B ∷ []) e refl tt refl others.spelled in
      let other : SpellsToks profile (true ∷ ks) branch ((0x05 ∷ []) ++ (f ++ 0x0B ∷ e)) ks =
      one_before (true ∷ ks) (false ∷ ks) ks (Otherwise 0) (two.toks ++ tail) (0x05 ∷ []) (f ++ 0x0B ∷ e) (refl, refl) refl refl
      (joined (false ∷ ks) (false ∷ ks) ks two.toks tail f (0x0B ∷ e) two.spelled closed) in
      let within = joined (true ∷ ks) (true ∷ ks) ks one.toks branch c (0x05 ∷ (f ++ 0x0B ∷ e)) one.spelled other in
      let may : length ks < depth_limit = omega (arith, le) in
      let whole : SpellsToks profile ks (opener ∷ (one.toks ++ branch)) ((0x04 ∷ a) ++ (c ++ 0x05 ∷ (f ++ 0x0B ∷ e))) ks =
      one_before ks (true ∷ ks) ks opener (one.toks ++ branch) (0x04 ∷ a) (c ++ 0x05 ∷ (f ++ 0x0B ∷ e)) (refl, a, typed, refl) may refl within in
      let same : (0x04 ∷ a) ++ (c ++ 0x05 ∷ (f ++ 0x0B ∷ e)) ≡ bytes = sym (parts ∙ ap (λ (x : List ℕ). 0x04 ∷ (a ++ (c ++ (x ++ 0x0B ∷ e)))) p.2) in
      record {
        toks = opener ∷ (one.toks ++ branch);
        spelled = subst (λ (b : List ℕ). SpellsToks profile ks (opener ∷ (one.toks ++ branch)) b ks) same whole;
        counts = λ us. omega (
          arith,
          after_one opener ((one.toks ++ branch) ++ us) (λ skip e. absurd cc),
          regrouped one.toks (two.toks ++ tail) us (Otherwise 0),
          one.counts (Otherwise 0 ∷ ((two.toks ++ tail) ++ us)),
          ap (λ (x : List Tok). length (counted (Otherwise 0 ∷ x))) (append_assoc two.toks tail us),
          else_counts second two.toks (others.toks ++ us) two.head two.counts,
          others.counts us,
        );
        head = (opener, one.toks ++ branch, refl, λ e. absurd cc);
      }

  -- ---- the token of a number

  cases_zero : (n : ℕ) → (n ≡ 0) ⊎ (0 < n)
  cases_zero zero = inl refl
  cases_zero (suc n) = inr (omega arith)

  end_first : (rest : List ℕ) → is_empty_else (0x0B ∷ rest) ≡ false
  end_first [] = refl
  end_first (y ∷ rest) = refl

  nth_token : (ts : List Tok) (ks ls : List Bool) (n end : ℕ) (bytes b rest : List ℕ) → IsBytes bytes → bytes ≡ b ++ 0x0B ∷ rest
      → SpellsToks profile ks ts b ls → n < length (counted (ts ++ Close ∷ [])) → (t : Tok) × (s : Span) × TokenFrom profile ks n end bytes t s
  nth_token [] ks ls n end bytes b rest fits parts spelled lt =
      let whole : bytes ≡ 0x0B ∷ rest = parts ∙ ap (λ (x : List ℕ). x ++ 0x0B ∷ rest) spelled.0 in
      let read = ap (token_at profile ks end) whole ∙ close_read profile ks end rest in
      let none : n ≡ 0 = omega (arith, lt) in
      (Close, at_span end bytes, first_token profile ks n end bytes rest Close (at_span end bytes) fits read (ap is_empty_else whole ∙ end_first rest) none refl)
  nth_token (u ∷ us) ks ls n end bytes b rest fits parts spelled lt =
      let after_u = spelled.1 ++ 0x0B ∷ rest in
      let next = spelled.2 in
      let whole : bytes ≡ spelled.0 ++ after_u = parts ∙ ap (λ (x : List ℕ). x ++ 0x0B ∷ rest) spelled.3 ∙ append_assoc spelled.0 spelled.1 (0x0B ∷ rest) in
      let read : token_at profile ks end bytes ≡ read_to u after_u =
      ap (token_at profile ks end) whole ∙ token_again profile ks end u spelled.0 after_u spelled.4 spelled.5 in
      let after_fits : IsBytes after_u = IsBytes-after spelled.0 after_u bytes whole fits in
      let head = head_read profile next ls end after_u spelled.1 (0x0B ∷ []) rest us Close refl spelled.7 refl tt in
      let drop = two_read profile ks next end bytes after_u head.2 u head.0 fits after_fits read head.4 in
      elim (cases_Bool (is_empty_else bytes)) [
        | inl p ↦
            let step = count_step u head.0 (us ++ Close ∷ []) head.1 true head.3 (drop ∙ p) in
            let h = nth_token us next ls n end after_u spelled.1 rest after_fits refl spelled.7 (omega (arith, lt, step)) in
            (h.0, h.1, behind_token profile ks next n n end bytes after_u u h.0 h.1 true fits read spelled.6 p refl h.2)
        | inr p ↦
            let step = count_step u head.0 (us ++ Close ∷ []) head.1 false head.3 (drop ∙ p) in
            elim (cases_zero n) [
              | inl none ↦ (u, at_span end bytes, first_token profile ks n end bytes after_u u (at_span end bytes) fits read p none refl)
              | inr some ↦
                  let fewer : n - 1 < length (counted (us ++ Close ∷ [])) = omega (arith, lt, step, some) in
                  let h = nth_token us next ls (n - 1) end after_u spelled.1 rest after_fits refl spelled.7 fewer in
                  let counts : suc n ≡ suc (suc (n - 1)) = omega (arith, some) in
                  (h.0, h.1, behind_token profile ks next (n - 1) n end bytes after_u u h.0 h.1 false fits read spelled.6 p counts h.2)
            ]
      ]

  -- each token of an expression stands somewhere in what begins with it
  pub expr_token : (t : Instrs) (bytes more : List ℕ) (n : ℕ) (code : Span) → SpellsExpr profile t bytes → code.rest ≡ bytes ++ more → IsBytes code.rest
      → n < suc (count t) → (tok : Tok) × (s : Span) × IsTokenAt profile code n tok s
  expr_token t bytes more n code s parts fits lt =
      let told = tree_toks t s.front [] s.spelled (omega (arith, s.shallow)) in
      let whole : code.rest ≡ s.front ++ 0x0B ∷ more = parts ∙ ap (λ (x : List ℕ). x ++ more) s.whole ∙ append_assoc s.front (0x0B ∷ []) more in
      let many : n < length (counted (told.toks ++ Close ∷ [])) = omega (arith, lt, told.counts (Close ∷ [])) in
      let h = nth_token told.toks [] [] n code.end code.rest s.front more fits whole told.spelled many in
      (h.0, h.1, token_is profile n code h.1 h.0 h.2)
