-- Codes that are read apart from the other lists of their module.
use Rattle.std.proofs.Common.{◌≡◌, ◌≢◌, ℕ, zero, suc, ◌-◌, ◌≤◌, max, List, [], ◌∷◌, length, eqb, cond, true, Option, Some, None, Result, Ok, Err, refl, sym, ap}
use Rattle.std.proofs.Common.{◌∙◌, ◌⊎◌, inl, inr, arith}
use Rattle.std.proofs.lemmas.Bool.{cases_lt, lt-ltb, eq-eqb, ne_eqb, eqb-true}
use Rattle.wk_bytes.specs.declared.fault.ReadKind.TheVariants.{LongInput, FuncCodeCount}
use Rattle.wk_bytes.specs.declared.fault.ReadFault.{ReadFault}
use Rattle.wk_bytes.specs.Leb.{◌>>=◌}
use Rattle.wk_bytes.specs.LebLaws.{bind_ok, chosen, done}
use Rattle.wk_bytes.specs.SpanLaws.{ok_is}
use Rattle.wk_bytes.specs.Span.{Span, u32_at, name_at, fault}
use Rattle.wk_bytes.specs.Frames.{Section, MayCome, limit, header_at, sections_of}
use Rattle.wk_body.specs.declared.types.Profile.{Profile}
use Rattle.wk_body.specs.Bodies.{BodyOf}
use Rattle.wk_body.specs.Reading.{all_body_at}
use Rattle.wk_body.specs.Vectors.{items_at}
use Rattle.wk_module.specs.declared.types.DataSeg.{DataSeg}
use Rattle.wk_module.specs.declared.types.Parts.{Parts}
use Rattle.wk_module.specs.Formats.{bytes_at, taking_all, all_at}
use Rattle.wk_module.specs.Items.{code_at}
use Rattle.wk_module.specs.Reading.{section_end, module_at}
use Rattle.wk_module.specs.Sections.{SectionLists, SectionId, DataSection, of_number, with_contents, no_lists, codes_at, contents_at}
use Rattle.wk_module.specs.Shape.{lists_of}
use Rattle.wk_module.specs.ListReading.{listed_by, with_listed, lists_read, codes_of, Rise, joined_lists, AreListsOfModule}

err_ok : (q : SectionLists) (e : ReadFault) → (Err e ≡ done q) → ⊥
err_ok q e is = absurd cc

abbrev pub with_codes : List BodyOf → SectionLists → SectionLists
with_codes bodies l = record l { codes = bodies }

-- ---- the sections behind the code section

abbrev IsBehind : Option SectionId → Type 0
IsBehind k = (k ≡ None) ⊎ (k ≡ Some DataSection)

behind_is : (last id : ℕ) → 10 ≤ last → MayCome last id → IsBehind (of_number id)
behind_is last id le (inl zero_is) = rw zero_is (inl refl)
behind_is last id le (inr above) = let is : id ≡ 11 = omega (arith, above.0, above.1, le) in rw is (inr refl)

aside_none : {A : Type 0} (bodies : List BodyOf) (l : SectionLists) (r : Result A ReadFault)
    → (r >>= λ x. Ok (with_codes bodies l)) ≡ ((r >>= λ x. Ok l) >>= λ q. Ok (with_codes bodies q))
aside_none bodies l (Ok x) = refl
aside_none bodies l (Err e) = refl

aside_data : (bodies : List BodyOf) (l : SectionLists) (r : Result (List DataSeg) ReadFault)
    → (r >>= λ x. Ok (with_contents DataSection x (with_codes bodies l))) ≡ ((r >>= λ x. Ok (with_contents DataSection x l)) >>= λ q. Ok (with_codes bodies q))
aside_data bodies l (Ok x) = refl
aside_data bodies l (Err e) = refl

module _ (profile : Profile) where
  aside_by : (bodies : List BodyOf) (l : SectionLists) (s : Section) (k : Option SectionId) → IsBehind k
      → listed_by profile (with_codes bodies l) s k ≡ (listed_by profile l s k >>= λ q. Ok (with_codes bodies q))
  unfolding listed_by
  aside_by bodies l s k (inl is) = rw is (aside_none bodies l (name_at (section_end s) s.contents))
  aside_by bodies l s k (inr is) = rw is (aside_data bodies l (all_at (contents_at profile (length l.funcs) DataSection) (section_end s) s.contents))

  front_by : (l q : SectionLists) (s : Section) (k : Option SectionId) → IsBehind k → listed_by profile l s k ≡ Ok q
      → (x : List DataSeg) × (q ≡ record l { datas = x })
  unfolding listed_by
  front_by l q s k (inl is) e =
      let a = bind_ok (name_at (section_end s) s.contents) (λ name. done l) q (rw is at e) in
      (l.datas, sym (ok_is l q a.2))
  front_by l q s k (inr is) e =
      let a = bind_ok (all_at (contents_at profile (length l.funcs) DataSection) (section_end s) s.contents)
      (λ x. done (with_contents DataSection x l)) q (rw is at e) in
      (a.0, sym (ok_is (with_contents DataSection a.0 l) q a.2))

  aside_after : (bodies : List BodyOf) (items : List (Result Section ReadFault)) (r : Result SectionLists ReadFault)
      → ((q : SectionLists) → lists_read profile (with_codes bodies q) items ≡ (lists_read profile q items >>= λ p. Ok (with_codes bodies p)))
      → ((r >>= λ q. Ok (with_codes bodies q)) >>= λ q. lists_read profile q items)
      ≡ ((r >>= λ q. lists_read profile q items) >>= λ q. Ok (with_codes bodies q))
  aside_after bodies items (Ok q) more = more q
  aside_after bodies items (Err e) more = refl

  -- they are read in the same way, whatever the codes are
  lists_aside : (bodies : List BodyOf) (l : SectionLists) (last : ℕ) (items : List (Result Section ReadFault)) → 10 ≤ last → Rise last items
      → lists_read profile (with_codes bodies l) items ≡ (lists_read profile l items >>= λ q. Ok (with_codes bodies q))
  unfolding lists_read
  lists_aside bodies l last [] le rise = refl
  lists_aside bodies l last (Err e ∷ items) le rise = refl
  lists_aside bodies l last (Ok s ∷ items) le rise =
      ap (λ (r : Result SectionLists ReadFault). r >>= λ q. lists_read profile q items) (aside_by bodies l s (of_number s.id) (behind_is last s.id le rise.0))
      ∙ aside_after bodies items (with_listed profile l s) (λ q. lists_aside bodies q (max last s.id) items (omega (arith, le)) rise.1)

  -- and leave all lists but the data segments
  lists_front : (l q : SectionLists) (last : ℕ) (items : List (Result Section ReadFault)) → 10 ≤ last → Rise last items
      → lists_read profile l items ≡ Ok q → (x : List DataSeg) × (q ≡ record l { datas = x })
  unfolding lists_read
  lists_front l q last [] le rise e = (l.datas, sym (ok_is l q e))
  lists_front l q last (Err f ∷ items) le rise e = absurd cc
  lists_front l q last (Ok s ∷ items) le rise e =
      let a = bind_ok (with_listed profile l s) (λ p. lists_read profile p items) q e in
      let first = front_by l a.0 s (of_number s.id) (behind_is last s.id le rise.0) a.1 in
      let rest = lists_front a.0 q (max last s.id) items (omega (arith, le)) rise.1 a.2 in
      (rest.0, rest.1 ∙ ap (λ (p : SectionLists). record p { datas = rest.0 }) first.1)

-- ---- one code

-- a code that is taken by its size and read
pub code_by : (profile : Profile) (end : ℕ) (bytes after : List ℕ) (code : Span) (body : BodyOf) → bytes_at end bytes ≡ Ok (code.rest, after)
    → code.end ≡ end - length after → all_body_at profile code.end code.rest ≡ Ok body → code_at profile end bytes ≡ Ok (body, after)
unfolding code_at
code_by profile end bytes after code body taken place read = rw (taken, ← place, read) refl

-- one that cannot be taken
pub code_not_taken : (profile : Profile) (end : ℕ) (bytes : List ℕ) (e : ReadFault) → bytes_at end bytes ≡ Err e → code_at profile end bytes ≡ Err e
unfolding code_at
code_not_taken profile end bytes e bad = rw bad refl

-- and one that is no body
pub code_not_read : (profile : Profile) (end : ℕ) (bytes after : List ℕ) (code : Span) (e : ReadFault) → bytes_at end bytes ≡ Ok (code.rest, after)
    → code.end ≡ end - length after → all_body_at profile code.end code.rest ≡ Err e → code_at profile end bytes ≡ Err e
unfolding code_at
code_not_read profile end bytes after code e taken place bad = rw (taken, ← place, bad) refl

-- ---- as many codes as functions

items_many : {A : Type 0} (read : ℕ → List ℕ → Result (A × List ℕ) ReadFault) (n end : ℕ) (bytes : List ℕ) (x : List A × List ℕ)
    → items_at read n end bytes ≡ Ok x → length x.0 ≡ n
items_many {A = A} read zero end bytes x e = sym (ap (λ (y : List A × List ℕ). length y.0) (ok_is _ _ e))
items_many {A = A} read (suc n) end bytes x e =
    let a = bind_ok (read end bytes) (λ y. items_at read n end y.1 >>= λ ys. done (y.0 ∷ ys.0, ys.1)) x e in
    let c = bind_ok (items_at read n end a.0.1) (λ ys. done (a.0.0 ∷ ys.0, ys.1)) x a.2 in
    sym (ap (λ (y : List A × List ℕ). length y.0) (ok_is _ _ c.2)) ∙ ap suc (items_many read n end a.0.1 c.0 c.1)

taken_is : {A : Type 0} (end : ℕ) (y : A × List ℕ) (x : A) → taking_all end y ≡ Ok x → y.0 ≡ x
taken_is end (y, []) x e = ok_is y x e
taken_is end (y, z ∷ rest) x e = absurd cc

-- as many codes are read as functions were declared
pub codes_many : (profile : Profile) (funcs end : ℕ) (bytes : List ℕ) (bodies : List BodyOf) → all_at (codes_at profile funcs) end bytes ≡ Ok bodies
    → length bodies ≡ funcs
unfolding codes_at
codes_many profile funcs end bytes bodies e =
    let a = bind_ok (codes_at profile funcs end bytes) (taking_all end) bodies e in
    let n = bind_ok (u32_at end bytes) (λ n. cond (eqb n.0 funcs) (items_at (code_at profile) n.0 end n.1) (Err (fault FuncCodeCount end bytes))) a.0 a.1 in
    elim (chosen (eqb n.0.0 funcs) (items_at (code_at profile) n.0.0 end n.0.1) (Err (fault FuncCodeCount end bytes)) (Ok a.0) n.2) [
      | inl h ↦ ap (λ (bodies' : List BodyOf). length bodies') (sym (taken_is end a.0 bodies a.2))
          ∙ items_many (code_at profile) n.0.0 end n.0.1 a.0 h.1 ∙ eqb-true n.0.0 funcs h.0
      | inr h ↦ absurd cc
    ]

joined_same : (end : ℕ) (l : SectionLists) → length l.funcs ≡ length l.codes → joined_lists end l ≡ Ok l
joined_same end l same = rw (eq-eqb (length l.funcs) (length l.codes) same) refl

lacking : (end : ℕ) (l : SectionLists) (funcs : List ℕ) → l.funcs ≡ funcs → l.codes ≡ [] → funcs ≢ []
    → joined_lists end l ≡ Err (record { kind = FuncCodeCount; at = end })
lacking end l [] is none some = absurd (some refl)
lacking end l (t ∷ types) is none some = rw (is, none, ne_eqb (suc (length types)) 0 (omega arith)) refl

-- what sections are read of is no longer than the limit
pub lists_few : (profile : Profile) (l q : SectionLists) (b : List ℕ) → lists_read profile l (sections_of b) ≡ Ok q → length b ≤ limit
unfolding header_at lists_read
lists_few profile l q b read =
    elim (cases_lt limit (length b)) [
      | inl lt ↦
          let none : lists_read profile l (sections_of b) ≡ Err (record { kind = LongInput; at = limit }) = rw (lt-ltb limit (length b) lt) refl in
          absurd (err_ok q (record { kind = LongInput; at = limit }) (sym none ∙ read))
      | inr le ↦ le
    ]

pub no_items : {A : Type 0} (xs : List A) → eqb (length xs) 0 ≡ true → xs ≡ []
no_items [] is = refl
no_items (x ∷ xs) is = absurd (omega (arith, eqb-true (suc (length xs)) 0 is))

-- ---- the module, by the lists that are read

-- the module that is read has these lists
pub record HasLists (r : Result Parts ReadFault) (l : SectionLists) : Type 0 where
  pub module_is : Parts
  pub read : r ≡ Ok module_is
  pub lists_are : lists_of module_is ≡ l

has_by : (r : Result Parts ReadFault) (l : SectionLists) → (r >>= λ m. Ok (lists_of m)) ≡ Ok l → HasLists r l
has_by (Ok m) l e = record { module_is = m; read = refl; lists_are = ok_is (lists_of m) l e }
has_by (Err f) l e = absurd cc

fails_by : (r : Result Parts ReadFault) (e : ReadFault) → (r >>= λ m. Ok (lists_of m)) ≡ Err e → r ≡ Err e
fails_by (Ok m) e h = absurd cc
fails_by (Err d) e h = cc

abbrev pub read_lists : Profile → List ℕ → Result SectionLists ReadFault
read_lists profile b = lists_read profile no_lists (sections_of b)

module _ (profile : Profile) (b : List ℕ) (lists : AreListsOfModule profile b) where
  abbrev HasRead : SectionLists → Type 0
  HasRead l = HasLists (module_at profile b) l

  has_read : (l : SectionLists) → (read_lists profile b >>= joined_lists (length b)) ≡ Ok l → HasRead l
  has_read l read = has_by (module_at profile b) l (lists ∙ read)

  pub lists_fail : (e : ReadFault) → read_lists profile b ≡ Err e → module_at profile b ≡ Err e
  lists_fail e bad = fails_by (module_at profile b) e (lists ∙ rw bad refl)

  -- ---- without a code section

  pub read_without_code : (l : SectionLists) → l.codes ≡ [] → l.funcs ≡ [] → read_lists profile b ≡ Ok l → HasRead l
  read_without_code l none no_funcs read =
      let joined : joined_lists (length b) l ≡ Ok l = rw (none, no_funcs) refl in
      has_read l (rw read joined)

  pub lacks_code : (l : SectionLists) → l.codes ≡ [] → l.funcs ≢ [] → read_lists profile b ≡ Ok l
      → module_at profile b ≡ Err (record { kind = FuncCodeCount; at = length b })
  lacks_code l none some read = fails_by (module_at profile b) (record { kind = FuncCodeCount; at = length b })
      (lists ∙ rw read (lacking (length b) l l.funcs refl none some))

  -- ---- with a code section

  module _ (l : SectionLists) (s : Section) (behind : List (Result Section ReadFault)) (code_is : s.id ≡ 10) (none : l.codes ≡ [])
      (rise : Rise 10 behind) (read : read_lists profile b ≡ lists_read profile l (Ok s ∷ behind)) where
    read_codes : (r : Result (List BodyOf) ReadFault) → codes_of profile (length l.funcs) s ≡ r
        → read_lists profile b ≡ (r >>= λ bodies. lists_read profile (with_codes bodies l) behind)
    unfolding lists_read listed_by
    read_codes (Ok bodies) codes = read ∙ rw (code_is, codes) refl
    read_codes (Err e) codes = read ∙ rw (code_is, codes) refl

    pub codes_fail : (e : ReadFault) → codes_of profile (length l.funcs) s ≡ Err e → module_at profile b ≡ Err e
    codes_fail e bad = lists_fail e (read_codes (Err e) bad)

    read_behind : (bodies : List BodyOf) → codes_of profile (length l.funcs) s ≡ Ok bodies
        → read_lists profile b ≡ (lists_read profile l behind >>= λ q. Ok (with_codes bodies q))
    read_behind bodies codes = read_codes (Ok bodies) codes ∙ lists_aside profile bodies l 10 behind (omega arith) rise

    pub behind_fails : (bodies : List BodyOf) (e : ReadFault) → codes_of profile (length l.funcs) s ≡ Ok bodies → lists_read profile l behind ≡ Err e
        → module_at profile b ≡ Err e
    behind_fails bodies e codes bad = lists_fail e (read_behind bodies codes ∙ rw bad refl)

    -- the sections behind leave all lists but the data segments
    pub front_stays : (q : SectionLists) → lists_read profile l behind ≡ Ok q → (x : List DataSeg) × (q ≡ record l { datas = x })
    front_stays q ends = lists_front profile l q 10 behind (omega arith) rise ends

    pub read_with_code : (q : SectionLists) (bodies : List BodyOf) → codes_of profile (length l.funcs) s ≡ Ok bodies
        → lists_read profile l behind ≡ Ok q → HasRead (with_codes bodies q)
    read_with_code q bodies codes ends =
        let front = front_stays q ends in
        let many : length bodies ≡ length l.funcs = codes_many profile (length l.funcs) (section_end s) s.contents bodies codes in
        let same : length q.funcs ≡ length bodies = rw front.1 (sym many) in
        has_read (with_codes bodies q) (rw (read_behind bodies codes, ends) (joined_same (length b) (with_codes bodies q) same))
