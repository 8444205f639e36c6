-- Things that are read one after the other and let go, as a loop reads them.
use Rattle.std.proofs.Common.{◌≡◌, ℕ, suc, ◌+◌, ◌-◌, ◌<◌, ◌≤◌, List, ◌∷◌, Option, Some, Result, Ok, Err, refl, sym, ap, ◌∙◌, arith}
use Rattle.std.proofs.lemmas.Bool.{lt-ltb}
use Rattle.wk_bytes.specs.declared.fault.ReadFault.{ReadFault}
use Rattle.wk_bytes.specs.Leb.{◌>>=◌}
use Rattle.wk_bytes.specs.Span.{Span}
use Rattle.wk_body.specs.declared.types.Profile.{Profile}
use Rattle.wk_body.specs.Vectors.{items_at}
use Rattle.wk_module.specs.Formats.{Reader, made_at}
use Rattle.wk_place.specs.Seeking.{all_passed, item_passed, count_at, seek_at}

module _ {A : Type 0} (read : Reader A) where
  abbrev unit_of : List A × List ℕ → Result (Unit {0} × List ℕ) ReadFault
  unit_of xs = Ok (tt, xs.1)

  abbrev one_before : A → Result (List A × List ℕ) ReadFault → Result (List A × List ℕ) ReadFault
  one_before x r = r >>= λ xs. Ok (x ∷ xs.0, xs.1)

  let_go : (x : A) (r : Result (List A × List ℕ) ReadFault)
      → (one_before x r >>= unit_of) ≡ (r >>= unit_of)
  let_go x (Ok xs) = refl
  let_go x (Err e) = refl

  -- one more
  pub passes : (count i end now : ℕ) (bytes after : List ℕ) (x : A) (whole : Result (Unit {0} × List ℕ) ReadFault) → i < count
      → read end bytes ≡ Ok (x, after) → now ≡ end → all_passed read (count - i) end bytes ≡ whole → all_passed read (count - (i + 1)) now after ≡ whole
  unfolding made_at
  passes count i end now bytes after x whole lt is same before =
      let k : count - i ≡ suc (count - (i + 1)) = omega arith in
      rw same (sym (let_go x (items_at read (count - (i + 1)) end after)) ∙ (rw (k, is) at before))

  -- one that cannot be read
  pub stops : (count i end : ℕ) (bytes : List ℕ) (e : ReadFault) (whole : Result (Unit {0} × List ℕ) ReadFault) → i < count → read end bytes ≡ Err e
      → all_passed read (count - i) end bytes ≡ whole → whole ≡ Err e
  unfolding made_at
  stops count i end bytes e whole lt bad before =
      let k : count - i ≡ suc (count - (i + 1)) = omega arith in
      sym (rw (k, bad) at before)

  -- behind the last
  pub ends : (count i end : ℕ) (bytes : List ℕ) (whole : Result (Unit {0} × List ℕ) ReadFault) → count ≤ i
      → all_passed read (count - i) end bytes ≡ whole → whole ≡ Ok (tt, bytes)
  unfolding made_at
  ends count i end bytes whole past before =
      let k : count - i ≡ 0 = omega arith in
      sym (rw k at before)

-- ---- up to an item

abbrev some_at : List ℕ → ℕ → Result (Option Span) ReadFault
some_at rest end = Ok (Some (record { rest = rest; end = end }))

seeks_from : (profile : Profile) (id item n end : ℕ) (bytes counted rest : List ℕ) → count_at id end bytes ≡ Ok (n, counted) → item < n
    → all_passed (item_passed profile id) item end counted ≡ Ok (tt, rest) → seek_at profile id item end bytes ≡ some_at rest end
unfolding seek_at
seeks_from profile id item n end bytes counted rest is lt reached = rw (is, lt-ltb item n lt, reached) refl

pub seeks : (profile : Profile) (id item n end : ℕ) (bytes : List ℕ) (at counted to : Span) → at ≡ record { rest = bytes; end = end }
    → count_at id at.end at.rest ≡ Ok (n, counted.rest) → counted.end ≡ at.end → item < n
    → all_passed (item_passed profile id) item counted.end counted.rest ≡ Ok (tt, to.rest) → to.end ≡ counted.end
    → seek_at profile id item end bytes ≡ Ok (Some to)
seeks profile id item n end bytes at counted to at_is is same lt reached same' =
    let ends : counted.end ≡ end = same ∙ ap (λ (s : Span). s.end) at_is in
    seeks_from profile id item n end bytes counted.rest to.rest (ap (λ (s : Span). count_at id s.end s.rest) (sym at_is) ∙ is) lt
    (ap (λ (k : ℕ). all_passed (item_passed profile id) item k counted.rest) (sym ends) ∙ reached)
    ∙ ap (some_at to.rest) (sym (same' ∙ ends))
