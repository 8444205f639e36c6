-- The formats of integers, names and bytes, and of things spelled one behind the other.
use Rattle.std.proofs.Common.{◌≡◌, ℕ, zero, suc, ◌^◌, ◌<◌, ◌≤◌, Bool, true, false, cond, eqb, List, [], ◌∷◌, ◌++◌, length, Option, Some, None, Result, Ok, Err}
use Rattle.std.proofs.Common.{refl, sym, ap, subst, ◌∙◌, inl, inr, append_assoc, length-append, arith}
use Rattle.std.proofs.lemmas.Bool.{eqb-true, eq-eqb}
use Rattle.std.specs.List.{flat_map, AllByRecursion}
use Rattle.std.specs.Str.{IsUtf8}
use Rattle.wk_bytes.specs.declared.fault.ReadKind.TheVariants.{BadByte}
use Rattle.wk_bytes.specs.declared.fault.ReadFault.{ReadFault}
use Rattle.wk_bytes.specs.Leb.{◌>>=◌, or_fail, SpellsU}
use Rattle.wk_bytes.specs.LebLaws.{IsBytes, bind_ok, chosen, or_fail_ok, SpellsU-below, IsBytes-after, IsBytes-before}
use Rattle.wk_bytes.specs.Short.{short}
use Rattle.wk_bytes.specs.ShortLaws.{short-some, short-spells, short-least}
use Rattle.wk_bytes.specs.Span.{fault, byte_at, piece_at, u32_at, name_at}
use Rattle.wk_bytes.specs.SpanLaws.{ok_is, byte_at-takes, piece_at-takes, piece_at-again, u32_at-counts}
use Rattle.wk_bytes.specs.Pieces.{SpellsName}
use Rattle.wk_bytes.specs.PieceLaws.{u32_at-found, u32_at-again, name_at-found, name_at-again}
use Rattle.wk_bytes.specs.Stands.{Counts, EndsWithSize, Stands}
use Rattle.wk_bytes.specs.StandsLaws.{ReadsFront, ReadsFront-done, ReadsFront-then, ReadsFront-byte_at, ReadsFront-u32_at}
use Rattle.wk_bytes.specs.StandsLaws.{ReadsFront-sized, ReadsPiece-piece_at, ReadsFront-name_at, Stands-here}
use Rattle.wk_body.specs.Shape.{IsU32}
use Rattle.wk_body.specs.Vectors.{SpellsItems, SpellsVector, items_at, vector_at, written_vector}
use Rattle.wk_module.specs.WritingLaws.{length_le_flat_map}
use Rattle.wk_module.specs.FormatLaws.{IsFormat}
use Rattle.wk_module.specs.Formats.{Reader, SpellsBoth, both_at, SpellsKeyed, keyed_at, made_at, SpellsCoded, coded_at, SpellsBehind, this_byte_at, behind_at}
use Rattle.wk_module.specs.Formats.{SpellsBytes, bytes_at, written_bytes}

-- ---- what a reader takes, over plain variables

-- one reader after another takes their fronts together
pub joined : (bytes front mid next rest : List ℕ) → bytes ≡ front ++ mid → mid ≡ next ++ rest → bytes ≡ (front ++ next) ++ rest
joined bytes front mid next rest e f = e ∙ ap (λ (b : List ℕ). front ++ b) f ∙ sym (append_assoc front next rest)

-- two fronts, and what follows them
pub both_parts : (b front next rest : List ℕ) → b ≡ front ++ next → b ++ rest ≡ front ++ (next ++ rest)
both_parts b front next rest e = ap (λ (c : List ℕ). c ++ rest) e ∙ append_assoc front next rest

abbrev pub read_to : {A : Type 0} → A → List ℕ → Result (A × List ℕ) ReadFault
read_to x rest = Ok (x, rest)

pub same_read : {A : Type 0} (x y : A) (a b : List ℕ) → read_to x a ≡ read_to y b → (x ≡ y) × (a ≡ b)
same_read {A = A} x y a b e =
    let pair : A × List ℕ = (x, a) in
    let same : pair ≡ (y, b) = ok_is pair (y, b) e in
    (ap (λ (p : A × List ℕ). p.0) same, ap (λ (p : A × List ℕ). p.1) same)

pub behind : (bytes front a b : List ℕ) → bytes ≡ front ++ a → a ≡ b → bytes ≡ front ++ b
behind bytes front a b e f = e ∙ ap (λ (c : List ℕ). front ++ c) f

-- ---- integers and names

pub u32_format : IsFormat IsU32 (SpellsU 32) u32_at short
u32_format = record {
  found = u32_at-found;
  again = u32_at-again;
  fronts = ReadsFront-u32_at;
  some = short-some;
  spells = λ n valid fits. short-spells 32 n valid;
  least = λ b n s. short-least 32 n b s;
  valid = λ b n bytes s. SpellsU-below 32 b n s;
}

pub name_format : IsFormat IsUtf8 SpellsName name_at written_bytes
name_format = record {
  found = name_at-found;
  again = name_at-again;
  fronts = ReadsFront-name_at;
  some = λ text. omega (arith, length-append (short (length text)) text, short-some (length text));
  spells = λ text valid fits.
      let few : length text < 2 ^ 32 = omega (arith, length-append (short (length text)) text) in
      record { size = short (length text); counts = short-spells 32 (length text) few; parts = refl; utf8 = valid };
  least = λ b text s. omega
      (arith, length-append (short (length text)) text, ap length s.parts, length-append s.size text, short-least 32 (length text) s.size s.counts);
  valid = λ b text bytes s. s.utf8;
}

-- ---- bytes behind their number

bytes_found : (end : ℕ) (bytes x rest : List ℕ) → IsBytes bytes → bytes_at end bytes ≡ Ok (x, rest) → (b : List ℕ) × SpellsBytes b x × (bytes ≡ b ++ rest)
unfolding bytes_at
bytes_found end bytes x rest fits e =
    let a = bind_ok (u32_at end bytes) (λ n. piece_at n.0 end n.1) (x, rest) e in
    let counted = u32_at-found end bytes a.0.0 a.0.1 fits a.1 in
    let cut = piece_at-takes a.0.0 end a.0.1 x rest a.2 in (
      counted.0 ++ x,
      record { size = counted.0; parts = refl; counts = subst (SpellsU 32 counted.0) (sym cut.1) counted.1 },
      joined bytes counted.0 a.0.1 x rest counted.2 cut.0,
    )

-- the bytes of the number alone stand before what is read
pub bytes_parts : (end : ℕ) (bytes x rest : List ℕ) → bytes_at end bytes ≡ Ok (x, rest)
    → (size : List ℕ) × (bytes ≡ size ++ (x ++ rest)) × EndsWithSize size (length x)
unfolding bytes_at
bytes_parts end bytes x rest e =
    let a = bind_ok (u32_at end bytes) (λ n. piece_at n.0 end n.1) (x, rest) e in
    let size = u32_at-counts end bytes a.0.0 a.0.1 a.1 in
    let piece = piece_at-takes a.0.0 end a.0.1 x rest a.2 in
    (size.0, behind bytes size.0 a.0.1 (x ++ rest) size.2 piece.0, ([], size.0, refl, subst (Counts size.0) (sym piece.1) size.3))

bytes_again : (end : ℕ) (b x rest : List ℕ) → SpellsBytes b x → bytes_at end (b ++ rest) ≡ Ok (x, rest)
unfolding bytes_at
bytes_again end b x rest s =
    ap (bytes_at end) (both_parts b s.size x rest s.parts) ∙ rw (u32_at-again end s.size (length x) (x ++ rest) s.counts) (piece_at-again end x rest)

bytes_front : ReadsFront bytes_at
unfolding bytes_at
bytes_front = ReadsFront-sized piece_at ReadsPiece-piece_at

pub bytes_format : IsFormat (λ (b : List ℕ). Unit {0}) SpellsBytes bytes_at written_bytes
bytes_format = record {
  found = bytes_found;
  again = bytes_again;
  fronts = bytes_front;
  some = λ x. omega (arith, length-append (short (length x)) x, short-some (length x));
  spells = λ x valid fits.
      let few : length x < 2 ^ 32 = omega (arith, length-append (short (length x)) x) in
      record { size = short (length x); parts = refl; counts = short-spells 32 (length x) few };
  least = λ b x s. omega (arith, length-append (short (length x)) x, ap length s.parts, length-append s.size x, short-least 32 (length x) s.size s.counts);
  valid = λ b x bytes s. tt;
}

-- ---- one thing behind another

pub both_front : {A B : Type 0} (read_a : Reader A) (read_b : Reader B) → ReadsFront read_a → ReadsFront read_b → ReadsFront (both_at read_a read_b)
unfolding both_at
both_front read_a read_b first second =
    ReadsFront-then read_a (λ x end bytes. read_b end bytes >>= λ y. Ok ((x, y.0), y.1)) first
    (λ x. ReadsFront-then read_b (λ y end bytes. Ok ((x, y), bytes)) second (λ y. ReadsFront-done (x, y)))

module _ {A B : Type 0} {ValidA : A → Type 0} {ValidB : B → Type 0} {SpellsA : List ℕ → A → Type 0} {SpellsB : List ℕ → B
    → Type 0} {read_a : Reader A} {read_b : Reader B} {write_a : A → List ℕ} {write_b : B → List ℕ} where
  both_found : IsFormat ValidA SpellsA read_a write_a → IsFormat ValidB SpellsB read_b write_b → (end : ℕ) (bytes : List ℕ) (x : A × B) (rest : List ℕ)
      → IsBytes bytes → both_at read_a read_b end bytes ≡ Ok (x, rest)
      → (b : List ℕ) × SpellsBoth SpellsA SpellsB b x × (bytes ≡ b ++ rest)
  unfolding both_at
  both_found first second end bytes x rest fits e =
      let a = bind_ok (read_a end bytes) (λ p. read_b end p.1 >>= λ q. Ok ((p.0, q.0), q.1)) (x, rest) e in
      let b = bind_ok (read_b end a.0.1) (λ q. Ok ((a.0.0, q.0), q.1)) (x, rest) a.2 in
      let one = first.found end bytes a.0.0 a.0.1 fits a.1 in
      let two = second.found end a.0.1 b.0.0 b.0.1 (IsBytes-after one.0 a.0.1 bytes one.2 fits) b.1 in
      let same = same_read (a.0.0, b.0.0) x b.0.1 rest b.2 in
      let spelled : SpellsBoth SpellsA SpellsB (one.0 ++ two.0) (a.0.0, b.0.0) =
      record { front = one.0; later = two.0; parts = refl {a = one.0 ++ two.0}; first = one.1; second = two.1 } in (
        one.0 ++ two.0,
        subst (SpellsBoth SpellsA SpellsB (one.0 ++ two.0)) same.0 spelled,
        joined bytes one.0 a.0.1 two.0 rest one.2 (behind a.0.1 two.0 b.0.1 rest two.2 same.1),
      )

  both_again : IsFormat ValidA SpellsA read_a write_a → IsFormat ValidB SpellsB read_b write_b → (end : ℕ) (b : List ℕ) (x : A × B) (rest : List ℕ)
      → SpellsBoth SpellsA SpellsB b x → both_at read_a read_b end (b ++ rest) ≡ Ok (x, rest)
  unfolding both_at
  both_again first second end b x rest s =
      ap (both_at read_a read_b end) (both_parts b s.front s.later rest s.parts)
      ∙ rw (first.again end s.front x.0 (s.later ++ rest) s.first, second.again end s.later x.1 rest s.second) refl

  pub both_format : IsFormat ValidA SpellsA read_a write_a → IsFormat ValidB SpellsB read_b write_b
      → IsFormat (λ x. ValidA x.0 × ValidB x.1) (SpellsBoth SpellsA SpellsB) (both_at read_a read_b) (λ x. write_a x.0 ++ write_b x.1)
  both_format first second = record {
    found = both_found first second;
    again = both_again first second;
    fronts = both_front read_a read_b first.fronts second.fronts;
    some = λ x. omega (arith, length-append (write_a x.0) (write_b x.1), first.some x.0);
    spells = λ x valid fits.
        let both = length-append (write_a x.0) (write_b x.1) in
        record {
          front = write_a x.0;
          later = write_b x.1;
          parts = refl;
          first = first.spells x.0 valid.0 (omega arith);
          second =
              second.spells x.1 valid.1 (omega arith);
        };
    least = λ b x s. omega (
      arith,
      length-append (write_a x.0) (write_b x.1),
      ap length s.parts,
      length-append s.front s.later,
      first.least s.front x.0 s.first,
      second.least s.later x.1 s.second,
    );
    valid = λ b x bytes s. (
      first.valid s.front x.0 (IsBytes-before s.front s.later b s.parts bytes) s.first,
      second.valid s.later x.1 (IsBytes-after s.front s.later b s.parts bytes) s.second,
    );
  }

-- ---- a thing that is made of another

module _ {A B : Type 0} (make : A → B) (read : Reader A) where
  pub made_front : ReadsFront read → ReadsFront (made_at make read)
  unfolding made_at
  made_front front = ReadsFront-then read (λ x end bytes. Ok (make x, bytes)) front (λ x. ReadsFront-done (make x))

  pub made_steps : (end : ℕ) (bytes : List ℕ) (y : B) (rest : List ℕ) → made_at make read end bytes ≡ Ok (y, rest)
      → (x : A) × (read end bytes ≡ Ok (x, rest)) × (make x ≡ y)
  unfolding made_at
  made_steps end bytes y rest e =
      let a = bind_ok (read end bytes) (λ p. Ok (make p.0, p.1)) (y, rest) e in
      let same = same_read (make a.0.0) y a.0.1 rest a.2 in
      (a.0.0, a.1 ∙ ap (read_to a.0.0) same.1, same.0)

  pub made_again : (end : ℕ) (bytes : List ℕ) (x : A) (rest : List ℕ) → read end bytes ≡ Ok (x, rest) → made_at make read end bytes ≡ Ok (make x, rest)
  unfolding made_at
  made_again end bytes x rest h = rw h refl

pub made_format : {A B : Type 0} {Valid : A → Type 0} {Spells : List ℕ → A → Type 0} {read : Reader A} {written : A → List ℕ} (make : A → B)
    (view : B → A) → ((x : A) → view (make x) ≡ x) → ((y : B) → make (view y) ≡ y)
    → IsFormat Valid Spells read written → IsFormat (λ y. Valid (view y)) (λ b y. Spells b (view y)) (made_at make read) (λ y. written (view y))
made_format {A = A} {Spells = Spells} {read = read} make view viewed remade of = record {
  found = λ end bytes y rest fits e.
      let m = made_steps make read end bytes y rest e in
      let f = of.found end bytes m.0 rest fits m.1 in
      let same : m.0 ≡ view y = sym (viewed m.0) ∙ ap view m.2 in
      (f.0, subst (λ (x : A). Spells f.0 x) same f.1, f.2);
  again = λ end b y rest s. made_again make read end (b ++ rest) (view y) rest (of.again end b (view y) rest s) ∙ ap (λ z. read_to z rest) (remade y);
  fronts = made_front make read of.fronts;
  some = λ y. of.some (view y);
  spells = λ y valid fits. of.spells (view y) valid fits;
  least = λ b y s. of.least b (view y) s;
  valid = λ b y bytes s. of.valid b (view y) bytes s;
}

-- other words for what is valid
pub valid_as : {A : Type 0} {Valid : A → Type 0} {Spells : List ℕ → A → Type 0} {read : Reader A} {written : A → List ℕ} (Other : A → Type 0)
    → ((x : A) → Other x → Valid x) → ((x : A) → Valid x → Other x)
    → IsFormat Valid Spells read written → IsFormat Other Spells read written
valid_as Other to from of = record {
  found = of.found;
  again = of.again;
  fronts = of.fronts;
  some = of.some;
  spells = λ x valid fits. of.spells x (to x valid) fits;
  least = of.least;
  valid = λ b x bytes s. from x (of.valid b x bytes s);
}

-- ---- vectors

items_length : {A : Type 0} (x : A) (ys xs : List A) (n : ℕ) → x ∷ ys ≡ xs → length ys ≡ n → length xs ≡ suc n
items_length x ys xs n e k = ap length (sym e) ∙ ap suc k

-- a vector of items that were found behind their count
pub vector_made : {A : Type 0} {Spells : List ℕ → A → Type 0} (count items bytes mid rest : List ℕ) (n : ℕ) (xs : List A) → SpellsU 32 count n
    → bytes ≡ count ++ mid → SpellsItems Spells items xs → mid ≡ items ++ rest → length xs ≡ n
    → (b : List ℕ) × SpellsVector Spells b xs × (bytes ≡ b ++ rest)
vector_made count items bytes mid rest n xs counts front spelled later size = (
  count ++ items,
  record {
    count = count;
    items = items;
    parts = refl {a = count ++ items};
    counts =
        subst (SpellsU 32 count) (sym size) counts;
    spelled = spelled;
  },
  joined bytes count mid items rest front later,
)

module _ {A : Type 0} {Valid : A → Type 0} {Spells : List ℕ → A → Type 0} {read : Reader A} {written : A → List ℕ} where
  pub items_found : IsFormat Valid Spells read written → (n end : ℕ) (bytes : List ℕ) (xs : List A) (rest : List ℕ) → IsBytes bytes
      → items_at read n end bytes ≡ Ok (xs, rest)
      → (b : List ℕ) × SpellsItems Spells b xs × (bytes ≡ b ++ rest) × (length xs ≡ n)
  items_found of zero end bytes xs rest fits e =
      let same = same_read [] xs bytes rest e in
      ([], subst (SpellsItems Spells []) same.0 refl, same.1, ap length (sym same.0))
  items_found of (suc n) end bytes xs rest fits e =
      let a = bind_ok (read end bytes) (λ x. items_at read n end x.1 >>= λ ys. Ok (x.0 ∷ ys.0, ys.1)) (xs, rest) e in
      let b = bind_ok (items_at read n end a.0.1) (λ ys. Ok (a.0.0 ∷ ys.0, ys.1)) (xs, rest) a.2 in
      let first = of.found end bytes a.0.0 a.0.1 fits a.1 in
      let others = items_found of n end a.0.1 b.0.0 b.0.1 (IsBytes-after first.0 a.0.1 bytes first.2 fits) b.1 in
      let same = same_read (a.0.0 ∷ b.0.0) xs b.0.1 rest b.2 in (
        first.0 ++ others.0,
        subst (SpellsItems Spells (first.0 ++ others.0)) same.0 (first.0, others.0, refl {a = first.0 ++ others.0}, first.1, others.1),
        joined bytes first.0 a.0.1 others.0 rest first.2 (behind a.0.1 others.0 b.0.1 rest others.2 same.1),
        items_length a.0.0 b.0.0 xs n same.0 others.3,
      )

  pub items_again : IsFormat Valid Spells read written → (end : ℕ) (b : List ℕ) (xs : List A) (rest : List ℕ) → SpellsItems Spells b xs
      → items_at read (length xs) end (b ++ rest) ≡ Ok (xs, rest)
  items_again of end b [] rest s = ap (λ (c : List ℕ). read_to [] (c ++ rest)) s
  items_again of end b (x ∷ xs) rest s =
      let parts = both_parts b s.0 s.1 rest s.2 in
      let first = of.again end s.0 x (s.1 ++ rest) s.3 in
      let others = items_again of end s.1 xs rest s.4 in
      rw (parts, first, others) refl

  pub items_front : IsFormat Valid Spells read written → (n : ℕ) → ReadsFront (items_at read n)
  items_front of zero = ReadsFront-done []
  items_front of (suc n) =
      ReadsFront-then read (λ x end bytes. items_at read n end bytes >>= λ xs. Ok (x ∷ xs.0, xs.1)) of.fronts
      (λ x. ReadsFront-then (items_at read n) (λ xs end bytes. Ok (x ∷ xs, bytes)) (items_front of n) (λ xs. ReadsFront-done (x ∷ xs)))

  items_spell : IsFormat Valid Spells read written → (xs : List A) → AllByRecursion Valid xs → length (flat_map written xs) < 2 ^ 32
      → SpellsItems Spells (flat_map written xs) xs
  items_spell of [] valid fits = refl
  items_spell of (x ∷ xs) valid fits =
      let both = length-append (written x) (flat_map written xs) in
      (written x, flat_map written xs, refl, of.spells x valid.0 (omega arith), items_spell of xs valid.1 (omega arith))

  items_least : IsFormat Valid Spells read written → (b : List ℕ) (xs : List A) → SpellsItems Spells b xs → length (flat_map written xs) ≤ length b
  items_least of b [] spelled = omega arith
  items_least of b (x ∷ xs) spelled =
      omega (
        arith,
        length-append (written x) (flat_map written xs),
        ap length spelled.2,
        length-append spelled.0 spelled.1,
        of.least spelled.0 x spelled.3,
        items_least of spelled.1 xs spelled.4,
      )

  items_valid : IsFormat Valid Spells read written → (b : List ℕ) (xs : List A) → IsBytes b → SpellsItems Spells b xs → AllByRecursion Valid xs
  items_valid of b [] bytes spelled = tt
  items_valid of b (x ∷ xs) bytes spelled = (
    of.valid spelled.0 x (IsBytes-before spelled.0 spelled.1 b spelled.2 bytes) spelled.3,
    items_valid of spelled.1 xs (IsBytes-after spelled.0 spelled.1 b spelled.2 bytes) spelled.4,
  )

  vector_found : IsFormat Valid Spells read written → (end : ℕ) (bytes : List ℕ) (xs : List A) (rest : List ℕ) → IsBytes bytes
      → vector_at read end bytes ≡ Ok (xs, rest)
      → (b : List ℕ) × SpellsVector Spells b xs × (bytes ≡ b ++ rest)
  unfolding vector_at
  vector_found of end bytes xs rest fits e =
      let a = bind_ok (u32_at end bytes) (λ n. items_at read n.0 end n.1) (xs, rest) e in
      let count = u32_at-found end bytes a.0.0 a.0.1 fits a.1 in
      let items = items_found of a.0.0 end a.0.1 xs rest (IsBytes-after count.0 a.0.1 bytes count.2 fits) a.2 in
      vector_made count.0 items.0 bytes a.0.1 rest a.0.0 xs count.1 count.2 items.1 items.2 items.3

  vector_again : IsFormat Valid Spells read written → (end : ℕ) (b : List ℕ) (xs : List A) (rest : List ℕ) → SpellsVector Spells b xs
      → vector_at read end (b ++ rest) ≡ Ok (xs, rest)
  unfolding vector_at
  vector_again of end b xs rest s =
      ap (vector_at read end) (both_parts b s.count s.items rest s.parts)
      ∙ rw (u32_at-again end s.count (length xs) (s.items ++ rest) s.counts) (items_again of end s.items xs rest s.spelled)

  vector_front : IsFormat Valid Spells read written → ReadsFront (vector_at read)
  unfolding vector_at
  vector_front of = ReadsFront-then u32_at (items_at read) ReadsFront-u32_at (items_front of)

  pub vector_format : IsFormat Valid Spells read written → IsFormat (AllByRecursion Valid) (SpellsVector Spells) (vector_at read) (written_vector written)
  vector_format of = record {
    found = vector_found of;
    again = vector_again of;
    fronts = vector_front of;
    some = λ xs. omega (arith, length-append (short (length xs)) (flat_map written xs), short-some (length xs));
    spells = λ xs valid fits.
        let both = length-append (short (length xs)) (flat_map written xs) in
        let few : length xs < 2 ^ 32 = omega (arith, length_le_flat_map written of.some xs) in
        record {
          count = short (length xs);
          items = flat_map written xs;
          parts = refl;
          counts = short-spells 32 (length xs) few;
          spelled =
              items_spell of xs valid (omega arith);
        };
    least = λ b xs s.
        omega (
          arith,
          length-append (short (length xs)) (flat_map written xs),
          ap length s.parts,
          length-append s.count s.items,
          short-least 32 (length xs) s.count s.counts,
          items_least of s.items xs s.spelled,
        );
    valid = λ b xs bytes s. items_valid of s.items xs (IsBytes-after s.count s.items b s.parts bytes) s.spelled;
  }

-- ---- a byte that is tested

pub byte_first : (bytes : List ℕ) (x y : ℕ) (a b : List ℕ) → bytes ≡ x ∷ a → x ≡ y → a ≡ b → bytes ≡ y ∷ b
byte_first bytes x y a b e f g = e ∙ ap (λ (z : ℕ). z ∷ a) f ∙ ap (λ (c : List ℕ). y ∷ c) g

byte_again : (end x : ℕ) (rest : List ℕ) → byte_at end (x ∷ rest) ≡ Ok (x, rest)
unfolding byte_at
byte_again end x rest = refl

-- the fault is at the byte itself
bad_byte_stands : (end : ℕ) (bytes : List ℕ) (e : ReadFault) → 0 < length bytes → fault BadByte end bytes ≡ e → Stands (record { rest = bytes; end = end }) e
bad_byte_stands end bytes e some is = subst (Stands (record { rest = bytes; end = end })) is (Stands-here BadByte end bytes some)

module _ {A : Type 0} (code : A → ℕ) (of_byte : ℕ → Option A) where
  coded_found : ((n : ℕ) (x : A) → of_byte n ≡ Some x → n ≡ code x) → (end : ℕ) (bytes : List ℕ) (x : A) (rest : List ℕ)
      → coded_at of_byte end bytes ≡ Ok (x, rest) → bytes ≡ code x ∷ rest
  unfolding coded_at
  coded_found only end bytes x rest e =
      let a = bind_ok (byte_at end bytes) (λ n. or_fail (of_byte n.0) (fault BadByte end bytes) >>= λ t. Ok (t, n.1)) (x, rest) e in
      let b = bind_ok (or_fail (of_byte a.0.0) (fault BadByte end bytes)) (λ t. Ok (t, a.0.1)) (x, rest) a.2 in
      let same = same_read b.0 x a.0.1 rest b.2 in
      let byte : a.0.0 ≡ code x = only a.0.0 b.0 (or_fail_ok (of_byte a.0.0) (fault BadByte end bytes) b.0 b.1) ∙ ap code same.0 in
      byte_first bytes a.0.0 (code x) a.0.1 rest (byte_at-takes end bytes a.0.0 a.0.1 a.1) byte same.1

  coded_again : ((x : A) → of_byte (code x) ≡ Some x) → (end : ℕ) (b : List ℕ) (x : A) (rest : List ℕ) → b ≡ code x ∷ []
      → coded_at of_byte end (b ++ rest) ≡ Ok (x, rest)
  unfolding coded_at
  coded_again back end b x rest s =
      ap (λ (c : List ℕ). coded_at of_byte end (c ++ rest)) s ∙ rw (byte_again end (code x) rest, back x) refl

  abbrev with_rest : List ℕ → A → Result (A × List ℕ) ReadFault
  with_rest rest t = Ok (t, rest)

  coded_failed : (o : Option A) (end : ℕ) (bytes rest : List ℕ) (e : ReadFault) → (or_fail o (fault BadByte end bytes) >>= with_rest rest) ≡ Err e
      → fault BadByte end bytes ≡ e
  coded_failed None end bytes rest e h = cc
  coded_failed (Some t) end bytes rest e h = absurd cc

  coded_fault : (end : ℕ) (bytes : List ℕ) (e : ReadFault) → coded_at of_byte end bytes ≡ Err e → length bytes ≤ end
      → Stands (record { rest = bytes; end = end }) e
  unfolding coded_at byte_at
  coded_fault end [] e h fits = ReadsFront-byte_at.faults end [] e (cc) fits
  coded_fault end (x ∷ bytes) e h fits = bad_byte_stands end (x ∷ bytes) e (omega arith) (coded_failed (of_byte x) end (x ∷ bytes) bytes e h)

  pub coded_format : ((x : A) → of_byte (code x) ≡ Some x) → ((n : ℕ) (x : A) → of_byte n ≡ Some x → n ≡ code x)
      → IsFormat (λ (x : A). Unit {0}) (SpellsCoded code) (coded_at of_byte) (λ x. code x ∷ [])
  coded_format back only = record {
    found = λ end bytes x rest fits e. (code x ∷ [], refl, coded_found only end bytes x rest e);
    again = coded_again back;
    fronts = record { takes = λ end bytes x rest e. (code x ∷ [], coded_found only end bytes x rest e); faults = coded_fault };
    some = λ x. omega arith;
    spells = λ x valid fits. refl;
    least = λ b x s. omega (arith, ap length s);
    valid = λ b x bytes s. tt;
  }

-- ---- a byte that has to be there

this_byte_found : (wanted end : ℕ) (bytes : List ℕ) (x : ℕ) (rest : List ℕ) → this_byte_at wanted end bytes ≡ Ok (x, rest) → bytes ≡ wanted ∷ rest
unfolding this_byte_at
this_byte_found wanted end bytes x rest e =
    let a = bind_ok (byte_at end bytes) (λ x. cond (eqb x.0 wanted) (Ok x) (Err (fault BadByte end bytes))) (x, rest) e in
    elim (chosen (eqb a.0.0 wanted) (Ok a.0) (Err (fault BadByte end bytes)) (Ok (x, rest)) a.2) [
      | inl p ↦
          let same = same_read a.0.0 x a.0.1 rest p.1 in
          byte_first bytes a.0.0 wanted a.0.1 rest (byte_at-takes end bytes a.0.0 a.0.1 a.1) (eqb-true a.0.0 wanted p.0) same.1
      | inr p ↦ absurd cc
    ]

this_byte_again : (wanted end : ℕ) (rest : List ℕ) → this_byte_at wanted end (wanted ∷ rest) ≡ Ok (wanted, rest)
unfolding this_byte_at
this_byte_again wanted end rest = rw (byte_again end wanted rest, eq-eqb wanted wanted refl) refl

other_byte : (b : Bool) (x : ℕ) (end : ℕ) (bytes rest : List ℕ) (e : ReadFault)
    → cond {A = Result (ℕ × List ℕ) ReadFault} b (Ok (x, rest)) (Err (fault BadByte end bytes)) ≡ Err e → fault BadByte end bytes ≡ e
other_byte true x end bytes rest e h = absurd cc
other_byte false x end bytes rest e h = cc

this_byte_fault : (wanted end : ℕ) (bytes : List ℕ) (e : ReadFault) → this_byte_at wanted end bytes ≡ Err e → length bytes ≤ end
    → Stands (record { rest = bytes; end = end }) e
unfolding this_byte_at byte_at
this_byte_fault wanted end [] e h fits = ReadsFront-byte_at.faults end [] e (cc) fits
this_byte_fault wanted end (x ∷ bytes) e h fits = bad_byte_stands end (x ∷ bytes) e (omega arith) (other_byte (eqb x wanted) x end (x ∷ bytes) bytes e h)

this_byte_front : (wanted : ℕ) → ReadsFront (this_byte_at wanted)
this_byte_front wanted = record { takes = λ end bytes x rest e. (wanted ∷ [], this_byte_found wanted end bytes x rest e); faults = this_byte_fault wanted }

module _ {A : Type 0} (byte : ℕ) (Spells : List ℕ → A → Type 0) (read : Reader A) where
  behind_found : ((end : ℕ) (bytes : List ℕ) (x : A) (rest : List ℕ) → IsBytes bytes → read end bytes ≡ Ok (x, rest)
      → (b : List ℕ) × Spells b x × (bytes ≡ b ++ rest))
      → (end : ℕ) (bytes : List ℕ) (x : A) (rest : List ℕ) → IsBytes bytes → behind_at byte read end bytes ≡ Ok (x, rest)
      → (b : List ℕ) × SpellsBehind byte Spells b x × (bytes ≡ b ++ rest)
  unfolding behind_at
  behind_found found end bytes x rest fits e =
      let a = bind_ok (this_byte_at byte end bytes) (λ n. read end n.1) (x, rest) e in
      let form : bytes ≡ byte ∷ a.0.1 = this_byte_found byte end bytes a.0.0 a.0.1 a.1 in
      let f = found end a.0.1 x rest (IsBytes-after (byte ∷ []) a.0.1 bytes form fits) a.2 in
      (byte ∷ f.0, (f.0, refl {a = byte ∷ f.0}, f.1), joined bytes (byte ∷ []) a.0.1 f.0 rest form f.2)

  behind_again : ((end : ℕ) (b : List ℕ) (x : A) (rest : List ℕ) → Spells b x → read end (b ++ rest) ≡ Ok (x, rest))
      → (end : ℕ) (b : List ℕ) (x : A) (rest : List ℕ) → SpellsBehind byte Spells b x → behind_at byte read end (b ++ rest) ≡ Ok (x, rest)
  unfolding behind_at
  behind_again again end b x rest s =
      ap (behind_at byte read end) (both_parts b (byte ∷ []) s.0 rest s.1) ∙ rw (this_byte_again byte end (s.0 ++ rest)) (again end s.0 x rest s.2)

  behind_front : ReadsFront read → ReadsFront (behind_at byte read)
  unfolding behind_at
  behind_front front = ReadsFront-then (this_byte_at byte) (λ n. read) (this_byte_front byte) (λ n. front)

pub behind_format : {A : Type 0} {Valid : A → Type 0} {Spells : List ℕ → A → Type 0} {read : Reader A} {written : A → List ℕ} (byte : ℕ)
    → IsFormat Valid Spells read written → IsFormat Valid (SpellsBehind byte Spells) (behind_at byte read) (λ x. byte ∷ written x)
behind_format {Spells = Spells} {read = read} byte of = record {
  found = behind_found byte Spells read of.found;
  again = behind_again byte Spells read of.again;
  fronts = behind_front byte Spells read of.fronts;
  some = λ x. omega arith;
  spells = λ x valid fits. (_, refl, of.spells x valid (omega arith));
  least = λ b x s. omega (arith, ap length s.1, of.least s.0 x s.2);
  valid = λ b x bytes s. of.valid s.0 x (IsBytes-after (byte ∷ []) s.0 b s.1 bytes) s.2;
}

-- ---- a thing that begins with a key

-- What stands behind a key: the same laws, where the key is known.
pub record IsRest {K A : Type 0} (key : A → K) (Valid : A → Type 0) (Spells : List ℕ → A → Type 0) (read : K → Reader A) (written : A → List ℕ) : Type 0 where
  pub found : (k : K) (end : ℕ) (bytes : List ℕ) (x : A) (rest : List ℕ) → IsBytes bytes → read k end bytes ≡ Ok (x, rest)
      → (b : List ℕ) × Spells b x × (bytes ≡ b ++ rest) × (key x ≡ k)
  pub again : (end : ℕ) (b : List ℕ) (x : A) (rest : List ℕ) → Spells b x → read (key x) end (b ++ rest) ≡ Ok (x, rest)
  pub fronts : (k : K) → ReadsFront (read k)
  pub spells : (x : A) → Valid x → length (written x) < 2 ^ 32 → Spells (written x) x
  pub least : (b : List ℕ) (x : A) → Spells b x → length (written x) ≤ length b
  pub valid : (b : List ℕ) (x : A) → IsBytes b → Spells b x → Valid x

keyed_front : {K A : Type 0} (read_key : Reader K) (read : K → Reader A) → ReadsFront read_key → ((k : K) → ReadsFront (read k))
    → ReadsFront (keyed_at read_key read)
unfolding keyed_at
keyed_front read_key read first second = ReadsFront-then read_key read first second

module _ {K A : Type 0} (key : A → K) {ValidKey : K → Type 0} {Valid : A → Type 0} {SpellsKey : List ℕ → K → Type 0} {Spells : List ℕ → A
    → Type 0} {read_key : Reader K} {read : K → Reader A} {write_key : K → List ℕ} {written : A → List ℕ} where
  keyed_found : IsFormat ValidKey SpellsKey read_key write_key → IsRest key Valid Spells read written
      → (end : ℕ) (bytes : List ℕ) (x : A) (rest : List ℕ) → IsBytes bytes → keyed_at read_key read end bytes ≡ Ok (x, rest)
      → (b : List ℕ) × SpellsKeyed key SpellsKey Spells b x × (bytes ≡ b ++ rest)
  unfolding keyed_at
  keyed_found first second end bytes x rest fits e =
      let a = bind_ok (read_key end bytes) (λ k. read k.0 end k.1) (x, rest) e in
      let one = first.found end bytes a.0.0 a.0.1 fits a.1 in
      let two = second.found a.0.0 end a.0.1 x rest (IsBytes-after one.0 a.0.1 bytes one.2 fits) a.2 in (
        one.0 ++ two.0,
        record {
          front = one.0;
          later = two.0;
          parts = refl {a = one.0 ++ two.0};
          keyed =
              subst (SpellsKey one.0) (sym two.3) one.1;
          rest = two.1;
        },
        joined bytes one.0 a.0.1 two.0 rest one.2 two.2,
      )

  keyed_again : IsFormat ValidKey SpellsKey read_key write_key → IsRest key Valid Spells read written → (end : ℕ) (b : List ℕ) (x : A) (rest : List ℕ)
      → SpellsKeyed key SpellsKey Spells b x → keyed_at read_key read end (b ++ rest) ≡ Ok (x, rest)
  unfolding keyed_at
  keyed_again first second end b x rest s =
      ap (keyed_at read_key read end) (both_parts b s.front s.later rest s.parts)
      ∙ rw (first.again end s.front (key x) (s.later ++ rest) s.keyed) (second.again end s.later x rest s.rest)

  pub keyed_format : ((x : A) → Valid x → ValidKey (key x)) → IsFormat ValidKey SpellsKey read_key write_key → IsRest key Valid Spells read written
      → IsFormat Valid (SpellsKeyed key SpellsKey Spells) (keyed_at read_key read) (λ x. write_key (key x) ++ written x)
  keyed_format has first second = record {
    found = keyed_found first second;
    again = keyed_again first second;
    fronts = keyed_front read_key read first.fronts second.fronts;
    some = λ x. omega (arith, length-append (write_key (key x)) (written x), first.some (key x));
    spells = λ x valid fits.
        let both = length-append (write_key (key x)) (written x) in
        record {
          front = write_key (key x);
          later = written x;
          parts = refl;
          keyed = first.spells (key x) (has x valid) (omega arith);
          rest =
              second.spells x valid (omega arith);
        };
    least = λ b x s. omega (
      arith,
      length-append (write_key (key x)) (written x),
      ap length s.parts,
      length-append s.front s.later,
      first.least s.front (key x) s.keyed,
      second.least s.later x s.rest,
    );
    valid = λ b x bytes s. second.valid s.later x (IsBytes-after s.front s.later b s.parts bytes) s.rest;
  }

-- what is made of another stands behind a key, as the other is spelled
pub made_found : {K A B : Type 0} {Valid : A → Type 0} {SpellsMade : List ℕ → A → Type 0} {read : Reader A} {written : A → List ℕ} (key : B → K)
    (Spells : List ℕ → B → Type 0) (make : A → B)
    → IsFormat Valid SpellsMade read written → ((b : List ℕ) (x : A) → SpellsMade b x → Spells b (make x)) → (k : K) → ((x : A) → key (make x) ≡ k)
    → (end : ℕ) (bytes : List ℕ) (y : B) (rest : List ℕ) → IsBytes bytes → made_at make read end bytes ≡ Ok (y, rest)
    → (b : List ℕ) × Spells b y × (bytes ≡ b ++ rest) × (key y ≡ k)
made_found {read = read} key Spells make of same k has end bytes y rest fits e =
    let m = made_steps make read end bytes y rest e in
    let f = of.found end bytes m.0 rest fits m.1 in
    (f.0, subst (Spells f.0) m.2 (same f.0 m.0 f.1), f.2, ap key (sym m.2) ∙ has m.0)
