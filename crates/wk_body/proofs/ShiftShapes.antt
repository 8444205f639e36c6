-- What the token at an offset is to a walk that passes over it while references move.
use Rattle.std.proofs.Common.{◌≡◌, ℕ, suc, ◌+◌, ◌<◌, ◌^◌, ◌⊎◌, inl, inr, Option, Some, List, [], ◌∷◌, ◌++◌, length, drop, get_or, refl, sym, ap, subst, ◌∙◌}
use Rattle.std.proofs.Common.{arith}
use Rattle.std.proofs.lemmas.List.{drop_more}
use Rattle.byteorder.specs.Endian.{little_bytes}
use Rattle.byteorder.specs.Numbers.{length-bytes_low_first}
use Rattle.wk_bytes.specs.Short.{short, short_signed}
use Rattle.wk_body.specs.declared.shifts.Shifts.{Shifts}
use Rattle.wk_body.specs.declared.types.BlockKind.TheVariants as kinds
use Rattle.wk_body.specs.Instructions.{Plain, BrTable, Call, GlobalGet, GlobalSet, Access, F32Const, F64Const, Numeric, plain_opcode, Immediates, Nothing}
use Rattle.wk_body.specs.Instructions.{Reserved, Index, IndexReserved, Labels, Memarg, Signed, Word, immediates, form_of}
use Rattle.wk_body.specs.Shape.{AreInRange}
use Rattle.wk_body.specs.Tree.{Tok, Simple, Open, OpenIf, Otherwise, Close}
use Rattle.wk_body.specs.Vectors.{written_vector}
use Rattle.wk_body.specs.Written.{immediate_bytes, type_bytes, tok_bytes}
use Rattle.wk_body.specs.TokenLen.{stride}
use Rattle.wk_body.specs.ShiftSteps.{IsInteger, AreIntegers, IsReferring, index_after, shifted_tok, IsTokInRange}
use Rattle.wk_body.proofs.TokenLen.{memory_stride, numeric_stride}
use Rattle.wk_body.proofs.Integers.{short_integer, signed_integer, type_integer, one_integer, two_integers}

-- ---- tokens

-- it has integers behind its opcode, as many as the table says
pub record IsRegular (t : Tok) : Type 0 where
  pub opcode : ℕ
  pub behind : List ℕ
  pub bytes : tok_bytes t ≡ opcode ∷ behind
  pub count : ℕ
  pub long : stride opcode ≡ suc count
  pub integers : AreIntegers count behind
  pub stays : (s : Shifts) → shifted_tok s t ≡ t

pub record IsTable (t : Tok) : Type 0 where
  pub labels : List ℕ
  pub other : ℕ
  pub bytes : tok_bytes t ≡ 0x0E ∷ (written_vector short labels ++ short other)
  pub few : length labels < 2 ^ 32
  pub stays : (s : Shifts) → shifted_tok s t ≡ t

abbrev pub IsSized : ℕ → ℕ → Type 0
IsSized opcode size = ((opcode ≡ 0x43) × (size ≡ 4)) ⊎ ((opcode ≡ 0x44) × (size ≡ 8))

pub record IsWord (t : Tok) : Type 0 where
  pub opcode : ℕ
  pub size : ℕ
  pub behind : List ℕ
  pub bytes : tok_bytes t ≡ opcode ∷ behind
  pub sized : IsSized opcode size
  pub long : length behind ≡ size
  pub stays : (s : Shifts) → shifted_tok s t ≡ t

-- its index may move
pub record IsReference (t : Tok) : Type 0 where
  pub opcode : ℕ
  pub index : ℕ
  pub bytes : tok_bytes t ≡ opcode ∷ short index
  pub small : index < 2 ^ 32
  pub refers : IsReferring opcode
  pub moves : (s : Shifts) → tok_bytes (shifted_tok s t) ≡ opcode ∷ short (index_after s opcode index)
  pub fits : (s : Shifts) → IsTokInRange (shifted_tok s t) → index_after s opcode index < 2 ^ 32

abbrev pub Sort : Tok → Type 0
Sort t = IsRegular t ⊎ (IsTable t ⊎ (IsWord t ⊎ IsReference t))

regular : (t : Tok) (opcode : ℕ) (behind : List ℕ) (count : ℕ) → tok_bytes t ≡ opcode ∷ behind → stride opcode ≡ suc count → AreIntegers count behind
    → ((s : Shifts) → shifted_tok s t ≡ t) → Sort t
regular t opcode behind count bytes long integers stays = inl
    (record { opcode = opcode; behind = behind; bytes = bytes; count = count; long = long; integers = integers; stays = stays })

word : (t : Tok) (opcode size : ℕ) (behind : List ℕ) → tok_bytes t ≡ opcode ∷ behind → IsSized opcode size → length behind ≡ size
    → ((s : Shifts) → shifted_tok s t ≡ t) → Sort t
word t opcode size behind bytes sized long stays =
    inr (inr (inl (record { opcode = opcode; size = size; behind = behind; bytes = bytes; sized = sized; long = long; stays = stays })))

zero_byte : IsInteger (0x00 ∷ [])
zero_byte = omega arith

-- integers alone stand behind the opcode, of which a reserved byte is one
abbrev HasIntegers : Immediates → Type 0
HasIntegers (Labels labels other) = ⊥
HasIntegers (Word size word) = ⊥
HasIntegers i = Unit {0}

abbrev count_of : Immediates → ℕ
count_of Nothing = 0
count_of (IndexReserved x) = 2
count_of (Memarg align offset) = 2
count_of i = 1

integers_of : (i : Immediates) → HasIntegers i → AreIntegers (count_of i) (immediate_bytes i)
integers_of Nothing has = refl
integers_of Reserved has = one_integer (0x00 ∷ []) zero_byte
integers_of (Index x) has = one_integer (short x) (short_integer x)
integers_of (IndexReserved x) has = two_integers (short x) (0x00 ∷ []) (short_integer x) zero_byte
integers_of (Memarg align offset) has = two_integers (short align) (short offset) (short_integer align) (short_integer offset)
integers_of (Signed bits z) has = one_integer (short_signed z) (signed_integer z)
integers_of (Labels labels other) has = absurd has
integers_of (Word size word) has = absurd has

regular_plain : (p : Plain) → HasIntegers (immediates p) → stride (plain_opcode p) ≡ suc (count_of (immediates p))
    → ((s : Shifts) → shifted_tok s (Simple p) ≡ Simple p) → Sort (Simple p)
regular_plain p has long stays =
    let i = immediates p in
    regular (Simple p) (plain_opcode p) (immediate_bytes i) (count_of i) refl long (integers_of i has) stays

plain_sort : (p : Plain) → AreInRange (immediates p) → Sort (Simple p)
unfolding form_of
plain_sort (BrTable labels other) r = inr (inl (record { labels = labels; other = other; bytes = refl; few = r.0; stays = λ s. refl }))
plain_sort (Call x) r = inr (inr (inr (record { opcode = 0x10; index = x; bytes = refl; small = r; refers = inl refl; moves = λ s. refl; fits = λ s h. h })))
plain_sort (GlobalGet x) r =
    inr (inr (inr (record { opcode = 0x23; index = x; bytes = refl; small = r; refers = inr (inl refl); moves = λ s. refl; fits = λ s h. h })))
plain_sort (GlobalSet x) r =
    inr (inr (inr (record { opcode = 0x24; index = x; bytes = refl; small = r; refers = inr (inr refl); moves = λ s. refl; fits = λ s h. h })))
plain_sort (F32Const w) r = word (Simple (F32Const w)) 0x43 4 (little_bytes 4 w) refl (inl (refl, refl)) (length-bytes_low_first 0 4 w) (λ s. refl)
plain_sort (F64Const w) r = word (Simple (F64Const w)) 0x44 8 (little_bytes 8 w) refl (inr (refl, refl)) (length-bytes_low_first 0 8 w) (λ s. refl)
plain_sort (Access op align offset) r = regular_plain (Access op align offset) tt (memory_stride op) (λ s. refl)
plain_sort (Numeric op) r = regular_plain (Numeric op) tt (numeric_stride op) (λ s. refl)
plain_sort p r = regular_plain p tt refl (λ s. refl)

pub sort : (t : Tok) → IsTokInRange t → Sort t
sort (Simple p) r = plain_sort p r
sort (Open kinds.Block ty skip) r = regular (Open kinds.Block ty skip) 0x02 (type_bytes ty) 1 refl refl (one_integer (type_bytes ty) (type_integer ty))
    (λ s. refl)
sort (Open kinds.Loop ty skip) r = regular (Open kinds.Loop ty skip) 0x03 (type_bytes ty) 1 refl refl (one_integer (type_bytes ty) (type_integer ty))
    (λ s. refl)
sort (OpenIf ty skip) r = regular (OpenIf ty skip) 0x04 (type_bytes ty) 1 refl refl (one_integer (type_bytes ty) (type_integer ty)) (λ s. refl)
sort (Otherwise skip) r = regular (Otherwise skip) 0x05 [] 0 refl refl refl (λ s. refl)
sort Close r = regular Close 0x0B [] 0 refl refl refl (λ s. refl)

-- ---- at an offset

-- what may move has no stride
pub not_regular : (opcode other count : ℕ) → IsReferring opcode → opcode ≡ other → stride other ≡ suc count → ⊥
unfolding form_of
not_regular opcode other count (inl e) same long = let none : stride other ≡ 0 = ap stride (sym same ∙ e) in omega (arith, long, none)
not_regular opcode other count (inr (inl e)) same long = let none : stride other ≡ 0 = ap stride (sym same ∙ e) in omega (arith, long, none)
not_regular opcode other count (inr (inr e)) same long = let none : stride other ≡ 0 = ap stride (sym same ∙ e) in omega (arith, long, none)

pub table_is_none : (opcode count : ℕ) → opcode ≡ 0x0E → stride opcode ≡ suc count → ⊥
unfolding form_of
table_is_none opcode count is long = let none : stride opcode ≡ 0 = ap stride is in omega (arith, long, none)

pub not_table : (opcode : ℕ) → IsReferring opcode → opcode ≡ 0x0E → ⊥
not_table opcode (inl e) is = omega (arith, e, is)
not_table opcode (inr (inl e)) is = omega (arith, e, is)
not_table opcode (inr (inr e)) is = omega (arith, e, is)

pub not_word : (opcode other size : ℕ) → IsReferring opcode → opcode ≡ other → IsSized other size → ⊥
not_word opcode other size (inl e) same (inl d) = omega (arith, e, same, d.0)
not_word opcode other size (inl e) same (inr d) = omega (arith, e, same, d.0)
not_word opcode other size (inr (inl e)) same (inl d) = omega (arith, e, same, d.0)
not_word opcode other size (inr (inl e)) same (inr d) = omega (arith, e, same, d.0)
not_word opcode other size (inr (inr e)) same (inl d) = omega (arith, e, same, d.0)
not_word opcode other size (inr (inr e)) same (inr d) = omega (arith, e, same, d.0)

pub word_is_none : (opcode size count : ℕ) → IsSized opcode size → stride opcode ≡ suc count → ⊥
unfolding form_of
word_is_none opcode size count (inl d) long = let none : stride opcode ≡ 0 = ap stride d.0 in omega (arith, long, none)
word_is_none opcode size count (inr d) long = let none : stride opcode ≡ 0 = ap stride d.0 in omega (arith, long, none)

-- the opcode at an offset, and what stands behind it
pub front_at : (code : List ℕ) (at opcode other : ℕ) (bytes behind later : List ℕ) → at < length code → opcode ≡ get_or code at 0
    → drop at code ≡ bytes ++ later → bytes ≡ other ∷ behind → (opcode ≡ other) × (drop (at + 1) code ≡ behind ++ later)
front_at code at opcode other bytes behind later lt there ahead is =
    let e : get_or code at 0 ∷ drop (at + 1) code ≡ other ∷ (behind ++ later) = sym (drop_more code at 0 lt) ∙ ahead ∙ ap (λ (b : List ℕ). b ++ later) is in
    (there ∙ cc, cc)

-- The offset behind the token at an offset, of which nothing moves, is found where that behind what stands behind its opcode is.
module _ (code : List ℕ) (at opcode : ℕ) (result : Option ℕ) (lt : at < length code) (there : opcode ≡ get_or code at 0) (still : IsReferring opcode → ⊥) where
  abbrev Found : Tok → List ℕ → Type 0
  Found t later = IsTokInRange t → drop at code ≡ tok_bytes t ++ later → result ≡ Some (at + length (tok_bytes t))

  abbrev found_behind : (t : Tok) (other : ℕ) (behind : List ℕ) → tok_bytes t ≡ other ∷ behind → result ≡ Some (at + 1 + length behind)
      → result ≡ Some (at + length (tok_bytes t))
  found_behind t other behind bytes e = e ∙ ap Some (omega (arith, ap length bytes))

  pub regular_found : (opcode ≡ 0x0E → ⊥) → (opcode ≡ 0x43 → ⊥) → (opcode ≡ 0x44 → ⊥)
      → ((count : ℕ) (front later : List ℕ) → stride opcode ≡ suc count → AreIntegers count front → drop (at + 1) code ≡ front ++ later
      → result ≡ Some (at + 1 + length front)) → (t : Tok) (later : List ℕ) → Found t later
  regular_found no_table no_word no_other exact t later r ahead =
      elim (sort t r) [
        | inl f ↦
            let b = front_at code at opcode f.opcode (tok_bytes t) f.behind later lt there ahead f.bytes in
            found_behind t f.opcode f.behind f.bytes (exact f.count f.behind later (ap stride b.0 ∙ f.long) f.integers b.1)
        | inr (inl f) ↦ absurd (no_table (front_at code at opcode 0x0E (tok_bytes t) _ later lt there ahead f.bytes).0)
        | inr (inr (inl f)) ↦
            let b = front_at code at opcode f.opcode (tok_bytes t) f.behind later lt there ahead f.bytes in
            absurd (no_words no_word no_other f.opcode f.size b.0 f.sized)
        | inr (inr (inr f)) ↦
            let b = front_at code at opcode f.opcode (tok_bytes t) (short f.index) later lt there ahead f.bytes in
            absurd (still (subst IsReferring (sym b.0) f.refers))
      ]
    where
      no_words : (opcode ≡ 0x43 → ⊥) → (opcode ≡ 0x44 → ⊥) → (other size : ℕ) → opcode ≡ other → IsSized other size → ⊥
      no_words first second other size same (inl d) = first (same ∙ d.0)
      no_words first second other size same (inr d) = second (same ∙ d.0)

  pub table_found : opcode ≡ 0x0E
      → ((labels : List ℕ) (other : ℕ) (later : List ℕ) → length labels < 2 ^ 32
      → drop (at + 1) code ≡ (written_vector short labels ++ short other) ++ later
      → result ≡ Some (at + 1 + length (written_vector short labels ++ short other)))
      → (t : Tok) (later : List ℕ) → Found t later
  table_found is exact t later r ahead =
      elim (sort t r) [
        | inl f ↦
            let b = front_at code at opcode f.opcode (tok_bytes t) f.behind later lt there ahead f.bytes in
            absurd (table_is_none f.opcode f.count (sym b.0 ∙ is) f.long)
        | inr (inl f) ↦
            let behind = written_vector short f.labels ++ short f.other in
            let b = front_at code at opcode 0x0E (tok_bytes t) behind later lt there ahead f.bytes in
            found_behind t 0x0E behind f.bytes (exact f.labels f.other later f.few b.1)
        | inr (inr (inl f)) ↦
            let b = front_at code at opcode f.opcode (tok_bytes t) f.behind later lt there ahead f.bytes in
            absurd (no_table f.opcode f.size (sym b.0 ∙ is) f.sized)
        | inr (inr (inr f)) ↦
            let b = front_at code at opcode f.opcode (tok_bytes t) (short f.index) later lt there ahead f.bytes in
            absurd (not_table f.opcode f.refers (sym b.0 ∙ is))
      ]
    where
      no_table : (other size : ℕ) → other ≡ 0x0E → IsSized other size → ⊥
      no_table other size e (inl d) = omega (arith, e, d.0)
      no_table other size e (inr d) = omega (arith, e, d.0)

  pub word_found : (size : ℕ) → IsSized opcode size
      → ((front later : List ℕ) → length front ≡ size → drop (at + 1) code ≡ front ++ later → result ≡ Some (at + 1 + length front))
      → (t : Tok) (later : List ℕ) → Found t later
  word_found size sized exact t later r ahead =
      elim (sort t r) [
        | inl f ↦
            let b = front_at code at opcode f.opcode (tok_bytes t) f.behind later lt there ahead f.bytes in
            absurd (word_is_none opcode size f.count sized (ap stride b.0 ∙ f.long))
        | inr (inl f) ↦
            let b = front_at code at opcode 0x0E (tok_bytes t) _ later lt there ahead f.bytes in
            absurd (no_word opcode size b.0 sized)
        | inr (inr (inl f)) ↦
            let b = front_at code at opcode f.opcode (tok_bytes t) f.behind later lt there ahead f.bytes in
            found_behind t f.opcode f.behind f.bytes (exact f.behind later (f.long ∙ same_size opcode f.opcode size f.size b.0 sized f.sized) b.1)
        | inr (inr (inr f)) ↦
            let b = front_at code at opcode f.opcode (tok_bytes t) (short f.index) later lt there ahead f.bytes in
            absurd (not_word f.opcode opcode size f.refers (sym b.0) sized)
      ]
    where
      no_word : (other size : ℕ) → other ≡ 0x0E → IsSized other size → ⊥
      no_word other size e (inl d) = omega (arith, e, d.0)
      no_word other size e (inr d) = omega (arith, e, d.0)

      same_size : (a b size other : ℕ) → a ≡ b → IsSized a size → IsSized b other → other ≡ size
      same_size a b size other e (inl c) (inl d) = omega (arith, c.1, d.1)
      same_size a b size other e (inl c) (inr d) = absurd (omega (arith, e, c.0, d.0))
      same_size a b size other e (inr c) (inl d) = absurd (omega (arith, e, c.0, d.0))
      same_size a b size other e (inr c) (inr d) = omega (arith, c.1, d.1)
