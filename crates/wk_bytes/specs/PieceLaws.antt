-- What is read is spelled; what is spelled in front is read, whatever follows; and no spelling begins another.
use Rattle.std.proofs.Common.{◌≡◌, ℤ, ℕ, Bool, true, false, List, ◌++◌, length, Result, Ok, Err, refl, sym, ap, subst, ◌∙◌, append_assoc}
use Rattle.std.specs.Str.{IsUtf8, is_utf8}
use Rattle.std.proofs.lemmas.Str.{is_utf8-from_IsUtf8, IsUtf8-from_is_utf8}
use Rattle.std.proofs.lemmas.List.{append_cancel_right}
use Rattle.wk_bytes.specs.declared.fault.ReadFault.{ReadFault}
use Rattle.wk_bytes.specs.Leb.{SpellsU, SpellsS, uint_at, sint_at}
use Rattle.wk_bytes.specs.LebLaws.{IsBytes, uint_spells, uint_again, sint_spells, sint_again}
use Rattle.wk_bytes.specs.PrefixFree.{IsPrefixFree}
use Rattle.wk_bytes.specs.Span.{Span, byte_at, piece_at, u32_at, signed_at, word_at, name_at, Gives, TakesSpelling}
use Rattle.wk_bytes.specs.SpanLaws.{not_both, ok_is, placed_ok, piece_at-takes, piece_at-again, word_at-takes, name_at-steps}
use Rattle.wk_bytes.specs.Pieces.{SpellsByte, SpellsPiece, SpellsWord, SpellsName}

-- ---- of any reader that reads each spelling in front, whatever follows

module _ {Y : Type 0} (Spells : List ℕ → Y → Type 0) (read : ℕ → List ℕ → Result (Y × List ℕ) ReadFault) where
  -- where it refuses, no front is a spelling
  pub none_spelled : ((end : ℕ) (b : List ℕ) (y : Y) (rest : List ℕ) → Spells b y → read end (b ++ rest) ≡ Ok (y, rest)) → (old : Span) (e : ReadFault)
      → read old.end old.rest ≡ Err e → (b rest : List ℕ) (y : Y) → Spells b y → old.rest ≡ b ++ rest → ⊥
  none_spelled again old e refused b rest y spelled parts =
      not_both (read old.end old.rest) e (y, rest) refused (ap (read old.end) parts ∙ again old.end b y rest spelled)

  pub read_prefix_free : ((end : ℕ) (b : List ℕ) (y : Y) (rest : List ℕ) → Spells b y → read end (b ++ rest) ≡ Ok (y, rest)) → IsPrefixFree Spells
  read_prefix_free again a b x y m n s t e =
      let both : (m, x) ≡ (n, y) = ok_is _ _ (sym (again 0 a m x s) ∙ ap (read 0) e ∙ again 0 b n y t) in
      let after : x ≡ y = ap (λ (p : Y × List ℕ). p.1) both in
      (append_cancel_right a b x (e ∙ ap (λ (z : List ℕ). b ++ z) (sym after)), ap (λ (p : Y × List ℕ). p.0) both)

  -- a call that gives what it gives takes a spelling
  pub Gives-spelling : {X : Type 0} (view : X → Y)
      → ((end : ℕ) (bytes : List ℕ) (y : Y) (rest : List ℕ) → read end bytes ≡ Ok (y, rest) → (b : List ℕ) × Spells b y × (bytes ≡ b ++ rest))
      → ((end : ℕ) (b : List ℕ) (y : Y) (rest : List ℕ) → Spells b y → read end (b ++ rest) ≡ Ok (y, rest))
      → (old new : Span) (result : Result X ReadFault) → Gives view read old result new → TakesSpelling view Spells old result new
  Gives-spelling view found again old new (Ok x) given =
      let f = found old.end old.rest (view x) new.rest given.0 in
      (f.0, f.1, f.2, given.1)
  Gives-spelling view found again old new (Err e) given = (none_spelled again old e given.0, given.1)

-- ---- a byte

pub byte_at-again : (end : ℕ) (b : List ℕ) (x : ℕ) (rest : List ℕ) → SpellsByte b x → byte_at end (b ++ rest) ≡ Ok (x, rest)
unfolding byte_at
byte_at-again end b x rest s = rw s refl

-- ---- a piece

pub piece_at-spelled : (n end : ℕ) (b piece rest : List ℕ) → SpellsPiece n b piece → piece_at n end (b ++ rest) ≡ Ok (piece, rest)
piece_at-spelled n end b piece rest s =
    ap (λ m. piece_at m end (b ++ rest)) (sym s.1) ∙ ap (λ c. piece_at (length piece) end (c ++ rest)) s.0 ∙ piece_at-again end piece rest

-- ---- a word

pub word_at-found : (n end : ℕ) (bytes : List ℕ) (w : ℕ) (rest : List ℕ) → word_at n end bytes ≡ Ok (w, rest)
    → (b : List ℕ) × SpellsWord n b w × (bytes ≡ b ++ rest)
word_at-found n end bytes w rest e = let t = word_at-takes n end bytes w rest e in (t.0, (t.2, t.3), t.1)

pub word_at-again : (n end : ℕ) (b : List ℕ) (w : ℕ) (rest : List ℕ) → SpellsWord n b w → word_at n end (b ++ rest) ≡ Ok (w, rest)
unfolding word_at
word_at-again n end b w rest s = rw (piece_at-spelled n end b b rest (refl, s.0), s.1) refl

-- ---- an integer

pub u32_at-found : (end : ℕ) (bytes : List ℕ) (n : ℕ) (rest : List ℕ) → IsBytes bytes → u32_at end bytes ≡ Ok (n, rest)
    → (b : List ℕ) × SpellsU 32 b n × (bytes ≡ b ++ rest)
unfolding u32_at
u32_at-found end bytes n rest fits e = uint_spells 32 bytes n rest fits (placed_ok (uint_at 32 bytes) end bytes (n, rest) e)

pub u32_at-again : (end : ℕ) (b : List ℕ) (n : ℕ) (rest : List ℕ) → SpellsU 32 b n → u32_at end (b ++ rest) ≡ Ok (n, rest)
unfolding u32_at
u32_at-again end b n rest s = rw (uint_again 32 b n rest s) refl

pub signed_at-found : (N end : ℕ) (bytes : List ℕ) (z : ℤ) (rest : List ℕ) → IsBytes bytes → signed_at N end bytes ≡ Ok (z, rest)
    → (b : List ℕ) × SpellsS N b z × (bytes ≡ b ++ rest)
unfolding signed_at
signed_at-found N end bytes z rest fits e = sint_spells N bytes z rest fits (placed_ok (sint_at N bytes) end bytes (z, rest) e)

pub signed_at-again : (N end : ℕ) (b : List ℕ) (z : ℤ) (rest : List ℕ) → SpellsS N b z → signed_at N end (b ++ rest) ≡ Ok (z, rest)
unfolding signed_at
signed_at-again N end b z rest s = rw (sint_again N b z rest s) refl

-- ---- a name

-- a text that is no UTF-8 is told apart
pub not_utf8 : (text : List ℕ) → ¬ (IsUtf8 text) → is_utf8 text ≡ false
not_utf8 text bad = unless (is_utf8 text) (IsUtf8-from_is_utf8 text)
  where
    unless : (b : Bool) → (b ≡ true → IsUtf8 text) → b ≡ false
    unless true tells = absurd (bad (tells refl))
    unless false tells = refl

pub name_at-found : (end : ℕ) (bytes text rest : List ℕ) → IsBytes bytes → name_at end bytes ≡ Ok (text, rest)
    → (b : List ℕ) × SpellsName b text × (bytes ≡ b ++ rest)
name_at-found end bytes text rest fits e =
    let t = name_at-steps end bytes text rest e in
    let counted = u32_at-found end bytes t.size t.after_size fits t.sizes in
    let cut = piece_at-takes t.size end t.after_size text rest t.pieces in (
      counted.0 ++ text,
      record { size = counted.0; counts = subst (SpellsU 32 counted.0) (sym cut.1) counted.1; parts = refl; utf8 = IsUtf8-from_is_utf8 text t.utf8 },
      counted.2 ∙ ap (λ b. counted.0 ++ b) cut.0 ∙ sym (append_assoc counted.0 text rest),
    )

pub name_at-again : (end : ℕ) (b text rest : List ℕ) → SpellsName b text → name_at end (b ++ rest) ≡ Ok (text, rest)
unfolding name_at
name_at-again end b text rest s =
    let parts : b ++ rest ≡ s.size ++ (text ++ rest) = ap (λ c. c ++ rest) s.parts ∙ append_assoc s.size text rest in
    ap (name_at end) parts ∙ rw
    (u32_at-again end s.size (length text) (text ++ rest) s.counts, piece_at-again end text rest, is_utf8-from_IsUtf8 text s.utf8) refl

-- ---- no spelling begins another

pub one_SpellsByte : IsPrefixFree SpellsByte
one_SpellsByte = read_prefix_free SpellsByte byte_at byte_at-again

pub one_SpellsPiece : (n : ℕ) → IsPrefixFree (SpellsPiece n)
one_SpellsPiece n = read_prefix_free (SpellsPiece n) (piece_at n) (piece_at-spelled n)

pub one_SpellsWord : (n : ℕ) → IsPrefixFree (SpellsWord n)
one_SpellsWord n = read_prefix_free (SpellsWord n) (word_at n) (word_at-again n)

pub one_SpellsName : IsPrefixFree SpellsName
one_SpellsName = read_prefix_free SpellsName name_at name_at-again
