-- What a reader of bytes hands up of a fault that stands.
use Rattle.std.proofs.Common.{◌≡◌, ℕ, ◌+◌, ◌≤◌, ◌⊎◌, cond, leb, inl, inr, List, [], ◌∷◌, ◌++◌, length, take, drop, Result, Ok, Err, refl, sym, ap}
use Rattle.std.proofs.Common.{subst, ◌∙◌, append_assoc, length-append, arith}
use Rattle.std.proofs.lemmas.Bool.{false≢true, leb-false}
use Rattle.std.proofs.lemmas.List.{append-nil}
use Rattle.std.specs.Str.{is_utf8}
use Rattle.std.proofs.lemmas.Str.{is_utf8-from_IsUtf8}
use Rattle.byteorder.specs.Endian.{little_number}
use Rattle.wk_bytes.specs.declared.fault.ReadKind.{ReadKind}
use Rattle.wk_bytes.specs.declared.fault.ReadKind.TheVariants.{BadMagic, BadVersion, UnexpectedEnd, IntTooLong, IntTooLarge, UnknownSection, SectionOrder}
use Rattle.wk_bytes.specs.declared.fault.ReadKind.TheVariants.{SectionSize, BadUtf8, BadByte, UnknownOpcode, TooManyLocals, FuncCodeCount, BodySize, TooDeep}
use Rattle.wk_bytes.specs.declared.fault.ReadKind.TheVariants.{LongInput, Memory}
use Rattle.wk_bytes.specs.declared.fault.ReadFault.{ReadFault}
use Rattle.wk_bytes.specs.Leb.{◌>>=◌, IsIntKind, lastU, lastS, uint_at, sint_at}
use Rattle.wk_bytes.specs.LebLaws.{bind_ok, chosen, uint_wrong, sint_wrong}
use Rattle.wk_bytes.specs.Span.{Span, offset, fault, byte_at, piece_at, u32_at, signed_at, word_at, name_at}
use Rattle.wk_bytes.specs.SpanLaws.{ok_is, err_is, placed_err, byte_at-takes, piece_at-takes, u32_at-takes, u32_at-counts, signed_at-takes, word_at-takes}
use Rattle.wk_bytes.specs.Frames.{Section}
use Rattle.wk_bytes.specs.Stands.{EndsWithSize, BeginsCount, IsCut, IsWidth, StandsAt, EndsThere, Stands, StandsOrMemory, StandsInCode}
use Rattle.wk_bytes.specs.Stands.{IsShort, contents_of, whole, LiesIn}

-- ---- more bytes in front change nothing

pub EndsWithSize-later : (front bytes : List ℕ) (n : ℕ) → EndsWithSize bytes n → EndsWithSize (front ++ bytes) n
EndsWithSize-later front bytes n s = (front ++ s.0, s.1, ap (λ b. front ++ b) s.2 ∙ sym (append_assoc front s.0 s.1), s.3)

-- the same of bytes that end with others
ends-later : (front skipped before end : List ℕ) → skipped ≡ before ++ end → front ++ skipped ≡ (front ++ before) ++ end
ends-later front skipped before end parts = ap (λ b. front ++ b) parts ∙ sym (append_assoc front before end)

IsCut-later : (front skipped from : List ℕ) → IsCut skipped from → IsCut (front ++ skipped) from
IsCut-later front skipped from (inl none) = inl none
IsCut-later front skipped from (inr (inl int)) = inr (inl int)
IsCut-later front skipped from (inr (inr (inl (inl word)))) =
    inr (inr (inl (inl (front ++ word.0, ends-later front skipped word.0 (0x43 ∷ []) word.1, word.2))))
IsCut-later front skipped from (inr (inr (inl (inr word)))) =
    inr (inr (inl (inr (front ++ word.0, ends-later front skipped word.0 (0x44 ∷ []) word.1, word.2))))
IsCut-later front skipped from (inr (inr (inr piece))) = inr (inr (inr (piece.0, EndsWithSize-later front skipped piece.0 piece.1, piece.2)))

StandsAt-later : (kind : ReadKind) (front skipped from : List ℕ) → StandsAt kind skipped from → StandsAt kind (front ++ skipped) from
StandsAt-later UnexpectedEnd front skipped from s = IsCut-later front skipped from s
StandsAt-later BadMagic front skipped from s = s
StandsAt-later BadVersion front skipped from s = s
StandsAt-later IntTooLong front skipped from s = s
StandsAt-later IntTooLarge front skipped from s = s
StandsAt-later UnknownSection front skipped from s = s
StandsAt-later SectionOrder front skipped from s = s
StandsAt-later SectionSize front skipped from s = s
StandsAt-later BadUtf8 front skipped from s = s
StandsAt-later BadByte front skipped from s = s
StandsAt-later UnknownOpcode front skipped from s = s
StandsAt-later TooManyLocals front skipped from s = s
StandsAt-later FuncCodeCount front skipped from s = s
StandsAt-later BodySize front skipped from s = s
StandsAt-later TooDeep front skipped from s = s
StandsAt-later LongInput front skipped from s = absurd s
StandsAt-later Memory front skipped from s = absurd s

EndsThere-later : (front skipped from later : List ℕ) → EndsThere skipped from later → EndsThere (front ++ skipped) from later
EndsThere-later front skipped from later (inl none) = inl none
EndsThere-later front skipped from later (inr s) =
    inr (front ++ s.0, s.1, ends-later front skipped s.0 s.1 s.2, EndsWithSize-later front s.0 (length s.1 + length from) s.3)

-- ---- from a part to the whole

-- a fault in what is left after a front was taken
pub Stands-later : (front : List ℕ) (s t : Span) (e : ReadFault) → s.rest ≡ front ++ t.rest → s.end ≡ t.end → length s.rest ≤ s.end → Stands t e → Stands s e
Stands-later front s t e parts ends fits stood = record {
  skipped = front ++ stood.skipped;
  from = stood.from;
  later = stood.later;
  parts = parts ∙ ends-later front t.rest stood.skipped (stood.from ++ stood.later) stood.parts;
  place = omega (arith, stood.place, ends, fits, ap length parts, length-append front t.rest, length-append front stood.skipped);
  ends = EndsThere-later front stood.skipped stood.from stood.later stood.ends;
  stands = StandsAt-later e.kind front stood.skipped stood.from stood.stands;
}

-- what ends where a piece ends does so behind its size
ends_within : (front back skipped from later : List ℕ) → EndsWithSize front (length (skipped ++ (from ++ later))) → EndsThere skipped from later
    → EndsThere (front ++ skipped) from (later ++ back)
ends_within front back skipped from later sized (inl none) =
    let long : length (skipped ++ (from ++ later)) ≡ length skipped + length from =
    omega (arith, length-append skipped (from ++ later), length-append from later, ap length none) in
    inr (front, skipped, refl, subst (EndsWithSize front) long sized)
ends_within front back skipped from later sized (inr s) =
    inr (front ++ s.0, s.1, ends-later front skipped s.0 s.1 s.2, EndsWithSize-later front s.0 (length s.1 + length from) s.3)

-- a span between other bytes, of which those in front end with its size
pub Stands-within : (front back : List ℕ) (s t : Span) (e : ReadFault) → s.rest ≡ front ++ (t.rest ++ back) → s.end ≡ t.end + length back
    → length s.rest ≤ s.end → EndsWithSize front (length t.rest) → Stands t e → Stands s e
Stands-within front back s t e parts ends fits sized stood =
    let inner : t.rest ++ back ≡ stood.skipped ++ (stood.from ++ (stood.later ++ back)) =
    ap (λ b. b ++ back) stood.parts ∙ append_assoc stood.skipped (stood.from ++ stood.later) back
    ∙ ap (λ b. stood.skipped ++ b) (append_assoc stood.from stood.later back) in
    record {
      skipped = front ++ stood.skipped;
      from = stood.from;
      later = stood.later ++ back;
      parts = parts ∙ ends-later front (t.rest ++ back) stood.skipped (stood.from ++ (stood.later ++ back)) inner;
      place = omega (
        arith,
        stood.place,
        ends,
        fits,
        ap length parts,
        length-append front (t.rest ++ back),
        length-append t.rest back,
        length-append front stood.skipped,
      );
      ends = ends_within front back stood.skipped stood.from stood.later (subst (λ b. EndsWithSize front (length b)) stood.parts sized) stood.ends;
      stands = StandsAt-later e.kind front stood.skipped stood.from stood.stands;
    }

-- a fault in the contents of a section
pub Stands-contents : (bytes : List ℕ) (s : Section) (e : ReadFault) → LiesIn bytes s → Stands (contents_of s) e → Stands (whole bytes) e
Stands-contents bytes s e lies stood =
    let long : length bytes ≡ (s.at + length s.contents) + length lies.after =
    omega (arith, ap length lies.parts, length-append lies.before (s.contents ++ lies.after), length-append s.contents lies.after, lies.place) in
    Stands-within lies.before lies.after (whole bytes) (contents_of s) e lies.parts long (omega arith) lies.sized stood

-- a fault at the first byte
pub first_stands : (s : Span) (e : ReadFault) → e.at ≡ offset s → StandsAt e.kind [] s.rest → Stands s e
first_stands s e place stands = record {
  skipped = [];
  from = s.rest;
  later = [];
  parts = sym (append-nil s.rest);
  place = omega (arith, place);
  ends = inl refl;
  stands = stands;
}

pub Stands-here : (kind : ReadKind) (end : ℕ) (bytes : List ℕ) → StandsAt kind [] bytes → Stands (record { rest = bytes; end = end }) (fault kind end bytes)
Stands-here kind end bytes stands = first_stands (record { rest = bytes; end = end }) (fault kind end bytes) refl stands

-- a fault at the end of an input, which no bytes decide
pub Stands-at_end : (kind : ReadKind) (bytes : List ℕ) → StandsAt kind bytes [] → Stands (whole bytes) (record { kind = kind; at = length bytes })
Stands-at_end kind bytes stands = record {
  skipped = bytes;
  from = [];
  later = [];
  parts = sym (append-nil bytes);
  place = omega arith;
  ends = inl refl;
  stands = stands;
}

-- ---- the same of calls that take memory

pub StandsOrMemory-whole : (bytes : List ℕ) (e : ReadFault) → StandsOrMemory (whole bytes) e → StandsInCode bytes e
StandsOrMemory-whole bytes e (inl none) = inl none
StandsOrMemory-whole bytes e (inr stood) = inr (inr stood)

-- ---- the faults of a reader

-- A reader takes what it reads from the front, and its faults stand.
pub record ReadsFront {A : Type 0} (read : ℕ → List ℕ → Result (A × List ℕ) ReadFault) : Type 0 where
  pub takes : (end : ℕ) (bytes : List ℕ) (x : A) (rest : List ℕ) → read end bytes ≡ Ok (x, rest) → (front : List ℕ) × (bytes ≡ front ++ rest)
  pub faults : (end : ℕ) (bytes : List ℕ) (e : ReadFault) → read end bytes ≡ Err e → length bytes ≤ end → Stands (record { rest = bytes; end = end }) e

-- one that reads nothing
pub ReadsFront-done : {A : Type 0} (x : A) → ReadsFront (λ end bytes. Ok (x, bytes))
ReadsFront-done {A = A} x =
    record { takes = λ end bytes y rest e. ([], ap (λ (p : A × List ℕ). p.1) (ok_is (x, bytes) (y, rest) e)); faults = λ end bytes e h fits. absurd cc }

-- one after another
module _ {A B : Type 0} (read : ℕ → List ℕ → Result (A × List ℕ) ReadFault) (more : A → ℕ → List ℕ → Result (B × List ℕ) ReadFault) where
  then_takes : ReadsFront read → ((x : A) → ReadsFront (more x)) → (end : ℕ) (bytes : List ℕ) (y : B) (rest : List ℕ)
      → (read end bytes >>= λ p. more p.0 end p.1) ≡ Ok (y, rest) → (front : List ℕ) × (bytes ≡ front ++ rest)
  then_takes first second end bytes y rest e =
      let a = bind_ok (read end bytes) (λ p. more p.0 end p.1) (y, rest) e in
      let one = first.takes end bytes a.0.0 a.0.1 a.1 in
      let two = (second a.0.0).takes end a.0.1 y rest a.2 in
      (one.0 ++ two.0, one.1 ∙ ap (λ b. one.0 ++ b) two.1 ∙ sym (append_assoc one.0 two.0 rest))

  then_faults : ReadsFront read → ((x : A) → ReadsFront (more x)) → (end : ℕ) (bytes : List ℕ) (e : ReadFault) (r : Result (A × List ℕ) ReadFault)
      → read end bytes ≡ r → (r >>= λ p. more p.0 end p.1) ≡ Err e → length bytes ≤ end → Stands (record { rest = bytes; end = end }) e
  then_faults first second end bytes e (Err d) is h fits = first.faults end bytes e (is ∙ cc) fits
  then_faults first second end bytes e (Ok p) is h fits =
      let one = first.takes end bytes p.0 p.1 is in
      let fits' : length p.1 ≤ end = omega (arith, ap length one.1, length-append one.0 p.1) in
      Stands-later one.0 (record { rest = bytes; end = end }) (record { rest = p.1; end = end }) e one.1 refl fits ((second p.0).faults end p.1 e h fits')

  pub ReadsFront-then : ReadsFront read → ((x : A) → ReadsFront (more x)) → ReadsFront (λ end bytes. read end bytes >>= λ p. more p.0 end p.1)
  ReadsFront-then first second = record {
    takes = then_takes first second;
    faults = λ end bytes e h fits. then_faults first second end bytes e (read end bytes) refl h fits;
  }

-- ---- each reader

pub stands_as : (kind : ReadKind) (end : ℕ) (bytes : List ℕ) (e : ReadFault) → fault kind end bytes ≡ e → StandsAt kind [] bytes
    → Stands (record { rest = bytes; end = end }) e
stands_as kind end bytes e is stands = subst (Stands (record { rest = bytes; end = end })) is (Stands-here kind end bytes stands)

byte_at-faults : (end : ℕ) (bytes : List ℕ) (e : ReadFault) → byte_at end bytes ≡ Err e → length bytes ≤ end → Stands (record { rest = bytes; end = end }) e
unfolding byte_at
byte_at-faults end [] e h fits = stands_as UnexpectedEnd end [] e (err_is {A = ℕ × List ℕ} _ _ h) (inl refl)
byte_at-faults end (x ∷ bytes) e h fits = absurd cc

pub ReadsFront-byte_at : ReadsFront byte_at
ReadsFront-byte_at = record { takes = λ end bytes x rest e. (x ∷ [], byte_at-takes end bytes x rest e); faults = byte_at-faults }

-- One that reads a piece of n bytes first: its faults stand, or it wants more bytes than are left.
pub record ReadsPiece {A : Type 0} (n : ℕ) (read : ℕ → List ℕ → Result (A × List ℕ) ReadFault) : Type 0 where
  pub takes : (end : ℕ) (bytes : List ℕ) (x : A) (rest : List ℕ) → read end bytes ≡ Ok (x, rest) → (front : List ℕ) × (bytes ≡ front ++ rest)
  pub faults : (end : ℕ) (bytes : List ℕ) (e : ReadFault) → read end bytes ≡ Err e → length bytes ≤ end
      → Stands (record { rest = bytes; end = end }) e ⊎ IsShort n (record { rest = bytes; end = end }) e

pub piece_at-short : (n end : ℕ) (bytes : List ℕ) (e : ReadFault) → piece_at n end bytes ≡ Err e → IsShort n (record { rest = bytes; end = end }) e
unfolding piece_at
piece_at-short n end bytes e h =
    elim (chosen (leb n (length bytes)) (Ok (take n bytes, drop n bytes)) (Err (fault UnexpectedEnd end bytes)) (Err e) h) [
      | inl p ↦ absurd cc
      | inr p ↦ (sym (err_is {A = List ℕ × List ℕ} _ _ p.1), leb-false n (length bytes) p.0)
    ]

pub ReadsPiece-piece_at : (n : ℕ) → ReadsPiece n (piece_at n)
ReadsPiece-piece_at n = record {
  takes = λ end bytes piece rest e. (piece, (piece_at-takes n end bytes piece rest e).0);
  faults = λ end bytes e h fits. inr (piece_at-short n end bytes e h);
}

-- the word of a piece
abbrev word_of : ℕ → List ℕ × List ℕ → Result (ℕ × List ℕ) ReadFault
word_of n p = Ok (little_number n p.0, p.1)

word_at-faults : (n end : ℕ) (bytes : List ℕ) (e : ReadFault) (r : Result (List ℕ × List ℕ) ReadFault) → piece_at n end bytes ≡ r
    → (r >>= word_of n) ≡ Err e → IsShort n (record { rest = bytes; end = end }) e
word_at-faults n end bytes e (Err d) is h = piece_at-short n end bytes e (is ∙ cc)
word_at-faults n end bytes e (Ok p) is h = absurd cc

pub word_at-short : (n end : ℕ) (bytes : List ℕ) (e : ReadFault) → word_at n end bytes ≡ Err e → IsShort n (record { rest = bytes; end = end }) e
unfolding word_at
word_at-short n end bytes e h = word_at-faults n end bytes e (piece_at n end bytes) refl h

pub ReadsPiece-word_at : (n : ℕ) → ReadsPiece n (word_at n)
ReadsPiece-word_at n = record {
  takes = λ end bytes w rest e. let t = word_at-takes n end bytes w rest e in (t.0, t.1);
  faults = λ end bytes e h fits. inr (word_at-short n end bytes e h);
}

-- more is wanted than is left, and how much is spelled in front
pub short_stands : (front : List ℕ) (n : ℕ) (s t : Span) (e : ReadFault) → s.rest ≡ front ++ t.rest → s.end ≡ t.end → length s.rest ≤ s.end
    → StandsAt UnexpectedEnd front t.rest → IsShort n t e → Stands s e
short_stands front n s t e parts ends fits cut short =
    let stood : Stands s (fault UnexpectedEnd t.end t.rest) = record {
      skipped = front;
      from = t.rest;
      later = [];
      parts = parts ∙ ap (λ b. front ++ b) (sym (append-nil t.rest));
      place = omega (arith, ends, fits, ap length parts, length-append front t.rest);
      ends = inl refl;
      stands = cut;
    } in
    subst (Stands s) (sym short.0) stood

pub u32_stands : (bytes : List ℕ) (kind : ReadKind) → IsIntKind lastU 32 bytes kind → StandsAt kind [] bytes
u32_stands bytes UnexpectedEnd s = inr (inl (32, inl refl, s))
u32_stands bytes IntTooLong s = (32, inl refl, s)
u32_stands bytes IntTooLarge s = inl s
u32_stands bytes _ s = absurd s

u32_at-faults : (end : ℕ) (bytes : List ℕ) (e : ReadFault) → u32_at end bytes ≡ Err e → length bytes ≤ end → Stands (record { rest = bytes; end = end }) e
unfolding u32_at
u32_at-faults end bytes e h fits =
    let p = placed_err (uint_at 32 bytes) end bytes e h in
    stands_as p.0 end bytes e p.2 (u32_stands bytes p.0 (uint_wrong 32 bytes p.0 p.1))

pub ReadsFront-u32_at : ReadsFront u32_at
ReadsFront-u32_at = record { takes = λ end bytes n rest e. let t = u32_at-takes end bytes n rest e in (t.0 ∷ t.1, t.2); faults = u32_at-faults }

pub signed_stands : (N : ℕ) → IsWidth N → (bytes : List ℕ) (kind : ReadKind) → IsIntKind lastS N bytes kind → StandsAt kind [] bytes
signed_stands N width bytes UnexpectedEnd s = inr (inl (N, width, s))
signed_stands N width bytes IntTooLong s = (N, width, s)
signed_stands N width bytes IntTooLarge s = inr (N, width, s)
signed_stands N width bytes _ s = absurd s

signed_at-faults : (N : ℕ) → IsWidth N → (end : ℕ) (bytes : List ℕ) (e : ReadFault) → signed_at N end bytes ≡ Err e → length bytes ≤ end
    → Stands (record { rest = bytes; end = end }) e
unfolding signed_at
signed_at-faults N width end bytes e h fits =
    let p = placed_err (sint_at N bytes) end bytes e h in
    stands_as p.0 end bytes e p.2 (signed_stands N width bytes p.0 (sint_wrong N bytes p.0 p.1))

pub ReadsFront-signed_at : (N : ℕ) → IsWidth N → ReadsFront (signed_at N)
ReadsFront-signed_at N width =
    record { takes = λ end bytes z rest e. let t = signed_at-takes N end bytes z rest e in (t.0 ∷ t.1, t.2); faults = signed_at-faults N width }

-- ---- a piece behind its size

-- a count that was read is spelled
pub u32_there : (end : ℕ) (bytes : List ℕ) (x : ℕ × List ℕ) → u32_at end bytes ≡ Ok x → BeginsCount bytes
u32_there end bytes x e = let c = u32_at-counts end bytes x.0 x.1 e in (c.0, x.1, x.0, c.1, c.2, c.3)

module _ {B : Type 0} (more : ℕ → ℕ → List ℕ → Result (B × List ℕ) ReadFault) (pieces : (n : ℕ) → ReadsPiece n (more n)) where
  sized_takes : (end : ℕ) (bytes : List ℕ) (y : B) (rest : List ℕ) → (u32_at end bytes >>= λ p. more p.0 end p.1) ≡ Ok (y, rest)
      → (front : List ℕ) × (bytes ≡ front ++ rest)
  sized_takes end bytes y rest e =
      let a = bind_ok (u32_at end bytes) (λ p. more p.0 end p.1) (y, rest) e in
      let one = ReadsFront-u32_at.takes end bytes a.0.0 a.0.1 a.1 in
      let two = (pieces a.0.0).takes end a.0.1 y rest a.2 in
      (one.0 ++ two.0, one.1 ∙ ap (λ b. one.0 ++ b) two.1 ∙ sym (append_assoc one.0 two.0 rest))

  sized_faults : (end : ℕ) (bytes : List ℕ) (e : ReadFault) (r : Result (ℕ × List ℕ) ReadFault) → u32_at end bytes ≡ r
      → (r >>= λ p. more p.0 end p.1) ≡ Err e → length bytes ≤ end → Stands (record { rest = bytes; end = end }) e
  sized_faults end bytes e (Err d) is h fits = ReadsFront-u32_at.faults end bytes e (is ∙ cc) fits
  sized_faults end bytes e (Ok p) is h fits =
      let c = u32_at-counts end bytes p.0 p.1 is in
      let s : Span = record { rest = bytes; end = end } in
      let t : Span = record { rest = p.1; end = end } in
      let fits' : length p.1 ≤ end = omega (arith, ap length c.2, length-append c.0 p.1) in
      elim ((pieces p.0).faults end p.1 e h fits') [
        | inl stood ↦ Stands-later c.0 s t e c.2 refl fits stood
        | inr short ↦ short_stands c.0 p.0 s t e c.2 refl fits (inr (inr (inr (p.0, ([], c.0, refl, c.3), short.1)))) short
      ]

  -- a size, and then a piece of that many bytes
  pub ReadsFront-sized : ReadsFront (λ end bytes. u32_at end bytes >>= λ p. more p.0 end p.1)
  ReadsFront-sized = record { takes = sized_takes; faults = λ end bytes e h fits. sized_faults end bytes e (u32_at end bytes) refl h fits }

-- the text of a name, behind its size
abbrev text_at : ℕ → ℕ → List ℕ → Result (List ℕ × List ℕ) ReadFault
text_at n end bytes = piece_at n end bytes >>= λ text. cond (is_utf8 text.0) (Ok text) (Err (fault BadUtf8 end bytes))

text_at-takes : (n end : ℕ) (bytes text rest : List ℕ) → text_at n end bytes ≡ Ok (text, rest) → (front : List ℕ) × (bytes ≡ front ++ rest)
text_at-takes n end bytes text rest e =
    let a = bind_ok (piece_at n end bytes) (λ t. cond (is_utf8 t.0) (Ok t) (Err (fault BadUtf8 end bytes))) (text, rest) e in
    elim (chosen (is_utf8 a.0.0) (Ok a.0) (Err (fault BadUtf8 end bytes)) (Ok (text, rest)) a.2) [
      | inl p ↦
          let both : a.0 ≡ (text, rest) = ok_is _ _ p.1 in
          let t = piece_at-takes n end bytes a.0.0 a.0.1 a.1 in
          (a.0.0, t.0 ∙ ap (λ (q : List ℕ × List ℕ). a.0.0 ++ q.1) both)
      | inr p ↦ absurd cc
    ]

text_at-faults_of : (n end : ℕ) (bytes : List ℕ) (e : ReadFault) (r : Result (List ℕ × List ℕ) ReadFault) → piece_at n end bytes ≡ r
    → (r >>= λ text. cond (is_utf8 text.0) (Ok text) (Err (fault BadUtf8 end bytes))) ≡ Err e
    → Stands (record { rest = bytes; end = end }) e ⊎ IsShort n (record { rest = bytes; end = end }) e
text_at-faults_of n end bytes e (Err d) is h = inr (piece_at-short n end bytes e (is ∙ cc))
text_at-faults_of n end bytes e (Ok text) is h =
    elim (chosen (is_utf8 text.0) (Ok text) (Err (fault BadUtf8 end bytes)) (Err e) h) [
      | inl p ↦ absurd cc
      | inr p ↦
          let t = piece_at-takes n end bytes text.0 text.1 is in
          inl (stands_as BadUtf8 end bytes e (err_is {A = List ℕ × List ℕ} _ _ p.1)
          (text.0, text.1, t.0, λ utf8. false≢true (sym p.0 ∙ is_utf8-from_IsUtf8 text.0 utf8)))
    ]

pub ReadsFront-name_at : ReadsFront name_at
unfolding name_at
ReadsFront-name_at = ReadsFront-sized text_at
    (λ n. record { takes = text_at-takes n; faults = λ end bytes e h fits. text_at-faults_of n end bytes e (piece_at n end bytes) refl h })
