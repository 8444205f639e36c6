-- What each reader takes from the front, and what its faults are.
use Rattle.std.proofs.Common.{◌≡◌, ℤ, ℕ, ◌<◌, ◌≤◌, true, cond, leb, inl, inr, List, [], ◌∷◌, ◌++◌, length, take, drop, Result, Ok, Err}
use Rattle.std.proofs.Common.{refl, sym, ap, ◌∙◌, length-append, arith}
use Rattle.std.proofs.lemmas.Bool.{leb-true, le-leb}
use Rattle.std.proofs.lemmas.List.{take-append-drop, take_at, drop_at, length-take-le}
use Rattle.std.specs.Str.{is_utf8}
use Rattle.byteorder.specs.Endian.{little_number}
use Rattle.wk_bytes.specs.declared.fault.ReadKind.{ReadKind}
use Rattle.wk_bytes.specs.declared.fault.ReadKind.TheVariants.{UnexpectedEnd, BadUtf8}
use Rattle.wk_bytes.specs.declared.fault.ReadFault.{ReadFault}
use Rattle.wk_bytes.specs.Leb.{◌>>=◌, SpellsU, uint_at, sint_at}
use Rattle.wk_bytes.specs.LebLaws.{IsBytes, bind_ok, chosen, uint_fronts, sint_fronts}
use Rattle.wk_bytes.specs.Span.{fault, placed, byte_at, piece_at, u32_at, signed_at, word_at, name_at}

abbrev pub good : {A : Type 0} → A → Result A ReadFault
good x = Ok x

pub ok_is : {A : Type 0} (x y : A) → good x ≡ good y → x ≡ y
ok_is x y e = cc

abbrev pub bad : {A : Type 0} → ReadFault → Result A ReadFault
bad e = Err e

pub err_is : {A : Type 0} (d e : ReadFault) → bad {A = A} d ≡ bad e → d ≡ e
err_is d e h = cc

pub not_both : {A E : Type 0} (r : Result A E) (e : E) (x : A) → r ≡ Err e → r ≡ Ok x → ⊥
not_both r e x p q = cc

pub placed_ok : {A : Type 0} (r : Result A ReadKind) (end : ℕ) (bytes : List ℕ) (x : A) → placed r end bytes ≡ Ok x → r ≡ Ok x
placed_ok (Ok y) end bytes x e = cc
placed_ok (Err k) end bytes x e = absurd cc

pub placed_err : {A : Type 0} (r : Result A ReadKind) (end : ℕ) (bytes : List ℕ) (e : ReadFault) → placed r end bytes ≡ Err e
    → (kind : ReadKind) × (r ≡ Err kind) × (fault kind end bytes ≡ e)
placed_err (Ok y) end bytes e h = absurd cc
placed_err (Err k) end bytes e h = (k, refl, cc)

-- ---- what is taken

pub u32_at-takes : (end : ℕ) (bytes : List ℕ) (n : ℕ) (rest : List ℕ) → u32_at end bytes ≡ Ok (n, rest)
    → (x : ℕ) × (front : List ℕ) × (bytes ≡ x ∷ (front ++ rest))
unfolding u32_at
u32_at-takes end bytes n rest e =
    let f = uint_fronts 32 bytes n rest (placed_ok (uint_at 32 bytes) end bytes (n, rest) e) in
    (f.0, f.1, f.2)

-- the bytes that it takes spell the number
pub u32_at-counts : (end : ℕ) (bytes : List ℕ) (n : ℕ) (rest : List ℕ) → u32_at end bytes ≡ Ok (n, rest)
    → (count : List ℕ) × (0 < length count) × (bytes ≡ count ++ rest) × (IsBytes count → SpellsU 32 count n)
unfolding u32_at
u32_at-counts end bytes n rest e =
    let f = uint_fronts 32 bytes n rest (placed_ok (uint_at 32 bytes) end bytes (n, rest) e) in
    (f.0 ∷ f.1, omega arith, f.2, f.3)

pub signed_at-takes : (N end : ℕ) (bytes : List ℕ) (z : ℤ) (rest : List ℕ) → signed_at N end bytes ≡ Ok (z, rest)
    → (x : ℕ) × (front : List ℕ) × (bytes ≡ x ∷ (front ++ rest))
unfolding signed_at
signed_at-takes N end bytes z rest e =
    let f = sint_fronts N bytes z rest (placed_ok (sint_at N bytes) end bytes (z, rest) e) in
    (f.0, f.1, f.2)

pub u32_at-shorter : (end : ℕ) (bytes : List ℕ) (n : ℕ) (rest : List ℕ) → u32_at end bytes ≡ Ok (n, rest) → length rest < length bytes
u32_at-shorter end bytes n rest e =
    let t = u32_at-takes end bytes n rest e in
    omega (arith, ap length t.2, length-append t.1 rest)

pub byte_at-takes : (end : ℕ) (bytes : List ℕ) (x : ℕ) (rest : List ℕ) → byte_at end bytes ≡ Ok (x, rest) → bytes ≡ x ∷ rest
unfolding byte_at
byte_at-takes end [] x rest e = absurd cc
byte_at-takes end (y ∷ bytes) x rest e = ap (λ (p : ℕ × List ℕ). p.0 ∷ p.1) (ok_is (y, bytes) (x, rest) e)

-- the two parts of a cut
cut_parts : (n : ℕ) (bytes piece rest : List ℕ) → take n bytes ≡ piece → drop n bytes ≡ rest → n ≤ length bytes → (bytes ≡ piece ++ rest) × (length piece ≡ n)
cut_parts n bytes piece rest one two enough = (
  sym (take-append-drop n bytes) ∙ ap (λ (a : List ℕ). a ++ drop n bytes) one ∙ ap (λ (b : List ℕ). piece ++ b) two,
  sym (ap length one) ∙ length-take-le n bytes enough,
)

pub piece_at-takes : (n end : ℕ) (bytes piece rest : List ℕ) → piece_at n end bytes ≡ Ok (piece, rest) → (bytes ≡ piece ++ rest) × (length piece ≡ n)
unfolding piece_at
piece_at-takes n end bytes piece rest e =
    elim (chosen (leb n (length bytes)) (Ok (take n bytes, drop n bytes)) (Err (fault UnexpectedEnd end bytes)) (Ok (piece, rest)) e) [
      | inl p ↦
          let both : (take n bytes, drop n bytes) ≡ (piece, rest) = ok_is _ _ p.1 in
          cut_parts n bytes piece rest (ap (λ (q : List ℕ × List ℕ). q.0) both) (ap (λ (q : List ℕ × List ℕ). q.1) both) (leb-true n (length bytes) p.0)
      | inr p ↦ absurd cc
    ]

pub piece_at-again : (end : ℕ) (piece rest : List ℕ) → piece_at (length piece) end (piece ++ rest) ≡ Ok (piece, rest)
unfolding piece_at
piece_at-again end piece rest =
    let long : leb (length piece) (length (piece ++ rest)) ≡ true = le-leb _ _ (omega (arith, length-append piece rest)) in
    rw (long, take_at piece rest (length piece) refl, drop_at piece rest (length piece) refl) refl

-- a word is read of its piece
pub word_at-takes : (n end : ℕ) (bytes : List ℕ) (w : ℕ) (rest : List ℕ) → word_at n end bytes ≡ Ok (w, rest)
    → (piece : List ℕ) × (bytes ≡ piece ++ rest) × (length piece ≡ n) × (w ≡ little_number n piece)
unfolding word_at
word_at-takes n end bytes w rest e =
    let p = bind_ok (piece_at n end bytes) (λ p. Ok (little_number n p.0, p.1)) (w, rest) e in
    let both : (little_number n p.0.0, p.0.1) ≡ (w, rest) = ok_is _ _ p.2 in
    let t = piece_at-takes n end bytes p.0.0 p.0.1 p.1 in
    (p.0.0, t.0 ∙ ap (λ (q : ℕ × List ℕ). p.0.0 ++ q.1) both, t.1, sym (ap (λ (q : ℕ × List ℕ). q.0) both))

-- a name is a size, and that many bytes of UTF-8
pub record NameSteps (end : ℕ) (bytes text rest : List ℕ) : Type 0 where
  pub size : ℕ
  pub after_size : List ℕ
  pub sizes : u32_at end bytes ≡ Ok (size, after_size)
  pub pieces : piece_at size end after_size ≡ Ok (text, rest)
  pub utf8 : is_utf8 text ≡ true

pub name_at-steps : (end : ℕ) (bytes text rest : List ℕ) → name_at end bytes ≡ Ok (text, rest) → NameSteps end bytes text rest
unfolding name_at
name_at-steps end bytes text rest e =
    let a = bind_ok (u32_at end bytes) (λ n. piece_at n.0 end n.1 >>= λ t. cond (is_utf8 t.0) (Ok t) (Err (fault BadUtf8 end n.1))) (text, rest) e in
    let b = bind_ok (piece_at a.0.0 end a.0.1) (λ t. cond (is_utf8 t.0) (Ok t) (Err (fault BadUtf8 end a.0.1))) (text, rest) a.2 in
    elim (chosen (is_utf8 b.0.0) (Ok b.0) (Err (fault BadUtf8 end a.0.1)) (Ok (text, rest)) b.2) [
      | inl p ↦
          let both : b.0 ≡ (text, rest) = ok_is _ _ p.1 in
          record {
            size = a.0.0;
            after_size = a.0.1;
            sizes = a.1;
            pieces = b.1 ∙ ap good both;
            utf8 = sym (ap (λ (q : List ℕ × List ℕ). is_utf8 q.0) both) ∙ p.0;
          }
      | inr p ↦ absurd cc
    ]
