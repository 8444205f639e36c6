-- A walk that passes over instructions with an integer of two bytes, or without a length in the table, and over an else.
use Rattle.std.proofs.Common.{◌≡◌, ℕ, zero, suc, ◌+◌, ◌-◌, ◌*◌, ◌/◌, ◌%◌, ◌^◌, ◌<◌, ◌≤◌, Bool, true, false, ℤ, pos, negsuc, ◌-ℤ◌, inl, inr, List, [], ◌∷◌, ◌++◌}
use Rattle.std.proofs.Common.{length, get_or, take, drop, Option, Some, Ok, refl, sym, ap, subst, ◌∙◌, arith, length-take, length-drop}
use Rattle.std.proofs.lemmas.Bool.{cases_lt, cases_eq, le-ltb}
use Rattle.std.proofs.lemmas.Int.{ints}
use Rattle.std.proofs.lemmas.List.{append-nil, drop_more, drop-drop, take-append-drop}
use Rattle.byteorder.specs.Endian.{little_bytes, little_number}
use Rattle.wk_bytes.specs.Leb.{SpellsU, SpellsS, joinS}
use Rattle.wk_bytes.specs.LebLaws.{IsBytes, last_value, IsBytes-before, IsBytes-after}
use Rattle.wk_bytes.specs.Short.{is_lastS, highS, short, short_signed}
use Rattle.wk_bytes.specs.ShortLaws.{short-more, short-some, short-least, short-only, short_signed-more, short_signed-some, short_signed-least}
use Rattle.wk_bytes.specs.ShortLaws.{short_signed-only}
use Rattle.wk_bytes.specs.Span.{byte_at, u32_at, signed_at, word_at}
use Rattle.wk_bytes.specs.PieceLaws.{u32_at-again, signed_at-again, word_at-again}
use Rattle.wk_body.specs.declared.immediate_kind.ImmediateKind.{ImmediateKind}
use Rattle.wk_body.specs.declared.immediate_kind.ImmediateKind.TheVariants as imms
use Rattle.wk_body.specs.declared.types.Profile.{Profile}
use Rattle.wk_body.specs.declared.types.Profile.TheVariants.{Core}
use Rattle.wk_body.specs.declared.reencoder.Reencoder.{Reencoder}
use Rattle.wk_body.specs.Instructions.{form_of}
use Rattle.wk_body.specs.ImmediateKinds.{imm_kind_in}
use Rattle.wk_body.specs.Reading.{reserved_at}
use Rattle.wk_body.specs.Minimal.{IsWideIndex, IsWideNumber, IsWide}
use Rattle.wk_body.specs.Reencoding.{Passes, Keeps, PassesPlain, Behind, GoesOn, BlocksPass}
use Rattle.wk_body.proofs.Immediates.{nothing_passed, reserved_passed, index_passed, index_reserved_passed, memarg_passed, signed32_passed, signed64_passed}
use Rattle.wk_body.proofs.Immediates.{word32_passed, word64_passed}
use Rattle.wk_body.proofs.OpenBlocks.{else_bit}
use Rattle.wk_body.proofs.Rewriting.{plain_goes, else_stays}
use Rattle.wk_body.proofs.Walking.{passed, word_kept}
use Rattle.wk_body.proofs.MinimalWalk.{later, unsigned_passed, in_both, Steps}

-- ---- integers of two bytes

two_bytes : (bytes : List ℕ) (n i m : ℕ) → i ≡ n + 1 → m ≡ n + 2 → i < length bytes → drop n bytes ≡ get_or bytes n 0 ∷ get_or bytes i 0 ∷ drop m bytes
two_bytes bytes n i m second next within =
    let k : i + 1 ≡ m = omega (arith, second, next) in
    drop_more bytes n 0 (omega (arith, second)) ∙ ap (λ (j : ℕ). get_or bytes n 0 ∷ drop j bytes) (sym second)
    ∙ ap (λ (r : List ℕ). get_or bytes n 0 ∷ r) (drop_more bytes i 0 within) ∙ ap (λ (j : ℕ). get_or bytes n 0 ∷ get_or bytes i 0 ∷ drop j bytes) k

unsigned_wide : (out : List ℕ) (w : Reencoder) (n i m : ℕ) → i ≡ n + 1 → m ≡ n + 2 → i < length w.cursor.rest
    → IsWideIndex (get_or w.cursor.rest n 0) (get_or w.cursor.rest i 0)
    → (v : ℕ) × Passes u32_at v (short v) out (later w n) out (later w m)
unsigned_wide out w n i m second next within b =
    let x = get_or w.cursor.rest n 0 in
    let y = get_or w.cursor.rest i 0 in
    let v = x - 128 + 128 * y in
    let parts : drop n w.cursor.rest ≡ x ∷ y ∷ drop m w.cursor.rest = two_bytes w.cursor.rest n i m second next within in
    let s : SpellsU 32 (x ∷ y ∷ []) v = (b.0, b.1, omega arith, y, (b.3, omega (arith, b.3), refl), refl) in
    let read : u32_at w.cursor.end (drop n w.cursor.rest) ≡ Ok (v, drop m w.cursor.rest) =
    ap (u32_at w.cursor.end) parts ∙ u32_at-again w.cursor.end (x ∷ y ∷ []) v (drop m w.cursor.rest) s in
    let more = short-more v (omega (arith, b.2)) in
    let long : length (x ∷ y ∷ []) ≡ length (short v) = omega (arith, short-least 32 v (x ∷ y ∷ []) s, ap length more, short-some (v / 128)) in
    (v, passed u32_at v (short v) (x ∷ y ∷ []) out (later w n) (later w m) (read, refl) parts refl (short-only 32 v (x ∷ y ∷ []) s long))

-- what two bytes spell that is no last byte alone
spelled : (N x y : ℕ) → 7 < N → 64 ≤ 2 ^ (N - 7 - 1) → IsWideNumber x y → (z : ℤ) × SpellsS N (x ∷ y ∷ []) z × (is_lastS z ≡ false)
spelled N x y bits wide b =
    elim (cases_lt y 64) [
      | inl lt ↦
          let most : 64 ≤ x - 128 + 128 * y = elim (cases_eq y 0) [
            | inl e ↦ omega (arith, b.0, b.3 e)
            | inr ne ↦ omega (arith, b.0, ne)
          ] in
          (joinS (x - 128) (pos y), (b.0, b.1, bits, pos y, inl (lt, omega arith, refl), refl), le-ltb (x - 128 + 128 * y) 64 most)
      | inr le ↦
          let k = 128 * suc (127 - y) - suc (x - 128) in
          let h : pos y -ℤ pos 128 ≡ negsuc (127 - y) = last_value y b.2 in
          let value : joinS (x - 128) (negsuc (127 - y)) ≡ negsuc k = omega (arith, ints, b.0, b.1) in
          let most : 64 ≤ k = elim (cases_eq y 127) [
            | inl e ↦ omega (arith, b.0, b.4 e)
            | inr ne ↦ omega (arith, b.0, b.1, b.2, ne)
          ] in
          let z : joinS (x - 128) (pos y -ℤ pos 128) ≡ negsuc k = ap (joinS (x - 128)) h ∙ value in
          (joinS (x - 128) (pos y -ℤ pos 128), (b.0, b.1, bits, pos y -ℤ pos 128, inr (le, b.2, omega arith, refl), refl), ap is_lastS z ∙ le-ltb k 64 most)
    ]

signed_wide : (N : ℕ) (out : List ℕ) (w : Reencoder) (n i m : ℕ) → 7 < N → 64 ≤ 2 ^ (N - 7 - 1) → i ≡ n + 1 → m ≡ n + 2 → i < length w.cursor.rest
    → IsWideNumber (get_or w.cursor.rest n 0) (get_or w.cursor.rest i 0)
    → (z : ℤ) × Passes (signed_at N) z (short_signed z) out (later w n) out (later w m)
signed_wide N out w n i m bits wide second next within b =
    let x = get_or w.cursor.rest n 0 in
    let y = get_or w.cursor.rest i 0 in
    let s = spelled N x y bits wide b in
    let parts : drop n w.cursor.rest ≡ x ∷ y ∷ drop m w.cursor.rest = two_bytes w.cursor.rest n i m second next within in
    let read : signed_at N w.cursor.end (drop n w.cursor.rest) ≡ Ok (s.0, drop m w.cursor.rest) =
    ap (signed_at N w.cursor.end) parts ∙ signed_at-again N w.cursor.end (x ∷ y ∷ []) s.0 (drop m w.cursor.rest) s.1 in
    let long : length (x ∷ y ∷ []) ≡ length (short_signed s.0) =
    omega (arith, short_signed-least N s.0 (x ∷ y ∷ []) s.1, ap length (short_signed-more s.0 s.2), short_signed-some (highS s.0)) in (
      s.0,
      passed (signed_at N) s.0 (short_signed s.0) (x ∷ y ∷ []) out (later w n) (later w m) (read, refl) parts refl
          (short_signed-only N s.0 (x ∷ y ∷ []) s.1 long),
    )

-- ---- words, and a reserved byte

word_wide : (size : ℕ) (w : Reencoder) (n m : ℕ) → IsBytes w.cursor.rest → m ≡ n + size → m ≤ length w.cursor.rest
    → (word : ℕ) × Keeps (word_at size) word (little_bytes size word) (later w n) (later w m)
word_wide size w n m fits next within =
    let here = drop n w.cursor.rest in
    let piece = take size here in
    let word = little_number size piece in
    let all : here ≡ piece ++ drop m w.cursor.rest = sym (take-append-drop size here)
    ∙ ap (λ (r : List ℕ). piece ++ r) (drop-drop size n w.cursor.rest ∙ ap (λ (i : ℕ). drop i w.cursor.rest) (sym next)) in
    let long : length piece ≡ size = omega (arith, length-take size here, length-drop n w.cursor.rest) in
    let bytes : IsBytes piece = IsBytes-before piece (drop m w.cursor.rest) here all
    (IsBytes-after (take n w.cursor.rest) here w.cursor.rest (sym (take-append-drop n w.cursor.rest)) fits) in
    let read : word_at size w.cursor.end here ≡ Ok (word, drop m w.cursor.rest) =
    ap (word_at size w.cursor.end) all ∙ word_at-again size w.cursor.end piece word (drop m w.cursor.rest) (long, refl) in
    (word, word_kept size word piece (later w n) (later w m) bytes (long, refl) (read, refl) all refl)

reserved_read : (end x : ℕ) (rest : List ℕ) → x ≡ 0 → reserved_at end (x ∷ rest) ≡ Ok (0, rest)
unfolding reserved_at byte_at
reserved_read end x rest is = rw is refl

reserved_wide : (w : Reencoder) (n m : ℕ) → m ≡ n + 1 → n < length w.cursor.rest → get_or w.cursor.rest n 0 ≡ 0
    → Keeps reserved_at 0 (0x00 ∷ []) (later w n) (later w m)
reserved_wide w n m next within is =
    let parts : drop n w.cursor.rest ≡ get_or w.cursor.rest n 0 ∷ drop m w.cursor.rest =
    drop_more w.cursor.rest n 0 within ∙ ap (λ (k : ℕ). get_or w.cursor.rest n 0 ∷ drop k w.cursor.rest) (sym next) in
    let read : reserved_at w.cursor.end (drop n w.cursor.rest) ≡ Ok (0, drop m w.cursor.rest) =
    ap (reserved_at w.cursor.end) parts ∙ reserved_read w.cursor.end (get_or w.cursor.rest n 0) (drop m w.cursor.rest) is in
    λ out. passed reserved_at 0 (0x00 ∷ []) (get_or w.cursor.rest n 0 ∷ []) out (later w n) (later w m) (read, refl) parts refl (ap (λ (x : ℕ). x ∷ []) is)

-- ---- an instruction

module _ (profile : Profile) (opcode : ℕ) (out : List ℕ) (w : Reencoder) (n size z : ℕ) (fits : IsBytes w.cursor.rest)
    (within : n + size ≤ length w.cursor.rest) (there : n + 3 < length w.cursor.rest → z ≡ get_or w.cursor.rest (n + 3) 0) where
  wide_behind : (o : Option ImmediateKind) → o ≡ imm_kind_in (form_of Core opcode)
      → IsWide o size (get_or w.cursor.rest (n + 1) 0) (get_or w.cursor.rest (n + 2) 0) z
      → PassesPlain profile opcode out (later w (n + 1)) out (later w (n + size))
  wide_behind (Some imms.Reserved) e b =
      reserved_passed profile opcode (in_both profile opcode imms.Reserved e) 0 out (later w (n + 1)) (later w (n + size))
      (reserved_wide w (n + 1) (n + size) (omega (arith, b.0)) (omega (arith, b.0, within)) b.1)
  wide_behind (Some imms.Index) e b =
      let p = unsigned_wide out w (n + 1) (n + 2) (n + size) (omega arith) (omega (arith, b.0)) (omega (arith, b.0, within)) b.1 in
      index_passed profile opcode (in_both profile opcode imms.Index e) p.0 out out (later w (n + 1)) (later w (n + size)) p.1
  wide_behind (Some imms.IndexReserved) e b =
      index_reserved_passed profile opcode (in_both profile opcode imms.IndexReserved e) (get_or w.cursor.rest (n + 1) 0) 0 out out (later w (n + 1))
      (later w (n + 2)) (later w (n + size))
      (unsigned_passed out w (n + 1) (n + 2) (omega arith) (omega (arith, b.0, within)) b.1)
      (reserved_wide w (n + 2) (n + size) (omega (arith, b.0)) (omega (arith, b.0, within)) b.2)
  wide_behind (Some imms.Memarg) e b =
      let four : n + 3 < length w.cursor.rest = omega (arith, b.0, within) in
      let q = unsigned_wide out w (n + 2) (n + 3) (n + size) (omega arith) (omega (arith, b.0)) four
      (subst (λ (z : ℕ). IsWideIndex (get_or w.cursor.rest (n + 2) 0) z) (there four) b.2) in
      memarg_passed profile opcode (in_both profile opcode imms.Memarg e) (get_or w.cursor.rest (n + 1) 0) q.0 out out out (later w (n + 1))
      (later w (n + 2)) (later w (n + size))
      (unsigned_passed out w (n + 1) (n + 2) (omega arith) (omega (arith, b.0, within)) b.1) q.1
  wide_behind (Some imms.Signed32) e b =
      let p = signed_wide 32 out w (n + 1) (n + 2) (n + size) (omega arith) (omega arith) (omega arith) (omega (arith, b.0)) (omega (arith, b.0, within)) b.1 in
      signed32_passed profile opcode (in_both profile opcode imms.Signed32 e) p.0 out out (later w (n + 1)) (later w (n + size)) p.1
  wide_behind (Some imms.Signed64) e b =
      let p = signed_wide 64 out w (n + 1) (n + 2) (n + size) (omega arith) (omega arith) (omega arith) (omega (arith, b.0)) (omega (arith, b.0, within)) b.1 in
      signed64_passed profile opcode (in_both profile opcode imms.Signed64 e) p.0 out out (later w (n + 1)) (later w (n + size)) p.1
  wide_behind (Some imms.Word32) e b =
      let p = word_wide 4 w (n + 1) (n + size) fits (omega (arith, b)) within in
      word32_passed profile opcode (in_both profile opcode imms.Word32 e) p.0 out (later w (n + 1)) (later w (n + size)) p.1
  wide_behind (Some imms.Word64) e b =
      let p = word_wide 8 w (n + 1) (n + size) fits (omega (arith, b)) within in
      word64_passed profile opcode (in_both profile opcode imms.Word64 e) p.0 out (later w (n + 1)) (later w (n + size)) p.1
  wide_behind _ e b = absurd b

-- no other token begins with an opcode of such an instruction
unlike : (opcode size x y z : ℕ) → IsWide (imm_kind_in (form_of Core opcode)) size x y z
    → (opcode ≡ 0x0B → ⊥) × (opcode ≡ 0x05 → ⊥) × (opcode ≡ 0x02 → ⊥) × (opcode ≡ 0x03 → ⊥) × (opcode ≡ 0x04 → ⊥)
unfolding form_of
unlike opcode size x y z is = (at 0x0B, at 0x05, at 0x02, at 0x03, at 0x04)
  where
    at : (other : ℕ) → opcode ≡ other → IsWide (imm_kind_in (form_of Core other)) size x y z
    at other e = subst (λ (o : ℕ). IsWide (imm_kind_in (form_of Core o)) size x y z) e is

-- ---- tokens

wide_step : (w : Reencoder) (n opcode size x y z : ℕ) (ks below : List Bool) → IsBytes w.cursor.rest → n + 2 < length w.cursor.rest
    → n + size ≤ length w.cursor.rest
    → opcode ≡ get_or w.cursor.rest n 0 → x ≡ get_or w.cursor.rest (n + 1) 0 → y ≡ get_or w.cursor.rest (n + 2) 0
    → (n + 3 < length w.cursor.rest → z ≡ get_or w.cursor.rest (n + 3) 0)
    → IsWide (imm_kind_in (form_of Core opcode)) size x y z → Steps w n (n + size) ks ks below
wide_step w n opcode size x y z ks below fits more within is first second third b profile before out start g =
    let here : IsWide (imm_kind_in (form_of Core opcode)) size (get_or w.cursor.rest (n + 1) 0) (get_or w.cursor.rest (n + 2) 0) z =
    rw (sym first, sym second) b in
    let none = unlike opcode size x y z b in
    let behind : Behind opcode (later w n) (later w (n + 1)) =
    record {
      parts = drop_more w.cursor.rest n 0 (omega arith) ∙ ap (λ (o : ℕ). o ∷ drop (n + 1) w.cursor.rest) (sym is);
      same_end = refl;
      same_pending = refl;
    } in
    plain_goes profile before out out start (later w n) (later w (n + 1)) (later w (n + size)) (ks ++ below) (ks ++ below) opcode
    none.0 none.1 none.2 none.3 none.4
    refl behind (wide_behind profile opcode out w n size z fits within third (imm_kind_in (form_of Core opcode)) refl here) g

-- such an instruction more is passed
pub wide_on : (w : Reencoder) (bytes : List ℕ) (n opcode size blocks x y z : ℕ) (ks below : List Bool) → bytes ≡ w.cursor.rest → IsBytes w.cursor.rest
    → n + 2 < length bytes → n + size ≤ length bytes
    → opcode ≡ get_or bytes n 0 → x ≡ get_or bytes (n + 1) 0 → y ≡ get_or bytes (n + 2) 0 → (n + 3 < length bytes → z ≡ get_or bytes (n + 3) 0)
    → IsWide (imm_kind_in (form_of Core opcode)) size x y z → BlocksPass w (later w n) blocks ks below → BlocksPass w (later w (n + size)) blocks ks below
wide_on w bytes n opcode size blocks x y z ks below same fits more within is first second third b h =
    let t = wide_step w n opcode size x y z h.0 below fits (omega (arith, more, ap length same)) (omega (arith, within, ap length same))
    (is ∙ ap (λ (bs : List ℕ). get_or bs n 0) same) (first ∙ ap (λ (bs : List ℕ). get_or bs (n + 1) 0) same)
    (second ∙ ap (λ (bs : List ℕ). get_or bs (n + 2) 0) same)
    (subst (λ (bs : List ℕ). n + 3 < length bs → z ≡ get_or bs (n + 3) 0) same third) b in
    (h.0, h.1, λ profile before out first g. t profile before out first (h.2 profile before out first g))

-- an else whose branch holds something
pub else_on : (w : Reencoder) (bytes : List ℕ) (n blocks : ℕ) (ks below : List Bool) → bytes ≡ w.cursor.rest → n + 2 < length bytes
    → get_or bytes n 0 ≡ 0x05 → (get_or bytes (n + 1) 0 ≡ 0x0B → ⊥)
    → 1 < blocks → blocks % 2 ≡ 1 → BlocksPass w (later w n) blocks ks below → BlocksPass w (later w (n + 1)) (blocks - 1) ks below
else_on w bytes n blocks ks below same within is full some odd h =
    let rest = w.cursor.rest in
    let few : n + 2 < length rest = omega (arith, within, ap length same) in
    let here : get_or rest n 0 ≡ 0x05 = ap (λ (bs : List ℕ). get_or bs n 0) (sym same) ∙ is in
    let behind : Behind 0x05 (later w n) (later w (n + 1)) =
    record { parts = drop_more rest n 0 (omega (arith, few)) ∙ ap (λ (o : ℕ). o ∷ drop (n + 1) rest) here; same_end = refl; same_pending = refl } in
    let p = else_bit blocks h.0 below h.1 some odd in
    let other : get_or rest (n + 1) 0 ≡ 0x0B → ⊥ = λ e. full (ap (λ (bs : List ℕ). get_or bs (n + 1) 0) same ∙ e) in (
      p.1,
      p.3,
      λ profile before out first g.
          let at = subst (λ (bs : List Bool). GoesOn profile before first bs out (later w n)) p.2 (h.2 profile before out first g) in
          let there = else_stays profile before out first (later w n) (later w (n + 1)) (true ∷ p.0) (false ∷ p.0) (get_or rest (n + 1) 0)
          (drop (n + 1 + 1) rest) refl refl (drop_more rest (n + 1) 0 (omega (arith, few))) other behind at in
          subst (λ (bs : List Bool). GoesOn profile before first bs out (later w (n + 1))) (sym p.4) there,
    )

-- nops
nop_step : (w : Reencoder) (n m : ℕ) (ks below : List Bool) → m ≡ n + 1 → n < length w.cursor.rest → get_or w.cursor.rest n 0 ≡ 0x01 → Steps w n m ks ks below
unfolding form_of
nop_step w n m ks below next within is profile before out start g =
    let parts : drop n w.cursor.rest ≡ 0x01 ∷ drop m w.cursor.rest =
    drop_more w.cursor.rest n 0 within ∙ ap (λ (o : ℕ). o ∷ drop (n + 1) w.cursor.rest) is ∙ ap (λ (i : ℕ). 0x01 ∷ drop i w.cursor.rest) (sym next) in
    let behind : Behind 0x01 (later w n) (later w m) = record { parts = parts; same_end = refl; same_pending = refl } in
    plain_goes profile before out out start (later w n) (later w m) (later w m) (ks ++ below) (ks ++ below) 0x01
    (λ e. omega (arith, e)) (λ e. omega (arith, e)) (λ e. omega (arith, e)) (λ e. omega (arith, e)) (λ e. omega (arith, e))
    refl behind (nothing_passed profile 0x01 (in_both profile 0x01 imms.Nothing refl) out (later w m)) g

-- a nop more is passed
pub nop_on : (w : Reencoder) (bytes : List ℕ) (n blocks : ℕ) (ks below : List Bool) → bytes ≡ w.cursor.rest → n < length bytes → get_or bytes n 0 ≡ 0x01
    → BlocksPass w (later w n) blocks ks below → BlocksPass w (later w (n + 1)) blocks ks below
nop_on w bytes n blocks ks below same within is h =
    let t = nop_step w n (n + 1) h.0 below refl (omega (arith, within, ap length same)) (ap (λ (bs : List ℕ). get_or bs n 0) (sym same) ∙ is) in
    (h.0, h.1, λ profile before out first g. t profile before out first (h.2 profile before out first g))

pub nops_on : (w : Reencoder) (bytes : List ℕ) (count : ℕ) (profile : Profile) (before out : List ℕ) (first : Reencoder) (ks : List Bool)
    → bytes ≡ w.cursor.rest → count ≤ length bytes → ((i : ℕ) → i < count → get_or bytes i 0 ≡ 0x01)
    → GoesOn profile before first ks out w → GoesOn profile before first ks out (later w count)
nops_on w bytes zero profile before out first ks same within all g = g
nops_on w bytes (suc count) profile before out first ks same within all g =
    let t = nops_on w bytes count profile before out first ks same (omega (arith, within)) (λ i lt. all i (omega (arith, lt))) g in
    let here : get_or w.cursor.rest count 0 ≡ 0x01 = ap (λ (bs : List ℕ). get_or bs count 0) (sym same) ∙ all count (omega arith) in
    let none = append-nil ks in
    let one = nop_step w count (suc count) ks [] (omega arith) (omega (arith, within, ap length same)) here profile before out first in
    subst (λ (bs : List Bool). GoesOn profile before first bs out (later w (suc count))) none
    (one (subst (λ (bs : List Bool). GoesOn profile before first bs out (later w count)) (sym none) t))
