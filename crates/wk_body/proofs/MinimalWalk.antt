-- A walk that passes over tokens that are as short as they may be.
use Rattle.std.proofs.Common.{◌≡◌, ℕ, ◌+◌, ◌-◌, ◌^◌, ◌<◌, ◌≤◌, Bool, true, ltb, ℤ, pos, ◌-ℤ◌, inl, inr, List, [], ◌∷◌, length, get_or, drop, Option, Some, Ok}
use Rattle.std.proofs.Common.{Err, refl, sym, ap, subst, ◌∙◌, arith, cond, ◌++◌, false, ◌/◌, ◌*◌, ◌⊎◌, eqb, length-append}
use Rattle.std.proofs.lemmas.Bool.{cases_lt, cases_eq, ne_eqb, le-leb, lt-ltb, le-ltb}
use Rattle.std.proofs.lemmas.List.{drop_more, drop_at}
use Rattle.wk_bytes.specs.declared.fault.ReadKind.TheVariants.{TooDeep}
use Rattle.wk_bytes.specs.declared.fault.ReadFault.{ReadFault}
use Rattle.wk_body.specs.declared.types.BlockType.{BlockType}
use Rattle.wk_body.specs.declared.types.BlockType.TheVariants.{Empty, Value}
use Rattle.wk_body.specs.declared.types.ValType.TheVariants.{I32, I64, F32, F64}
use Rattle.wk_bytes.specs.Span.{byte_at}
use Rattle.wk_body.specs.Reading.{type_at, type_here}
use Rattle.wk_body.specs.Written.{type_bytes}
use Rattle.wk_body.specs.Shape.{depth_limit}
use Rattle.std.proofs.lemmas.Nat.{pow-add}
use Rattle.std.proofs.Math.Nat.{pow-le-pow_right}
use Rattle.wk_bytes.specs.Leb.{SpellsS}
use Rattle.wk_bytes.specs.Short.{short, short_signed}
use Rattle.wk_bytes.specs.ShortLaws.{short-last, short_signed-least, short_signed-some, short_signed-only}
use Rattle.wk_bytes.specs.Span.{Span, piece_at, u32_at, signed_at}
use Rattle.wk_bytes.specs.SpanLaws.{piece_at-takes}
use Rattle.wk_bytes.specs.PieceLaws.{u32_at-again, signed_at-again}
use Rattle.wk_body.specs.declared.immediate_kind.ImmediateKind.{ImmediateKind}
use Rattle.wk_body.specs.declared.immediate_kind.ImmediateKind.TheVariants as imms
use Rattle.wk_body.specs.declared.types.Profile.{Profile}
use Rattle.wk_body.specs.declared.types.Profile.TheVariants.{Core, Extended}
use Rattle.wk_body.specs.declared.reencoder.Reencoder.{Reencoder}
use Rattle.wk_body.specs.Instructions.{form_of}
use Rattle.wk_body.specs.ImmediateKinds.{imm_kind_in}
use Rattle.wk_body.specs.TokenLen.{plain_len, min_len, IsMinimal}
use Rattle.wk_body.specs.Minimal.{IsShortType, bit_of, number_of, blocks_after}
use Rattle.wk_body.specs.Reencoding.{Passes, PassesPlain, Behind, GoesOn, BlocksPass}
use Rattle.wk_body.proofs.Immediates.{nothing_passed, index_passed, memarg_passed, signed32_passed, signed64_passed}
use Rattle.wk_body.proofs.Rewriting.{plain_goes, opener_goes, close_goes}
use Rattle.wk_body.proofs.Walking.{passed}

-- a walk so many bytes on
abbrev pub later : Reencoder → ℕ → Reencoder
later w n = record { cursor = record { rest = drop n w.cursor.rest; end = w.cursor.end }; pending = w.pending }

-- ---- integers of one byte

pub unsigned_passed : (out : List ℕ) (w : Reencoder) (n m : ℕ) → m ≡ n + 1 → n < length w.cursor.rest → get_or w.cursor.rest n 0 < 128
    → Passes u32_at (get_or w.cursor.rest n 0) (short (get_or w.cursor.rest n 0)) out (later w n) out (later w m)
unsigned_passed out w n m next within low =
    let x = get_or w.cursor.rest n 0 in
    let parts : drop n w.cursor.rest ≡ x ∷ drop m w.cursor.rest = drop_more w.cursor.rest n 0 within ∙ ap (λ (k : ℕ). x ∷ drop k w.cursor.rest) (sym next) in
    let read : u32_at w.cursor.end (drop n w.cursor.rest) ≡ Ok (x, drop m w.cursor.rest) =
    ap (u32_at w.cursor.end) parts ∙ u32_at-again w.cursor.end (x ∷ []) x (drop m w.cursor.rest) (low, omega arith, refl) in
    passed u32_at x (short x) (x ∷ []) out (later w n) (later w m) (read, refl) parts refl (sym (short-last x low))

spelled : (N x : ℕ) → 64 ≤ 2 ^ (N - 1) → x < 128 → (z : ℤ) × SpellsS N (x ∷ []) z
spelled N x wide low =
    elim (cases_lt x 64) [
      | inl lt ↦ (pos x, inl (lt, omega arith, refl))
      | inr le ↦ (pos x -ℤ pos 128, inr (le, low, omega arith, refl))
    ]

signed_passed : (N : ℕ) (out : List ℕ) (w : Reencoder) (n m : ℕ) → 64 ≤ 2 ^ (N - 1) → m ≡ n + 1 → n < length w.cursor.rest → get_or w.cursor.rest n 0 < 128
    → (z : ℤ) × Passes (signed_at N) z (short_signed z) out (later w n) out (later w m)
signed_passed N out w n m wide next within low =
    let x = get_or w.cursor.rest n 0 in
    let s = spelled N x wide low in
    let parts : drop n w.cursor.rest ≡ x ∷ drop m w.cursor.rest = drop_more w.cursor.rest n 0 within ∙ ap (λ (k : ℕ). x ∷ drop k w.cursor.rest) (sym next) in
    let read : signed_at N w.cursor.end (drop n w.cursor.rest) ≡ Ok (s.0, drop m w.cursor.rest) =
    ap (signed_at N w.cursor.end) parts ∙ signed_at-again N w.cursor.end (x ∷ []) s.0 (drop m w.cursor.rest) s.1 in
    let long : length (x ∷ []) ≡ length (short_signed s.0) = omega (arith, short_signed-least N s.0 (x ∷ []) s.1, short_signed-some s.0) in
    (s.0, passed (signed_at N) s.0 (short_signed s.0) (x ∷ []) out (later w n) (later w m) (read, refl) parts refl (short_signed-only N s.0 (x ∷ []) s.1 long))

-- ---- an instruction

-- what is an instruction of 1.0 is one of the other profile
pub in_both : (profile : Profile) (opcode : ℕ) (k : ImmediateKind) → Some k ≡ imm_kind_in (form_of Core opcode) → Some k ≡ imm_kind_in (form_of profile opcode)
unfolding form_of
in_both Core opcode k e = e
in_both Extended opcode k e =
    elim (cases_lt 0xBF opcode) [
      | inl lt ↦ absurd (let none : ltb 0xBF opcode ≡ true = lt-ltb 0xBF opcode lt in let gone = rw none at e in cc)
      | inr le ↦
          let core = le-ltb 0xBF opcode le in
          let more = le-ltb 0xC4 opcode (omega arith) in
          rw more (rw core at e)
    ]

few : (o : Option ImmediateKind) → plain_len o ≤ 3
few (Some imms.Nothing) = omega arith
few (Some imms.Index) = omega arith
few (Some imms.Signed32) = omega arith
few (Some imms.Signed64) = omega arith
few (Some imms.Memarg) = omega arith
few _ = omega arith

pub few_bytes : (opcode : ℕ) → min_len opcode ≤ 3
few_bytes opcode = cond_few (eqb opcode 0x0B) 1 _ (omega arith)
    (cond_few (eqb opcode 0x01) 0 _ (omega arith)
    (cond_few (eqb opcode 0x02) 2 _ (omega arith)
    (cond_few (eqb opcode 0x03) 2 _ (omega arith) (cond_few (eqb opcode 0x04) 2 _ (omega arith) (few (imm_kind_in (form_of Core opcode)))))))
  where
    cond_few : (b : Bool) (n m : ℕ) → n ≤ 3 → m ≤ 3 → cond b n m ≤ 3
    cond_few true n m p q = p
    cond_few false n m p q = q

module _ (profile : Profile) (opcode : ℕ) (out : List ℕ) (w : Reencoder) (n : ℕ) (within : n + 2 < length w.cursor.rest) where
  behind_passed : (o : Option ImmediateKind) → o ≡ imm_kind_in (form_of Core opcode)
      → IsMinimal (plain_len o) (get_or w.cursor.rest (n + 1) 0) (get_or w.cursor.rest (n + 2) 0)
      → PassesPlain profile opcode out (later w (n + 1)) out (later w (n + plain_len o))
  behind_passed (Some imms.Nothing) e b = nothing_passed profile opcode (in_both profile opcode imms.Nothing e) out (later w (n + 1))
  behind_passed (Some imms.Index) e b =
      index_passed profile opcode (in_both profile opcode imms.Index e) (get_or w.cursor.rest (n + 1) 0) out out (later w (n + 1)) (later w (n + 2))
      (unsigned_passed out w (n + 1) (n + 2) (omega arith) (omega arith) (b.1 (omega arith)))
  behind_passed (Some imms.Signed32) e b =
      let s = signed_passed 32 out w (n + 1) (n + 2) (omega arith) (omega arith) (omega arith) (b.1 (omega arith)) in
      signed32_passed profile opcode (in_both profile opcode imms.Signed32 e) s.0 out out (later w (n + 1)) (later w (n + 2)) s.1
  behind_passed (Some imms.Signed64) e b =
      let s = signed_passed 64 out w (n + 1) (n + 2) (omega arith) (omega arith) (omega arith) (b.1 (omega arith)) in
      signed64_passed profile opcode (in_both profile opcode imms.Signed64 e) s.0 out out (later w (n + 1)) (later w (n + 2)) s.1
  behind_passed (Some imms.Memarg) e b =
      memarg_passed profile opcode (in_both profile opcode imms.Memarg e) (get_or w.cursor.rest (n + 1) 0) (get_or w.cursor.rest (n + 2) 0) out out out
      (later w (n + 1)) (later w (n + 2)) (later w (n + 3))
      (unsigned_passed out w (n + 1) (n + 2) (omega arith) (omega arith) (b.1 (omega arith)))
      (unsigned_passed out w (n + 2) (n + 3) (omega arith) (omega arith) (b.2 (omega arith)))
  behind_passed _ e b = absurd (omega (arith, b.0))

-- none of these begins such an instruction
module _ (opcode : ℕ) (some : 0 < plain_len (imm_kind_in (form_of Core opcode))) where
  no_else : opcode ≡ 0x05 → ⊥
  unfolding form_of
  no_else e = let none : plain_len (imm_kind_in (form_of Core 0x05)) ≡ 0 = refl in
      omega (arith, none, ap (λ (o : ℕ). plain_len (imm_kind_in (form_of Core o))) e, some)

-- ---- tokens

-- a block type of one byte
short_type : (profile : Profile) (ks : List Bool) (e : ReadFault) (end x : ℕ) (rest : List ℕ) → length ks < depth_limit → IsShortType x
    → (ty : BlockType) × (type_here profile ks e end (x ∷ rest) ≡ Ok (ty, rest)) × (x ∷ [] ≡ type_bytes ty)
unfolding type_here type_at byte_at
short_type profile ks e end x rest few (inl is) = (Empty, rw (lt-ltb (length ks) depth_limit few, is) refl, ap (λ (b : ℕ). b ∷ []) is)
short_type profile ks e end x rest few (inr (I32, is)) = (Value I32, rw (lt-ltb (length ks) depth_limit few, is) refl, ap (λ (b : ℕ). b ∷ []) is)
short_type profile ks e end x rest few (inr (I64, is)) = (Value I64, rw (lt-ltb (length ks) depth_limit few, is) refl, ap (λ (b : ℕ). b ∷ []) is)
short_type profile ks e end x rest few (inr (F32, is)) = (Value F32, rw (lt-ltb (length ks) depth_limit few, is) refl, ap (λ (b : ℕ). b ∷ []) is)
short_type profile ks e end x rest few (inr (F64, is)) = (Value F64, rw (lt-ltb (length ks) depth_limit few, is) refl, ap (λ (b : ℕ). b ∷ []) is)

type_passed : (profile : Profile) (ks : List Bool) (e : ReadFault) (out : List ℕ) (w : Reencoder) (n m : ℕ) → m ≡ n + 1 → n < length w.cursor.rest
    → length ks < depth_limit → IsShortType (get_or w.cursor.rest n 0)
    → (ty : BlockType) × Passes (type_here profile ks e) ty (type_bytes ty) out (later w n) out (later w m)
type_passed profile ks e out w n m next within few is =
    let x = get_or w.cursor.rest n 0 in
    let parts : drop n w.cursor.rest ≡ x ∷ drop m w.cursor.rest = drop_more w.cursor.rest n 0 within ∙ ap (λ (k : ℕ). x ∷ drop k w.cursor.rest) (sym next) in
    let t = short_type profile ks e w.cursor.end x (drop m w.cursor.rest) few is in
    let read : type_here profile ks e w.cursor.end (drop n w.cursor.rest) ≡ Ok (t.0, drop m w.cursor.rest) =
    ap (type_here profile ks e w.cursor.end) parts ∙ t.1 in
    (t.0, passed (type_here profile ks e) t.0 (type_bytes t.0) (x ∷ []) out (later w n) (later w m) (read, refl) parts refl t.2)

-- numbers of blocks
pub number_some : (ks : List Bool) → 0 < number_of ks
number_some [] = omega arith
number_some (k ∷ ks) = omega (arith, number_some ks)

pub number_long : (ks : List Bool) → 2 ^ length ks ≤ number_of ks
number_long [] = omega arith
number_long (k ∷ ks) = let long : length (k ∷ ks) ≡ length ks + 1 = omega arith in
    omega (arith, number_long ks, pow-add 2 (length ks) 1, ap (λ (i : ℕ). 2 ^ i) long)

pub few_blocks : (ks below : List Bool) → number_of ks ≤ 2 ^ 62 → length below + 64 ≤ depth_limit → length (ks ++ below) < depth_limit
few_blocks ks below small room =
    elim (cases_lt (length ks) 63) [
      | inl lt ↦ omega (arith, length-append ks below)
      | inr le ↦ absurd (let more : 2 ^ 63 ≤ 2 ^ length ks = pow-le-pow_right (omega arith) le in omega (arith, number_long ks))
    ]

-- the blocks open behind a token that passes
abbrev pub Steps : Reencoder → ℕ → ℕ → List Bool → List Bool → List Bool → Type 0
Steps w n m ks next below =
    (profile : Profile) (before out : List ℕ) (first : Reencoder) → GoesOn profile before first (ks ++ below) out (later w n)
    → GoesOn profile before first (next ++ below) out (later w m)

module _ (w : Reencoder) (n : ℕ) (ks below : List Bool) (within : n + 2 < length w.cursor.rest) (small : number_of ks ≤ 2 ^ 62)
    (room : length below + 64 ≤ depth_limit) where
  at_opcode : Behind (get_or w.cursor.rest n 0) (later w n) (later w (n + 1))
  at_opcode = record { parts = drop_more w.cursor.rest n 0 (omega arith); same_end = refl; same_pending = refl }

  opener_step : (k : Bool) → 0x02 ≤ get_or w.cursor.rest n 0 → get_or w.cursor.rest n 0 ≤ 0x04 → k ≡ eqb (get_or w.cursor.rest n 0) 0x04
      → IsShortType (get_or w.cursor.rest (n + 1) 0) → Steps w n (n + 2) ks (k ∷ ks) below
  opener_step k low high is ty profile before out first g =
      let at = w.cursor.end - length (drop n w.cursor.rest) in
      let t = type_passed profile (ks ++ below) (record { kind = TooDeep; at = at }) out w (n + 1) (n + 2) (omega arith) (omega arith)
      (few_blocks ks below small room) ty in
      opener_goes profile before out out first (later w n) (later w (n + 1)) (later w (n + 2)) (ks ++ below) (k ∷ (ks ++ below))
      (get_or w.cursor.rest n 0) at t.0 refl t.1 g low high (ap (λ (k : Bool). k ∷ (ks ++ below)) is) at_opcode

  plain_step : (get_or w.cursor.rest n 0 ≡ 0x0B → ⊥) → (get_or w.cursor.rest n 0 ≡ 0x02 → ⊥) → (get_or w.cursor.rest n 0 ≡ 0x03 → ⊥)
      → (get_or w.cursor.rest n 0 ≡ 0x04 → ⊥) → (o : Option ImmediateKind) → o ≡ imm_kind_in (form_of Core (get_or w.cursor.rest n 0))
      → IsMinimal (plain_len o) (get_or w.cursor.rest (n + 1) 0) (get_or w.cursor.rest (n + 2) 0) → Steps w n (n + plain_len o) ks ks below
  plain_step n0 n2 n3 n4 o is b profile before out first g =
      let opcode = get_or w.cursor.rest n 0 in
      let some : 0 < plain_len (imm_kind_in (form_of Core opcode)) = subst (λ (o : Option ImmediateKind). 0 < plain_len o) is b.0 in
      plain_goes profile before out out first (later w n) (later w (n + 1)) (later w (n + plain_len o)) (ks ++ below) (ks ++ below) opcode
      n0 (no_else opcode some) n2 n3 n4 refl at_opcode (behind_passed profile opcode out w n within o is b) g

end_step : (w : Reencoder) (n : ℕ) (k : Bool) (ks below : List Bool) → n + 2 < length w.cursor.rest → get_or w.cursor.rest n 0 ≡ 0x0B
    → Steps w n (n + 1) (k ∷ ks) ks below
end_step w n k ks below within is profile before out first g =
    close_goes profile before out first (later w n) (later w (n + 1)) (k ∷ (ks ++ below)) (ks ++ below) (get_or w.cursor.rest n 0) is refl
    (record { parts = drop_more w.cursor.rest n 0 (omega arith); same_end = refl; same_pending = refl }) g

-- a token stands so many bytes on
abbrev pub Passed : Reencoder → ℕ → ℕ → ℕ → List Bool → List Bool → Type 0
Passed w n m number ks below = (next : List Bool) × (number ≡ number_of next) × Steps w n m ks next below

end_passed : (w : Reencoder) (n : ℕ) (ks below : List Bool) → n + 2 < length w.cursor.rest → get_or w.cursor.rest n 0 ≡ 0x0B → 0 < number_of ks / 2
    → Passed w n (n + 1) (number_of ks / 2) ks below
end_passed w n [] below within is some = absurd (omega arith)
end_passed w n (k ∷ ks) below within is some = (ks, halved k, end_step w n k ks below within is)
  where
    halved : (k : Bool) → (2 * number_of ks + bit_of k) / 2 ≡ number_of ks
    halved true = omega arith
    halved false = omega arith

pub token_passed : (w : Reencoder) (n opcode len number : ℕ) (ks below : List Bool) → n + 2 < length w.cursor.rest → number_of ks ≤ 2 ^ 62
    → length below + 64 ≤ depth_limit
    → opcode ≡ get_or w.cursor.rest n 0 → len ≡ min_len opcode → number ≡ blocks_after opcode (number_of ks) → 0 < number
    → IsMinimal len (get_or w.cursor.rest (n + 1) 0) (get_or w.cursor.rest (n + 2) 0)
    → ((opcode ≡ 0x02) ⊎ ((opcode ≡ 0x03) ⊎ (opcode ≡ 0x04)) → IsShortType (get_or w.cursor.rest (n + 1) 0))
    → Passed w n (n + len) number ks below
token_passed w n opcode len number ks below within small room there long blocks some b ty =
    elim (cases_eq opcode 0x0B) [
      | inl e ↦
          let l : len ≡ 1 = long ∙ ap min_len e in
          let m : number ≡ number_of ks / 2 = blocks ∙ ap (λ (o : ℕ). blocks_after o (number_of ks)) e in
          let p = end_passed w n ks below within (sym there ∙ e) (omega (arith, m, some)) in
          subst (λ (k : ℕ). Passed w n (n + k) number ks below) (sym l) (p.0, m ∙ p.1, p.2)
      | inr n0 ↦ elim (cases_eq opcode 0x01) [
        | inl e ↦ absurd (omega (arith, b.0, long ∙ ap min_len e))
        | inr n1 ↦ elim (cases_eq opcode 0x02) [
          | inl e ↦ opened 0x02 false e refl (omega arith) refl (omega arith) (omega arith) (ty (inl e))
          | inr n2 ↦ elim (cases_eq opcode 0x03) [
            | inl e ↦ opened 0x03 false e refl (omega arith) refl (omega arith) (omega arith) (ty (inr (inl e)))
            | inr n3 ↦ elim (cases_eq opcode 0x04) [
              | inl e ↦ opened 0x04 true e refl (omega arith) refl (omega arith) (omega arith) (ty (inr (inr e)))
              | inr n4 ↦
                  let e0 : eqb opcode 0x0B ≡ false = ne_eqb opcode 0x0B n0 in
                  let e1 : eqb opcode 0x01 ≡ false = ne_eqb opcode 0x01 n1 in
                  let e2 : eqb opcode 0x02 ≡ false = ne_eqb opcode 0x02 n2 in
                  let e3 : eqb opcode 0x03 ≡ false = ne_eqb opcode 0x03 n3 in
                  let e4 : eqb opcode 0x04 ≡ false = ne_eqb opcode 0x04 n4 in
                  let o = imm_kind_in (form_of Core (get_or w.cursor.rest n 0)) in
                  let same : min_len opcode ≡ plain_len (imm_kind_in (form_of Core opcode)) = rw (e0, e1, e2, e3, e4) refl in
                  let l : len ≡ plain_len o = long ∙ same ∙ ap (λ (x : ℕ). plain_len (imm_kind_in (form_of Core x))) there in
                  let kept : blocks_after opcode (number_of ks) ≡ number_of ks = rw (e0, e2, e3, e4) refl in
                  let here = subst (λ (k : ℕ). IsMinimal k (get_or w.cursor.rest (n + 1) 0) (get_or w.cursor.rest (n + 2) 0)) l b in
                  subst (λ (k : ℕ). Passed w n (n + k) number ks below) (sym l) (
                    ks,
                    blocks ∙ kept,
                    plain_step w n ks below within small room (λ e. n0 (there ∙ e)) (λ e. n2 (there ∙ e)) (λ e. n3 (there ∙ e))
                        (λ e. n4 (there ∙ e)) o refl here,
                  )
            ]
          ]
        ]
      ]
    ]
  where
    opened : (o : ℕ) (k : Bool) → opcode ≡ o → min_len o ≡ 2 → blocks_after o (number_of ks) ≡ number_of (k ∷ ks) → k ≡ eqb o 0x04
        → 0x02 ≤ o → o ≤ 0x04 → IsShortType (get_or w.cursor.rest (n + 1) 0) → Passed w n (n + len) number ks below
    opened o k e two more is low high type =
        let here : get_or w.cursor.rest n 0 ≡ o = sym there ∙ e in
        subst (λ (m : ℕ). Passed w n (n + m) number ks below) (sym (long ∙ ap min_len e ∙ two)) (
          k ∷ ks,
          blocks ∙ ap (λ (o : ℕ). blocks_after o (number_of ks)) e ∙ more,
          opener_step w n ks below within small room k (omega (arith, here)) (omega (arith, here)) (is ∙ ap (λ (o : ℕ). eqb o 0x04) (sym here)) type,
        )

-- a token more is passed
pub passed_on : (w : Reencoder) (bytes : List ℕ) (n opcode len size blocks number : ℕ) (ks below : List Bool) → bytes ≡ w.cursor.rest
    → n + 2 < length bytes → blocks ≤ 2 ^ 62 → length below + 64 ≤ depth_limit
    → opcode ≡ get_or bytes n 0 → len ≡ min_len opcode → number ≡ blocks_after opcode blocks → 0 < number
    → IsMinimal len (get_or bytes (n + 1) 0) (get_or bytes (n + 2) 0)
    → ((opcode ≡ 0x02) ⊎ ((opcode ≡ 0x03) ⊎ (opcode ≡ 0x04)) → IsShortType (get_or bytes (n + 1) 0)) → size ≡ len
    → BlocksPass w (later w n) blocks ks below → BlocksPass w (later w (n + size)) number ks below
passed_on w bytes n opcode len size blocks number ks below same within small room there long after some b ty sized h =
    let t = token_passed w n opcode len number h.0 below (omega (arith, ap length same)) (omega (arith, h.1)) room
    (there ∙ ap (λ (bs : List ℕ). get_or bs n 0) same) long
    (after ∙ ap (blocks_after opcode) h.1) some
    (subst (λ (bs : List ℕ). IsMinimal len (get_or bs (n + 1) 0) (get_or bs (n + 2) 0)) same b)
    (subst (λ (bs : List ℕ). (opcode ≡ 0x02) ⊎ ((opcode ≡ 0x03) ⊎ (opcode ≡ 0x04)) → IsShortType (get_or bs (n + 1) 0)) same ty) in
    let all : BlocksPass w (later w (n + len)) number ks below =
    (t.0, t.1, λ profile before out first g. t.2 profile before out first (h.2 profile before out first g)) in
    subst (λ (k : ℕ). BlocksPass w (later w (n + k)) number ks below) (sym sized) all

-- so many bytes, and these blocks
pub counted_on : (w : Reencoder) (n size number step blocks : ℕ) (ks below : List Bool) → step ≡ size → blocks ≡ number
    → BlocksPass w (later w (n + size)) number ks below → BlocksPass w (later w (n + step)) blocks ks below
counted_on w n size number step blocks ks below sized numbered h =
    subst (λ (k : ℕ). BlocksPass w (later w (n + k)) blocks ks below) (sym sized)
    (subst (λ (b : ℕ). BlocksPass w (later w (n + size)) b ks below) (sym numbered) h)

-- ---- the bytes that are taken

pub enough : (n end : ℕ) (bytes : List ℕ) (e : ReadFault) → n ≤ length bytes → piece_at n end bytes ≡ Err e → ⊥
unfolding piece_at
enough n end bytes e le h = let some = le-leb n (length bytes) le in let taken = rw some at h in cc

pub moved : (w : Reencoder) (to : Span) (n : ℕ) (piece : List ℕ) → (piece_at n w.cursor.end w.cursor.rest ≡ Ok (piece, to.rest)) × (to.end ≡ w.cursor.end)
    → later w n ≡ record { cursor = to; pending = w.pending }
moved w to n piece e =
    let cut = piece_at-takes n w.cursor.end w.cursor.rest piece to.rest e.0 in
    let rest : drop n w.cursor.rest ≡ to.rest = ap (drop n) cut.0 ∙ drop_at piece to.rest n cut.1 in
    ap (λ (r : List ℕ). later_at w r w.cursor.end) rest ∙ ap (later_at w to.rest) (sym e.1)
  where
    later_at : Reencoder → List ℕ → ℕ → Reencoder
    later_at w r end = record { cursor = record { rest = r; end = end }; pending = w.pending }
