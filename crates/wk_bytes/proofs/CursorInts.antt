-- Integers of a cursor: the short way of one byte, and the slow way.
use Rattle.std.proofs.Common.{◌≡◌, ℕ, ◌-◌, ◌^◌, ◌<◌, ◌≤◌, ℤ, pos, inl, inr, List, [], ◌∷◌, ◌++◌, Ok, Err, refl, sym, ap, subst, ◌∙◌, arith}
use Rattle.wk_bytes.specs.declared.fault.ReadFault.{ReadFault}
use Rattle.wk_bytes.specs.Leb.{SpellsU, SpellsS, lastU, lastS}
use Rattle.wk_bytes.specs.Span.{Span, IsIntFault, u32_at, signed_at}
use Rattle.wk_bytes.specs.Stands.{IsWidth, Stands}
use Rattle.wk_bytes.specs.StandsLaws.{first_stands, u32_stands, signed_stands}
use Rattle.wk_bytes.specs.PieceLaws.{u32_at-again, signed_at-again, none_spelled}

one_u32 : (x : ℕ) → x < 128 → SpellsU 32 (x ∷ []) x
one_u32 x small = (small, omega arith, refl)

pub short_u32 : (old new : Span) (x n : ℕ) → x < 128 → old.rest ≡ x ∷ new.rest → n ≡ x → u32_at old.end old.rest ≡ Ok (n, new.rest)
short_u32 old new x n small parts is = ap (u32_at old.end) parts ∙ u32_at-again old.end (x ∷ []) x new.rest (one_u32 x small)
    ∙ ap (λ m. Ok (m, new.rest)) (sym is)

pub short_u32-spelled : (old new : Span) (x n : ℕ) → x < 128 → old.rest ≡ x ∷ new.rest → n ≡ x → (b : List ℕ) × SpellsU 32 b n × (old.rest ≡ b ++ new.rest)
short_u32-spelled old new x n small parts is = (x ∷ [], (omega (arith, is, small), omega (arith, is, small), is), parts)

pub no_u32 : (old : Span) (e : ReadFault) → u32_at old.end old.rest ≡ Err e → (b rest : List ℕ) (y : ℕ) → SpellsU 32 b y → old.rest ≡ b ++ rest → ⊥
no_u32 = none_spelled (SpellsU 32) u32_at u32_at-again

-- the fault of an integer that is refused stands
pub u32_fault_stands : (s : Span) (e : ReadFault) → IsIntFault lastU 32 s e → Stands s e
u32_fault_stands s e f = first_stands s e f.0 (u32_stands s.rest e.kind f.1)

-- ---- signed

below_64 : (N x : ℕ) → IsWidth N → x < 64 → x < 2 ^ (N - 1)
below_64 N x (inl is) small = rw is (omega arith)
below_64 N x (inr (inl is)) small = rw is (omega arith)
below_64 N x (inr (inr is)) small = rw is (omega arith)

pub width_range : (N : ℕ) → IsWidth N → (7 ≤ N) × (N ≤ 64)
width_range N (inl is) = (omega arith, omega arith)
width_range N (inr (inl is)) = (omega arith, omega arith)
width_range N (inr (inr is)) = (omega arith, omega arith)

one_signed : (N x : ℕ) → IsWidth N → x < 64 → SpellsS N (x ∷ []) (pos x)
one_signed N x width small = inl (small, below_64 N x width small, refl)

pub short_signed : (N : ℕ) (old new : Span) (x : ℕ) (z : ℤ) → IsWidth N → x < 64 → old.rest ≡ x ∷ new.rest → z ≡ pos x
    → signed_at N old.end old.rest ≡ Ok (z, new.rest)
short_signed N old new x z width small parts is =
    ap (signed_at N old.end) parts ∙ signed_at-again N old.end (x ∷ []) (pos x) new.rest (one_signed N x width small) ∙ ap (λ m. Ok (m, new.rest)) (sym is)

pub short_signed-spelled : (N : ℕ) (old new : Span) (x : ℕ) (z : ℤ) → IsWidth N → x < 64 → old.rest ≡ x ∷ new.rest → z ≡ pos x
    → (b : List ℕ) × SpellsS N b z × (old.rest ≡ b ++ new.rest)
short_signed-spelled N old new x z width small parts is = (x ∷ [], subst (SpellsS N (x ∷ [])) (sym is) (one_signed N x width small), parts)

pub no_signed : (N : ℕ) (old : Span) (e : ReadFault) → signed_at N old.end old.rest ≡ Err e → (b rest : List ℕ) (z : ℤ) → SpellsS N b z
    → old.rest ≡ b ++ rest → ⊥
no_signed N = none_spelled (SpellsS N) (signed_at N) (signed_at-again N)

pub signed_fault_stands : (N : ℕ) (s : Span) (e : ReadFault) → IsWidth N → IsIntFault lastS N s e → Stands s e
signed_fault_stands N s e width f = first_stands s e f.0 (signed_stands N width s.rest e.kind f.1)
