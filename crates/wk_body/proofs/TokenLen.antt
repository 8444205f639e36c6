-- How long tokens are whose integers have a byte each: the two tables, by opcodes, and the test that they have.
use Rattle.std.proofs.Common.{◌≡◌, ℕ, zero, suc, ◌+◌, ◌*◌, ◌/◌, ◌%◌, ◌^◌, ◌<◌, ◌≤◌, true, leb, ltb, refl, ap, get_or, arith}
use Rattle.std.proofs.lemmas.Bool.{leb-true, ltb-true}
use Rattle.std.proofs.lemmas.Nat.Bits.{bit_at_and}
use Rattle.std.specs.Int.{bit_at}
use Rattle.std.specs.Int.Bits.{bit_and}
use Rattle.wk_body.specs.declared.token_len.TheConstants.{LENGTHS, STRIDES, MORE}
use Rattle.wk_body.specs.declared.memory.MemoryOp.{MemoryOp}
use Rattle.wk_body.specs.declared.memory.MemoryOp.TheVariants.{I32Load}
use Rattle.wk_body.specs.declared.numeric.NumericOp.{NumericOp}
use Rattle.wk_body.specs.declared.numeric.NumericOp.TheVariants.{I32Eqz}
use Rattle.wk_body.specs.MemoryOps.{memory_opcode}
use Rattle.wk_body.specs.Numeric.{numeric_opcode}
use Rattle.wk_body.specs.Instructions.{form_of}
use Rattle.wk_body.specs.TokenLen.{min_len, stride, IsMinimal}
use Rattle.wk_body.proofs.ByteTables.{below, row_at}

-- ---- the tables

pub length_at : (b : ℕ) → b < 256 → get_or LENGTHS b 0 ≡ min_len b
unfolding form_of
length_at b h = row_at LENGTHS min_len refl b h

pub stride_at : (b : ℕ) → b < 256 → get_or STRIDES b 0 ≡ stride b
unfolding form_of
stride_at b h = row_at STRIDES stride refl b h

pub few_bytes : (b : ℕ) → b < 256 → stride b ≤ 3
unfolding form_of
few_bytes b h = leb-true (stride b) 3 (below 256 (λ n. leb (stride n) 3) b refl h)

-- ---- loads, stores and numeric instructions

pub memory_stride : (op : MemoryOp) → stride (memory_opcode op) ≡ 3
unfolding form_of
memory_stride I32Load = refl
memory_stride op = refl

pub numeric_stride : (op : NumericOp) → stride (numeric_opcode op) ≡ 1
unfolding form_of
numeric_stride I32Eqz = refl
numeric_stride op = refl

-- ---- the test

-- a bit of a mask of which nothing is left was clear
clear : (n mask i : ℕ) → bit_at mask i ≡ 1 → bit_and n mask / 2 ^ i ≡ 0 → bit_at n i ≡ 0
clear n mask i set none = omega (arith, bit_at_and n mask i, set, ap (λ (m : ℕ). m % 2) none)

brief_bytes : (len x y : ℕ) → len ≤ 3 → x < 256 → y < 256 → bit_and (x + y * 256) (get_or MORE len 0) < len → IsMinimal len x y
brief_bytes zero x y le p q h = absurd (omega arith)
brief_bytes (suc zero) x y le p q h = (omega arith, λ l. absurd (omega arith), λ l. absurd (omega arith))
brief_bytes (suc (suc zero)) x y le p q h = (omega arith, λ l. omega (arith, clear (x + y * 256) 0x80 7 refl (omega arith)), λ l. absurd (omega arith))
brief_bytes (suc (suc (suc zero))) x y le p q h =
    (omega arith, λ l. omega (arith, clear (x + y * 256) 0x8080 7 refl (omega arith)), λ l. omega (arith, clear (x + y * 256) 0x8080 15 refl (omega arith)))
brief_bytes (suc (suc (suc (suc n)))) x y le p q h = absurd (omega arith)

pub brief_test : (len x y both place limit : ℕ) → len ≤ 3 → x < 256 → y < 256 → both ≡ x + y * 256 → place ≡ len → limit ≡ len
    → ltb (bit_and both (get_or MORE place 0)) limit ≡ true → IsMinimal len x y
brief_test len x y both place limit le p q is at to e =
    let small = ltb-true (bit_and both (get_or MORE place 0)) limit e in
    brief_bytes len x y le p q (rw (is, at, to) at small)
