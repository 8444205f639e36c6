-- Alignments and widths.
use Rattle.std.proofs.Common.{◌≡◌, ◌≢◌, ℕ, ◌^◌, Bool, true, false, nat_lt, refl, sym, ap, ◌∙◌, ◌<◌, arith}
use Rattle.std.proofs.Math.Nat.{pow-le-pow_right}
use Rattle.std.proofs.lemmas.Nat.{pow_below}
use Rattle.std.proofs.lemmas.Bool.{lt-ltb, ltb-true, le-ltb, ltb-false}
use Rattle.wk_body.specs.declared.memory.MemoryOp.{MemoryOp}
use Rattle.wk_body.specs.declared.memory.MemoryOp.TheVariants.{I32Load}
use Rattle.wk_body.specs.MemoryOps.{memory_width}
use Rattle.wk_typing.specs.Locals.{is_over}

-- exponents stand as their powers do
over_by : (width align : ℕ) (b : Bool) → nat_lt width align ≡ b → b ≡ is_over (2 ^ width) align
over_by width align true e = sym (lt-ltb (2 ^ width) (2 ^ align) (pow_below width align (ltb-true width align e)))
over_by width align false e =
    let two : 0 < 2 = omega arith in
    sym (le-ltb (2 ^ width) (2 ^ align) (pow-le-pow_right two (ltb-false width align e)))

-- an alignment above the exponent of the width is above the width
pub over : (width align n : ℕ) → n ≡ 2 ^ width → nat_lt width align ≡ is_over n align
over width align n e = over_by width align (nat_lt width align) refl ∙ ap (λ m. is_over m align) (sym e)

-- the widths are 1, 2, 4 and 8
pub widest : (op : MemoryOp) → memory_width op ≢ 1 → memory_width op ≢ 2 → memory_width op ≢ 4 → memory_width op ≡ 8
widest I32Load n1 n2 n4 = absurd (n4 refl)
widest _ n1 n2 n4 = omega arith
