use Rattle.std.proofs.Common.{◌≡◌, ◌≤◌, ◌<◌, ◌+◌, ℕ, suc, get_or, length, refl, arith, ap}
use Rattle.wk_body.specs.TokenLen.{stride}
use Rattle.wk_body.proofs.TokenLen.{few_bytes}
use Rattle.wk_body.proofs.Shifting.{brief_step, regular_step}
use Rattle.wk_body.proofs.shifts.behind_regular.Goals as goal

pub is_minimal-requires : goal.is_minimal-requires
is_minimal-requires c =
    let small : get_or c.args.code.now c.args.at 0 < 256 = omega (arith, c.type_inv.code c.args.at) in
    omega (arith, c.stride-len.ensures, few_bytes (get_or c.args.code.now c.args.at 0) small)

pub returns-then-is_minimal-clause-goes : goal.returns-then-is_minimal-clause-goes
returns-then-is_minimal-clause-goes c = λ s out run le all goal w.
    let code = c.args.code.now in
    let at = c.args.at in
    let small : get_or code at 0 < 256 = omega (arith, c.type_inv.code at) in
    let few : c.stride-len.result ≤ 3 = omega (arith, c.stride-len.ensures, few_bytes (get_or code at 0) small) in
    brief_step s all goal code out run at (get_or code at 0) c.stride-len.result (get_or code (at + 1) 0) (get_or code (at + 2) 0)
    (at + c.from.result) c.requires le refl refl refl c.stride-len.ensures few (c.is_minimal.ensures c.if-is_minimal.true)
    (ap (λ (n : ℕ). at + n) c.from.ensures) w

pub returns-clause-goes : goal.returns-clause-goes
returns-clause-goes c = λ s out run le all goal w.
    let code = c.args.code.now in
    let at = c.args.at in
    let near : at < length code = omega (arith, c.requires) in
    let long : stride (get_or code at 0) ≡ suc c.from-2.result = omega (arith, c.stride-len.ensures, c.in_ok-count.ensures, c.from-2.ensures) in
    regular_step s all goal code out run at (get_or code at 0) c.from-2.result c.in_ok-end.end near le refl long c.in_ok-end.ensures.exact w
