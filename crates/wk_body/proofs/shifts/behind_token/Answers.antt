use Rattle.std.proofs.Common.{◌≡◌, ℕ, refl, inl, inr, subst, rules, arith}
use Rattle.wk_body.specs.ShiftSteps.{AreIntegers}
use Rattle.wk_body.proofs.ShiftShapes.{regular_found, table_found, word_found}
use Rattle.wk_body.proofs.shifts.behind_token.Goals as goal

pub returns-in-14-clause-exact : goal.returns-in-14-clause-exact
returns-in-14-clause-exact c = table_found c.args.code.now c.args.at c.args.opcode c.behind_labels.result c.requires.inside c.requires.opcode
    c.requires.still c.in-14.is c.behind_labels.ensures.exact

pub returns-in-67-clause-exact : goal.returns-in-67-clause-exact
returns-in-67-clause-exact c = word_found c.args.code.now c.args.at c.args.opcode c.behind_bytes.result c.requires.inside c.requires.opcode
    c.requires.still 4 (inl (c.in-67.is, refl)) c.behind_bytes.ensures.exact

pub returns-in-68-clause-exact : goal.returns-in-68-clause-exact
returns-in-68-clause-exact c = word_found c.args.code.now c.args.at c.args.opcode c.behind_bytes-in-68.result c.requires.inside c.requires.opcode
    c.requires.still 8 (inr (c.in-68.is, refl)) c.behind_bytes-in-68.ensures.exact

pub returns-in_ok-count-in_default-clause-exact : goal.returns-in_ok-count-in_default-clause-exact
returns-in_ok-count-in_default-clause-exact c =
    let code = c.args.code.now in
    let at = c.args.at in
    let opcode = c.args.opcode in
    let no_table : opcode ≡ 0x0E → ⊥ = first_of (search rules, grind arith) in
    let no_word : opcode ≡ 0x43 → ⊥ = first_of (search rules, grind arith) in
    let no_other : opcode ≡ 0x44 → ⊥ = first_of (search rules, grind arith) in
    regular_found code at opcode c.behind_integers.result c.requires.inside c.requires.opcode c.requires.still no_table no_word no_other
    (λ count front later long integers ahead.
    let many : count ≡ c.from.result = omega (arith, c.from.ensures, c.in_ok-count-in_default.ensures, c.stride.ensures, long) in
    c.behind_integers.ensures.exact front later (subst (λ (n : ℕ). AreIntegers n front) many integers) ahead)

pub returns-in_err-count-in_default-clause-exact : goal.returns-in_err-count-in_default-clause-exact
returns-in_err-count-in_default-clause-exact c =
    let opcode = c.args.opcode in
    let no_table : opcode ≡ 0x0E → ⊥ = first_of (search rules, grind arith) in
    let no_word : opcode ≡ 0x43 → ⊥ = first_of (search rules, grind arith) in
    let no_other : opcode ≡ 0x44 → ⊥ = first_of (search rules, grind arith) in
    regular_found c.args.code.now c.args.at opcode c.from_residual.result c.requires.inside c.requires.opcode c.requires.still no_table no_word no_other
    (λ count front later long integers ahead.
    absurd (omega (arith, c.in_err-count-in_default.ensures, c.stride.ensures, long)))
