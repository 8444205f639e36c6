use Rattle.std.proofs.Common.{drop, ◌≡◌, ◌+◌, ◌++◌, ℕ, List, Some, length, arith, ◌∙◌, ap, sym, subst, length-append, append_assoc, suc}
use Rattle.std.specs.List.{flat_map}
use Rattle.wk_bytes.specs.Short.{short}
use Rattle.wk_body.specs.ShiftSteps.{AreIntegers}
use Rattle.wk_body.proofs.Found.{index_is}
use Rattle.wk_body.proofs.Integers.{labels_integers}
use Rattle.wk_body.proofs.Shifting.{behind_bytes}
use Rattle.wk_body.proofs.shifts.behind_labels.Goals as goal

-- the count in front of the labels
parts : (at : ℕ) (code labels : List ℕ) (other : ℕ) (later : List ℕ)
    → drop at code ≡ ((short (length labels) ++ flat_map short labels) ++ short other) ++ later
    → drop at code ≡ short (length labels) ++ ((flat_map short labels ++ short other) ++ later)
parts at code labels other later e =
    let count = short (length labels) in
    let items = flat_map short labels in
    e ∙ ap (λ (b : List ℕ). b ++ later) (append_assoc count items (short other)) ∙ append_assoc count (items ++ short other) later

pub returns-clause-exact : goal.returns-clause-exact
returns-clause-exact c = λ labels other later few e.
    let code = c.args.code.now in
    let at = c.args.at in
    let count = short (length labels) in
    let items = flat_map short labels ++ short other in
    let ahead = parts at code labels other later e in
    let found = c.in_ok-count.ensures.exact (length labels) (items ++ later) few ahead in
    let both = index_is c.in_ok-count.count (length labels) c.in_ok-count.first (at + length count) found in
    let same : c.in_ok-count.count ≡ length labels = both.0 in
    let first : at + length count ≡ c.in_ok-count.first = sym both.1 in
    let there : drop c.in_ok-count.first code ≡ items ++ later =
    subst (λ (n : ℕ). drop n code ≡ items ++ later) first (behind_bytes at code count (items ++ later) ahead) in
    let many : suc (length labels) ≡ c.in_ok-count.count + 1 = omega (arith, same) in
    let integers : AreIntegers (c.in_ok-count.count + 1) items = subst (λ (n : ℕ). AreIntegers n items) many (labels_integers labels other) in
    let place : c.in_ok-count.first + length items ≡ at + length ((count ++ flat_map short labels) ++ short other) =
    omega (arith, first, length-append count items, ap length (append_assoc count (flat_map short labels) (short other))) in
    c.behind_integers.ensures.exact items later integers there ∙ ap Some place
