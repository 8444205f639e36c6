use Rattle.std.proofs.Common.{ap, ◌∙◌, ◌≡◌, ◌+◌, ◌++◌, ◌≤◌, ℕ, List, true, false, length, arith, length-append}
use Rattle.std.specs.List.{flat_map}
use Rattle.std.proofs.lemmas.Result.{IfOk-weaker}
use Rattle.wk_bytes.specs.Frames.{limit}
use Rattle.wk_bytes.specs.Short.{short}
use Rattle.wk_body.specs.Bodies.{BodyOf, AreGroups}
use Rattle.wk_body.specs.Shape.{IsShaped}
use Rattle.wk_body.specs.Tree.{Tok, tokens_of}
use Rattle.wk_body.specs.Written.{written_group, written_expr, written_body}
use Rattle.wk_body.specs.Shifts.{shifted_body}
use Rattle.wk_body.specs.ShiftSteps.{Shifting, StaysBehind}
use Rattle.wk_body.proofs.Found.{found_is, index_is, not_found}
use Rattle.wk_body.proofs.ShiftedBody.{count_ahead, groups_ahead, groups_are, body_begins, moved_in_range, body_same}
use Rattle.wk_body.proofs.shifts.put_shifts.Goals as goal
use Rattle.wk_body.proofs.shifts.put_shifts.Goals.{After-put_tokens}

pub returns-then-shifts-eq0-2-clause-exact : goal.returns-then-shifts-eq0-2-clause-exact
returns-then-shifts-eq0-2-clause-exact c = λ yes b groups shaped is.
    c.in_ok-extend_from_slice.ensures.items ∙ ap (λ (bytes : List ℕ). c.args.out.now.items ++ bytes)
    (is ∙ body_same c.args.shifts c.if-shifts-eq0.true c.if-shifts-eq0-2.true b)

pub returns-in_default-clause-sure : goal.returns-in_default-clause-sure
returns-in_default-clause-sure c = λ no b groups shaped is few moved.
    not_found (length b.groups, 0 + length (short (length b.groups)))
    (c.in_default.ensures.exact (length b.groups) (flat_map written_group b.groups ++ written_expr b.instrs) groups.counted
    (count_ahead b c.args.code.now is))

pub returns-in_default-behind_integers-clause-sure : goal.returns-in_default-behind_integers-clause-sure
returns-in_default-behind_integers-clause-sure c = λ no b groups shaped is few moved.
    let code = c.args.code.now in
    let bytes = flat_map written_group b.groups in
    let found = c.in-Some.ensures.exact (length b.groups) (bytes ++ written_expr b.instrs) groups.counted (count_ahead b code is) in
    let both = index_is c.in-Some.groups (length b.groups) c.in-Some.first (0 + length (short (length b.groups))) found in
    not_found (c.in-Some.first + length bytes)
    (c.in_default-behind_integers.ensures.exact bytes (written_expr b.instrs) (groups_are b code is c.in-Some.groups both.0)
    (groups_ahead b code is c.in-Some.first both.1))

-- the walk begins at the tokens of the body
begins : (c : After-put_tokens) (b : BodyOf) → AreGroups b.groups → IsShaped b.instrs → c.args.code.now ≡ written_body b
    → Shifting c.args.shifts (tokens_of b.instrs) (c.args.out.now.items ++ written_body (shifted_body c.args.shifts b)) c.args.code.now
    c.args.out.now.items 0 c.in-Some-behind_integers.head
begins c b groups shaped is =
    let code = c.args.code.now in
    let bytes = flat_map written_group b.groups in
    let found = c.in-Some.ensures.exact (length b.groups) (bytes ++ written_expr b.instrs) groups.counted (count_ahead b code is) in
    let both = index_is c.in-Some.groups (length b.groups) c.in-Some.first (0 + length (short (length b.groups))) found in
    let behind = c.in-Some-behind_integers.ensures.exact bytes (written_expr b.instrs) (groups_are b code is c.in-Some.groups both.0)
    (groups_ahead b code is c.in-Some.first both.1) in
    let head = found_is c.in-Some-behind_integers.head (c.in-Some.first + length bytes) behind in
    body_begins b code is c.args.shifts c.args.out.now.items c.in-Some-behind_integers.head
    (omega (arith, both.1, head, length-append (short (length b.groups)) bytes)) shaped.in_range

pub returns-clause-exact : goal.returns-clause-exact
returns-clause-exact c =
    let s = c.args.shifts in
    let code = c.args.code.now in
    let old = c.args.out.now.items in
    let new = c.put_tokens.new.out.items in
    IfOk-weaker c.put_tokens.result
    (λ done. done ≡ true → (all : List Tok) (goal : List ℕ) → Shifting s all goal code old 0 c.in-Some-behind_integers.head → new ≡ goal)
    (λ done. done ≡ true → (b : BodyOf) → AreGroups b.groups → IsShaped b.instrs → code ≡ written_body b → new ≡ old ++ written_body (shifted_body s b))
    (λ done goes yes b groups shaped is. goes yes (tokens_of b.instrs) (old ++ written_body (shifted_body s b)) (begins c b groups shaped is))
    c.put_tokens.ensures.goes

pub returns-clause-sure : goal.returns-clause-sure
returns-clause-sure c =
    let s = c.args.shifts in
    let code = c.args.code.now in
    let old = c.args.out.now.items in
    IfOk-weaker c.put_tokens.result
    (λ done. done ≡ false → StaysBehind s code old 0 c.in-Some-behind_integers.head)
    (λ done. done ≡ false → (b : BodyOf) → AreGroups b.groups → IsShaped b.instrs → code ≡ written_body b → length code ≤ limit
    → IsShaped (shifted_body s b).instrs → ⊥)
    (λ done stays no b groups shaped is few moved. stays no (tokens_of b.instrs) (old ++ written_body (shifted_body s b)) (begins c b groups shaped is)
    (moved_in_range s b.instrs moved.in_range))
    c.put_tokens.ensures.stays
