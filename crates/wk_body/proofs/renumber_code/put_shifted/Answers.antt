use Rattle.std.proofs.Common.{◌≡◌, List, ◌++◌, length, ap, sym, subst, ◌∙◌}
use Rattle.wk_body.specs.declared.types.LocalGroup.{LocalGroup}
use Rattle.wk_body.specs.Shape.{IsInRange}
use Rattle.wk_body.specs.Shifts.{shifted_body, shifted_plain}
use Rattle.wk_body.specs.ShiftSteps.{Shifting}
use Rattle.wk_body.specs.References.{map_plain, shift_instrs}
use Rattle.wk_body.specs.Tree.{Instrs, tokens_of}
use Rattle.wk_body.specs.Vectors.{written_vector}
use Rattle.wk_body.specs.Written.{written_group, written_expr, written_body}
use Rattle.wk_body.proofs.MovedTrees.{shift_shaped}
use Rattle.wk_body.proofs.ShiftedBody.{body_begins, moved_in_range, one_moves}
use Rattle.wk_body.proofs.renumber_code.put_shifted.Goals as goal
use Rattle.wk_body.proofs.renumber_code.put_shifted.Goals.{After-put_tokens}

head : (c : After-put_tokens) → c.groups_len-head.result ≡ length (written_vector written_group c.args.body.now.groups)
head c = c.groups_len-head.ensures ∙ ap (λ (gs : List LocalGroup). length (written_vector written_group gs)) c.groups.ensures.value

-- the walk begins at the tokens of the body
begins : (c : After-put_tokens) → let s = c.one_import.result in let b = c.args.body.now in
    Shifting s (tokens_of b.instrs) (c.args.out.now.items ++ written_body (shifted_body s b)) c.args.code.now c.args.out.now.items 0 c.groups_len-head.result
begins c = body_begins c.args.body.now c.args.code.now c.requires.code c.one_import.result c.args.out.now.items c.groups_len-head.result
    (head c) c.tokens.ensures.shaped.in_range

same : (c : After-put_tokens) → map_plain (shifted_plain c.one_import.result) c.args.body.now.instrs
    ≡ shift_instrs c.args.kind c.args.from c.args.body.now.instrs
same c = one_moves c.one_import.result c.args.kind c.args.from c.one_import.ensures c.args.body.now.instrs

-- each number that moves has a next, so that all is written
pub prove-unreachable-requires : goal.prove-unreachable-requires
prove-unreachable-requires c =
    let at = (goal.at.prove-unreachable-requires c).After-put_tokens in
    let s = c.one_import.result in
    let b = c.args.body.now in
    let shaped = shift_shaped c.args.kind c.args.from b.instrs c.requires.free c.tokens.ensures.shaped in
    c.in_ok-whole.ensures.stays c.if-prove.true (tokens_of b.instrs) (c.args.out.now.items ++ written_body (shifted_body s b)) (begins at)
    (moved_in_range s b.instrs (subst IsInRange (sym (same at)) shaped.in_range))

pub returns-clause-ok : goal.returns-clause-ok
returns-clause-ok c =
    let at = (goal.at.returns-clause-ok c).After-put_tokens in
    let b = c.args.body.now in
    let moved = c.args.out.now.items ++ written_body (shifted_body c.one_import.result b) in
    c.in_ok-whole.ensures.goes c.if-prove.false (tokens_of b.instrs) moved (begins at)
    ∙ ap (λ (t : Instrs). c.args.out.now.items ++ (written_vector written_group b.groups ++ written_expr t)) (same at)
