use Rattle.std.proofs.Common.{get_or, sym}
use Rattle.std.proofs.lemmas.List.{get_or_default}
use Rattle.std.proofs.lemmas.List.Edits.{map_over_more}
use Rattle.wk_body.specs.declared.token.Token.TheVariants.{Unreachable}
use Rattle.wk_body.specs.Moved.{moved_kept}
use Rattle.wk_body.proofs.MovedTrees.{free_at, next_place}
use Rattle.wk_body.proofs.renumber.shift_tokens.Goals as goal

pub shift_token-requires : goal.shift_token-requires
shift_token-requires c =
    let ts = c.args.tokens.now in
    let i = c.loop-token.token-index in
    rw (c.loop-token.invariant, next_place (moved_kept c.args.kind c.args.from) ts i Unreachable c.loop-token-test.true)
    (free_at c.args.kind c.args.from ts i Unreachable c.loop-token-test.true c.requires)

pub loop-token-preserved : goal.loop-token-preserved
loop-token-preserved c =
    let now = c.loop-token.tokens in
    let i = c.loop-token.token-index in
    let item = get_or now i Unreachable in
    let same = get_or_default now i Unreachable item (rw (sym c.loop-token.auto.tokens) at c.loop-token-test.true) in
    rw (c.shift_token.ensures)
    (map_over_more (moved_kept c.args.kind c.args.from) c.args.tokens.now now i item c.loop-token-test.true c.loop-token.invariant same)
