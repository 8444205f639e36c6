use Rattle.std.proofs.Common.{◌≡◌, Bool, true, false, [], take, get_or}
use Rattle.std.specs.List.{flat_map}
use Rattle.std.proofs.lemmas.List.{take_more, take_all}
use Rattle.wk_body.specs.declared.token.Token.TheVariants.{Unreachable}
use Rattle.wk_body.specs.Kept.{all_told}
use Rattle.wk_body.specs.References.{tok_refs, Collects}
use Rattle.wk_body.proofs.RefSets.{collects_token, gains_memory, gains_without}
use Rattle.wk_body.proofs.references.refs_among.Goals as goal
use Rattle.wk_body.proofs.references.refs_among.Goals.{then-memory+in_ok-add, else-memory}

pub loop-token-preserved : goal.loop-token-preserved
loop-token-preserved c =
    let ts = c.args.tokens.now in
    let i = c.loop-token.token-index in
    rw (take_more ts i Unreachable c.loop-token-test.true)
    (collects_token c.loop-token.found.keys c.add_refs.new.found.keys c.loop-token.memory c.add_refs.new.memory (take i ts)
    (get_or ts i Unreachable) c.loop-token.invariant c.in_ok-add_refs.ensures)

pub returns : goal.returns
returns c =
    let ts = c.args.tokens.now in
    let all : take c.loop-token.token-index ts ≡ ts = take_all c.loop-token.token-index ts c.loop-token-test.false in
    let collected : (memory : Bool) → c.loop-token.memory ≡ memory → Collects [] false c.loop-token.found.keys memory (flat_map tok_refs (all_told [] ts)) =
    λ memory is. rw (all, is) at c.loop-token.invariant in
    elim c.if-memory.branch [
      | then-memory+in_ok-add w ↦ rw w.found-is (gains_memory c.loop-token.found.keys _ _ (collected true w.if-memory.true) w.in_ok-add.ensures)
      | else-memory w ↦ rw w.found-is (gains_without c.loop-token.found.keys _ (collected false w.if-memory.false))
    ]
