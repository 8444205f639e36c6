use Rattle.std.proofs.Common.{◌≡◌, ◌||◌, [], sym, ◌∙◌}
use Rattle.std.proofs.lemmas.Result.{on_ok_weaker}
use Rattle.wk_body.specs.Kept.{told}
use Rattle.wk_body.specs.References.{tok_refs}
use Rattle.wk_body.proofs.RefSets.{collects_gain, collects_unnamed, named_takes_none}
use Rattle.wk_body.proofs.references.add_refs.Goals as goal

pub returns-then-may_name : goal.returns-then-may_name
returns-then-may_name c =
    let t = c.args.token.now in
    let was = c.args.memory.now in
    let same : (was || c.takes_memory.result) ≡ was = rw c.takes_memory.ensures (named_takes_none t was (sym c.may_name.ensures ∙ c.if-may_name.true)) in
    rw same (on_ok_weaker c.add_named.result (collects_gain was c.args.found.now.keys c.add_named.new.found.keys (tok_refs (told [] t))) c.add_named.ensures)

pub returns : goal.returns
returns c = rw c.takes_memory.ensures (collects_unnamed c.args.token.now c.args.memory.now c.args.found.now.keys (sym c.may_name.ensures ∙ c.if-may_name.false))
