use Rattle.std.proofs.Common.{◌≡◌, [], subst}
use Rattle.std.specs.List.{flat_map}
use Rattle.std.proofs.lemmas.Result.{IfOk-weaker}
use Rattle.wk_body.specs.Kept.{all_told}
use Rattle.wk_body.specs.References.{refs_of, tok_refs, AreSame, Gains}
use Rattle.wk_body.proofs.TreeRefs.{kept_refs}
use Rattle.wk_body.proofs.references.refs.Goals as goal

pub returns-clause-exact : goal.returns-clause-exact
returns-clause-exact c =
    let ts = c.tokens.result.0.now in
    let k : flat_map tok_refs (all_told [] ts) ≡ refs_of c.args.body.now.instrs =
    kept_refs c.tokens.result.1.now ts c.args.body.now.instrs c.tokens.ensures.tokens in
    IfOk-weaker c.refs_among.result (λ s. Gains [] s.keys (flat_map tok_refs (all_told [] ts))) (λ s. AreSame s.keys (refs_of c.args.body.now.instrs))
    (λ s g. subst (AreSame s.keys) k g.same) c.refs_among.ensures
