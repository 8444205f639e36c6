use Rattle.wk_body.specs.declared.references.Ref.TheVariants.{Ty}
use Rattle.wk_body.specs.References.{refs_of}
use Rattle.wk_body.proofs.RefSets.{same_more}
use Rattle.wk_body.proofs.references.uses.Goals as goal

pub returns-clause-exact : goal.returns-clause-exact
returns-clause-exact c = same_more (Ty c.args.own_type) (refs_of c.args.body.now.instrs) c.in_ok-found.found.keys c.add.new.found.keys
    c.in_ok-found.ensures.exact c.in_ok-add.ensures
