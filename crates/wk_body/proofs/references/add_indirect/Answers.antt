use Rattle.std.proofs.Common.{[], ◌∷◌}
use Rattle.std.proofs.lemmas.Result.{on_ok_weaker}
use Rattle.wk_body.specs.declared.references.Ref.TheVariants.{Ty, Table}
use Rattle.wk_body.proofs.RefSets.{gains_then}
use Rattle.wk_body.proofs.references.add_indirect.Goals as goal

pub returns : goal.returns
returns c = on_ok_weaker c.add-2.result
    (λ g. gains_then c.args.found.now.keys c.add.new.found.keys c.add-2.new.found.keys (Ty c.args.x ∷ []) (Table ∷ []) c.in_ok-add.ensures g) c.add-2.ensures
