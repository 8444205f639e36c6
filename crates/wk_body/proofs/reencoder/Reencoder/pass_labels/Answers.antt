use Rattle.std.proofs.Common.{ℕ, List, subst}
use Rattle.std.specs.List.{flat_map}
use Rattle.wk_bytes.specs.Short.{short}
use Rattle.wk_bytes.specs.Span.{u32_at}
use Rattle.wk_body.specs.Vectors.{items_at}
use Rattle.wk_body.specs.declared.reencoder.Reencoder.{Reencoder}
use Rattle.wk_body.specs.Reencoding.{Passes}
use Rattle.wk_body.proofs.reencoder.Reencoder.pass_labels.Goals as goal

pub returns : goal.returns
returns c =
    subst (λ (w : Reencoder). (labels : List ℕ) × Passes (items_at u32_at c.args.count) labels
    (flat_map short labels) c.args.out.now.items w c.labels_apart.new.out.items c.labels_apart.new.self)
    c.ahead-own.ensures c.in_ok-labels_apart.ensures
