use Rattle.std.proofs.Common.{◌≡◌, [], Some, Ok, sym, ap, ◌∙◌}
use Rattle.std.specs.Prelude.{slice_get}
use Rattle.wk_typing.specs.Levels.{labels_of}
use Rattle.wk_typing.proofs.Labels.{label_none}
use Rattle.wk_typing.proofs.fast_path.br.Goals as goal

pub returns : goal.returns
returns g c =
    let A = g.E.Scope.answers c.args.env.now in
    let empty = c.in-Some-default-Empty in
    let head = rw empty.field-0-1-is at (sym empty.is ∙ c.head.ensures) in
    let label : slice_get (labels_of A c.args.s.now) c.args.x ≡ Some [] = label_none A c.args.s.now c.args.x empty.field-0-0 head in
    rw label (sym (ap Ok c.unreachable.ensures))
