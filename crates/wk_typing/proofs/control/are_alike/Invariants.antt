use Rattle.std.proofs.Common.{◌≡◌, drop}
use Rattle.wk_typing.specs.Effects.{all_same}
use Rattle.wk_typing.specs.Levels.{labels_of}
use Rattle.wk_typing.proofs.control.are_alike.Given as goal

abbrev pub invariant-loop-each : goal.invariant-loop-each
invariant-loop-each g l =
    all_same (labels_of (g.E.Scope.answers l.env) l.s) l.types l.labels
    ≡ all_same (labels_of (g.E.Scope.answers l.env) l.s) l.types (drop l.each-index l.labels)
