use Rattle.std.proofs.Common.{◌≡◌, drop}
use Rattle.wk_typing.specs.Effects.{all_known}
use Rattle.wk_typing.specs.Levels.{labels_of}
use Rattle.wk_typing.proofs.control.are_known.Given as goal

abbrev pub invariant-loop-each : goal.invariant-loop-each
invariant-loop-each g l =
    all_known (labels_of (g.E.Scope.answers l.env) l.s) l.labels ≡ all_known (labels_of (g.E.Scope.answers l.env) l.s) (drop l.each-index l.labels)
