-- What a command is that is built up in turn.
use Rattle.std.proofs.Common.{◌≡◌, ◌∙◌, ◌||◌, false, List, [], ◌∷◌, map, sym, ap, subst}
use Rattle.std.specs.List.{AllByRecursion, fold}
use Rattle.clap.specs.Built.{AddsArg, AddsInTurn}
use Rattle.clap.specs.Walk.{rule_of}
use Rattle.clap.specs.Simple.{App, app_of, with_rule}
use Rattle.clap.specs.declared.builder.arg.Arg.{Arg}
use Rattle.clap.specs.declared.builder.command.Command.{Command}
use Rattle.clap.specs.declared.builder.command.Command.TheViews.{out-Command}

pub in_turn : (xs : List Arg) (old new : Command) → AddsInTurn AddsArg old xs new → (out-Command old).has_globals ≡ false → AllByRecursion (λ a. a.global ≡ false) xs
    → (app_of new ≡ fold with_rule (app_of old) (map rule_of xs)) × ((out-Command new).has_globals ≡ false)
in_turn [] old new h local all = (sym (ap app_of h), subst (λ (c : Command). (out-Command c).has_globals ≡ false) h local)
in_turn (x ∷ xs) old new h local all =
    let added = h.1 in
    let mid : (out-Command h.0).has_globals ≡ false = added.globals ∙ (ap (λ b. b || x.global) local ∙ all.0) in
    let rest = in_turn xs h.0 new h.2 mid all.1 in
    (rest.0 ∙ ap (λ (a : App). fold with_rule a (map rule_of xs)) (added.shape all.0), rest.1)
