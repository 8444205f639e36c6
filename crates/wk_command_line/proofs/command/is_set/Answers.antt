use Rattle.std.proofs.Common.{◌≡◌, ◌∙◌, Bool, true, false, Some}
use Rattle.clap.specs.Words.{found_of}
use Rattle.clap.specs.Matches.{one_text}
use Rattle.clap.proofs.WalkLemmas.{one_text-rows}
use Rattle.wk_command_line.specs.Syntax.{flag_text}
use Rattle.wk_command_line.proofs.command.is_set.Goals as goal

pub returns : goal.returns
returns c v e = go v (one_text-rows (found_of c.args.found.now) c.args.id.now ∙ e)
  where
    go : (v : Bool) → one_text (found_of c.args.found.now) c.args.id.now ≡ Some (flag_text v) → c.get_flag.result ≡ v
    go true h = c.get_flag.ensures.value h
    go false h = c.get_flag.ensures.other h
