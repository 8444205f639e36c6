-- Why words give no command.
use Rattle.std.specs.Prelude.{◌≡◌, ◌≢◌, ℕ, List}
use Rattle.clap.specs.Words.{kind_of}
use Rattle.clap.specs.declared.error.Error.{Error}
use Rattle.clap.specs.declared.error.kind.ErrorKind.TheVariants.{OutOfMemory}
use Rattle.wk_command_line.specs.CommandLine.{SpellsNone}
use Rattle.wk_command_line.specs.declared.fault.WordsFault.{WordsFault}
use Rattle.wk_command_line.specs.declared.fault.WordsFault.TheVariants.{CommandLine, BadWords, Memory}

-- of words that spell no command, or of want of memory
abbrev pub RefusesWords : List (List ℕ) → WordsFault → Type 0
RefusesWords words (CommandLine complaint) = SpellsNone words
RefusesWords words BadWords = SpellsNone words
RefusesWords words Memory = Unit {0}

-- what becomes of the parser's own fault: want of memory, where it is that, and else what it says
abbrev pub IsOfParser : Error → WordsFault → Type 0
IsOfParser e (CommandLine complaint) = (complaint ≡ e) × (kind_of e ≢ OutOfMemory)
IsOfParser e BadWords = ⊥
IsOfParser e Memory = kind_of e ≡ OutOfMemory
