-- Why a command gives no answer.
use Rattle.std.specs.Prelude.{◌≡◌, ℕ, List, ◌++◌, Option, Some, None, codes}
use Rattle.wk_list.specs.declared.fault.ListFault.{ListFault}
use Rattle.wk_list.specs.declared.fault.ListFault.TheVariants as lists
use Rattle.wk_command_line.specs.CommandLine.{SpellsNone}
use Rattle.wk_command_line.specs.declared.fault.WordsFault.{WordsFault}
use Rattle.wk_command_line.specs.declared.fault.WordsFault.TheVariants as faults
use Rattle.wasmkit.specs.declared.store.StoreFault.{StoreFault}
use Rattle.wasmkit.specs.declared.store.StoreFault.TheVariants as stores
use Rattle.wasmkit.specs.declared.fault.ProgramFault.{ProgramFault}
use Rattle.wasmkit.specs.declared.fault.ProgramFault.TheVariants.{CommandLine, BadWords, Read, Write, Output, Memory}

-- the exit status
abbrev pub fault_status : ProgramFault → ℕ
fault_status (CommandLine complaint) = 3
fault_status BadWords = 3
fault_status (Read name) = 4
fault_status (Write name) = 4
fault_status Output = 4
fault_status Memory = 5

-- ---- what standard error gets

abbrev pub unread_text : List ℕ → List ℕ
unread_text name = codes "cannot read " ++ (name ++ codes "\n")

abbrev pub memory_text : List ℕ
memory_text = codes "out of memory\n"

-- the text of a fault, where it is not the parser's
abbrev pub fault_text : ProgramFault → Option (List ℕ)
fault_text (CommandLine complaint) = None
fault_text BadWords = Some (codes "bad command line\n")
fault_text (Read name) = Some (unread_text name.now)
fault_text (Write name) = Some (codes "cannot write " ++ (name.now ++ codes "\n"))
fault_text Output = Some (codes "cannot write standard output\n")
fault_text Memory = Some memory_text

-- ---- what a fault is of

-- of a file of that name that was not read
abbrev pub IsOfLoad : List ℕ → StoreFault → ProgramFault → Type 0
IsOfLoad name stores.Failed (Read told) = told.now ≡ name
IsOfLoad name stores.Memory Memory = Unit {0}
IsOfLoad name why fault = ⊥

-- of a file of that name that was not written
abbrev pub IsOfSave : List ℕ → StoreFault → ProgramFault → Type 0
IsOfSave name stores.Failed (Write told) = told.now ≡ name
IsOfSave name stores.Memory Memory = Unit {0}
IsOfSave name why fault = ⊥

-- of words that are no command that is carried out, or of want of memory
abbrev pub IsOfWords : ProgramFault → Type 0
IsOfWords (CommandLine complaint) = Unit {0}
IsOfWords BadWords = Unit {0}
IsOfWords Memory = Unit {0}
IsOfWords fault = ⊥

-- of words that spell no command, or of want of memory
abbrev pub RefusesWords : List (List ℕ) → ProgramFault → Type 0
RefusesWords words (CommandLine complaint) = SpellsNone words
RefusesWords words BadWords = SpellsNone words
RefusesWords words Memory = Unit {0}
RefusesWords words fault = ⊥

-- of a listing that stopped
abbrev pub of_list : ListFault → ProgramFault
of_list lists.Write = Output
of_list lists.Memory = Memory

-- of words that were not read
abbrev pub of_words : WordsFault → ProgramFault
of_words (faults.CommandLine complaint) = CommandLine complaint
of_words faults.BadWords = BadWords
of_words faults.Memory = Memory
