-- What the parser of the command line knows of the commands, and what is read of the matches that it finds.
use Rattle.std.specs.Prelude.{◌≡◌, ◌≢◌, false, true, Bool, List, [], ◌∷◌, ◌++◌, map, codes, Option, Some, None, if◌then◌else◌}
use Rattle.std.specs.Option.{option_map_or}
use Rattle.std.specs.Str.{bytes_eq}
use Rattle.clap.specs.Walk.{Row, Rule, Text, all_of, first_of, one_of}
use Rattle.clap.specs.Simple.{App, Shape, app_of, new_rule, new_shape, with_subcommand}
use Rattle.clap.specs.declared.builder.action.ArgAction.TheVariants.{Append, Set, SetTrue}
use Rattle.clap.specs.declared.builder.command.Command.{Command}
use Rattle.clap.specs.declared.builder.command.Command.TheViews.{out-Command}
use Rattle.wk_body.specs.declared.types.Profile.{Profile}
use Rattle.wk_list.specs.declared.listing.Part.{Part}
use Rattle.wk_command_line.specs.declared.command.Asked.{Asked}
use Rattle.wk_command_line.specs.declared.command.Asked.TheVariants as asks
use Rattle.wk_command_line.specs.declared.command.EachCommand.{EachCommand}
use Rattle.wk_command_line.specs.declared.command.EditCommand.{EditCommand}
use Rattle.wk_command_line.specs.declared.command.ObjdumpCommand.{ObjdumpCommand}
use Rattle.wk_command_line.specs.declared.command.StripCommand.{StripCommand}
use Rattle.wk_command_line.specs.declared.command.ValidateCommand.{ValidateCommand}
use Rattle.wk_command_line.specs.declared.fault.WordsFault.{WordsFault}
use Rattle.wk_command_line.specs.declared.fault.WordsFault.TheVariants.{BadWords, CommandLine, Memory}
use Rattle.wk_command_line.specs.CommandLine.{Form, KeepsName, Word, edit, files_of, objdump, parts_of, profile_of, sections, strip, validate}

-- ---- what the parser knows

abbrev pub flag_rule : Text → Rule
flag_rule name = record (new_rule name) { long = Some name; action = Some SetTrue }

abbrev pub setting_rule : Text → Rule
setting_rule name = record (new_rule name) { long = Some name; action = Some Set; value_names = 1 }

abbrev pub word_rule : Text → Rule
word_rule name = record (new_rule name) { action = Some Set; required = true }

-- a word that may be given again
abbrev pub words_rule : Text → Rule
words_rule name = record (new_rule name) { action = Some Append; required = true }

abbrev pub more_rules : Option Word → List Rule
more_rules None = []
more_rules (Some name) = words_rule name ∷ []

abbrev pub shape_of_form : Form → Shape
shape_of_form f = record (new_shape f.name) {
  rules = map setting_rule f.settings ++ (map flag_rule f.flags ++ (map word_rule f.operands ++ more_rules f.more));
}

-- the parser of one command
pub record IsOfForm (f : Form) (c : Command) : Type 0 where
  pub app : app_of c ≡ record { top = shape_of_form f; subs = [] }
  pub local : (out-Command c).has_globals ≡ false

abbrev pub wasmkit_top : Shape
wasmkit_top = record (new_shape (codes "wasmkit")) { no_binary_name = true; has_version = true; subcommand_required = true }

abbrev pub with_form : App → Form → App
with_form a f = with_subcommand a (shape_of_form f)

-- the parser of all
abbrev pub wasmkit_app : App
wasmkit_app = with_form (with_form (with_form (with_form (with_form (record { top = wasmkit_top; subs = [] }) edit) objdump) sections) strip) validate

-- ---- what is read of the matches

abbrev pub flag_text : Bool → Text
flag_text b = if b then codes "true" else codes "false"

-- the matches say whether the flag is given
abbrev pub IsFlag : Text → List Row → Bool → Type 0
IsFlag name rows b = (v : Bool) → one_of name rows ≡ Some (flag_text v) → b ≡ v

-- whether the matches have the flag as given
abbrev pub is_on : Text → List Row → Bool
is_on name rows = option_map_or (λ text. bytes_eq text (codes "true")) (first_of name rows) false

abbrev pub IsProfile : List Row → Profile → Type 0
IsProfile rows p = (v : Bool) → one_of (codes "extended") rows ≡ Some (flag_text v) → p ≡ profile_of v

abbrev pub AreParts : List Row → List Part → Type 0
AreParts rows parts = (headers details code uses : Bool) → one_of (codes "headers") rows ≡ Some (flag_text headers)
    → one_of (codes "details") rows ≡ Some (flag_text details) → one_of (codes "code") rows ≡ Some (flag_text code)
    → one_of (codes "uses") rows ≡ Some (flag_text uses) → parts ≡ parts_of headers details code uses

pub record ReadsEdit (rows : List Row) (c : EditCommand) : Type 0 where
  pub file : first_of (codes "FILE") rows ≡ Some c.file.now
  pub script : first_of (codes "SCRIPT") rows ≡ Some c.script.now
  pub out : first_of (codes "OUT") rows ≡ Some c.out.now
  pub keep_valid : IsFlag (codes "keep-valid") rows c.keep_valid
  pub profile : IsProfile rows c.profile
  pub new : c.out.now ≢ c.file.now
  pub other : c.out.now ≢ c.script.now

pub record ReadsObjdump (rows : List Row) (c : ObjdumpCommand) : Type 0 where
  pub file : first_of (codes "FILE") rows ≡ Some c.file.now
  pub parts : AreParts rows c.parts.items
  pub profile : IsProfile rows c.profile

pub record ReadsStrip (rows : List Row) (c : StripCommand) : Type 0 where
  pub file : first_of (codes "FILE") rows ≡ Some c.file.now
  pub out : first_of (codes "OUT") rows ≡ Some c.out.now
  pub keep : KeepsName (first_of (codes "keep") rows) c.keep
  pub profile : IsProfile rows c.profile
  pub new : c.out.now ≢ c.file.now

pub record ReadsValidate (rows : List Row) (c : ValidateCommand) : Type 0 where
  pub alone : is_on (codes "each") rows ≡ false
  pub explain : IsFlag (codes "explain") rows c.explain
  pub file : all_of (codes "FILE") rows ≡ Some (c.file.now ∷ [])
  pub profile : IsProfile rows c.profile

pub record ReadsEach (rows : List Row) (c : EachCommand) : Type 0 where
  pub each : is_on (codes "each") rows ≡ true
  pub explain : IsFlag (codes "explain") rows c.explain
  pub files : all_of (codes "FILE") rows ≡ Some (files_of c)
  pub profile : IsProfile rows c.profile

-- both commands that are called `validate`
abbrev pub ReadsJudging : List Row → Asked → Type 0
ReadsJudging rows (asks.Validate c) = ReadsValidate rows c
ReadsJudging rows (asks.ValidateEach c) = ReadsEach rows c
ReadsJudging rows other = ⊥

-- the name of a command and its matches, as the command that they ask for
abbrev pub Reads : Option (Text × List Row) → Asked → Type 0
Reads found (asks.Edit c) = (rows : List Row) × (found ≡ Some (edit.name, rows)) × ReadsEdit rows c
Reads found (asks.Objdump c) = (rows : List Row) × (found ≡ Some (objdump.name, rows)) × ReadsObjdump rows c
Reads found (asks.Sections file) = (rows : List Row) × (found ≡ Some (sections.name, rows)) × (first_of (codes "FILE") rows ≡ Some file.now)
Reads found (asks.Strip c) = (rows : List Row) × (found ≡ Some (strip.name, rows)) × ReadsStrip rows c
Reads found (asks.Validate c) = (rows : List Row) × (found ≡ Some (validate.name, rows)) × ReadsValidate rows c
Reads found (asks.ValidateEach c) = (rows : List Row) × (found ≡ Some (validate.name, rows)) × ReadsEach rows c

-- no command is read, because there is none or memory was refused
abbrev pub Unreadable : {C : Type 0} → (C → Type 0) → WordsFault → Type 0
Unreadable reads Memory = Unit {0}
Unreadable {C} reads BadWords = (c : C) → ¬ (reads c)
Unreadable reads (CommandLine complaint) = ⊥
