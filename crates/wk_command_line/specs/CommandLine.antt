-- The command line: which words spell which command.
--
-- The words are those after the name of the program. The first one names the command. Options and operands follow in any order; after `--`
-- there are operands only. An option begins with `--`, and its value, if it has one, follows `=` or is the next word. `-` alone is an operand.
-- Words that ask for help or the version spell no command.
use Rattle.std.specs.Prelude.{◌≡◌, ◌≢◌, ◌⊎◌, ◌==◌, ◌<◌, ℕ, Bool, true, false, not, ⊤, Option, Some, None, List, [], ◌∷◌, ◌++◌, length, map, codes, if◌then◌else◌}
use Rattle.std.specs.List.{flat_map, list_any}
use Rattle.std.specs.Str.{bytes_eq}
use Rattle.wk_body.specs.declared.types.Profile.{Profile}
use Rattle.wk_body.specs.declared.types.Profile.TheVariants.{Core, Extended}
use Rattle.wk_list.specs.declared.listing.Part.{Part}
use Rattle.wk_list.specs.declared.listing.Part.TheVariants.{Headers, Details, Code, Uses}
use Rattle.wk_edit.specs.ScriptGrammar.{SpellsName}
use Rattle.wk_command_line.specs.declared.command.Asked.{Asked}
use Rattle.wk_command_line.specs.declared.command.Asked.TheVariants as asks
use Rattle.wk_command_line.specs.declared.command.EachCommand.{EachCommand}
use Rattle.wk_command_line.specs.declared.command.EditCommand.{EditCommand}
use Rattle.wk_command_line.specs.declared.command.ObjdumpCommand.{ObjdumpCommand}
use Rattle.wk_command_line.specs.declared.command.StripCommand.{StripCommand}
use Rattle.wk_command_line.specs.declared.command.ValidateCommand.{ValidateCommand}

-- ---- what a command takes

abbrev pub Word : Type 0
Word = List ℕ

pub record Form : Type 0 where
  -- the word that names the command
  pub name : Word
  -- options without a value
  pub flags : List Word
  -- options with a value
  pub settings : List Word
  -- what its operands are, in order
  pub operands : List Word
  -- what the operands after those are, of which there is one at least
  pub more : Option Word

abbrev pub edit : Form
edit = record {
  name = codes "edit";
  flags = codes "keep-valid" ∷ codes "extended" ∷ [];
  settings = [];
  operands = codes "FILE" ∷ codes "SCRIPT" ∷ codes "OUT" ∷ [];
  more = None;
}

abbrev pub objdump : Form
objdump = record {
  name = codes "objdump";
  flags = codes "headers" ∷ codes "details" ∷ codes "code" ∷ codes "uses" ∷ codes "extended" ∷ [];
  settings = [];
  operands = codes "FILE" ∷ [];
  more = None;
}

abbrev pub sections : Form
sections = record { name = codes "sections"; flags = []; settings = []; operands = codes "FILE" ∷ []; more = None }

abbrev pub strip : Form
strip = record {
  name = codes "strip";
  flags = codes "extended" ∷ [];
  settings = codes "keep" ∷ [];
  operands = codes "FILE" ∷ codes "OUT" ∷ [];
  more = None;
}

abbrev pub validate : Form
validate = record {
  name = codes "validate";
  flags = codes "each" ∷ codes "extended" ∷ codes "explain" ∷ [];
  settings = [];
  operands = [];
  more = Some (codes "FILE");
}

-- ---- what is spelled

-- a piece of a line in front of `--`
pub data Piece : Type 0 where
  -- `--name`
  flag : (name : Word) → Piece
  -- `--name=value`
  joined : (name value : Word) → Piece
  -- `--name value`
  parted : (name value : Word) → Piece
  -- a word that is no option
  operand : (word : Word) → Piece

abbrev pub dashes : Word
dashes = codes "--"

-- `--name`
abbrev pub option_word : Word → Word
option_word name = dashes ++ name

abbrev pub piece_words : Piece → List Word
piece_words (flag name) = option_word name ∷ []
piece_words (joined name value) = (option_word name ++ (codes "=" ++ value)) ∷ []
piece_words (parted name value) = option_word name ∷ value ∷ []
piece_words (operand word) = word ∷ []

-- what follows the name of the command: pieces in any order, and after `--`, where that is given, operands as they are
pub record Line : Type 0 where
  pub pieces : List Piece
  pub rest : Option (List Word)

abbrev pub rest_words : Option (List Word) → List Word
rest_words None = []
rest_words (Some words) = dashes ∷ words

abbrev pub line_words : Line → List Word
line_words l = flat_map piece_words l.pieces ++ rest_words l.rest

-- the operands of pieces
abbrev pub free_words : List Piece → List Word
free_words [] = []
free_words (operand word ∷ pieces) = word ∷ free_words pieces
free_words (_ ∷ pieces) = free_words pieces

abbrev pub rest_operands : Option (List Word) → List Word
rest_operands None = []
rest_operands (Some words) = words

-- all operands, in order
abbrev pub operands_of : Line → List Word
operands_of l = free_words l.pieces ++ rest_operands l.rest

-- the names of the options
abbrev pub options_of : List Piece → List Word
options_of [] = []
options_of (flag name ∷ pieces) = name ∷ options_of pieces
options_of (joined name value ∷ pieces) = name ∷ options_of pieces
options_of (parted name value ∷ pieces) = name ∷ options_of pieces
options_of (operand word ∷ pieces) = options_of pieces

-- ---- which lines are those of a command

abbrev pub IsIn : Word → List Word → Type 0
IsIn x [] = ⊥
IsIn x (y ∷ ys) = (x ≡ y) ⊎ IsIn x ys

abbrev pub NoneTwice : List Word → Type 0
NoneTwice [] = ⊤
NoneTwice (x ∷ xs) = ¬ (IsIn x xs) × NoneTwice xs

-- the word is no option: it does not begin with `-` (45), or is `-` alone
abbrev pub is_free : Word → Bool
is_free [] = true
is_free (x ∷ []) = true
is_free (x ∷ y ∷ rest) = not (x == 45)

abbrev pub IsPieceOf : Form → Piece → Type 0
IsPieceOf f (flag name) = IsIn name f.flags
IsPieceOf f (joined name value) = IsIn name f.settings
IsPieceOf f (parted name value) = IsIn name f.settings × (is_free value ≡ true)
IsPieceOf f (operand word) = is_free word ≡ true

abbrev pub ArePiecesOf : Form → List Piece → Type 0
ArePiecesOf f [] = ⊤
ArePiecesOf f (p ∷ ps) = IsPieceOf f p × ArePiecesOf f ps

-- how many operands a command may have, by how many have a name of their own, and whether there are more
abbrev pub MayHave : ℕ → Option Word → ℕ → Type 0
MayHave named None n = n ≡ named
MayHave named (Some more) n = named < n

-- the options are those of the command, none of them twice, and there are as many operands as it takes
pub record IsLineOf (f : Form) (l : Line) : Type 0 where
  pub pieces : ArePiecesOf f l.pieces
  pub once : NoneTwice (options_of l.pieces)
  pub operands : MayHave (length f.operands) f.more (length (operands_of l))

-- ---- what a line gives

abbrev pub is_given : Word → Line → Bool
is_given name l = list_any (λ option. bytes_eq option name) (options_of l.pieces)

-- the value of an option, where it is given
abbrev pub value_in : Word → List Piece → Option Word
value_in name [] = None
value_in name (joined option value ∷ pieces) = if bytes_eq option name then Some value else value_in name pieces
value_in name (parted option value ∷ pieces) = if bytes_eq option name then Some value else value_in name pieces
value_in name (_ ∷ pieces) = value_in name pieces

abbrev pub value_of : Word → Line → Option Word
value_of name l = value_in name l.pieces

-- ---- commands

abbrev pub profile_of : Bool → Profile
profile_of false = Core
profile_of true = Extended

abbrev pub part_if : Bool → Part → List Part
part_if asked part = if asked then part ∷ [] else []

-- the headers, where no part is asked for
abbrev pub or_headers : List Part → List Part
or_headers [] = Headers ∷ []
or_headers (part ∷ parts) = part ∷ parts

-- the parts of a listing in their order, by which of them are asked for
abbrev pub parts_of : Bool → Bool → Bool → Bool → List Part
parts_of headers details code uses = or_headers (part_if headers Headers ++ (part_if details Details ++ (part_if code Code ++ part_if uses Uses)))

-- the name that is kept, by the value of `--keep`: it is spelled as in scripts
abbrev pub KeepsName : Option Word → Option (List ℕ) → Type 0
KeepsName None keep = keep ≡ None
KeepsName (Some word) None = ⊥
KeepsName (Some word) (Some name) = SpellsName word name

-- the words are the name of the command and this line
abbrev pub IsSpelled : Form → List Word → Line → Type 0
IsSpelled f words l = (words ≡ f.name ∷ line_words l) × IsLineOf f l

-- OUT is not spelled as FILE or SCRIPT.
pub record SpellsEdit (words : List Word) (c : EditCommand) : Type 0 where
  pub line : Line
  pub spelled : IsSpelled edit words line
  pub operands : operands_of line ≡ c.file.now ∷ c.script.now ∷ c.out.now ∷ []
  pub keep_valid : c.keep_valid ≡ is_given (codes "keep-valid") line
  pub profile : c.profile ≡ profile_of (is_given (codes "extended") line)
  pub new : c.out.now ≢ c.file.now
  pub other : c.out.now ≢ c.script.now

pub record SpellsObjdump (words : List Word) (c : ObjdumpCommand) : Type 0 where
  pub line : Line
  pub spelled : IsSpelled objdump words line
  pub operands : operands_of line ≡ c.file.now ∷ []
  pub parts : c.parts.items ≡ parts_of (is_given (codes "headers") line) (is_given (codes "details") line) (is_given (codes "code") line) (is_given (codes "uses") line)
  pub profile : c.profile ≡ profile_of (is_given (codes "extended") line)

pub record SpellsSections (words : List Word) (file : Word) : Type 0 where
  pub line : Line
  pub spelled : IsSpelled sections words line
  pub operands : operands_of line ≡ file ∷ []

-- OUT is not spelled as FILE.
pub record SpellsStrip (words : List Word) (c : StripCommand) : Type 0 where
  pub line : Line
  pub spelled : IsSpelled strip words line
  pub operands : operands_of line ≡ c.file.now ∷ c.out.now ∷ []
  pub keep : KeepsName (value_of (codes "keep") line) c.keep
  pub profile : c.profile ≡ profile_of (is_given (codes "extended") line)
  pub new : c.out.now ≢ c.file.now

-- one FILE, without `--each`
pub record SpellsValidate (words : List Word) (c : ValidateCommand) : Type 0 where
  pub line : Line
  pub spelled : IsSpelled validate words line
  pub alone : is_given (codes "each") line ≡ false
  pub explain : c.explain ≡ is_given (codes "explain") line
  pub operands : operands_of line ≡ c.file.now ∷ []
  pub profile : c.profile ≡ profile_of (is_given (codes "extended") line)

-- the names of its FILEs
abbrev pub files_of : EachCommand → List Word
files_of c = map (λ file. file.now) c.files.items

-- one FILE or more, with `--each`
pub record SpellsEach (words : List Word) (c : EachCommand) : Type 0 where
  pub line : Line
  pub spelled : IsSpelled validate words line
  pub each : is_given (codes "each") line ≡ true
  pub explain : c.explain ≡ is_given (codes "explain") line
  pub operands : operands_of line ≡ files_of c
  pub profile : c.profile ≡ profile_of (is_given (codes "extended") line)

-- the words spell the command
abbrev pub Spells : List Word → Asked → Type 0
Spells words (asks.Edit c) = SpellsEdit words c
Spells words (asks.Objdump c) = SpellsObjdump words c
Spells words (asks.Sections file) = SpellsSections words file.now
Spells words (asks.Strip c) = SpellsStrip words c
Spells words (asks.Validate c) = SpellsValidate words c
Spells words (asks.ValidateEach c) = SpellsEach words c

-- the words spell no command
abbrev pub SpellsNone : List Word → Type 0
SpellsNone words = (command : Asked) → ¬ (Spells words command)

-- the two commands are the same
abbrev pub IsSame : Asked → Asked → Type 0
IsSame (asks.Edit c) (asks.Edit d) = (c.keep_valid ≡ d.keep_valid) × (c.profile ≡ d.profile) × (c.file.now ≡ d.file.now) × (c.script.now ≡ d.script.now)
    × (c.out.now ≡ d.out.now)
IsSame (asks.Objdump c) (asks.Objdump d) = (c.parts.items ≡ d.parts.items) × (c.profile ≡ d.profile) × (c.file.now ≡ d.file.now)
IsSame (asks.Sections file) (asks.Sections other) = file.now ≡ other.now
IsSame (asks.Strip c) (asks.Strip d) = (c.keep ≡ d.keep) × (c.profile ≡ d.profile) × (c.file.now ≡ d.file.now) × (c.out.now ≡ d.out.now)
IsSame (asks.Validate c) (asks.Validate d) = (c.explain ≡ d.explain) × (c.profile ≡ d.profile) × (c.file.now ≡ d.file.now)
IsSame (asks.ValidateEach c) (asks.ValidateEach d) = (c.explain ≡ d.explain) × (c.profile ≡ d.profile) × (files_of c ≡ files_of d)
IsSame command other = ⊥

-- the words spell the command, and no other
pub record SpellsOnly (words : List Word) (command : Asked) : Type 0 where
  pub spelled : Spells words command
  pub only : (other : Asked) → Spells words other → IsSame command other
