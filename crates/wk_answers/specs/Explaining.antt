-- What `validate --explain` prints of bytes: the line of `validate`, and behind it where the fault is in them.
use Rattle.std.specs.Prelude.{◌≡◌, ◌≢◌, ℕ, Option, Some, None, List, [], ◌++◌, codes, Result, Ok, Err, IfSome, MatchOption, decimal}
use Rattle.wk_bytes.specs.declared.fault.ReadFault.{ReadFault}
use Rattle.wk_bytes.specs.FaultText.{offset_text}
use Rattle.wk_body.specs.declared.types.Profile.{Profile}
use Rattle.wk_module.specs.declared.types.Parts.{Parts}
use Rattle.wk_module.specs.Reading.{module_at}
use Rattle.wk_typing.specs.declared.fault.Fault.{Fault}
use Rattle.wk_typing.specs.declared.fault.Verdict.{Verdict}
use Rattle.wk_typing.specs.declared.fault.Verdict.TheVariants.{Valid, Invalid}
use Rattle.wk_check.specs.Verdict.{module_verdict}
use Rattle.wk_place.specs.declared.place.Located.{Located}
use Rattle.wk_place.specs.Entries.{IsEntry}
use Rattle.wk_place.specs.Places.{func_index, IsInBodyOf, IsInNoBody, IsNowhere, LiesThere}
use Rattle.wk_place.specs.TokenTexts.{IsTokenText}
use Rattle.wk_answers.specs.Validation.{printed, Means}

-- ---- the line of a place

-- the function whose body the item is
abbrev pub func_text : Option ℕ → List ℕ
func_text None = []
func_text (Some index) = codes " in func[" ++ (decimal index ++ codes "]")

-- the entry of an element segment
abbrev pub entry_text : Option ℕ → List ℕ
entry_text None = []
entry_text (Some entry) = codes " entry " ++ decimal entry

-- the token, as the code listing has it
abbrev pub behind_colon : Option (List ℕ) → List ℕ
behind_colon None = []
behind_colon (Some token) = codes ": " ++ token

-- the line of a place, or nothing where the bytes have no such place
abbrev pub place_line : Option Located → Option ℕ → Option (List ℕ) → List ℕ
place_line None entry token = []
place_line (Some l) entry token =
    codes " at " ++ (offset_text l.offset ++ (func_text l.func ++ (entry_text entry ++ (behind_colon token ++ codes "\n"))))

-- ---- what is told of a place

-- the line of the place of a fault of a module that the bytes spell
pub record TellsPlace (profile : Profile) (b : List ℕ) (m : Parts) (f : Fault) (line : List ℕ) : Type 0 where
  pub found : Option Located
  pub there : MatchOption found (IsNowhere profile b f.place) (LiesThere profile b f.place)
  pub some : found ≢ None
  pub index : IfSome found (λ l. l.func ≡ func_index m f.place)
  pub entry : Option ℕ
  pub meant : IsEntry m f entry
  pub token : Option (List ℕ)
  pub read : IsTokenText profile b f.place token
  pub line_is : line ≡ place_line found entry token

-- the line of a verdict of a module
abbrev pub TellsVerdict : Profile → List ℕ → Parts → Verdict → List ℕ → Type 0
TellsVerdict profile b m Valid line = line ≡ []
TellsVerdict profile b m (Invalid fault) line = TellsPlace profile b m fault line

-- the function in whose body a first fault of bytes lies that spell no module
abbrev pub body_line : Option ℕ → List ℕ
body_line None = []
body_line (Some index) = func_text (Some index) ++ codes "\n"

abbrev pub TellsBody : Profile → List ℕ → ReadFault → List ℕ → Type 0
TellsBody profile b fault line = (func : Option ℕ) × MatchOption func (IsInNoBody profile b fault) (IsInBodyOf profile b fault) × (line ≡ body_line func)

-- the line behind what `validate` prints of what reading gives
abbrev pub TellsMore : Profile → List ℕ → Result Parts ReadFault → List ℕ → Type 0
TellsMore profile b (Ok m) line = TellsVerdict profile b m (module_verdict m) line
TellsMore profile b (Err fault) line = TellsBody profile b fault line

-- bytes that tell so were put behind others
abbrev pub Puts : (List ℕ → Type 0) → List ℕ → List ℕ → Type 0
Puts Tells old new = (line : List ℕ) × Tells line × (new ≡ old ++ line)

-- ---- the whole text

pub record Explains (profile : Profile) (b text : List ℕ) (status : ℕ) : Type 0 where
  pub line : List ℕ
  pub line_is : line ≡ printed (module_at profile b)
  pub means : Means profile b line status
  pub more : List ℕ
  pub tells : TellsMore profile b (module_at profile b) more
  pub text_is : text ≡ line ++ more
