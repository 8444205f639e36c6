-- What calls leave in the memory that they are given.
use Rattle.std.specs.Prelude.{◌≡◌, ◌≢◌, ℕ, ◌<◌, ◌≤◌, ◌⊎◌, Option, Some, None, List, ◌++◌, length, drop, Result, Ok, Err}
use Rattle.wk_body.specs.declared.types.Profile.{Profile}
use Rattle.wk_module.specs.Reading.{module_at}
use Rattle.wk_answers.specs.Validation.{status_of}
use Rattle.wk_ffi.specs.declared.code.Answer.{Answer}
use Rattle.wk_ffi.specs.declared.code.CallFault.{CallFault}
use Rattle.wk_ffi.specs.declared.code.CallFault.TheVariants.{Memory, Argument}
use Rattle.wk_ffi.specs.declared.code.Code.{Code}
use Rattle.wk_ffi.specs.declared.code.Code.TheVariants.{NoMemory, BadArgument, TooSmall}
use Rattle.wk_ffi.specs.declared.numbers.FaultNumbers.{FaultNumbers}
use Rattle.wk_ffi.specs.Numbers.{in_order, AreOfRead}
use Rattle.wk_ffi.specs.Told.{Told, code_number, status_told}

-- an output: what its memory held, what it holds, and the length that was told
pub record Output : Type 0 where
  pub old : List ℕ
  pub new : List ℕ
  pub told : ℕ

abbrev pub output : List ℕ → List ℕ → ℕ → Output
output old new told = record { old = old; new = new; told = told }

-- nothing is written, and no length is told
abbrev pub Untouched : Output → Type 0
Untouched o = (o.new ≡ o.old) × (o.told ≡ 0)

-- nothing is written, and the length that is needed is told
abbrev pub Asks : List ℕ → Output → Type 0
Asks bytes o = (o.new ≡ o.old) × (o.told ≡ length bytes)

-- the bytes stand in front, what stood behind them stays, and their length is told
abbrev pub Holds : List ℕ → Output → Type 0
Holds bytes o = (length bytes ≤ length o.old) × (o.new ≡ bytes ++ drop (length bytes) o.old) × (o.told ≡ length bytes)

-- ---- one output

-- the text is there, or it does not fit
abbrev pub HandsText : Told → Output → ℕ → Type 0
HandsText t text result =
    ((result ≡ code_number t.code) × Holds t.text text)
    ⊎ ((result ≡ code_number TooSmall) × (length text.old < length t.text) × Asks t.text text)

-- a call that has this to tell, or whose arguments are bad
abbrev pub AnswersText : Option Told → Output → ℕ → Type 0
AnswersText None text result = (result ≡ code_number BadArgument) × Untouched text
AnswersText (Some t) text result = HandsText t text result ⊎ ((result ≡ code_number NoMemory) × Untouched text)

-- ---- two outputs

-- the bytes and the text are there, or one of them does not fit
abbrev pub HandsBoth : Told → Output → Output → ℕ → Type 0
HandsBoth t bytes text result =
    ((result ≡ code_number t.code) × Holds t.bytes bytes × Holds t.text text)
    ⊎ ((result ≡ code_number TooSmall) × ((length bytes.old < length t.bytes) ⊎ (length text.old < length t.text))
    × Asks t.bytes bytes × Asks t.text text)

abbrev pub AnswersBoth : Option Told → Output → Output → ℕ → Type 0
AnswersBoth None bytes text result = (result ≡ code_number BadArgument) × Untouched bytes × Untouched text
AnswersBoth (Some t) bytes text result =
    HandsBoth t bytes text result
    ⊎ ((result ≡ code_number NoMemory) × Untouched bytes × Untouched text)

-- ---- numbers

-- such numbers are in front, and what is behind them stays; or there is memory for fewer than six, and all stays
abbrev pub PutsNumbers : (FaultNumbers → Type 0) → List ℕ → List ℕ → Type 0
PutsNumbers Are old new =
    ((length old < 6) × (new ≡ old)) ⊎ ((6 ≤ length old) × ((n : FaultNumbers) × Are n × (new ≡ in_order n ++ drop 6 old)))

-- the code is that of the verdict or of bytes that are no module, and the numbers are those of what reading gives
abbrev pub HandsNumbers : Profile → List ℕ → List ℕ → List ℕ → ℕ → Type 0
HandsNumbers profile bytes old new result =
    let read = module_at profile bytes in (result ≡ code_number (status_told (status_of read))) × PutsNumbers (AreOfRead profile bytes read) old new

-- a call that takes its arguments and judges in that profile, or whose arguments are bad
abbrev pub AnswersNumbers : Option Profile → List ℕ → List ℕ → List ℕ → ℕ → Type 0
AnswersNumbers None bytes old new result = (result ≡ code_number BadArgument) × (new ≡ old)
AnswersNumbers (Some p) bytes old new result = HandsNumbers p bytes old new result ⊎ ((result ≡ code_number NoMemory) × (new ≡ old))

-- ---- what the answers mean

-- there is something to tell, also where it does not fit
abbrev pub IsTold : ℕ → Type 0
IsTold result = (result ≢ code_number NoMemory) × (result ≢ code_number BadArgument)

-- ---- what is worked out before any of it is handed out

abbrev pub told_of : Answer → Told
told_of a = record { code = a.code; bytes = a.bytes.items; text = a.text.items }

-- the answer is what there is to tell, or memory is wanting, or the arguments are bad
abbrev pub IsAnswer : Option Told → Result Answer CallFault → Type 0
IsAnswer told (Ok a) = told ≡ Some (told_of a)
IsAnswer None (Err fault) = fault ≡ Argument
IsAnswer (Some t) (Err fault) = fault ≡ Memory

abbrev pub fault_code : CallFault → Code
fault_code Memory = NoMemory
fault_code Argument = BadArgument

abbrev pub GivesText : Result Answer CallFault → Output → ℕ → Type 0
GivesText (Ok a) text result = HandsText (told_of a) text result
GivesText (Err fault) text result = (result ≡ code_number (fault_code fault)) × Untouched text

abbrev pub GivesBoth : Result Answer CallFault → Output → Output → ℕ → Type 0
GivesBoth (Ok a) bytes text result = HandsBoth (told_of a) bytes text result
GivesBoth (Err fault) bytes text result = (result ≡ code_number (fault_code fault)) × Untouched bytes × Untouched text
