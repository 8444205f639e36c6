-- A place of a module as it is looked for, from left to right.
use Rattle.std.specs.Prelude.{ℕ, zero, suc, ◌+◌, ◌-◌, ◌^◌, ◌==◌, ◌&&◌, ◌≡◌, ◌≢◌, ◌⊎◌, if◌then◌else◌, nat_lt, Bool, true, false, List, [], ◌∷◌, length, Option, Some, None, Result, Ok, Err}
use Rattle.wk_bytes.specs.declared.fault.ReadFault.{ReadFault}
use Rattle.wk_bytes.specs.Frames.{Section, sections_of}
use Rattle.wk_bytes.specs.Leb.{◌>>=◌}
use Rattle.wk_bytes.specs.Span.{Span, offset, u32_at}
use Rattle.wk_body.specs.declared.types.Profile.{Profile}
use Rattle.wk_body.specs.Bodies.{BodyOf}
use Rattle.wk_body.specs.Reading.{token_at, after, all_body_at, expr_at}
use Rattle.wk_body.specs.TokenReading.{local_groups_at}
use Rattle.wk_body.specs.Vectors.{items_at, vector_at}
use Rattle.wk_module.specs.declared.types.Kind.TheVariants as kinds
use Rattle.wk_module.specs.Formats.{Reader, made_at, bytes_at}
use Rattle.wk_module.specs.Imports.{import_count}
use Rattle.wk_module.specs.Items.{import_at, global_at, export_at, elem_at, data_at}
use Rattle.wk_module.specs.Reading.{section_end}
use Rattle.wk_module.specs.Types.{functype_at, limits_at, tabletype_at, globaltype_at}
use Rattle.wk_typing.specs.declared.fault.Place.{Place}
use Rattle.wk_place.specs.declared.place.Located.{Located}

-- ---- sections

-- the first section of that id in front of any fault
abbrev pub first_with : ℕ → List (Result Section ReadFault) → Option Section
first_with id [] = None
first_with id (Err e ∷ items) = None
first_with id (Ok s ∷ items) = if s.id == id then Some s else first_with id items

-- ---- items

-- a thing that is read and let go
abbrev pub passed : {A : Type 0} → Reader A → Reader (Unit {0})
passed read = made_at (λ x. tt) read

-- an item of the section of an id; of a code the size says how long it is
unfoldable pub item_passed : Profile → ℕ → Reader (Unit {0})
item_passed profile id =
    if id == 1 then passed functype_at
    else if id == 2 then passed import_at
    else if id == 3 then passed u32_at
    else if id == 4 then passed tabletype_at
    else if id == 5 then passed limits_at
    else if id == 6 then passed (global_at profile)
    else if id == 7 then passed export_at
    else if id == 8 then passed u32_at
    else if id == 9 then passed (elem_at profile)
    else if id == 10 then passed bytes_at
    else passed (data_at profile)

-- so many things, one after the other
abbrev pub all_passed : {A : Type 0} → Reader A → ℕ → Reader (Unit {0})
all_passed read n = passed (items_at read n)

-- the number of items, of which the start section has one
abbrev pub count_at : ℕ → Reader ℕ
count_at id end bytes = if id == 8 then Ok (1, bytes) else u32_at end bytes

-- what the contents of a section are from an item on, if it has so many
unfoldable pub seek_at : Profile → ℕ → ℕ → ℕ → List ℕ → Result (Option Span) ReadFault
seek_at profile id item end bytes = do
  n ← count_at id end bytes
  if nat_lt item n.0 then (all_passed (item_passed profile id) item end n.1 >>= λ x. Ok (Some (record { rest = x.1; end = end }))) else Ok None

-- ---- the instructions of an item

abbrev pub rest_at : ℕ → List ℕ → Result (Option Span) ReadFault
rest_at end rest = Ok (Some (record { rest = rest; end = end }))

-- the bytes of a code, behind its size
unfoldable pub sized_at : ℕ → List ℕ → Result (Span × List ℕ) ReadFault
sized_at end bytes = bytes_at end bytes >>= λ code. Ok (record { rest = code.0; end = end - length code.1 }, code.1)

-- the instructions of a code, behind its local groups
unfoldable pub body_instrs_at : ℕ → List ℕ → Result (Span × List ℕ) ReadFault
body_instrs_at end bytes = do
  code ← sized_at end bytes
  groups ← local_groups_at code.0.end code.0.rest
  Ok (record { rest = groups.1; end = code.0.end }, code.1)

-- the instructions of an item of the section of an id, if such items hold any
unfoldable pub instrs_at : ℕ → ℕ → List ℕ → Result (Option Span) ReadFault
instrs_at id end bytes =
    if id == 6 then (globaltype_at end bytes >>= λ x. rest_at end x.1)
    else if id == 9 then (u32_at end bytes >>= λ x. rest_at end x.1)
    else if id == 10 then (body_instrs_at end bytes >>= λ x. Ok (Some x.0))
    else if id == 11 then (u32_at end bytes >>= λ x. rest_at end x.1)
    else Ok None

-- ---- tokens

-- an else comes
abbrev pub begins_with_else : List ℕ → Bool
begins_with_else [] = false
begins_with_else (x ∷ rest) = x == 0x05

-- an else comes, and an end directly behind it
abbrev pub is_empty_else : List ℕ → Bool
is_empty_else [] = false
is_empty_else (x ∷ []) = false
is_empty_else (x ∷ y ∷ rest) = x == 0x05 && y == 0x0B

-- how many tokens are left to be counted behind one: one fewer, or as many where it is an else whose branch is empty
abbrev pub IsNextLeft : List ℕ → ℕ → ℕ → Type 0
IsNextLeft bytes left next = ((is_empty_else bytes ≡ true) × (next ≡ left)) ⊎ ((is_empty_else bytes ≡ false) × (left ≢ 0) × (next ≡ left - 1))

abbrev pub go_on : Option (List Bool) → (List Bool → Result (Option Span) ReadFault) → Result (Option Span) ReadFault
go_on None more = Ok None
go_on (Some next) more = more next

-- Behind so many tokens that are counted, in at most `steps` steps: the bytes from the next one on, unless the expression ends before it.
abbrev pub token_from : Profile → ℕ → List Bool → ℕ → ℕ → List ℕ → Result (Option Span) ReadFault
token_from profile zero ks n end bytes = Ok None
token_from profile (suc steps) ks n end bytes =
    token_at profile ks end bytes >>= λ t.
    if is_empty_else bytes then go_on (after t.0 ks) (λ next. token_from profile steps next n end t.1)
    else if n == 0 then rest_at end bytes
    else go_on (after t.0 ks) (λ next. token_from profile steps next (n - 1) end t.1)

-- the token of that number of an expression at the front
unfoldable pub find_token_at : Profile → ℕ → ℕ → List ℕ → Result (Option Span) ReadFault
find_token_at profile n end bytes = token_from profile (suc (length bytes)) [] n end bytes

-- ---- places

-- where something was found, what follows of it
abbrev pub then_at : {A B : Type 0} → Option A → (A → Result (Option B) ReadFault) → Result (Option B) ReadFault
then_at None more = Ok None
then_at (Some x) more = more x

-- the item, or a token of its instructions
abbrev pub within_at : Profile → ℕ → Option ℕ → Span → Result (Option Span) ReadFault
within_at profile id None item = Ok (Some item)
within_at profile id (Some n) item = instrs_at id item.end item.rest >>= λ code. then_at code (λ c. find_token_at profile n c.end c.rest)

abbrev pub item_at : Profile → List ℕ → ℕ → ℕ → Result (Option Span) ReadFault
item_at profile b id item = then_at (first_with id (sections_of b)) (λ s. seek_at profile s.id item (section_end s) s.contents)

unfoldable pub place_at : Profile → List ℕ → Place → Result (Option Span) ReadFault
place_at profile b p =
    if p.section == 0 then Ok None
    else (item_at profile b p.section p.item >>= λ item. then_at item (λ s. within_at profile p.section p.token s))

-- ---- functions

abbrev pub one_if : Bool → ℕ
one_if b = if b then 1 else 0

-- how many functions are imported, of the contents of an import section
abbrev pub funcs_at : Reader ℕ
funcs_at = made_at (import_count kinds.Func) (vector_at import_at)

abbrev pub imported_in : Option Section → Result ℕ ReadFault
imported_in None = Ok 0
imported_in (Some s) = funcs_at (section_end s) s.contents >>= λ n. Ok n.0

-- the same of an input, which may have no such section
abbrev pub imported_at : List ℕ → Result ℕ ReadFault
imported_at b = imported_in (first_with 2 (sections_of b))

abbrev pub func_by : Result ℕ ReadFault → ℕ → Option ℕ
func_by (Ok n) item = if nat_lt (n + item) (2 ^ 32) then Some (n + item) else None
func_by (Err e) item = None

-- the index of the function whose body an item is, if it is one
abbrev pub func_at : List ℕ → Place → Option ℕ
func_at b p = if p.section == 10 then func_by (imported_at b) p.item else None

-- what is told of a place that was found
abbrev pub located_at : Option ℕ → Option Span → Option Located
located_at func None = None
located_at func (Some s) = Some (record { offset = offset s; func = func })

-- ---- the first code that spells no body

abbrev pub fault_met : Result BodyOf ReadFault → Option ReadFault
fault_met (Ok body) = None
fault_met (Err e) = Some e

abbrev pub met_or : Option ReadFault → ℕ → Result (Option (ℕ × ReadFault)) ReadFault → Result (Option (ℕ × ReadFault)) ReadFault
met_or None item more = more
met_or (Some e) item more = Ok (Some (item, e))

-- of so many codes the first that spells no body, by its number from that of the first on, and its fault
abbrev pub broken_from : Profile → ℕ → ℕ → ℕ → List ℕ → Result (Option (ℕ × ReadFault)) ReadFault
broken_from profile item zero end bytes = Ok None
broken_from profile item (suc n) end bytes =
    sized_at end bytes >>= λ code. met_or (fault_met (all_body_at profile code.0.end code.0.rest)) item (broken_from profile (item + 1) n end code.1)

-- the same of the codes of a section
unfoldable pub broken_at : Profile → ℕ → List ℕ → Result (Option (ℕ × ReadFault)) ReadFault
broken_at profile end bytes = u32_at end bytes >>= λ n. broken_from profile 0 n.0 end n.1

-- the same of an input
abbrev pub broken_in : Profile → List ℕ → Result (Option (ℕ × ReadFault)) ReadFault
broken_in profile b = then_at (first_with 10 (sections_of b)) (λ s. broken_at profile (section_end s) s.contents)

-- the index of the function of a code, where these functions are imported and the fault that it meets is this
abbrev pub IsFuncIf : ReadFault → ℕ → ReadFault → Result ℕ ReadFault → Option ℕ → Type 0
IsFuncIf e item met imported func = ((met ≡ e) × (func ≡ func_by imported item)) ⊎ ((met ≢ e) × (func ≡ None))

-- ---- the entries of an element segment

-- of so many indices the first that is not below a count, by its number from that of the first on
abbrev pub unknown_from : ℕ → ℕ → ℕ → ℕ → List ℕ → Result (Option ℕ) ReadFault
unknown_from count entry zero end bytes = Ok None
unknown_from count entry (suc n) end bytes =
    u32_at end bytes >>= λ x. if nat_lt x.0 count then unknown_from count (entry + 1) n end x.1 else Ok (Some entry)

-- the same of the functions of a segment, where there are several
unfoldable pub unknown_at : Profile → ℕ → ℕ → List ℕ → Result (Option ℕ) ReadFault
unknown_at profile count end bytes = do
  table ← u32_at end bytes
  offset ← passed (expr_at profile) end table.1
  n ← u32_at end offset.1
  if nat_lt n.0 2 then Ok None else unknown_from count 0 n.0 end n.1

-- how many functions the contents of a function section define
abbrev pub defined_in : Option Section → Result ℕ ReadFault
defined_in None = Ok 0
defined_in (Some s) = u32_at (section_end s) s.contents >>= λ n. Ok n.0

-- the same of an input, which may have no such section
abbrev pub defined_at : List ℕ → Result ℕ ReadFault
defined_at b = defined_in (first_with 3 (sections_of b))

-- how many functions an input has, imported and defined, where they can be counted
abbrev pub known_by : Result ℕ ReadFault → Result ℕ ReadFault → Option ℕ
known_by (Ok imported) (Ok defined) = Some (imported + defined)
known_by imported defined = None

abbrev pub known_at : List ℕ → Option ℕ
known_at b = known_by (imported_at b) (defined_at b)

-- the first unknown function of the segment at a place
unfoldable pub entry_at : Profile → List ℕ → Place → Result (Option ℕ) ReadFault
entry_at profile b p = place_at profile b p >>= λ item. then_at item (λ s. then_at (known_at b) (λ n. unknown_at profile n s.end s.rest))
