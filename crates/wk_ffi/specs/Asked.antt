-- What calls ask for by numbers and words.
use Rattle.std.specs.Prelude.{ℕ, nat_le, ◌==◌, if◌then◌else◌, Bool, true, false, Option, Some, None, List, [], ◌∷◌, length}
use Rattle.std.specs.Str.{is_utf8}
use Rattle.wk_bytes.specs.Frames.{limit}
use Rattle.wk_body.specs.declared.types.Profile.{Profile}
use Rattle.wk_body.specs.declared.types.Profile.TheVariants.{Core, Extended}
use Rattle.wk_list.specs.declared.listing.Part.{Part}
use Rattle.wk_list.specs.declared.listing.Part.TheVariants.{Headers, Details, Code, Uses}

-- WASMKIT_CORE and WASMKIT_EXTENDED
abbrev pub profile_of : ℕ → Option Profile
profile_of n = if n == 0 then Some Core else if n == 1 then Some Extended else None

-- WASMKIT_HEADERS, WASMKIT_DETAILS, WASMKIT_CODE and WASMKIT_USES
abbrev pub part_of : ℕ → Option Part
part_of n =
    if n == 0 then Some Headers else if n == 1 then Some Details
    else if n == 2 then Some Code else if n == 3 then Some Uses else None

-- 0 and 1
abbrev pub flag_of : ℕ → Option Bool
flag_of n = if n == 0 then Some false else if n == 1 then Some true else None

-- the name of the custom sections to keep: none for no bytes, and no answer for bytes that are not UTF-8
abbrev pub keep_of : List ℕ → Option (Option (List ℕ))
keep_of [] = Some None
keep_of (x ∷ xs) = if is_utf8 (x ∷ xs) then Some (Some (x ∷ xs)) else None

-- bytes that are not too many to be read
abbrev pub short_enough : List ℕ → Bool
short_enough bytes = nat_le (length bytes) limit

-- the profile of a call that takes these arguments
abbrev pub taken : ℕ → List ℕ → Option Profile
taken profile bytes = if short_enough bytes then profile_of profile else None
