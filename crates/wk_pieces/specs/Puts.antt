-- What an `Out` takes in a call that puts bytes out.
use Rattle.std.specs.Prelude.{ℕ, Option, List, Result, Ok, Err}
use Rattle.std.specs.Io.KnownBytes.{Appends}
use Rattle.wk_bytes.specs.Taken.{TakesFront}

-- all of these bytes, or a beginning of them where the call failed
abbrev pub Takes : {T E : Type 0} → Option (List ℕ) → Option (List ℕ) → List ℕ → Result T E → Type 0
Takes old new bytes (Ok x) = Appends old new bytes
Takes old new bytes (Err e) = TakesFront old new bytes
