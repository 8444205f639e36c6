-- The rows of a walk, and how they grow.
use Rattle.std.proofs.Common.{◌≡◌, ◌∙◌, Bool, true, false, Some, None, List, [], ◌∷◌, ◌++◌, refl, ap, codes, append-nil}
use Rattle.std.specs.Str.{bytes_eq}
use Rattle.clap.specs.Walk.{Row, Text, at_row, has_row, more_values, with_values, without}
use Rattle.clap.specs.declared.builder.value_parser.Reading.TheVariants as reading
use Rattle.clap.specs.declared.parser.matches.ValueSource.{ValueSource}
use Rattle.clap.specs.declared.parser.matches.ValueSource.TheVariants.{CommandLine}

abbrev pub row_of : ValueSource → Text → Text → Row
row_of source id value = record { id = id; values = value ∷ []; count = None; source = Some source; reading = reading.AsWritten }

abbrev pub text_row : Text → Text → Row
text_row = row_of CommandLine

abbrev pub flag_row : Text → Row
flag_row id = text_row id (codes "true")

pub at_none : (id : Text) (change : Row → List Row) (missing rows : List Row) → has_row id rows ≡ false → at_row id change missing rows ≡ rows ++ missing
at_none id change missing [] h = refl
at_none id change missing (r ∷ rows) h = go (bytes_eq r.id id) refl (at_none id change missing rows)
  where
    go : (b : Bool) → bytes_eq r.id id ≡ b → (has_row id rows ≡ false → at_row id change missing rows ≡ rows ++ missing)
        → at_row id change missing (r ∷ rows) ≡ r ∷ rows ++ missing
    go true e rec = let bad : true ≡ false = rw e at h in cc
    go false e rec = rw e (ap (λ t. r ∷ t) (rec (rw e at h)))

pub without_none : (id : Text) (rows : List Row) → has_row id rows ≡ false → without id rows ≡ rows
without_none id rows h = at_none id (λ _. []) [] rows h ∙ append-nil rows

pub with_new : (id : Text) (s : ValueSource) (v : Text) (rows : List Row) → has_row id rows ≡ false
    → with_values id reading.AsWritten s (v ∷ []) rows ≡ rows ++ row_of s id v ∷ []
with_new id s v rows h = at_none id (more_values s (v ∷ [])) (row_of s id v ∷ []) rows h

pub with_used : (id v : Text) (rows : List Row) → has_row id rows ≡ false
    → with_values id reading.AsWritten CommandLine (v ∷ []) (without id rows) ≡ rows ++ text_row id v ∷ []
with_used id v rows h = ap (with_values id reading.AsWritten CommandLine (v ∷ [])) (without_none id rows h) ∙ with_new id CommandLine v rows h
