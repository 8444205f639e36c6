-- What a store is asked, and what it answers.
use Rattle.std.specs.Prelude.{ℕ, Option, option_map, List, [], ◌∷◌, ◌++◌, Result, Ok, Err, Vec}
use Rattle.wasmkit.specs.declared.store.StoreFault.{StoreFault}

-- One call: a file was loaded, or bytes were saved, each under a name, and this was the answer.
pub data Event : Type 0 where
  Loaded : (name : List ℕ) (answer : Result (List ℕ) StoreFault) → Event
  Saved : (name bytes : List ℕ) (answer : Result (Unit {0}) StoreFault) → Event

-- the answer of a load, with the bytes that are in the vector
abbrev pub bytes_of : {A : Type 0} → Result (Vec ℕ A) StoreFault → Result (List ℕ) StoreFault
bytes_of (Ok bytes) = Ok bytes.items
bytes_of (Err why) = Err why

-- what was asked before, where it is known, and then this
abbrev pub then_asked : Option (List Event) → Event → Option (List Event)
then_asked asked event = option_map (λ events. events ++ event ∷ []) asked

-- .. and then these, in order
abbrev pub then_all : Option (List Event) → List Event → Option (List Event)
then_all asked [] = asked
then_all asked (event ∷ events) = then_all (then_asked asked event) events
