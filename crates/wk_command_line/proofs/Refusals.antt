-- Words at which a walk fails.
use Rattle.std.proofs.Common.{suc, ◌≡◌, ◌⊎◌, ℕ, Bool, true, false, Option, Some, None, List, [], ◌∷◌, length, refl, inl, inr}
use Rattle.std.specs.Prelude.{slice_get}
use Rattle.std.specs.Str.{bytes_eq, chars, IsUtf8}
use Rattle.clap.specs.Lexer.{long_of, short_of}
use Rattle.clap.specs.Walk.{Held, Row, Rule, Text, idle, option, arg_by_long, arg_by_short, settled, takes_values}
use Rattle.clap.specs.Simple.{Shape}
use Rattle.clap.specs.Faults.{flag_word_fault, flags_fault, long_fault, settle_fault, turn_fault, use_fault, word_fault}
use Rattle.clap.specs.declared.error.kind.ErrorKind.TheVariants as kind
use Rattle.wk_command_line.specs.CommandLine.{dashes}
use Rattle.wk_command_line.proofs.WordSteps.{at, at_open, held_open, built_help, first_none, second_none, Pending, held}
use Rattle.wk_command_line.proofs.Looks.{IsShort, IsOption, short_char}

-- an option that asks for help or the version
pub record Requests (a : Rule) : Type 0 where
  pub alone : takes_values a ≡ false
  pub fails : (again : Bool) (rows : List Row) → use_fault again a [] rows ≡ [] → ⊥

pub help_requests : Requests built_help
help_requests = record { alone = refl; fails = λ again rows none. let bad : kind.DisplayHelp ∷ [] ≡ [] = none in cc }

-- the short options of a command ask for help or the version
abbrev pub HasNoShort : List Rule → Type 0
HasNoShort c = (x : ℕ) → (arg_by_short c x ≡ None) ⊎ ((a : Rule) × (arg_by_short c x ≡ Some a) × Requests a)

bundle_fails : (c : List Rule) (again : Bool) (k : ℕ) (flags : Text) (h : Held) (x : ℕ) → slice_get (chars flags) 0 ≡ Some x
    → (arg_by_short c x ≡ None) ⊎ ((a : Rule) × (arg_by_short c x ≡ Some a) × Requests a) → flags_fault c again (suc k) flags 0 h ≡ [] → ⊥
unfolding flags_fault
bundle_fails c again k flags h x is (inl found) none = let bad : kind.UnknownArgument ∷ [] ≡ [] = rw (is, found) at none in cc
bundle_fails c again k flags h x is (inr asks) none =
    asks.2.fails again (settled c h).rows (second_none _ _ (first_none _ _ (rw (is, asks.1, asks.2.alone) at none)))

pub long_requests : (c : List Rule) (again : Bool) (a : Rule) (v : Option Text) (h : Held) → Requests a → long_fault c again (Some a) v h ≡ [] → ⊥
long_requests c again a (Some v) h asks none = let bad : kind.TooManyValues ∷ [] ≡ [] = rw asks.alone at none in cc
long_requests c again a None h asks none = asks.fails again (settled c h).rows (second_none _ _ (rw asks.alone at none))

pub short_fails : (c : List Rule) (again : Bool) (word : Text) (h : Held) → h.skip ≡ 0 → HasNoShort c → IsUtf8 word → IsShort word
    → flag_word_fault c again (long_of word) word h ≡ [] → ⊥
short_fails c again word h skip none_short u short none =
    let first = short_char word u short in
    let flags = short.first ∷ short.rest in
    let is : long_of word ≡ None = rw (short.is, short.apart) refl in
    let is_short : short_of word ≡ Some flags = rw (short.is, short.apart) refl in
    bundle_fails c again (length short.rest) flags (record h { skip = 0 }) first.0 first.1 (none_short first.0)
    (rw (is, is_short, skip) at none)

pub short_apart : (word : Text) → IsShort word → bytes_eq word dashes ≡ false
short_apart word short = rw (short.is, short.apart) refl

pub short_turn : (s : Shape) (rows : List Row) (p : Pending) (position : ℕ) (word : Text) → HasNoShort s.rules → IsUtf8 word → IsShort word
    → turn_fault s [] (at rows p position false) word ≡ [] → ⊥
short_turn s rows p position word none_short u short none =
    let fails : word_fault s [] false idle word (held rows p) ≡ [] = first_none _ _ none in
    short_fails s.rules s.args_override_self word (held rows p) refl none_short u short (rw (short_apart word short) at fails)

-- ---- an option that waits for its value

-- whatever the option, what waits is settled first
long_settles : (c : List Rule) (again : Bool) (found : Option Rule) (v : Option Text) (h : Held) → (settle_fault c again h ≡ [] → ⊥) → long_fault c again found v h ≡ [] → ⊥
long_settles c again None v h bad none = let e : kind.UnknownArgument ∷ [] ≡ [] = none in cc
long_settles c again (Some a) v h bad none = go (takes_values a) refl v none
  where
    go : (b : Bool) → takes_values a ≡ b → (v : Option Text) → long_fault c again (Some a) v h ≡ [] → ⊥
    go true e (Some x) none = bad (first_none _ _ (rw e at none))
    go true e None none = bad (rw e at none)
    go false e (Some x) none = let no : kind.TooManyValues ∷ [] ≡ [] = rw e at none in cc
    go false e None none = bad (first_none _ _ (rw e at none))

-- what follows an open option has to be free
pub open_fails : (s : Shape) (rows : List Row) (id : Text) (position : ℕ) (word : Text) → (settle_fault s.rules s.args_override_self (held_open rows id) ≡ [] → ⊥)
    → HasNoShort s.rules → IsUtf8 word → IsOption word ⊎ IsShort word → turn_fault s [] (at_open rows id position) word ≡ [] → ⊥
open_fails s rows id position word bad none_short u (inl o) none =
    let fails : word_fault s [] false (option id) word (held_open rows id) ≡ [] = first_none _ _ none in
    long_settles s.rules s.args_override_self (arg_by_long s.rules o.name) o.value (held_open rows id) bad (rw (o.apart, o.long) at fails)
open_fails s rows id position word bad none_short u (inr short) none =
    let fails : word_fault s [] false (option id) word (held_open rows id) ≡ [] = first_none _ _ none in
    short_fails s.rules s.args_override_self word (held_open rows id) refl none_short u short (rw (short_apart word short) at fails)
