-- `validate --each`, file by file.
use Rattle.std.proofs.Common.{◌≡◌, ◌<◌, ℕ, ◌+◌, Option, List, [], ◌∷◌, ◌++◌, Result, Ok, Err, length, map, max, take, drop, get_or, refl, sym, subst, ap, ◌∙◌, inl, inr, arith, append-nil, append_assoc}
use Rattle.std.specs.Prelude.{IsErrAnd}
use Rattle.std.specs.Borrow.{Bor}
use Rattle.std.proofs.lemmas.List.{drop_more, get_or-map, length-map, take-append-drop, take_more}
use Rattle.std.specs.Io.KnownBytes.{Appends}
use Rattle.wk_bytes.specs.TakenLaws.{Appends-none, Appends-then}
use Rattle.wk_command_line.specs.declared.command.EachCommand.{EachCommand}
use Rattle.wasmkit.specs.declared.fault.ProgramFault.{ProgramFault}
use Rattle.wasmkit.specs.declared.fault.ProgramFault.TheVariants.{BadWords, CommandLine, Memory, Output, Read, Write}
use Rattle.wasmkit.specs.declared.store.StoreFault.{StoreFault}
use Rattle.wasmkit.specs.declared.store.StoreFault.TheVariants as stores
use Rattle.wk_command_line.specs.CommandLine.{Word, files_of}
use Rattle.wasmkit.specs.Answers.{IsPrinted, Judged, both_judged, exhausted, judged_as, named_line, nothing_judged, unread}
use Rattle.wasmkit.specs.Events.{Event, Loaded, Saved, then_all, then_asked}
use Rattle.wasmkit.specs.Faults.{fault_status, fault_text, unread_text}
use Rattle.wasmkit.specs.Runs.{AreJudged, Fails, Gets, GetsOrFails, Goes, Hears, HearsAlso, IsJudged, IsLeft, JudgesEach, Printing, Prints, Tells, printing}
use Rattle.wasmkit.proofs.Telling.{hears_more, unheard}

-- ---- the names of files

abbrev all : List (Bor (List ℕ)) → List Word
all = map (λ item. item.now)

module _ (items : List (Bor (List ℕ))) (i : ℕ) (other : Bor (List ℕ)) (within : i < length items) where
  at_name : get_or (all items) i other.now ≡ (get_or items i other).now
  at_name = get_or-map (λ item. item.now) items i other other.now within

  inside : i < length (all items)
  inside = omega (arith, length-map items (λ (item : Bor (List ℕ)). item.now), within)

  names_more : take (i + 1) (all items) ≡ take i (all items) ++ (get_or items i other).now ∷ []
  names_more = take_more (all items) i other.now inside ∙ ap (λ (name : Word). take i (all items) ++ name ∷ []) at_name

  names_split : all items ≡ take i (all items) ++ (get_or items i other).now ∷ drop (i + 1) (all items)
  names_split =
      sym (take-append-drop i (all items))
      ∙ ap (λ (names : List Word). take i (all items) ++ names) (drop_more (all items) i other.now inside ∙ ap (λ (name : Word). name ∷ drop (i + 1) (all items)) at_name)

-- .. where the list goes by another name
module _ (files items : List (Bor (List ℕ))) (is : items ≡ files) (i : ℕ) (other : Bor (List ℕ)) (within : i < length items) where
  pub files_more : take (i + 1) (all files) ≡ take i (all files) ++ (get_or items i other).now ∷ []
  files_more =
      subst (λ (fs : List (Bor (List ℕ))). take (i + 1) (all fs) ≡ take i (all fs) ++ (get_or items i other).now ∷ []) is (names_more items i other within)

  pub files_split : all files ≡ take i (all files) ++ (get_or items i other).now ∷ drop (i + 1) (all files)
  files_split =
      subst (λ (fs : List (Bor (List ℕ))). all fs ≡ take i (all fs) ++ (get_or items i other).now ∷ drop (i + 1) (all fs)) is (names_split items i other within)

-- ---- one file more

abbrev of : List ℕ → List ℕ → ℕ → Judged
of lines told status = record { lines = lines; told = told; status = status }

alike : {a d b e : List ℕ} {m n : ℕ} → a ≡ d → b ≡ e → m ≡ n → of a b m ≡ of d e n
alike p q r = rw (p, q, r) refl

max_zero : (n : ℕ) → max 0 n ≡ max n 0
max_zero n = omega arith

max_assoc : (a b c : ℕ) → max (max a b) c ≡ max a (max b c)
max_assoc a b c = omega arith

both_none : (one : Judged) → both_judged nothing_judged one ≡ both_judged one nothing_judged
both_none one = alike (sym (append-nil one.lines)) (sym (append-nil one.told)) (max_zero one.status)

both_assoc : (a b c : Judged) → both_judged (both_judged a b) c ≡ both_judged a (both_judged b c)
both_assoc a b c = alike (append_assoc a.lines b.lines c.lines) (append_assoc a.told b.told c.told) (max_assoc a.status b.status c.status)

are_more : (c : EachCommand) (front : List Word) (before : List Event) (j one : Judged) (name : Word) (answer : Result (List ℕ) StoreFault) → AreJudged c front before j
    → IsJudged c name answer one → AreJudged c (front ++ name ∷ []) (before ++ Loaded name answer ∷ []) (both_judged j one)
are_more c [] [] j one name answer are is =
    (refl, one, nothing_judged, is, refl, ap (λ (k : Judged). both_judged k one) are ∙ both_none one)
are_more c [] (event ∷ before) j one name answer are is = absurd are
are_more c (x ∷ front) [] j one name answer are is = absurd are
are_more c (x ∷ front) (Saved asked bytes a ∷ before) j one name answer are is = absurd are
are_more c (x ∷ front) (Loaded asked a ∷ before) j one name answer are is = (
  are.0,
  are.1,
  both_judged are.2 one,
  are.3,
  are_more c front before are.2 one name answer are.4 is,
  ap (λ (k : Judged). both_judged k one) are.5 ∙ both_assoc are.1 are.2 one,
)

asked_more : (old : Option (List Event)) (before : List Event) (event : Event) → then_all old (before ++ event ∷ []) ≡ then_asked (then_all old before) event
asked_more old [] event = refl
asked_more old (x ∷ before) event = asked_more (then_asked old x) before event

-- ---- a fault that is told

-- what comes of a file without a line
left_judged : (c : EachCommand) (name : Word) (answer : Result (List ℕ) StoreFault) (fault : ProgramFault) → IsLeft name answer fault
    → (status : ℕ) (told : List ℕ) (err : Printing) → Tells told fault status err
    → (one : Judged) × IsJudged c name answer one × (one.status ≡ status) × (one.lines ≡ []) × GetsOrFails (told ++ one.told) err × (one.told ≡ [] → ⊥)
left_judged c name answer fault left status told err (inr wanted) = go answer left
  where
    go : (answer : Result (List ℕ) StoreFault) → IsLeft name answer fault
        → (one : Judged) × IsJudged c name answer one × (one.status ≡ status) × (one.lines ≡ []) × GetsOrFails (told ++ one.told) err × (one.told ≡ [] → ⊥)
    go (Ok input) left = (exhausted, inr refl, sym wanted.0, refl, wanted.1, λ e. cc)
    go (Err stores.Failed) left = (exhausted, inr refl, sym wanted.0, refl, wanted.1, λ e. cc)
    go (Err stores.Memory) left = (exhausted, refl, sym wanted.0, refl, wanted.1, λ e. cc)
left_judged c name (Ok input) fault left status told err (inl is) =
    let known = subst (λ (f : ProgramFault). (status ≡ fault_status f) × HearsAlso told (fault_text f) err) left is in
    (exhausted, inr refl, sym known.0, refl, known.1, λ e. cc)
left_judged c name (Err stores.Failed) (Read read) left status told err (inl is) =
    (unread name, inl refl, sym is.0, refl, subst (λ (n : List ℕ). GetsOrFails (told ++ unread_text n) err) left is.1, λ e. cc)
left_judged c name (Err stores.Memory) Memory left status told err (inl is) = (exhausted, refl, sym is.0, refl, is.1, λ e. cc)
left_judged c name (Err why) fault left status told err (inl is) = absurd left

-- ---- all so far

pub record SoFar (c : EachCommand) (front : List Word) (old new : Option (List Event)) (highest : ℕ) (out err : Printing) : Type 0 where
  pub events : List Event
  pub judged : Judged
  pub asked : new ≡ then_all old events
  pub are : AreJudged c front events judged
  pub status : highest ≡ judged.status
  pub gets : Gets judged.lines out
  pub hears : Hears judged.told err

-- before any file
pub none_so_far : (c : EachCommand) (old : Option (List Event)) (out err : Option (List ℕ)) (n start : ℕ)
    → SoFar c [] old old 0 (printing out out n n) (printing err err start start)
none_so_far c old out err n start = record {
  events = [];
  judged = nothing_judged;
  asked = refl;
  are = refl;
  status = refl;
  gets = record { taken = Appends-none out; failed = refl };
  hears = unheard err start;
}

module _ (c : EachCommand) (front : List Word) (name : Word) (old mid new : Option (List Event)) (highest : ℕ) (first before : Option (List ℕ)) (start n : ℕ) (err : Printing)
    (so_far : SoFar c front old mid highest (printing first before start n) err) where
  events_more : (answer : Result (List ℕ) StoreFault) → new ≡ then_asked mid (Loaded name answer) → new ≡ then_all old (so_far.events ++ Loaded name answer ∷ [])
  events_more answer asked =
      asked ∙ (ap (λ (log : Option (List Event)). then_asked log (Loaded name answer)) so_far.asked ∙ sym (asked_more old so_far.events (Loaded name answer)))

  -- a line more
  pub line_more : (input text line : List ℕ) (status judged_status m : ℕ) (after : Option (List ℕ)) → new ≡ then_asked mid (Loaded name (Ok input))
      → IsPrinted c.explain c.profile input text → line ≡ named_line name text
      → judged_status ≡ (judged_as c name input text).status → Prints judged_status line [] (printing before after n m) (Ok status)
      → SoFar c (front ++ name ∷ []) old new (max status highest) (printing first after start m) err
  line_more input text line status judged_status m after asked text_is line_is status_is prints =
      let one = judged_as c name input text in
      let appends = subst (λ (l : List ℕ). Appends before after l) line_is prints.2.taken in record {
        events = so_far.events ++ Loaded name (Ok input) ∷ [];
        judged = both_judged so_far.judged one;
        asked = events_more (Ok input) asked;
        are = are_more c front so_far.events so_far.judged one name (Ok input) so_far.are (inl (text, text_is, refl));
        status = highest_of status highest so_far.judged.status one.status (prints.0 ∙ status_is) so_far.status;
        gets = record {
          taken = Appends-then first before after so_far.judged.lines one.lines so_far.gets.taken appends;
          failed = prints.2.failed ∙ so_far.gets.failed;
        };
        hears = subst (λ (t : List ℕ). Hears t err) (sym (append-nil so_far.judged.told)) so_far.hears;
      }
    where
      highest_of : (a b d e : ℕ) → a ≡ e → b ≡ d → max a b ≡ max d e
      highest_of a b d e p q = omega (arith, p, q)

  -- standard output fails in a line
  pub line_lost : (input text line : List ℕ) (behind : List Word) (judged_status m : ℕ) (after : Option (List ℕ)) (fault : ProgramFault) (r : Result ℕ ProgramFault)
      → files_of c ≡ front ++ name ∷ behind → new ≡ then_asked mid (Loaded name (Ok input)) → IsPrinted c.explain c.profile input text → line ≡ named_line name text
      → Prints judged_status line [] (printing before after n m) (Err fault) → IsErrAnd r (λ f. f ≡ fault)
      → Goes (JudgesEach c so_far.judged.told) old new (printing first after start m) r
  line_lost input text line behind judged_status m after fault (Ok x) files asked text_is line_is prints is = absurd is
  line_lost input text line behind judged_status m after Output (Err f) files asked text_is line_is prints is =
      let fails = subst (λ (l : List ℕ). Fails l (printing before after n m)) line_is prints.1 in record {
        events = so_far.events ++ Loaded name (Ok input) ∷ [];
        asked = events_more (Ok input) asked;
        went = subst (λ (f : ProgramFault). JudgesEach c so_far.judged.told (so_far.events ++ Loaded name (Ok input) ∷ []) (printing first after start m) (Err f)) (sym is) (record {
          front = front;
          name = name;
          behind = behind;
          files = files;
          input = input;
          before = so_far.events;
          asked = refl;
          judged = so_far.judged;
          are = so_far.are;
          told_is = refl;
          text = text;
          text_is = text_is;
          printed = record { between = before; failed_between = n; one = so_far.gets; other = fails };
        });
      }
  line_lost input text line behind judged_status m after (CommandLine e) (Err f) files asked text_is line_is prints is = absurd prints
  line_lost input text line behind judged_status m after BadWords (Err f) files asked text_is line_is prints is = absurd prints
  line_lost input text line behind judged_status m after (Read e) (Err f) files asked text_is line_is prints is = absurd prints
  line_lost input text line behind judged_status m after (Write e) (Err f) files asked text_is line_is prints is = absurd prints
  line_lost input text line behind judged_status m after Memory (Err f) files asked text_is line_is prints is = absurd prints

-- none, which is told
pub fault_more : (c : EachCommand) (front : List Word) (name : Word) (old mid new : Option (List Event)) (highest status : ℕ) (out : Printing) (first before after : Option (List ℕ))
    (start n m : ℕ) (answer : Result (List ℕ) StoreFault) (fault : ProgramFault) → SoFar c front old mid highest out (printing first before start n)
    → new ≡ then_asked mid (Loaded name answer) → IsLeft name answer fault
    → ((told : List ℕ) (at_first : Option (List ℕ)) → Hears told (printing at_first before start n) → Tells told fault status (printing at_first after start m))
    → SoFar c (front ++ name ∷ []) old new (max status highest) out (printing first after start m)
fault_more c front name old mid new highest status out first before after start n m answer fault so_far asked left tells =
    let told = so_far.judged.told in
    let got = left_judged c name answer fault left status told (printing first after start m) (tells told first so_far.hears) in
    let one = got.0 in record {
      events = so_far.events ++ Loaded name answer ∷ [];
      judged = both_judged so_far.judged one;
      asked = asked ∙ (ap (λ (log : Option (List Event)). then_asked log (Loaded name answer)) so_far.asked ∙ sym (asked_more old so_far.events (Loaded name answer)));
      are = are_more c front so_far.events so_far.judged one name answer so_far.are got.1;
      status = highest_of status highest so_far.judged.status one.status got.2 so_far.status;
      gets = subst (λ (t : List ℕ). Gets t out) (no_more so_far.judged.lines one.lines got.3) so_far.gets;
      hears = hears_more told one.told first after start m got.5 got.4;
    }
  where
    highest_of : (a b d e : ℕ) → e ≡ a → b ≡ d → max a b ≡ max d e
    highest_of a b d e p q = omega (arith, p, q)

    no_more : (lines more : List ℕ) → more ≡ [] → lines ≡ lines ++ more
    no_more lines more e = sym (ap (λ (t : List ℕ). lines ++ t) e ∙ append-nil lines)

pub so_far_as : (c : EachCommand) (front later : List Word) (old new : Option (List Event)) (highest : ℕ) (out err : Printing) → later ≡ front → SoFar c front old new highest out err
    → SoFar c later old new highest out err
so_far_as c front later old new highest out err e so_far = subst (λ (names : List Word). SoFar c names old new highest out err) (sym e) so_far

-- all are told of
pub all_judged : (c : EachCommand) (front : List Word) (old new : Option (List Event)) (highest : ℕ) (out err : Printing) → front ≡ files_of c → SoFar c front old new highest out err
    → (told : List ℕ) × Goes (JudgesEach c told) old new out (Ok highest) × Hears told err
all_judged c front old new highest out err all so_far = (
  so_far.judged.told,
  record {
    events = so_far.events;
    asked = so_far.asked;
    went = (so_far.judged, subst (λ (names : List Word). AreJudged c names so_far.events so_far.judged) all so_far.are, so_far.status, refl, so_far.gets);
  },
  so_far.hears,
)
