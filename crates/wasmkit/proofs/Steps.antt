-- Runs, step by step.
use Rattle.std.proofs.Common.{◌≡◌, ◌≤◌, ◌<◌, ℕ, Option, Some, List, [], ◌∷◌, length, Result, Ok, Err, refl, sym, subst, ap, ◌∙◌, inl, inr}
use Rattle.std.specs.Prelude.{IsErrAnd}
use Rattle.std.specs.Io.KnownBytes.{Appends}
use Rattle.wk_bytes.specs.declared.fault.ReadFault.{ReadFault}
use Rattle.wk_bytes.specs.Frames.{limit}
use Rattle.wk_bytes.specs.Taken.{TakesFront}
use Rattle.wk_body.specs.Reads.{FailsAs}
use Rattle.wk_body.specs.ReadsLaws.{other_fault}
use Rattle.wk_module.specs.declared.types.Parts.{Parts}
use Rattle.wk_list.specs.declared.fault.ListFault.{ListFault}
use Rattle.wk_list.specs.declared.fault.ListFault.TheVariants as lists
use Rattle.wk_list.specs.declared.listing.Part.{Part}
use Rattle.wk_list.specs.Taken.{failed_after}
use Rattle.wk_edit.specs.declared.fault.Status.{Status}
use Rattle.wk_edit.specs.Outcome.{Outcome, status_code}
use Rattle.wk_command_line.specs.declared.command.EditCommand.{EditCommand}
use Rattle.wasmkit.specs.declared.fault.ProgramFault.{ProgramFault}
use Rattle.wasmkit.specs.declared.fault.ProgramFault.TheVariants.{Read}
use Rattle.wasmkit.specs.declared.store.StoreFault.{StoreFault}
use Rattle.wasmkit.specs.Answers.{Answer, answer_of, edited, listed, on_module, saved_of, AreOf}
use Rattle.wasmkit.specs.Events.{Event, Loaded, Saved, then_asked, then_all}
use Rattle.wasmkit.specs.Faults.{of_list, IsOfLoad, IsOfSave}
use Rattle.wasmkit.specs.Runs.{printing, Rest, Printing, GetsNothing, Goes, Loads, Quietly, Saves, Scripted, Stops, Prints, Gives, Refuses}

-- nothing is printed between equal states
pub nothing : {T : Option (List ℕ)} {n : ℕ} → GetsNothing (record { before = T; after = T; failed_before = n; failed_after = n })
nothing = record { taken = refl; failed = refl }

-- a fault that is passed on
passed : (why : ProgramFault → Type 0) (fault : ProgramFault) (r : Result ℕ ProgramFault) → IsErrAnd r (λ f. f ≡ fault) → why fault → IsErrAnd r why
passed why fault (Ok x) is p = is
passed why fault (Err f) is p = subst why (sym is) p

-- what asks nothing more
pub ends : {rest : Rest} {log : Option (List Event)} {p : Printing} {r : Result ℕ ProgramFault} → rest [] p r → Goes rest log log p r
ends went = record { events = []; asked = refl; went = went }

-- the store is asked once, and it goes on
then_goes : (event : Event) (rest first : Rest) (old mid new : Option (List Event)) (p : Printing) (r : Result ℕ ProgramFault)
    → ((events : List Event) → rest events p r → first (event ∷ events) p r) → mid ≡ then_asked old event → Goes rest mid new p r → Goes first old new p r
then_goes event rest first old mid new p r step e g = record {
  events = event ∷ g.events;
  asked = g.asked ∙ ap (λ (log : Option (List Event)). then_all log g.events) e;
  went = step g.events g.went;
}

-- a file is loaded, and it goes on
pub loaded : (name bytes : List ℕ) (rest : List ℕ → Rest) (old mid new : Option (List Event)) (p : Printing) (r : Result ℕ ProgramFault)
    → mid ≡ then_asked old (Loaded name (Ok bytes)) → Goes (rest bytes) mid new p r → Goes (Loads name rest) old new p r
loaded name bytes rest old mid new p r = then_goes (Loaded name (Ok bytes)) (rest bytes) (Loads name rest) old mid new p r (λ events went. (refl, went))

-- a file is not loaded, and that is passed on
pub not_loaded : (name : List ℕ) (rest : List ℕ → Rest) (old new : Option (List Event)) (taken : Option (List ℕ)) (failed : ℕ) (r : Result ℕ ProgramFault)
    (fault : ProgramFault)
    → IsErrAnd r (λ f. f ≡ fault) → (why : StoreFault) × IsOfLoad name why fault × (new ≡ then_asked old (Loaded name (Err why)))
    → Goes (Loads name rest) old new (printing taken taken failed failed) r
not_loaded name rest old new taken failed r fault is e =
    then_goes (Loaded name (Err e.0)) (Stops (IsOfLoad name e.0)) (Loads name rest) old new new (printing taken taken failed failed) r
    (λ events went. (refl, went)) e.2 (ends (refl, nothing, passed (IsOfLoad name e.0) fault r is e.1))

-- the bytes are saved, and it goes on
pub saved : (name bytes : List ℕ) (rest : Rest) (old mid new : Option (List Event)) (p : Printing) (r : Result ℕ ProgramFault)
    → mid ≡ then_asked old (Saved name bytes (Ok tt)) → Goes rest mid new p r → Goes (Saves name (Some bytes) rest) old new p r
saved name bytes rest old mid new p r = then_goes (Saved name bytes (Ok tt)) rest (Saves name (Some bytes) rest) old mid new p r
    (λ events went. (refl, refl, went))

-- the bytes are not saved, and that is passed on
pub not_saved : (name bytes : List ℕ) (rest : Rest) (old new : Option (List Event)) (taken : Option (List ℕ)) (failed : ℕ) (r : Result ℕ ProgramFault)
    (fault : ProgramFault)
    → IsErrAnd r (λ f. f ≡ fault) → (why : StoreFault) × IsOfSave name why fault × (new ≡ then_asked old (Saved name bytes (Err why)))
    → Goes (Saves name (Some bytes) rest) old new (printing taken taken failed failed) r
not_saved name bytes rest old new taken failed r fault is e =
    then_goes (Saved name bytes (Err e.0)) (Stops (IsOfSave name e.0)) (Saves name (Some bytes) rest) old new new (printing taken taken failed failed) r
    (λ events went. (refl, refl, went)) e.2 (ends (refl, nothing, passed (IsOfSave name e.0) fault r is e.1))

-- what was worked out is saved and printed
pub given : (name : List ℕ) (a : Answer) (out : Option (List ℕ)) (status : ℕ) (text : List ℕ) (old new : Option (List Event)) (p : Printing)
    (r : Result ℕ ProgramFault)
    → out ≡ a.saved → status ≡ a.status → text ≡ a.text → Goes (Saves name out (Prints status text)) old new p r → Goes (Gives name a) old new p r
given name a out status text old new p r is_saved is_status is_text g =
    record { events = g.events; asked = g.asked; went = inl (rw (is_saved, is_status, is_text) at g.went) }

-- the answer where none was read
pub gives_refused : (name : List ℕ) (answer : Parts → Answer) (read : Result Parts ReadFault) (fault : ReadFault) (p : Printing) (r : Result ℕ ProgramFault)
    → FailsAs fault fault.kind read → Refuses fault p r → Gives name (on_module answer read) [] p r
gives_refused name answer read fault p r fails (inl full) = inr (inl full)
gives_refused name answer read fault p r fails (inr (other, printed)) =
    rw (other_fault fault fault.kind read other fails) (inl printed)

-- an edited module, its report and how the edits ended
pub given_edited : (name : List ℕ) (o : Outcome) (out : Option (List ℕ)) (status : Status) (code : ℕ) (written report text : List ℕ)
    (old new : Option (List Event)) (p : Printing) (r : Result ℕ ProgramFault)
    → AreOf o status written report → out ≡ saved_of status written → code ≡ status_code status → text ≡ report
    → Goes (Saves name out (Prints code text)) old new p r → Goes (Gives name (answer_of o)) old new p r
given_edited name o out status code written report text old new p r of out_is code_is text_is g =
    given name (answer_of o) out code text old new p r
    (out_is ∙ ap (λ (s : Status). saved_of s written) of.status_is ∙ ap (λ (w : List ℕ). saved_of o.status w) of.written_is)
    (code_is ∙ ap (λ (s : Status). status_code s) of.status_is)
    (text_is ∙ of.report_is) g

-- a listing to its end
pub listed_whole : (these : List Part) (seen m : Parts) (p : Printing) → seen ≡ m → Appends p.before p.after (listed these seen).text
    → p.failed_after ≡ p.failed_before → Gives [] (listed these m) [] p (Ok 0)
listed_whole these seen m p same taken failed =
    inl (refl, refl, record { taken = rw same at taken; failed = failed })

-- a listing that stopped
pub stopped : (these : List Part) (seen m : Parts) (fault : ListFault) (p : Printing) (r : Result ℕ ProgramFault) → seen ≡ m
    → TakesFront p.before p.after (listed these seen).text → p.failed_after ≡ failed_after {T = Unit {0}} p.failed_before (Err fault)
    → IsErrAnd r (λ f. f ≡ of_list fault) → Gives [] (listed these m) [] p r
stopped these seen m fault p (Ok x) same taken failed is = absurd is
stopped these seen m lists.Write p (Err f) same taken failed is = rw is (inl (refl, record { taken = rw same at taken; failed = failed }))
stopped these seen m lists.Memory p (Err f) same taken failed is =
    rw is (inr (inr (refl, refl, record { taken = rw same at taken; failed = failed }, refl)))

-- a SCRIPT is no longer than a module may be
pub scripted : (c : EditCommand) (input script : List ℕ) (old new : Option (List Event)) (p : Printing) (r : Result ℕ ProgramFault) → length script ≤ limit
    → Goes (Gives c.out.now (edited c input script)) old new p r → Goes (Scripted c input script) old new p r
scripted c input script old new p r fits g = record { events = g.events; asked = g.asked; went = inl (fits, g.went) }

-- .. or it is longer
pub script_refused : (c : EditCommand) (input script : List ℕ) (log : Option (List Event)) (taken : Option (List ℕ)) (failed : ℕ) → limit < length script
    → Goes (Scripted c input script) log log (printing taken taken failed failed) (Err (Read c.script))
script_refused c input script log taken failed long = ends (inr (long, (refl, nothing, refl)))

-- nothing was told on standard error
pub quietly : (rest : Rest) (old new : Option (List Event)) (p : Printing) (r : Result ℕ ProgramFault) → Goes rest old new p r → Goes (Quietly rest []) old new p r
quietly rest old new p r g = record { events = g.events; asked = g.asked; went = (refl, g.went) }
