use Rattle.std.proofs.Common.{◌≡◌, ◌∙◌, ap, sym, List, ℕ, Option, Some, None}
use Rattle.wk_edit.specs.Words.{name_of}
use Rattle.wk_edit.proofs.WordLaws.{name_said, name_told}
use Rattle.wk_command_line.specs.CommandLine.{KeepsName}
use Rattle.wk_command_line.proofs.command.read_keep.Goals as goal

no_name : (word : List ℕ) → name_of word ≡ None → (keep : Option (List ℕ)) → KeepsName (Some word) keep → ⊥
no_name word none None keeps = keeps
no_name word none (Some name) keeps = let some = name_said word name keeps in cc

pub returns-in-Some-2-clause-ok : goal.returns-in-Some-2-clause-ok
returns-in-Some-2-clause-ok c =
    let named : name_of c.in-Some.word.now ≡ Some c.in-Some-2.name = ap name_of (sym c.as_bytes.ensures.value) ∙ (sym c.in_ok-name.ensures ∙ c.in-Some-2.is) in
    rw c.in-Some.is (name_told c.in-Some.word.now c.in-Some-2.name named)

pub returns-in-None-clause-err : goal.returns-in-None-clause-err
returns-in-None-clause-err c keep keeps =
    let none : name_of c.in-Some.word.now ≡ None = ap name_of (sym c.as_bytes.ensures.value) ∙ (sym c.in_ok-name.ensures ∙ c.in-None.is) in
    no_name c.in-Some.word.now none keep (rw c.in-Some.is at keeps)
