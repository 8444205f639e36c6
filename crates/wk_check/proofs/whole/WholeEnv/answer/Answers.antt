use Rattle.std.proofs.Common.{if◌then◌else◌, ap, ◌∙◌}
use Rattle.wk_typing.specs.Answers.{IsPresent, IsAbsent}
use Rattle.wk_check.specs.Spaces.{spaces_of}
use Rattle.wk_check.proofs.Imported.{first_found}
use Rattle.wk_check.proofs.whole.WholeEnv.answer.Goals as goal

pub returns-in-Table : goal.returns-in-Table
returns-in-Table c =
    rw c.in-Table.is (c.found_first.ensures ∙ ap (λ b. if b then IsPresent else IsAbsent) c.has_table.ensures
    ∙ first_found (spaces_of c.args.self.now).tables)

pub returns-in-Memory : goal.returns-in-Memory
returns-in-Memory c =
    rw c.in-Memory.is (c.found_first-in-Memory.ensures ∙ ap (λ b. if b then IsPresent else IsAbsent) c.has_memory.ensures
    ∙ first_found (spaces_of c.args.self.now).memories)
