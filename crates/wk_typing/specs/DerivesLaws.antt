-- Instructions one after the other: a list has a type exactly where each of its two parts has one, and they meet at a stack. With
-- one instruction as the second part, this is the standard's rule for a list that is followed by an instruction (3.3).
use Rattle.std.specs.Prelude.{ℕ, ◌↔◌, List, Option}
use Rattle.wk_body.specs.declared.types.ValType.{ValType}
use Rattle.wk_body.specs.declared.references.Ref.{Ref}
use Rattle.wk_body.specs.Tree.{Instrs, append}
use Rattle.wk_typing.specs.Answers.{Found}
use Rattle.wk_typing.specs.Derives.{Derives}

abbrev pub HaveTypesPartByPart : Type 0
HaveTypesPartByPart =
    (A : Ref → Found) (locals : ℕ → Option ValType) (final : List ValType) (labels : List (List ValType)) (a b : Instrs) (p q : List ValType) →
    Derives A locals final labels (append a b) p q ↔ ((m : List ValType) × Derives A locals final labels a p m × Derives A locals final labels b m q)
