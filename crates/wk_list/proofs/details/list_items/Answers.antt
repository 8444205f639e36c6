use Rattle.std.proofs.Common.{◌≡◌, ℕ, List, [], ◌++◌, ap, ◌∙◌, append-nil, rules}
use Rattle.std.proofs.Math.Nat.{zero-add}
use Rattle.wk_module.specs.Sections.{of_number}
use Rattle.wk_list.specs.Details.{details_by}
use Rattle.wk_list.proofs.TakenLemmas.{all_left}
use Rattle.wk_list.proofs.details.list_items.Goals as goal

pub returns-in-1 : goal.returns-in-1
returns-in-1 g c = rw c.in-1.is (simp zero-add at (rw (c.first_index-first.ensures, c.in-1.is) at c.list_group.ensures))

pub returns-in-2 : goal.returns-in-2
returns-in-2 g c = rw c.in-2.is (rw c.as_slice-in-2.ensures at c.list_imports.ensures)

pub returns-in-3 : goal.returns-in-3
returns-in-3 g c = rw c.in-3.is (rw (c.first_index-first.ensures, c.in-3.is, c.as_slice.ensures) at c.list_group-in-3.ensures)

pub returns-in-4 : goal.returns-in-4
returns-in-4 g c = rw c.in-4.is (rw (c.first_index-first.ensures, c.in-4.is, c.as_slice.ensures) at c.list_group-in-4.ensures)

pub returns-in-5 : goal.returns-in-5
returns-in-5 g c = rw c.in-5.is (rw (c.first_index-first.ensures, c.in-5.is, c.as_slice.ensures) at c.list_group-in-5.ensures)

pub returns-in-6 : goal.returns-in-6
returns-in-6 g c = rw c.in-6.is (rw (c.first_index-first.ensures, c.in-6.is, c.as_slice.ensures) at c.list_group-in-6.ensures)

pub returns-in-7 : goal.returns-in-7
returns-in-7 g c = rw c.in-7.is (simp zero-add at (rw (c.first_index-first.ensures, c.in-7.is) at c.list_group-in-7.ensures))

pub returns-in-9 : goal.returns-in-9
returns-in-9 g c = rw c.in-9.is (simp zero-add at (rw (c.first_index-first.ensures, c.in-9.is) at c.list_group-in-9.ensures))

pub returns-in-11 : goal.returns-in-11
returns-in-11 g c = rw c.in-11.is (simp zero-add at (rw (c.first_index-first.ensures, c.in-11.is) at c.list_group-in-11.ensures))

pub returns-in_default : goal.returns-in_default
returns-in_default g c =
    let none : details_by c.args.parts.now (of_number c.args.id) ≡ [] = search rules in
    all_left (ap (λ (r : List ℕ). c.args.text.now.items ++ r) none ∙ append-nil c.args.text.now.items)
