use Rattle.std.proofs.Common.{◌≡◌, ◌++◌}
use Rattle.std.specs.List.{flat_map}
use Rattle.wk_list.specs.Uses.{ref_text}
use Rattle.wk_list.proofs.uses.put_refs.Given as goal

abbrev pub invariant-loop-reference : goal.invariant-loop-reference
invariant-loop-reference l = l.text.items ++ flat_map ref_text l.reference-iterator ≡ l.fn.text.items ++ flat_map ref_text l.references.keys
