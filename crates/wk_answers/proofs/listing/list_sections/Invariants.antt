use Rattle.std.proofs.Common.{◌≡◌, ◌++◌, ◌||◌}
use Rattle.std.specs.List.{list_any}
use Rattle.wk_bytes.specs.Frames.{sections_of}
use Rattle.wk_answers.specs.Listing.{is_fault, listing}
use Rattle.wk_answers.proofs.listing.list_sections.Given as goal

abbrev pub invariant-loop-item : goal.invariant-loop-item
invariant-loop-item l = record {
  text : l.text.items ++ listing l.item-iterator ≡ listing (sections_of l.bytes);
  fault : (l.has_fault || list_any is_fault l.item-iterator) ≡ list_any is_fault (sections_of l.bytes);
}
