use Rattle.std.proofs.Common.{◌≡◌, ◌≤◌, ◌++◌, take}
use Rattle.std.specs.List.{flat_map}
use Rattle.wk_body.specs.declared.token_buffer.TheConstants.{CAPACITY}
use Rattle.wk_body.specs.Kept.{all_told}
use Rattle.wk_body.specs.Written.{tok_bytes, StaysInFront}
use Rattle.wk_body.proofs.writing.put_buffered.Given as goal

abbrev pub invariant-loop-token : goal.invariant-loop-token
invariant-loop-token l = record {
  written : l.out.items ++ take l.used l.buf ≡ l.fn.out.items ++ flat_map tok_bytes (all_told l.labels (take l.token-index l.tokens));
  inside : l.used ≤ CAPACITY;
  front : StaysInFront l.fn.out.items l.out.items;
}
