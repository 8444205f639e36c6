use Rattle.std.proofs.Common.{◌≡◌, ◌+◌, ◌≤◌, ◌++◌, length, take}
use Rattle.std.specs.List.{AllByRecursion}
use Rattle.wk_body.specs.Kept.{all_told, IsWithin}
use Rattle.wk_list.specs.declared.fast_line.TheConstants.{NAME_LIMIT}
use Rattle.wk_list.specs.declared.line_buffer.TheConstants.{CAPACITY}
use Rattle.wk_list.specs.TokenText.{toks_text, toks_length}
use Rattle.wk_list.proofs.TakenLemmas.{IsLeft}
use Rattle.wk_list.proofs.code.list_tokens.Given as goal

abbrev pub invariant-loop-token : goal.invariant-loop-token
invariant-loop-token g l = record {
  so_far : IsLeft g.W.Out.taken g.W.Out.failed l.fn.out l.out
      (l.fn.text.items ++ toks_text l.start 0 (all_told l.labels l.tokens))
      (l.text.items ++ take l.fill.used l.buf ++ toks_text l.at l.depth (all_told l.labels l.rest));
  place : l.at + toks_length (all_told l.labels l.rest) ≡ l.start + toks_length (all_told l.labels l.tokens);
  deep : l.depth ≤ l.at;
  inside : l.fill.used ≤ CAPACITY;
  reach : l.fill.reach ≤ NAME_LIMIT;
  within : AllByRecursion (IsWithin (length l.labels)) l.rest;
}

abbrev pub decreases-loop-token : goal.decreases-loop-token
decreases-loop-token g l = length l.rest
