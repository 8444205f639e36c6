use Rattle.std.proofs.Common.{List, ℕ, ◌++◌, length, ap, ◌∙◌, arith}
use Rattle.wk_body.specs.Tree.{Instrs}
use Rattle.wk_body.specs.Written.{written_expr}
use Rattle.wk_list.specs.CodeText.{entry_head}
use Rattle.wk_list.proofs.Entries.{head_put}
use Rattle.wk_list.proofs.Offsets.{code_end, length_code, starts_at}
use Rattle.wk_list.proofs.TakenLemmas.{puts_same}
use Rattle.wk_list.proofs.Trees.{length_tokens, listed_text}
use Rattle.wk_list.proofs.code.list_entry.Goals as goal

pub groups_len-requires : goal.groups_len-requires
groups_len-requires g c = rw c.groups-groups.ensures.value (omega (arith, length_code c.args.func.now.body))

pub list_tokens-requires-clause-fits : goal.list_tokens-requires-clause-fits
list_tokens-requires-clause-fits g c =
    let start = starts_at c.args.at _ _ _ _ c.args.func.now _ c.groups-groups.ensures.value c.requires.size c.leb_len_u32-2.ensures c.leb_len_u32.ensures
    c.groups_len.ensures in
    omega (
      arith,
      c.requires.fits,
      code_end c.args.at c.args.func.now,
      length_tokens c.expr.result.now _ c.tokens.ensures.tokens,
      ap (λ (t : Instrs). length (written_expr t)) c.expr.ensures,
    )

pub returns : goal.returns
returns g c =
    let start = starts_at c.args.at _ _ _ _ c.args.func.now _ c.groups-groups.ensures.value c.requires.size c.leb_len_u32-2.ensures c.leb_len_u32.ensures
    c.groups_len.ensures in
    puts_same (ap (λ (x : List ℕ). c.put_entry_head.new.text.items ++ x) (listed_text _ c.expr.result.now _ c.tokens.ensures.tokens)
    ∙ head_put c.args.text.now.items (entry_head c.args.index c.args.func.now) _ _ _ _ _ c.in_ok-put_entry_head.ensures start c.expr.ensures)
    c.list_tokens.ensures
