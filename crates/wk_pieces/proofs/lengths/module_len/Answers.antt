use Rattle.std.proofs.Common.{◌+◌, ◌==◌, ℕ, if◌then◌else◌, length, ap, ◌∙◌}
use Rattle.wk_bytes.specs.Short.{short}
use Rattle.wk_pieces.proofs.Piecing.{length_by}
use Rattle.wk_pieces.proofs.lengths.module_len.Goals as goal

pub returns : goal.returns
returns c =
    λ n order sizes count codes customs.
    let code =
    c.code_contents.ensures
    ∙ ap (λ (k : ℕ). if k == 0 then 0 else length (short k) + c.args.codes) count
    ∙ ap (λ (k : ℕ). if length n.funcs == 0 then 0 else length (short (length n.funcs)) + k) codes in
    c.whole_len.ensures ∙ length_by n c.args.sizes c.code_contents.result c.args.customs order sizes code customs
