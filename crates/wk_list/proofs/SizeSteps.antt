-- The lines of the lengths of codes, one after the other.
use Rattle.std.proofs.Common.{◌≡◌, ℕ, ◌+◌, ◌<◌, List, ◌++◌, length, slice_index_or, sym, ap, ◌∙◌}
use Rattle.wk_body.specs.Written.{written_body}
use Rattle.wk_module.specs.declared.types.Func.{Func}
use Rattle.wk_list.specs.Details.{code_size_line}
use Rattle.wk_list.proofs.LineSteps.{item_at, line_put, lines_from}

-- the next line was gathered, by the length of the code at the index
pub size_put : (funcs : List Func) (first at i size : ℕ) (t new : List ℕ) → at ≡ first → i < length funcs
    → ((other : Func) → size ≡ length (written_body (slice_index_or funcs i other).body))
    → ((f : Func) → size ≡ length (written_body f.body) → new ≡ t ++ code_size_line (at + i) f)
    → t ++ lines_from code_size_line first i funcs ≡ new ++ lines_from code_size_line first (i + 1) funcs
size_put funcs first at i size t new same within len put =
    let func = item_at funcs i within in
    line_put code_size_line funcs first at i func.0 t new same within (sym (func.1 func.0))
    (put func.0 (len func.0 ∙ ap (λ (f : Func). length (written_body f.body)) (func.1 func.0)))
