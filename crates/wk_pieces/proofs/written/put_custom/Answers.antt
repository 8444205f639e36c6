use Rattle.std.proofs.Common.{◌≡◌, ◌∷◌, ◌++◌, ℕ, List, length, refl, sym, ap, ◌∙◌, append_assoc}
use Rattle.wk_bytes.specs.Short.{short}
use Rattle.wk_body.specs.LengthsLaws.{limited_some}
use Rattle.wk_module.specs.Customs.{written_custom}
use Rattle.wk_module.specs.Formats.{written_bytes}
use Rattle.wk_module.specs.WritingLaws.{written_frame}
use Rattle.wk_pieces.proofs.Putting.{takes, takes_first, takes_later}
use Rattle.wk_pieces.proofs.written.put_custom.Given.{Over}
use Rattle.wk_pieces.proofs.written.put_custom.Goals as goal
use Rattle.wk_pieces.proofs.written.put_custom.Goals.{In-Some}

is : (g : Over) (c : In-Some g)
    → written_frame c.args.custom.now ≡ (0 ∷ short c.in-Some.size) ++ (written_bytes c.args.custom.now.name ++ c.args.custom.now.bytes)
is g c =
    let custom = c.args.custom.now in
    ap (λ (n : ℕ). 0 ∷ (short n ++ written_custom custom)) (sym (limited_some _ _ c.in-Some.ensures).0)
    ∙ ap (λ (b : List ℕ). (0 ∷ short c.in-Some.size) ++ b) (sym (append_assoc (short (length custom.name)) custom.name custom.bytes))

pub returns-in_err-put_head-clause-taken : goal.returns-in_err-put_head-clause-taken
returns-in_err-put_head-clause-taken g c = takes_first _ _ _ _ _ _ _ c.from_residual.ensures c.in_err-put_head.ensures.taken
    (is g (goal.at.returns-in_err-put_head-clause-taken g c).In-Some)

pub returns-in_err-put_bytes-clause-taken : goal.returns-in_err-put_bytes-clause-taken
returns-in_err-put_bytes-clause-taken g c =
    let named = rw (c.as_bytes.ensures.value, c.as_str.ensures.value) at c.in_err-put_bytes.ensures.taken in
    let later = takes_first _ _ _ _ _ _ _ c.from_residual-in_err-put_bytes.ensures named refl in
    takes_later _ _ _ _ _ _ _ c.in_ok-put_head.ensures.taken later (is g (goal.at.returns-in_err-put_bytes-clause-taken g c).In-Some)

pub returns-clause-taken : goal.returns-clause-taken
returns-clause-taken g c =
    let named = rw (c.as_bytes.ensures.value, c.as_str.ensures.value) at c.in_ok-put_bytes.ensures.taken in
    let took = takes _ _ _ _ c.put_all.ensures.ok c.put_all.ensures.err in
    let later = takes_later _ _ _ _ _ _ _ named (rw c.as_slice.ensures at took) refl in
    takes_later _ _ _ _ _ _ _ c.in_ok-put_head.ensures.taken later (is g (goal.at.returns-clause-taken g c).In-Some)
