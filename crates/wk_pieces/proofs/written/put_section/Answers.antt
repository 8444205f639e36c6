use Rattle.std.proofs.Common.{◌≡◌, ◌∷◌, ◌++◌, ◌∙◌, Bool, ℕ, [], if◌then◌else◌, sym, ap}
use Rattle.wk_bytes.specs.Short.{short}
use Rattle.wk_module.specs.Writing.{framed}
use Rattle.wk_pieces.specs.Pieces.{framed_some}
use Rattle.wk_pieces.proofs.Putting.{takes, takes_first, takes_later}
use Rattle.wk_pieces.proofs.written.put_section.Given.{Over}
use Rattle.wk_pieces.proofs.written.put_section.Goals as goal
use Rattle.wk_pieces.proofs.written.put_section.Goals.{After-len}

is : (g : Over) (c : After-len g) → framed_some c.args.id c.args.contents.now ≡ (c.args.id ∷ short c.len.result) ++ c.args.contents.now
is g c =
    ap (λ (b : Bool). if b then [] else framed c.args.id c.args.contents.now) (sym c.if-is_empty.ensures)
    ∙ ap (λ (n : ℕ). (c.args.id ∷ short n) ++ c.args.contents.now) (sym c.len.ensures)

pub returns-in_err-put_head-clause-taken : goal.returns-in_err-put_head-clause-taken
returns-in_err-put_head-clause-taken g c = takes_first _ _ _ _ _ _ _ c.from_residual.ensures c.in_err-put_head.ensures.taken
    (is g (goal.at.returns-in_err-put_head-clause-taken g c).After-len)

pub returns-clause-taken : goal.returns-clause-taken
returns-clause-taken g c =
    let took = takes _ _ _ _ c.put_all.ensures.ok c.put_all.ensures.err in
    takes_later _ _ _ _ _ _ _ c.in_ok-put_head.ensures.taken (rw c.as_slice.ensures at took) (is g (goal.at.returns-clause-taken g c).After-len)
