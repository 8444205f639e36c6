use Rattle.std.proofs.Common.{◌-◌, Bool, ℕ, List, [], ◌++◌, if◌then◌else◌, length, drop, sym, ap, ◌∙◌, arith, length-append, length-drop}
use Rattle.std.proofs.lemmas.Bool.{ne_eqb}
use Rattle.wk_bytes.specs.Short.{short}
use Rattle.wk_bytes.specs.ShortLaws.{short-few}
use Rattle.wk_pieces.specs.Shorter.{cut}
use Rattle.wk_pieces.proofs.Gaps.{length-cut}
use Rattle.wk_pieces.proofs.removing.shrunk_len.Goals as goal

pub overflow_add-result : goal.overflow_add-result
overflow_add-result c =
    let few = short-few 32 (c.args.count - 1) (omega arith) (omega (arith, c.ranges.count.fits)) in
    omega (arith, few, c.requires.few, c.leb_len_u32-2.ensures)

pub returns : goal.returns
returns c =
    let count = c.args.count in
    let at = c.args.span.at in
    let size = c.args.span.size in
    let items : List ℕ = drop (length (short count)) c.args.contents.now in
    let front = short (count - 1) in
    let rest = length-drop (length (short count)) c.args.contents.now in
    let less = length-cut at size items (omega (arith, rest, c.requires.within)) in
    omega (arith, rest, less, c.requires.within, c.leb_len_u32.ensures, c.leb_len_u32-2.ensures, length-append front (cut at size items))
    ∙ sym (ap (λ (b : Bool). let none : List ℕ = [] in length (if b then none else front ++ cut at size items)) (ne_eqb count 1 c.if-count-eq1.false))
