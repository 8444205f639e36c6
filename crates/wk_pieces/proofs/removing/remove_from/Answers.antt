use Rattle.std.proofs.Common.{◌+◌, ◌-◌, Bool, ℕ, List, [], ◌++◌, if◌then◌else◌, length, drop, sym, ap, ◌∙◌, arith}
use Rattle.std.proofs.lemmas.Bool.{ne_eqb}
use Rattle.wk_bytes.specs.Short.{short}
use Rattle.wk_pieces.specs.Shorter.{cut}
use Rattle.wk_pieces.proofs.Gaps.{cut_under}
use Rattle.wk_pieces.proofs.removing.remove_from.Goals as goal

pub returns-clause-ok : goal.returns-clause-ok
returns-clause-ok c =
    let old = c.args.contents.now.items in
    let count = c.args.count in
    let front = short (count - 1) in
    let at = c.args.span.at in
    let size = c.args.span.size in
    let k = length (short count) in
    let gap = c.close_gap.new.bytes in
    let spelled = c.in_ok-put_u32.ensures.ok ∙ ap (λ (xs : List ℕ). xs ++ front) c.new-front.ensures.items in
    let is =
    c.put_over.ensures
    ∙ ap (λ (ys : List ℕ). ys ++ drop (length ys) c.deref_mut.result.now) (c.deref-2.ensures.value ∙ spelled)
    ∙ ap (λ (ys : List ℕ). front ++ drop (length front) ys) c.deref_mut.ensures.value in
    let closed = c.close_gap.ensures ∙ ap (λ (i : ℕ). cut (i + at) size old) c.leb_len_u32-items.ensures in
    cut_under front c.put_over.new.bytes gap.items old k at size gap.len is closed
    (omega (arith, ap length spelled, c.len.ensures, c.leb_len_u32-items.ensures, c.if-len-items.false)) c.requires.within (omega (arith, gap.ok.0))
    ∙ sym (ap (λ (b : Bool). let none : List ℕ = [] in if b then none else front ++ cut at size (drop k old)) (ne_eqb count 1 c.if-count-eq1.false))
