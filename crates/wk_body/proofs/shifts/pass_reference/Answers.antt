use Rattle.std.proofs.Common.{◌+◌, ◌++◌, ◌∷◌, ℕ, List, length, refl, sym, ap, ◌∙◌, arith}
use Rattle.std.specs.List.{flat_map}
use Rattle.wk_bytes.specs.Short.{short}
use Rattle.wk_body.specs.Written.{tok_bytes}
use Rattle.wk_body.proofs.Found.{not_found}
use Rattle.wk_body.proofs.Shifting.{refers_of, referred, still_step, moved_step}
use Rattle.wk_body.proofs.shifts.pass_reference.Goals as goal

pub returns-in_default-clause-stays : goal.returns-in_default-clause-stays
returns-in_default-clause-stays c = λ is all goal w f.
    let r = refers_of c.args.shifts all goal c.args.code.now c.args.out.now.items c.args.run.now c.args.at.now c.args.opcode c.requires.inside
    c.requires.opcode c.requires.referring w in
    not_found (r.reference.index, c.args.at.now + 1 + length (short r.reference.index))
    (c.in_default.ensures.exact r.reference.index (flat_map tok_bytes r.next.others) r.reference.small r.behind)

pub returns-in_default-index_after-clause-stays : goal.returns-in_default-index_after-clause-stays
returns-in_default-index_after-clause-stays c = λ is all goal w f.
    let r = referred c.args.shifts all goal c.args.code.now c.args.out.now.items c.args.run.now c.args.at.now c.args.opcode c.in-Some.x c.in-Some.end
    c.requires.inside c.requires.opcode c.requires.referring c.in-Some.ensures.exact w in
    omega (arith, c.in_default-index_after.ensures.none refl, r.fits (r.next.fits f).0)

pub returns-in_ok-put_index-clause-goes : goal.returns-in_ok-put_index-clause-goes
returns-in_ok-put_index-clause-goes c = λ is all goal w.
    let r = referred c.args.shifts all goal c.args.code.now c.args.out.now.items c.args.run.now c.args.at.now c.args.opcode c.in-Some.x c.in-Some.end
    c.requires.inside c.requires.opcode c.requires.referring c.in-Some.ensures.exact w in
    let then = c.extend_from_slice.new.self.items in
    let moved = ap (λ (n : ℕ). c.args.opcode ∷ short n) c.in-Some-index_after.ensures.some ∙ r.moved in
    moved_step c.args.shifts all goal c.args.code.now c.args.out.now.items c.args.run.now c.args.at.now r.next then c.put_index.new.out.items
    c.in-Some.end c.in_ok-extend_from_slice.ensures.items
    (c.in_ok-put_index.ensures.ok ∙ ap (λ (b : List ℕ). then ++ b) moved) r.ends

pub returns-else-y-x-clause-goes : goal.returns-else-y-x-clause-goes
returns-else-y-x-clause-goes c = λ is all goal w.
    let r = referred c.args.shifts all goal c.args.code.now c.args.out.now.items c.args.run.now c.args.at.now c.args.opcode c.in-Some.x c.in-Some.end
    c.requires.inside c.requires.opcode c.requires.referring c.in-Some.ensures.exact w in
    let same = sym r.moved ∙ ap (λ (n : ℕ). c.args.opcode ∷ short n) (sym c.in-Some-index_after.ensures.some ∙ c.if-y-x.false) ∙ r.written in
    still_step c.args.shifts all goal c.args.code.now c.args.out.now.items c.args.run.now c.args.at.now r.next c.in-Some.end c.requires.order same r.ends
