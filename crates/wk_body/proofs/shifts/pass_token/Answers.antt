use Rattle.std.proofs.Common.{◌+◌, length, get_or, refl}
use Rattle.std.specs.List.{flat_map}
use Rattle.wk_body.specs.Written.{tok_bytes}
use Rattle.wk_body.specs.ShiftSteps.{IsReferring}
use Rattle.wk_body.proofs.Found.{found_is, not_found}
use Rattle.wk_body.proofs.Shifting.{not_referring, next_of, still_bytes, still_step}
use Rattle.wk_body.proofs.shifts.pass_token.Goals as goal

pub returns-in_default-clause-stays : goal.returns-in_default-clause-stays
returns-in_default-clause-stays c = λ is all goal w f.
    let n = next_of c.args.shifts all goal c.args.code.now c.args.out.now.items c.args.run.now c.args.at.now c.requires.inside w in
    not_found (c.args.at.now + length (tok_bytes n.token)) (c.in_default.ensures.exact n.token (flat_map tok_bytes n.others) n.here n.ahead)

pub returns-clause-goes : goal.returns-clause-goes
returns-clause-goes c = λ is all goal w.
    let s = c.args.shifts in
    let code = c.args.code.now in
    let out = c.args.out.now.items in
    let run = c.args.run.now in
    let at = c.args.at.now in
    let n = next_of s all goal code out run at c.requires.inside w in
    let still : IsReferring (get_or code at 0) → ⊥ = not_referring
    (get_or code at 0) c.if-opcode-eq-CALL.false c.if-opcode-eq-GLOBAL_GET.false c.if-opcode-eq-GLOBAL_SET.false in
    let end = found_is c.in-Some.end (at + length (tok_bytes n.token)) (c.in-Some.ensures.exact n.token (flat_map tok_bytes n.others) n.here n.ahead) in
    still_step s all goal code out run at n c.in-Some.end c.requires.order
    (still_bytes s all goal code out run at n (get_or code at 0) c.requires.inside refl still) end
