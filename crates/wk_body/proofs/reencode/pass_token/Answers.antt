use Rattle.std.proofs.Common.{◌≡◌, ℕ, Bool, List, ◌++◌, length, refl, sym, ap, subst, rules, arith}
use Rattle.wk_body.specs.declared.reencoder.Reencoder.{Reencoder}
use Rattle.wk_body.specs.Reencoding.{Behind, GoesOn}
use Rattle.wk_body.proofs.Rewriting.{behind_opcode, plain_goes}
use Rattle.wk_body.proofs.OpenBlocks.{end_goes}
use Rattle.wk_body.proofs.reencode.pass_token.Goals as goal

pub returns-in_ok-pass_plain-in_default-opcode-clause-goes : goal.returns-in_ok-pass_plain-in_default-opcode-clause-goes
returns-in_ok-pass_plain-in_default-opcode-clause-goes c = λ before from ks is g.
    let at = c.args.coder.now in
    let mid : Reencoder = record { cursor = c.byte.new.self; pending = at.pending } in
    let opcode = c.in-Ok.opcode in
    let kinds = ks ++ c.args.reader.now.kinds in
    let n0 : opcode ≡ 0x0B → ⊥ = first_of (search rules, grind arith) in
    let n1 : opcode ≡ 0x05 → ⊥ = first_of (search rules, grind arith) in
    let n2 : opcode ≡ 0x02 → ⊥ = first_of (search rules, grind arith) in
    let n3 : opcode ≡ 0x03 → ⊥ = first_of (search rules, grind arith) in
    let n4 : opcode ≡ 0x04 → ⊥ = first_of (search rules, grind arith) in (
      ks,
      is,
      plain_goes c.args.profile before c.args.out.now.items c.pass_plain-in_default-opcode.new.out.items from at mid
          c.pass_plain-in_default-opcode.new.self kinds kinds opcode n0 n1 n2 n3 n4 refl
          (behind_opcode opcode at mid c.in-Ok.ensures.exact refl) c.in_ok-pass_plain-in_default-opcode.ensures g,
    )

pub returns-in_ok-pass_plain-in-1-clause-goes : goal.returns-in_ok-pass_plain-in-1-clause-goes
returns-in_ok-pass_plain-in-1-clause-goes c = λ before from ks is g.
    let at = c.args.coder.now in
    let mid : Reencoder = record { cursor = c.byte.new.self; pending = at.pending } in
    let kinds = ks ++ c.args.reader.now.kinds in
    let b : Behind 0x01 at mid = subst (λ (o : ℕ). Behind o at mid) c.in-1.is (behind_opcode c.in-Ok.opcode at mid c.in-Ok.ensures.exact refl) in
    let one = plain_goes c.args.profile before c.args.out.now.items c.pass_plain.new.out.items from at mid c.pass_plain.new.self kinds kinds 0x01
    (λ e. omega (arith, e)) (λ e. omega (arith, e)) (λ e. omega (arith, e)) (λ e. omega (arith, e))
    (λ e. omega (arith, e)) refl b c.in_ok-pass_plain-in-1.ensures g in
    (ks, is, c.pass_nops.ensures c.args.profile before c.pass_plain.new.out.items from kinds one)

pub returns-in-11-clause-goes : goal.returns-in-11-clause-goes
returns-in-11-clause-goes c = λ before from ks is g.
    let at = c.args.coder.now in
    let mid : Reencoder = record { cursor = c.byte.new.self; pending = at.pending } in
    end_goes c.pass_end.result c.args.profile before c.args.out.now.items from at mid
    (ks ++ c.args.reader.now.kinds) c.pass_end.new.reader.kinds c.pass_end.new.inner c.in-Ok.opcode c.in-11.is (c.pass_end.ensures.ends ks is)
    (behind_opcode c.in-Ok.opcode at mid c.in-Ok.ensures.exact refl) g

pub returns-in_ok-pass_opening-in-2-to-4-clause-goes : goal.returns-in_ok-pass_opening-in-2-to-4-clause-goes
returns-in_ok-pass_opening-in-2-to-4-clause-goes c = λ before from ks is g.
    let at = c.args.coder.now in
    let mid : Reencoder = record { cursor = c.byte.new.self; pending = at.pending } in
    c.in_ok-pass_opening-in-2-to-4.ensures.goes before from at ks is (behind_opcode c.in-Ok.opcode at mid c.in-Ok.ensures.exact refl) c.at-at.ensures.offset g

pub returns-in_ok-pass_else-in-5-clause-goes : goal.returns-in_ok-pass_else-in-5-clause-goes
returns-in_ok-pass_else-in-5-clause-goes c = λ before from ks is g.
    let at = c.args.coder.now in
    let mid : Reencoder = record { cursor = c.byte.new.self; pending = at.pending } in
    let b : Behind 0x05 at mid = subst (λ (o : ℕ). Behind o at mid) c.in-5.is (behind_opcode c.in-Ok.opcode at mid c.in-Ok.ensures.exact refl) in
    let p = c.in_ok-else_block-in-5.ensures.takes ks is in
    let here = subst (λ (bs : List Bool). GoesOn c.args.profile before from bs c.args.out.now.items at) p.2 g in
    let there = c.in_ok-pass_else-in-5.ensures c.args.profile before from at p.0 b (ap length c.rest-left.ensures) here in
    (p.1, p.3, subst (λ (bs : List Bool). GoesOn c.args.profile before from bs c.pass_else.new.out.items c.pass_else.new.coder) (sym p.4) there)
