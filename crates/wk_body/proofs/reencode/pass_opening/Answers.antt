use Rattle.std.proofs.Common.{◌≤◌, ◌^◌, ◌∷◌, ◌++◌, [], eqb, refl, sym, subst, ◌∙◌, arith}
use Rattle.wk_body.specs.declared.reencoder.Reencoder.{Reencoder}
use Rattle.wk_body.specs.Reencoding.{Behind}
use Rattle.wk_body.specs.Minimal.{number_of}
use Rattle.wk_body.proofs.MinimalWalk.{few_blocks}
use Rattle.wk_body.proofs.Rewriting.{type_above, opener_goes}
use Rattle.wk_body.proofs.OpenBlocks.{opened_bits}
use Rattle.wk_body.proofs.reencode.pass_opening.Goals as goal

pub returns-then-after-gt-MAX_BLOCKS-clause-goes :
    goal.returns-then-after-gt-MAX_BLOCKS-clause-goes
returns-then-after-gt-MAX_BLOCKS-clause-goes c = λ before from token ks is b there g.
    let behind = subst (λ (w : Reencoder). Behind c.args.opcode token w) (sym c.ahead-own.ensures) b in
    ([], refl, c.in_ok-open_spilled.ensures before from token ks is behind there g)

pub returns-clause-goes : goal.returns-clause-goes
returns-clause-goes c = λ before from token ks is b there g.
    let kinds = c.args.reader.now.kinds in
    let opened = eqb c.args.opcode 0x04 ∷ ks in
    let small : number_of ks ≤ 2 ^ 62 = omega (arith, is, c.requires.small) in
    let few = few_blocks ks kinds small (c.if-not-has_room.ensures refl) in
    let ty = type_above c.args.profile kinds (ks ++ kinds) c.args.at c.in_ok-pass_type.field-0 c.args.out.now.items c.pass_type.new.out.items
    c.args.coder.now c.pass_type.new.coder few c.in_ok-pass_type.ensures in (
      opened,
      c.blocks_after-after.ensures ∙ opened_bits c.args.opcode c.args.inner.now ks c.requires.opener.0 c.requires.opener.1 is,
      opener_goes c.args.profile before c.args.out.now.items c.pass_type.new.out.items from token c.args.coder.now c.pass_type.new.coder (ks ++ kinds)
          (opened ++ kinds) c.args.opcode c.args.at c.in_ok-pass_type.field-0 there ty g
          c.requires.opener.0 c.requires.opener.1 refl b,
    )
