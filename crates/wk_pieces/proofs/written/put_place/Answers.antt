use Rattle.std.proofs.Common.{refl, arith, length-append}
use Rattle.wk_module.specs.Writing.{customs_at}
use Rattle.wk_pieces.specs.Recoded.{section_with}
use Rattle.wk_pieces.proofs.Putting.{takes_first, takes_later}
use Rattle.wk_pieces.proofs.written.put_place.Goals as goal

pub put_section_of-requires-clause-few : goal.put_section_of-requires-clause-few
put_section_of-requires-clause-few g c =
    let m = c.args.parts.now in
    omega (arith, c.requires.few, length-append (section_with m c.args.codes.now c.args.id) (customs_at c.args.id m.customs))

pub put_customs_at-requires-clause-few : goal.put_customs_at-requires-clause-few
put_customs_at-requires-clause-few g c =
    let m = c.args.parts.now in
    omega (arith, c.requires.few, length-append (section_with m c.args.codes.now c.args.id) (customs_at c.args.id m.customs))

pub returns-in_err-put_section_of-clause-taken : goal.returns-in_err-put_section_of-clause-taken
returns-in_err-put_section_of-clause-taken g c =
    takes_first _ _ _ _ (customs_at c.args.id c.args.parts.now.customs) _ _ c.from_residual.ensures c.in_err-put_section_of.ensures.taken refl

pub returns-clause-taken : goal.returns-clause-taken
returns-clause-taken g c = takes_later _ _ _ _ _ _ _ c.in_ok-put_section_of.ensures.taken c.put_customs_at.ensures.taken refl
