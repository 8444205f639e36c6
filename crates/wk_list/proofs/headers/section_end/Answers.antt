use Rattle.std.proofs.Common.{length, ap, arith}
use Rattle.wk_module.specs.Sections.{of_number}
use Rattle.wk_module.specs.Shape.{lists_of}
use Rattle.wk_module.specs.WritingLaws.{section_none}
use Rattle.wk_list.proofs.headers.section_end.Goals as goal

pub returns-then-size-eq0 : goal.returns-then-size-eq0
returns-then-size-eq0 c = λ m long.
    let none = section_none (lists_of m) (of_number c.args.id) (omega (arith, long, c.if-size-eq0.true)) in
    omega (arith, ap length none)
