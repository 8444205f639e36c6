use Rattle.std.proofs.Common.{arith}
use Rattle.wk_module.specs.Sections.{of_number}
use Rattle.wk_list.proofs.Sections.{no_line, section_line, tail_same}
use Rattle.wk_list.proofs.headers.put_section.Goals as goal

pub returns-then-size-eq0 : goal.returns-then-size-eq0
returns-then-size-eq0 c = λ m is long.
    no_line m c.args.at (of_number c.args.id) c.args.text.now.items (omega (arith, long, c.if-size-eq0.true))

pub returns : goal.returns
returns c = λ m is long.
    section_line m c.args.id c.args.at c.args.size c.contents_start.result c.args.text.now.items _ _ _ long (omega (arith, c.if-size-eq0.false))
    c.contents_start.ensures c.in_ok-put_header.ensures.ok (rw (tail_same m c.args.parts.now is (of_number c.args.id)) at c.in_ok-put_tail.ensures)
    c.in_ok-extend_from_slice.ensures.items
