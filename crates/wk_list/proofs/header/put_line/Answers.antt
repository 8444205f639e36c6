use Rattle.wk_list.specs.Text.{StandsInFront}
use Rattle.wk_list.proofs.Fronts.{front_more, front_refused}
use Rattle.wk_list.proofs.header.put_line.Goals as goal

pub returns-clause-err : goal.returns-clause-err
returns-clause-err c =
    let one : StandsInFront c.args.text.now.items c.put_aligned_name.new.text.items = (_, c.in_ok-put_aligned_name.ensures.ok) in
    let two = front_more _ _ _ _ one c.in_ok-extend_from_slice.ensures.items in
    let three = front_more _ _ _ _ two c.in_ok-put_offset.ensures.ok in
    let four = front_more _ _ _ _ three c.in_ok-extend_from_slice-2.ensures.items in
    let five = front_more _ _ _ _ four c.in_ok-put_offset-2.ensures.ok in
    let six = front_more _ _ _ _ five c.in_ok-extend_from_slice-3.ensures.items in
    front_refused c.put_offset-3.result _ _ _ six c.put_offset-3.ensures.err
