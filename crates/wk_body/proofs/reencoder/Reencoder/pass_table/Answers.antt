use Rattle.wk_body.proofs.Walking.{table_passed}
use Rattle.wk_body.proofs.reencoder.Reencoder.pass_table.Goals as goal

pub returns : goal.returns
returns c =
    let labels = c.in_ok-pass_labels.ensures in
    table_passed c.in_ok-count.count c.in_ok-pass_u32.field-0 labels.0 c.args.out.now.items c.pass_u32.new.out.items c.pass_labels.new.out.items
    c.pass_u32-2.new.out.items
    c.args.self.now c.pass_u32.new.self c.pass_labels.new.self c.pass_u32-2.new.self c.in_ok-count.ensures labels.1 c.in_ok-pass_u32.ensures
