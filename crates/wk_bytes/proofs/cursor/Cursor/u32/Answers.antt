use Rattle.wk_bytes.proofs.CursorInts.{short_u32, short_u32-spelled}
use Rattle.wk_bytes.proofs.cursor.Cursor.u32.Goals as goal

pub returns-in-Some-clause-exact : goal.returns-in-Some-clause-exact
returns-in-Some-clause-exact c =
    let taken = c.in-Some.ensures in
    (short_u32 c.args.self.now c.byte_below.new.self c.in-Some.x c.from.result taken.0 taken.1 c.from.ensures, taken.2)

pub returns-in-Some-clause-spelling : goal.returns-in-Some-clause-spelling
returns-in-Some-clause-spelling c =
    let taken = c.in-Some.ensures in
    let spelled = short_u32-spelled c.args.self.now c.byte_below.new.self c.in-Some.x c.from.result taken.0 taken.1 c.from.ensures in
    (spelled.0, spelled.1, spelled.2, taken.2)
