use Rattle.std.proofs.Common.{◌∙◌, ap}
use Rattle.std.specs.Prelude.{nat_le, ◌≡◌, true, slice_get}
use Rattle.std.proofs.lemmas.Bool.{le-leb}
use Rattle.wk_body.specs.Numeric.{numeric_ops}
use Rattle.wk_body.proofs.Lookup.{copied_at}
use Rattle.wk_body.proofs.numeric.NumericOp.from_opcode.Goals as goal

pub returns : goal.returns
returns c =
    let high : nat_le 0x45 c.args.opcode ≡ true = le-leb 0x45 c.args.opcode c.if-opcode-lt-FIRST_NUMERIC.false in
    rw high (c.copied.ensures ∙ copied_at numeric_ops c.from.result c.get.result c.get.ensures.lookup ∙ ap (slice_get numeric_ops) c.from.ensures)
