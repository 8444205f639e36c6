use Rattle.std.proofs.Common.{◌≡◌, pos, to_z, of_z, rules, arith}
use Rattle.std.specs.Int.{w64}
use Rattle.std.proofs.lemmas.Int.{ints}
use Rattle.wk_bytes.proofs.CursorInts.{short_signed, short_signed-spelled, signed_fault_stands}
use Rattle.wk_bytes.proofs.cursor.Cursor.signed.Goals as goal

pub returns-in-Some-clause-exact : goal.returns-in-Some-clause-exact
returns-in-Some-clause-exact c =
    let taken = c.in-Some.ensures in
    let value : to_z w64 (of_z w64 c.from.result) ≡ pos c.in-Some.x = omega (arith, ints) in
    (short_signed c.args.bits c.args.self.now c.byte_below.new.self c.in-Some.x _ c.requires taken.0 taken.1 value, taken.2)

pub returns-in-Some-clause-spelling : goal.returns-in-Some-clause-spelling
returns-in-Some-clause-spelling c =
    let taken = c.in-Some.ensures in
    let value : to_z w64 (of_z w64 c.from.result) ≡ pos c.in-Some.x = omega (arith, ints) in
    let spelled = short_signed-spelled c.args.bits c.args.self.now c.byte_below.new.self c.in-Some.x _ c.requires taken.0 taken.1 value in
    (spelled.0, spelled.1, spelled.2, taken.2)

pub returns-in-None-clause-stands : goal.returns-in-None-clause-stands
returns-in-None-clause-stands c = signed_fault_stands c.args.bits c.args.self.now c.fault_signed.result c.requires (search rules)
