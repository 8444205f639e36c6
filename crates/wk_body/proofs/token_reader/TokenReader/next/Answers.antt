use Rattle.std.proofs.Common.{refl}
use Rattle.wk_body.specs.Reading.{token_at}
use Rattle.wk_body.proofs.Standing.{ReadsFront-token_at}
use Rattle.wk_body.proofs.Promised.{front_stands}
use Rattle.wk_body.proofs.token_reader.TokenReader.next.Goals as goal

pub returns-in-Err-clause-fault : goal.returns-in-Err-clause-fault
returns-in-Err-clause-fault c =
    let ks = c.args.self.now.kinds in
    front_stands (token_at c.args.profile ks) (ReadsFront-token_at c.args.profile ks) c.args.cursor.now c.args.cursor.now c.in-Err.fault refl
    c.ahead-before.ensures.fits c.in-Err.ensures.exact
