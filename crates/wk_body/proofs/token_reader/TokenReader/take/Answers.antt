use Rattle.std.proofs.lemmas.Result.{err_from_is_err_and}
use Rattle.wk_body.proofs.Tokens.{no_token}
use Rattle.wk_body.proofs.token_reader.TokenReader.take.Goals as goal

pub returns-in_err-opcode : goal.returns-in_err-opcode
returns-in_err-opcode c =
    let p = err_from_is_err_and c.from_residual.result c.from_residual.ensures.1 in
    let from = c.args.cursor.now in
    record {
      exact = rw (p.1, p.2)
          (no_token c.args.profile c.args.self.now.kinds from.end from.rest c.in_err-opcode.field-0.0 c.in_err-opcode.ensures.exact.0);
    }
