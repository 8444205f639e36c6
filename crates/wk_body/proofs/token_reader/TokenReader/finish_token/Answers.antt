use Rattle.wk_body.proofs.TokenSteps.{table_token}
use Rattle.wk_body.proofs.token_reader.TokenReader.finish_token.Goals as goal

pub returns-in_ok-table-in-14 : goal.returns-in_ok-table-in-14
returns-in_ok-table-in-14 c =
    table_token c.args.profile c.args.self.now c.table.new.self c.args.opcode c.args.at c.args.cursor.now c.table.new.cursor c.in_ok-table-in-14.field-0
    c.in-14.is
    c.in_ok-table-in-14.ensures.read c.in_ok-table-in-14.ensures.within c.in_ok-table-in-14.ensures.kinds
