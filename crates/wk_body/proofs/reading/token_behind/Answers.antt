use Rattle.std.proofs.Common.{arith}
use Rattle.std.proofs.lemmas.Result.{err_from_is_err_and}
use Rattle.wk_body.specs.Reading.{labels_at, behind_at}
use Rattle.wk_body.specs.Building.{kinds_of}
use Rattle.wk_body.specs.ReadsLaws.{fails_on}
use Rattle.wk_body.proofs.Tokens.{reads_block, reads_loop, reads_if, reads_table, table_fails, simple_told, reads_simple}
use Rattle.wk_body.proofs.reading.token_behind.Goals as goal

pub returns-in_err-table_of-in-14 : goal.returns-in_err-table_of-in-14
returns-in_err-table_of-in-14 c =
    let p = err_from_is_err_and c.from_residual-in_err-table_of-in-14.result c.from_residual-in_err-table_of-in-14.ensures.1 in
    let from = c.args.cursor.now in
    let e = c.in_err-table_of-in-14.field-0.0 in
    rw (p.1, p.2) (fails_on e e.kind (labels_at from.end from.rest)
    (behind_at c.args.profile (kinds_of c.args.scratch.now) c.args.at c.args.opcode from.end from.rest)
    (table_fails c.args.profile c.args.scratch.now c.args.opcode c.args.at from e c.in-14.is) c.in_err-table_of-in-14.ensures)

pub push-requires-clause-simple : goal.push-requires-clause-simple
push-requires-clause-simple c =
    simple_told c.args.profile c.args.scratch.now.labels.items c.args.opcode c.args.at c.args.cursor.now c.simple_of.new.cursor
    c.in_ok-token-in_default.token c.in_ok-token-in_default.ensures.read c.in_ok-token-in_default.ensures.within

pub returns-in_ok-open_block-in-2 : goal.returns-in_ok-open_block-in-2
returns-in_ok-open_block-in-2 c =
    reads_block c.args.profile c.args.scratch.now c.open_block.new.self c.args.opcode c.args.at c.args.cursor.now c.opening_of.new.cursor
    c.in_ok-ty-in-2.ty c.in-2.is c.in_ok-ty-in-2.ensures c.in_ok-open_block-in-2.ensures

pub returns-in_ok-open_block-in-3 : goal.returns-in_ok-open_block-in-3
returns-in_ok-open_block-in-3 c =
    reads_loop c.args.profile c.args.scratch.now c.open_block-in-3.new.self c.args.opcode c.args.at c.args.cursor.now c.opening_of-in-3.new.cursor
    c.in_ok-ty-in-3.ty c.in-3.is c.in_ok-ty-in-3.ensures c.in_ok-open_block-in-3.ensures

pub returns-in_ok-open_if-in-4 : goal.returns-in_ok-open_if-in-4
returns-in_ok-open_if-in-4 c =
    reads_if c.args.profile c.args.scratch.now c.open_if.new.self c.args.opcode c.args.at c.args.cursor.now c.opening_of-in-4.new.cursor
    c.in_ok-ty-in-4.ty c.in-4.is c.in_ok-ty-in-4.ensures c.in_ok-open_if-in-4.ensures

pub returns-in_ok-table_of-in-14 : goal.returns-in_ok-table_of-in-14
returns-in_ok-table_of-in-14 c = reads_table c.args.profile c.args.scratch.now c.table_of.new.scratch c.args.opcode c.args.at c.args.cursor.now
    c.table_of.new.cursor c.in-14.is c.in_ok-table_of-in-14.ensures

pub returns-in_ok-push-in_default : goal.returns-in_ok-push-in_default
returns-in_ok-push-in_default c =
    reads_simple c.args.profile c.args.scratch.now c.push.new.self c.args.opcode c.args.at c.args.cursor.now c.simple_of.new.cursor
    c.in_ok-token-in_default.token
    (λ e. omega arith) (λ e. omega arith) (λ e. omega arith) (λ e. omega arith) (λ e. omega arith)
    c.in_ok-token-in_default.ensures.read c.in_ok-token-in_default.ensures.within c.in_ok-push-in_default.ensures
