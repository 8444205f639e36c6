use Rattle.wk_typing.specs.declared.fast_blocks.FastStep.TheVariants.{Token, Last}
use Rattle.wk_typing.proofs.Opcodes.{taken, peek_where, block_taken, loop_taken, if_taken, else_taken, end_taken, last_end}
use Rattle.wk_typing.proofs.fast_path.type_fast.Goals as goal

pub returns-in-2-clause-taken : goal.returns-in-2-clause-taken
returns-in-2-clause-taken g c = λ profile.
    peek_where Token c.fast_open.result (block_taken _ _ _ _ _ _ _ _ _ _ (rw c.in-2.is at c.in-Ok.ensures.exact)) (c.fast_open.ensures.taken profile)

pub returns-in-3-clause-taken : goal.returns-in-3-clause-taken
returns-in-3-clause-taken g c = λ profile.
    peek_where Token c.fast_open-in-3.result (loop_taken _ _ _ _ _ _ _ _ _ _ (rw c.in-3.is at c.in-Ok.ensures.exact)) (c.fast_open-in-3.ensures.taken profile)

pub returns-in-4-clause-taken : goal.returns-in-4-clause-taken
returns-in-4-clause-taken g c = λ profile.
    peek_where Token c.fast_open-in-4.result (if_taken _ _ _ _ _ _ _ _ _ _ (rw c.in-4.is at c.in-Ok.ensures.exact)) (c.fast_open-in-4.ensures.taken profile)

pub returns-in-5-clause-taken : goal.returns-in-5-clause-taken
returns-in-5-clause-taken g c = λ profile.
    peek_where Token c.fast_else.result (else_taken _ _ _ _ _ _ _ c.byte.new.self _ _ (rw c.in-5.is at c.in-Ok.ensures.exact)) c.fast_else.ensures.taken

pub returns-in-11-clause-taken : goal.returns-in-11-clause-taken
returns-in-11-clause-taken g c = λ profile.
    peek_where Token c.fast_end.result (end_taken _ _ _ _ _ _ _ c.byte.new.self _ _ (rw c.in-11.is at c.in-Ok.ensures.exact)) c.fast_end.ensures.taken

pub returns-in-11-clause-last : goal.returns-in-11-clause-last
returns-in-11-clause-last g c = λ profile.
    let o = c.fast_end in
    let last = last_end (g.E.Scope.answers c.args.env.now) c.args.f.now profile c.args.reader.now o.new.reader c.args.cursor.now c.byte.new.self
    c.byte.new.self c.args.s.now o.new.s (rw c.in-11.is at c.in-Ok.ensures.exact) in
    peek_where Last o.result (λ none. (last none.0, none.1)) o.ensures.last

pub returns-in_ok-type_operator-in_default-opcode-clause-taken : goal.returns-in_ok-type_operator-in_default-opcode-clause-taken
returns-in_ok-type_operator-in_default-opcode-clause-taken g c = λ profile yes.
    taken _ _ profile _ _ _ _ _ _ _ c.in-Ok.ensures.exact (rw (c.token_if.ensures.yes yes) at c.in_ok-type_operator-in_default-opcode.ensures)
