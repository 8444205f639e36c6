use Rattle.wk_typing.proofs.fast_blocks.fast_open.Goals as goal

pub returns-clause-taken : goal.returns-clause-taken
returns-clause-taken g c = λ profile yes.
    let opened = c.open_block.ensures.opened c.if-not-open_block.false in
    record {
      block = c.in-Some.block;
      shallow = opened.0;
      kinds = opened.1;
      read = (c.in-Some.ensures.read profile).0;
      same_end = (c.in-Some.ensures.read profile).1;
      typed = c.in_ok-enter_short.ensures;
    }
