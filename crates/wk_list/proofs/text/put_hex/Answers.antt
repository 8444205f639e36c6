use Rattle.std.proofs.Common.{◌∙◌}
use Rattle.wk_list.proofs.HexText.{chunked}
use Rattle.wk_list.proofs.text.put_hex.Goals as goal

pub loop-rest-preserved : goal.loop-rest-preserved
loop-rest-preserved c =
    chunked c.loop-rest.text.items c.put_chunk.new.text.items c.loop-rest.rest.now c.split_at.result.0.now c.split_at.result.1.now
    c.split_at.ensures.by_index.0 c.in_ok-put_chunk.ensures ∙ c.loop-rest.invariant
