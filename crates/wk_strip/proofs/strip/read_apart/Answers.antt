use Rattle.wk_strip.proofs.Parting.{is_front}
use Rattle.wk_strip.proofs.strip.read_apart.Goals as goal

pub read_beside_codes-requires : goal.read_beside_codes-requires
read_beside_codes-requires c =
    is_front c.args.profile c.args.bytes.now c.new.result c.in_ok-reader.reader c.in_ok-reader.section c.in-Some.section c.new.ensures c.in-Some.is
    c.in_ok-reader.ensures.goes c.in_ok-reader.ensures.exact
