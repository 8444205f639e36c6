use Rattle.std.proofs.Common.{rules}
use Rattle.wk_bytes.specs.Raw.{raw_view}
use Rattle.wk_bytes.specs.Stands.{contents_of}
use Rattle.wk_module.proofs.Standing.{count_stands}
use Rattle.wk_module.proofs.section_reader.CodeReader.open.Goals as goal

pub returns-then-count-funcs-clause-stands : goal.returns-then-count-funcs-clause-stands
returns-then-count-funcs-clause-stands c =
    count_stands (contents_of (raw_view c.args.section.now)) c.in_ok-count.count c.u32.new.self.rest c.fault-mismatch.result (search rules) (search rules)
