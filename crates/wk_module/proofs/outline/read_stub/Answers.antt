use Rattle.wk_module.proofs.Outlining.{stub_read}
use Rattle.wk_module.proofs.outline.read_stub.Goals as goal

pub returns : goal.returns
returns c = stub_read c.args.profile c.read_body_in.result c.read_body_in.ensures.exact c.read_body_in.ensures.only
