use Rattle.wk_session.proofs.MovedCode.{uses_free}
use Rattle.wk_session.proofs.edits.renumber.shifted_entry.Goals as goal

pub shifted_uses-requires : goal.shifted_uses-requires
shifted_uses-requires c = uses_free c.moving_of_code.ensures.uses c.args.kind c.args.from c.args.kept.func.now c.args.kept.refs.now.keys c.requires.refs
    c.requires.free
