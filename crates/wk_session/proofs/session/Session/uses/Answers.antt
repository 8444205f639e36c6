use Rattle.std.proofs.Common.{map, ap, ◌∙◌}
use Rattle.std.specs.Prelude.{option_map, slice_get}
use Rattle.wk_module.specs.declared.types.Parts.{Parts}
use Rattle.wk_session.specs.Kept.{uses_of}
use Rattle.wk_session.proofs.Used.{told_of}
use Rattle.wk_session.proofs.session.Session.uses.Goals as goal

pub returns : goal.returns
returns c =
    told_of (λ s. s.keys) uses_of c.deref.result.now c.self.inside.module.funcs c.args.entry c.get.result c.get.ensures.lookup
    (ap (map (λ s. s.keys)) c.deref.ensures.value ∙ c.self.invariant.refs)
    ∙ ap (λ (m : Parts). option_map uses_of (slice_get m.funcs c.args.entry)) c.self.view_is
