use Rattle.std.proofs.Common.{◌≡◌, length, map, refl, sym, ap, ◌∙◌, arith}
use Rattle.wk_module.specs.declared.types.Parts.{Parts}
use Rattle.wk_pieces.specs.Overlays.{with_items}
use Rattle.wk_pieces.specs.Pieces.{code_of}
use Rattle.wk_pieces.specs.Recoded.{encoded_with}
use Rattle.wk_pieces.proofs.Putting.{codes_length, entries_in_form, session_codes}
use Rattle.wk_session.proofs.session.Session.write_with.Given.{Over}
use Rattle.wk_session.proofs.session.Session.write_with.Goals as goal
use Rattle.wk_session.proofs.session.Session.write_with.Goals.{After-parts}

pub with_new-codes-requires-clause-many : goal.with_new-codes-requires-clause-many
with_new-codes-requires-clause-many g c =
    let m = c.self.inside.module in
    c.requires.many ∙ ap (λ (n : Parts). length n.funcs) (sym c.self.view_is)
    ∙ sym (codes_length m c.self.inside.kept.pieces.codes.items c.self.invariant.pieces.codes)

pub with_new-codes-requires-clause-few : goal.with_new-codes-requires-clause-few
with_new-codes-requires-clause-few g c =
    let m = c.self.inside.module in
    let kept = c.self.inside.kept.pieces.codes.items in
    let news = c.args.codes.now.items in
    let same = session_codes m m c.args.self.now kept news refl c.self.view_is c.self.invariant.pieces.codes in
    omega (arith, entries_in_form m (with_items kept news), ap length same, c.requires.fits)

form : (g : Over) (c : After-parts g)
    → encoded_with c.parts.result.now c.with_new-codes.result
    ≡ encoded_with c.args.self.now (with_items (map code_of c.args.self.now.funcs) c.args.codes.now.items)
form g c =
    let kept = c.self.inside.kept.pieces.codes.items in
    let news = c.args.codes.now.items in
    ap (encoded_with c.parts.result.now) c.with_new-codes.ensures
    ∙ session_codes c.parts.result.now c.self.inside.module c.args.self.now kept news c.parts.ensures.value c.self.view_is c.self.invariant.pieces.codes

pub put_module-requires-clause-few : goal.put_module-requires-clause-few
put_module-requires-clause-few g c = rw (form g (goal.at.put_module-requires-clause-few g c).After-parts) c.requires.fits
