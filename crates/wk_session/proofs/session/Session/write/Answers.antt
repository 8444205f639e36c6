use Rattle.std.proofs.Common.{◌≡◌, length, sym, ap, ◌∙◌, arith}
use Rattle.wk_module.specs.Writing.{encoded}
use Rattle.wk_pieces.specs.Pieces.{entries_size}
use Rattle.wk_pieces.specs.Recoded.{encoded_with}
use Rattle.wk_pieces.proofs.Piecing.{entries_codes}
use Rattle.wk_pieces.proofs.Putting.{session_form}
use Rattle.wk_session.proofs.Keeping.{kept_fits}
use Rattle.wk_session.proofs.WrittenBack.{kept_alone}
use Rattle.wk_session.proofs.session.Session.write.Given.{Over}
use Rattle.wk_session.proofs.session.Session.write.Goals as goal
use Rattle.wk_session.proofs.session.Session.write.Goals.{After-parts}

pub of-codes-requires : goal.of-codes-requires
of-codes-requires g c = c.self.invariant.pieces.codes_len ∙ sym (ap entries_size c.self.invariant.pieces.codes ∙ entries_codes c.self.inside.module.funcs)

form : (g : Over) (c : After-parts g) → encoded_with c.parts.result.now c.of-codes.result ≡ encoded c.args.self.now
form g c =
    let codes = c.of-codes.ensures ∙ c.self.invariant.pieces.codes in
    session_form c.parts.result.now c.self.inside.module c.args.self.now c.of-codes.result c.parts.ensures.value c.self.view_is codes

pub put_module-requires-clause-few : goal.put_module-requires-clause-few
put_module-requires-clause-few g c =
    let is = form g (goal.at.put_module-requires-clause-few g c).After-parts in
    let m = c.self.inside.module in
    omega (arith, ap length is, ap (λ p. length (encoded p)) c.self.view_is, kept_fits m c.self.inside.kept c.self.invariant)

pub returns-in-Ok-clause-ok : goal.returns-in-Ok-clause-ok
returns-in-Ok-clause-ok g c = rw (← form g (goal.at.returns-in-Ok-clause-ok g c).After-parts) c.in-Ok.ensures.ok

pub returns-in-Err-clause-err : goal.returns-in-Err-clause-err
returns-in-Err-clause-err g c = rw (← form g (goal.at.returns-in-Err-clause-err g c).After-parts) c.in-Err.ensures.err

pub returns-in-Ok-clause-alone : goal.returns-in-Ok-clause-alone
returns-in-Ok-clause-alone g c =
    kept_alone c.self.inside.module c.args.self.now _ c.self.invariant c.parts.ensures.shaped c.self.view_is c.written_form_of_module.ensures.spells
    c.one_module.ensures.one

pub returns-in-Err-clause-alone : goal.returns-in-Err-clause-alone
returns-in-Err-clause-alone g c =
    kept_alone c.self.inside.module c.args.self.now _ c.self.invariant c.parts.ensures.shaped c.self.view_is c.written_form_of_module.ensures.spells
    c.one_module.ensures.one
