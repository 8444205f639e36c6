use Rattle.std.proofs.Common.{◌≡◌, sym, ◌∙◌, true, false}
use Rattle.std.specs.List.{list_any}
use Rattle.wk_typing.specs.Carried.{Agree}
use Rattle.wk_session.specs.Dependents.{held, differs_in}
use Rattle.wk_session.proofs.Judging.{any_used, none_agree, agree_none, there_agree, count_none, count_one, on_ok}
use Rattle.wk_session.proofs.judged.rejudge_body.Goals as goal

pub carry-requires : goal.carry-requires
carry-requires g c =
    let A = g.O.Env.answers c.args.old.now in
    let B = g.N.Env.answers c.args.new.now in
    let f = c.args.func.now in
    let agree : Agree A B (held f) = there_agree A B c.requires.grows (held f)
    (c.verdicts_that_keep.ensures.there A f.ty f.body (sym c.requires.was ∙ c.in-Valid.is)) in
    record { own_type = agree.0; agree = agree.1; was = c.requires.was }

pub returns-in-Valid-clause-typed : goal.returns-in-Valid-clause-typed
returns-in-Valid-clause-typed g c =
    let A = g.O.Env.answers c.args.old.now in
    let B = g.N.Env.answers c.args.new.now in
    let f = c.args.func.now in
    let agree : Agree A B (held f) = there_agree A B c.requires.grows (held f)
    (c.verdicts_that_keep.ensures.there A f.ty f.body (sym c.requires.was ∙ c.in-Valid.is)) in
    count_none c.args.meter.now _ (agree_none A B (held f) agree)

pub returns-then-is_retyped-clause-typed : goal.returns-then-is_retyped-clause-typed
returns-then-is_retyped-clause-typed g c =
    let p = differs_in (g.O.Env.answers c.args.old.now) (g.N.Env.answers c.args.new.now) in
    let f = c.args.func.now in
    let some : list_any p (held f) ≡ true = sym (any_used p f c.args.refs.now.keys c.requires.refs) ∙ sym c.is_retyped.ensures ∙ c.if-is_retyped.true in
    on_ok c.type_body.result (count_one c.type_body.new.meter c.args.meter.now _ some c.type_body.ensures.typed)

pub carry-requires-2 : goal.carry-requires-2
carry-requires-2 g c =
    let A = g.O.Env.answers c.args.old.now in
    let B = g.N.Env.answers c.args.new.now in
    let f = c.args.func.now in
    let none : list_any (differs_in A B) (held f) ≡ false = sym (any_used (differs_in A B) f c.args.refs.now.keys c.requires.refs)
    ∙ sym c.is_retyped.ensures ∙ c.if-is_retyped.false in
    let agree : Agree A B (held f) = none_agree A B (held f) none in
    record { own_type = agree.0; agree = agree.1; was = c.requires.was }

pub returns-clause-typed : goal.returns-clause-typed
returns-clause-typed g c =
    let p = differs_in (g.O.Env.answers c.args.old.now) (g.N.Env.answers c.args.new.now) in
    let f = c.args.func.now in
    let none : list_any p (held f) ≡ false = sym (any_used p f c.args.refs.now.keys c.requires.refs) ∙ sym c.is_retyped.ensures ∙ c.if-is_retyped.false in
    count_none c.args.meter.now _ none
