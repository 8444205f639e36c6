use Rattle.std.proofs.Common.{refl, subst, ◌∙◌, ap, inl, inr, List}
use Rattle.std.proofs.lemmas.Result.{on_ok_weaker}
use Rattle.wk_body.specs.declared.token.Token.{Token}
use Rattle.wk_body.specs.Kept.{ended}
use Rattle.wk_body.specs.Building.{GoodWith}
use Rattle.wk_body.proofs.Closing.{plain_inside, else_inside, ends_plain, ends_else}
use Rattle.wk_body.proofs.scratch.Scratch.close_block.Goals as goal

pub end_at-requires-clause-inside : goal.end_at-requires-clause-inside
end_at-requires-clause-inside c = plain_inside c.args.self.now _ c.in-Block.place (inl c.in-Block.is) c.requires.good

pub end_at-requires-in-Then-clause-inside : goal.end_at-requires-in-Then-clause-inside
end_at-requires-in-Then-clause-inside c = plain_inside c.args.self.now _ c.in-Then.place (inr c.in-Then.is) c.requires.good

pub end_else-requires-clause-inside : goal.end_else-requires-clause-inside
end_else-requires-clause-inside c =
    (else_inside c.args.self.now c.in-Else.opened c.in-Else.other (subst (GoodWith c.args.self.now) c.in-Else.is c.requires.good)).0

pub end_at-requires-in-Else-clause-inside : goal.end_at-requires-in-Else-clause-inside
end_at-requires-in-Else-clause-inside c = rw c.end_else.ensures
    (else_inside c.args.self.now c.in-Else.opened c.in-Else.other (subst (GoodWith c.args.self.now) c.in-Else.is c.requires.good)).1

pub returns-in-Block : goal.returns-in-Block
returns-in-Block c = on_ok_weaker c.end_at.result
    (λ e. ends_plain c.args.self.now _ _ c.in-Block.place (inl c.in-Block.is) c.requires.good refl refl e) c.end_at.ensures

pub returns-in-Then : goal.returns-in-Then
returns-in-Then c = on_ok_weaker c.end_at-in-Then.result
    (λ e. ends_plain c.args.self.now _ _ c.in-Then.place (inr c.in-Then.is) c.requires.good refl refl e) c.end_at-in-Then.ensures

pub returns-in-Else : goal.returns-in-Else
returns-in-Else c = on_ok_weaker c.end_at-in-Else.result
    (λ e. ends_else c.args.self.now _ c.in-Else.opened c.in-Else.other (subst (GoodWith c.args.self.now) c.in-Else.is c.requires.good) refl refl
    (e ∙ ap (λ (ts : List Token). ended ts c.in-Else.opened) c.end_else.ensures)) c.end_at-in-Else.ensures
