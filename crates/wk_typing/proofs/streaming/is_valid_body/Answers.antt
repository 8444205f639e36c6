use Rattle.std.specs.Prelude.{◌≡◌, Bool, true, false}
use Rattle.std.proofs.Common.{sym, subst, ◌∙◌}
use Rattle.wk_module.proofs.CodesApart.{no_items}
use Rattle.wk_typing.specs.Streaming.{IsValidBody}
use Rattle.wk_typing.proofs.Streamed.{valid_body}
use Rattle.wk_typing.proofs.streaming.is_valid_body.Goals as goal
use Rattle.wk_typing.proofs.streaming.is_valid_body.Goals.{then-branch, else-branch}

not_true : {X : Type 0} → false ≡ true → X
not_true is = absurd cc

pub returns : goal.returns
returns g c =
    let P : Bool → Type 0 = λ x. (x ≡ true → IsValidBody (g.E.Scope.answers c.args.env.now) c.args.own_type c.args.profile c.args.code.now) in
    elim c.if-branch.branch [
      | then-branch w ↦ subst P (sym w.result-is) (λ is.
          rw c.ahead-cursor.ensures.same at
          (valid_body (g.E.Scope.answers c.args.env.now) c.args.own_type c.args.profile c.ahead-cursor.result c.next_groups.new.cursor
          c.type_expr.new.cursor c.next_groups.new.groups.items (sym c.check_known.ensures ∙ c.in-Ok.is)
          c.in_default-next_groups.ensures.exact.0 c.in_default-next_groups.ensures.exact.1
          (rw (c.in_ok-of.ensures, c.params.ensures, c.results.ensures, c.deref.ensures.value) at c.in_ok-type_expr.ensures
          w.if-branch.true)
          (sym w.rest.ensures ∙ no_items w.rest.result.now (sym w.is_empty.ensures ∙ is))))
      | else-branch w ↦ subst P (sym w.result-is) (λ is. not_true (sym w.if-branch.false ∙ is))
    ]
