use Rattle.std.proofs.Common.{ℕ, Result, Err, List, set, ap, refl, subst, sym, ◌∙◌}
use Rattle.std.proofs.lemmas.List.{set-get_or}
use Rattle.std.proofs.lemmas.Result.{err_from_is_err_and}
use Rattle.std.specs.Vec.{with_item as put_item}
use Rattle.wk_session.specs.declared.edit.EditFault.{EditFault}
use Rattle.wk_session.specs.declared.cache.Cache.{Cache}
use Rattle.wk_session.specs.Judged.{IsGrown, IsUnchanged}
use Rattle.wk_session.proofs.edits.plan_append.keep_grown.Goals as goal

pub returns-in_err-append_item : goal.returns-in_err-append_item
returns-in_err-append_item c =
    λ keep before n typed kept longer judged.
    let r = c.from_residual-in_err-append_item.result in
    let k = c.args.kept.now in
    let id = c.args.item.now.id in
    let new : Cache = record k { pieces = record k.pieces { sections = put_item k.pieces.sections id c.append_item.new.section } } in
    let same : IsUnchanged k new = record {
      others = refl;
      sections = ap (λ (bytes : List ℕ). set k.pieces.sections.items id bytes) (c.in_err-append_item.ensures.err ∙ c.index_mut-section.ensures.value)
          ∙ set-get_or k.pieces.sections.items id _;
    } in
    let returns = err_from_is_err_and r c.from_residual-in_err-append_item.ensures.1 in
    let is = returns.1 ∙ ap (λ (y : EditFault). let q : Result ℕ EditFault = Err y in q) returns.2 in
    subst (λ (q : Result ℕ EditFault). IsGrown keep before n typed c.args.item.now.made k new q) (sym is) ((λ other. absurd (other refl)), same)
