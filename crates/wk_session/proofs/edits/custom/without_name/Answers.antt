use Rattle.std.proofs.Common.{not, rules, ◌∙◌, ap}
use Rattle.std.specs.List.{filter}
use Rattle.std.proofs.lemmas.Fn.{filter_same}
use Rattle.wk_session.specs.Edits.{is_named}
use Rattle.wk_session.proofs.edits.custom.without_name.Goals as goal

pub returns : goal.returns
returns c =
    let kept = filter_same _ (λ d. not (is_named c.args.name.now d)) _ (λ x b f' k. search rules) _ _ c.retain.ensures.filtered in
    c.from_vec.ensures ∙ kept ∙ ap (filter (λ d. not (is_named c.args.name.now d))) c.into_vec-customs.ensures
