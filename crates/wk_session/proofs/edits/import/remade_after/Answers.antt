use Rattle.std.proofs.Common.{Bool, subst}
use Rattle.std.proofs.lemmas.Result.{err_from_is_err_and}
use Rattle.wk_module.specs.Listed.{listed}
use Rattle.wk_session.specs.Imported.{IsRemadeWhere}
use Rattle.wk_session.proofs.NewSections.{remade_in_order}
use Rattle.wk_session.proofs.edits.import.remade_after.Goals as goal

pub returns-in_err-news : goal.returns-in_err-news
returns-in_err-news c =
    let p = err_from_is_err_and c.from_residual.result c.from_residual.ensures.1 in
    rw (p.1, p.2) (λ some. (2, c.in_err-news.ensures some))

pub returns : goal.returns
returns c =
    let l = listed c.args.lists.now in
    let v = c.args.moved.now in
    remade_in_order l v c.in_ok-news.news c.remake_where.new.news c.remake_where-2.new.news c.remake_where-3.new.news c.remake_where-4.new.news
    c.remake_where-5.new.news
    c.in_ok-news.ensures
    (subst (λ (b : Bool). IsRemadeWhere l b 6 c.in_ok-news.news c.remake_where.new.news) c.is_some.ensures c.in_ok-remake_where.ensures)
    (subst (λ (b : Bool). IsRemadeWhere l b 7 c.remake_where.new.news c.remake_where-2.new.news) c.is_some-2.ensures c.in_ok-remake_where-2.ensures)
    (subst (λ (b : Bool). IsRemadeWhere l b 8 c.remake_where-2.new.news c.remake_where-3.new.news) c.is_some-3.ensures c.in_ok-remake_where-3.ensures)
    (subst (λ (b : Bool). IsRemadeWhere l b 9 c.remake_where-3.new.news c.remake_where-4.new.news) c.is_some-4.ensures c.in_ok-remake_where-4.ensures)
    (subst (λ (b : Bool). IsRemadeWhere l b 11 c.remake_where-4.new.news c.remake_where-5.new.news) c.is_some-5.ensures c.in_ok-remake_where-5.ensures)
