use Rattle.std.proofs.Common.{rules, tests, ◌≡◌, ◌≢◌, ◌++◌, ◌∷◌, [], length, not, ap, sym, ◌∙◌, arith}
use Rattle.std.proofs.lemmas.Bool.{iff_false}
use Rattle.std.proofs.lemmas.Iterator.Adapters.{fact_from_extend}
use Rattle.std.proofs.lemmas.Iterator.Search.{any_from_yields_List}
use Rattle.std.proofs.lemmas.Iterator.{YieldsList-from_slice}
use Rattle.std.specs.Result.{is_ok}
use Rattle.std.specs.Str.{bytes_eq}
use Rattle.wk_judging.specs.Names.{has_lent}
use Rattle.wk_judging.proofs.KnownNames.{InSet, AreMoved, on_ok, on_err, all_few, all_in_set, all_moved, few_more, set_more}
use Rattle.wk_judging.proofs.names.Names.insert.Goals as goal
use Rattle.wk_judging.proofs.names.Names.insert.Goals.{then-is_empty+else-any+else-is_ok+in_ok-extend, else-is_empty}

pub returns-then-is_ok : goal.returns-then-is_ok
returns-then-is_ok c = λ before known.
    let few = c.args.self.now.few.items in
    let many = c.args.self.now.many.keys in
    let name = c.args.name in
    let none : length many ≡ 0 = c.is_empty.ensures.0 c.if-is_empty.true in
    let these = all_few few many before known.known none in
    let found : c.any.result ≡ has_lent few name.now = any_from_yields_List (λ n. bytes_eq n.now name.now) c.any.new.self _ c.any.result
    c.any.ensures.ran (YieldsList-from_slice few (c.iter.ensures.rest ∙ c.as_slice.ensures.value))
    (λ x b q k. search (rules, tests)) in
    let put : c.try_push.new.self.items ≡ few ++ name ∷ [] = on_ok c.try_push.result _ (sym c.if-is_ok.ensures.value) c.try_push.ensures.ok in (
      ap not (sym c.if-any.false ∙ found ∙ these name.now),
      λ is. record { known = few_more few many before name c.try_push.new.self.items put none these },
    )

pub returns : goal.returns
returns c = λ before known.
    let few = c.args.self.now.few.items in
    let many = c.args.self.now.many.keys in
    let name = c.args.name in
    let all = c.if-is_empty.self.many.keys in
    let in_set : InSet all before = elim c.if-is_empty.branch [
      | then-is_empty+else-any+else-is_ok+in_ok-extend w ↦
          let same = on_err w.try_push.result _ (sym w.if-is_ok.ensures.value) w.try_push.ensures.err in
          let moved : AreMoved few many w.extend.new.self.keys = on_ok w.extend.result _ (ap is_ok w.in_ok-extend.was)
          (fact_from_extend (λ x. x.now) w.extend.result w.extend.ensures.ran
          (λ it b. YieldsList-from_slice few (b.0 ∙ w.as_slice-then-is_empty.ensures.value ∙ ap (λ v. v.items) same))
          (λ xs e h. rw (← e) h.0)) in
          rw w.self-is (all_moved few many before known.known w.extend.new.self.keys (c.is_empty.ensures.0 w.if-is_empty.true) moved)
      | else-is_empty w ↦
          rw w.self-is (all_in_set few many before known.known (iff_false c.is_empty.ensures w.if-is_empty.false))
    ] in (
      c.in_ok-insert.ensures.added ∙ ap not (in_set name.now),
      λ is.
          let some : length c.insert.new.self.keys ≢ 0 = omega (arith, rw is at c.in_ok-insert.ensures.len) in
          record { known = set_more c.if-is_empty.self.few.items all before name c.insert.new.self.keys c.in_ok-insert.ensures.keys some in_set },
    )
