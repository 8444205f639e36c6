use Rattle.std.proofs.Common.{◌≡◌, ℕ, List, [], ◌∷◌, ◌++◌, arith, length, refl, sym, ap, subst, ◌∙◌}
use Rattle.std.proofs.lemmas.Result.{err_from_is_err_and}
use Rattle.wk_body.specs.Lengths.{limited}
use Rattle.wk_module.specs.declared.types.GlobalDef.{GlobalDef}
use Rattle.wk_module.specs.Listed.{listed, listed_with}
use Rattle.wk_module.specs.Sections.{SectionLists, GlobalSection}
use Rattle.wk_module.specs.Shape.{IsFormed}
use Rattle.wk_module.specs.ChangeLaws.{global_formed}
use Rattle.wk_module.specs.Writing.{encoded}
use Rattle.wk_check.specs.Spaces.{answer_in, spaces_of}
use Rattle.wk_check.specs.SpacesLaws.{answers_of, global_grows}
use Rattle.wk_module.specs.declared.types.Parts.{Parts}
use Rattle.wk_session.proofs.Appending.{grows_before, item_grown, item_refused, judged_before, kept_before, known_before}
use Rattle.wk_session.proofs.LongerLists.{global_longer, item_told, longer_by}
use Rattle.wk_session.proofs.Keeping.{room_kept}
use Rattle.wk_session.proofs.LastItems.{but_last, push_before}
use Rattle.wk_session.proofs.edits.global.push_global.Goals as goal
use Rattle.wk_session.proofs.edits.global.push_global.Goals.{After-without_last_global-before}

pushed : (c : After-without_last_global-before) → record c.args.parts.now { globals = c.push.new.self }
    ≡ record c.args.parts.now { globals = c.args.parts.now.globals ++ c.args.global ∷ [] }
pushed c = ap (λ (gs : List GlobalDef). let p : Parts = record c.args.parts.now { globals = gs } in p) c.in_ok-push.ensures.ok

-- references find in the lists without the global what they find in the module that was there
before_is : (c : After-without_last_global-before) → answer_in (spaces_of (listed c.without_last_global-before.result)) ≡ answers_of c.args.parts.now
before_is c =
    let lists = c.without_last_global-before.ensures ∙ ap (λ (l : SectionLists). record l { globals = but_last l.globals }) c.of.ensures.lists in
    let m = c.args.parts.now in
    push_before m (λ (gs : List GlobalDef) (fs : List ℕ). record (listed_with fs m) { globals = gs }) m.globals c.push.new.self c.args.global
    c.deref.result.now (listed c.without_last_global-before.result) refl lists c.in_ok-push.ensures.ok (c.deref.ensures.value ∙ c.requires.kept.types)

pub judge_grown-judged-requires-clause-formed : goal.judge_grown-judged-requires-clause-formed
judge_grown-judged-requires-clause-formed c =
    let m = c.args.parts.now in
    let few = room_kept m c.args.kept.now GlobalSection c.requires.kept in
    let g = c.args.global in
    subst (λ (gs : List GlobalDef). IsFormed (record m { globals = gs })) (sym c.in_ok-push.ensures.ok)
    (global_formed g.ty g.init m few c.requires.valid c.requires.shaped.formed)

pub judge_grown-judged-requires-clause-grows : goal.judge_grown-judged-requires-clause-grows
judge_grown-judged-requires-clause-grows c =
    let m = c.args.parts.now in
    let at = (goal.at.judge_grown-judged-requires-clause-grows c).After-without_last_global-before in
    grows_before m (before_is at) (pushed at) (global_grows m c.args.global.ty c.args.global.init)

pub judge_grown-judged-requires-clause-kept : goal.judge_grown-judged-requires-clause-kept
judge_grown-judged-requires-clause-kept c =
    let at = (goal.at.judge_grown-judged-requires-clause-kept c).After-without_last_global-before in
    kept_before c.args.parts.now (before_is at) (pushed at) c.args.kept.now refl refl c.requires.kept

pub judge_grown-judged-requires-clause-known : goal.judge_grown-judged-requires-clause-known
judge_grown-judged-requires-clause-known c =
    let at = (goal.at.judge_grown-judged-requires-clause-known c).After-without_last_global-before in
    known_before c.args.parts.now (before_is at) (pushed at) c.in_ok-known.known c.in_ok-known.ensures.some

pub new_global-requires : goal.new_global-requires
new_global-requires c = room_kept c.args.parts.now c.args.kept.now GlobalSection c.requires.kept

pub returns-in_err-item-clause-grown : goal.returns-in_err-item-clause-grown
returns-in_err-item-clause-grown c =
    let m = c.args.parts.now in
    let k = c.args.kept.now in
    let r = c.from_residual-in_err-item.result in
    let longer = global_longer c.args.global m k.pieces.sections.items c.requires.kept.pieces.sections in
    item_refused c.args.keep m _ k c.args.meter.now longer c.in_err-item.field-0.0 r c.requires.shaped.formed.order c.in_err-item.ensures
    (err_from_is_err_and r c.from_residual-in_err-item.ensures.1)

pub len_beside-len-requires-clause-id : goal.len_beside-len-requires-clause-id
len_beside-len-requires-clause-id c = omega (arith, c.in_ok-item.ensures.id_is)

pub judge_grown-judged-requires-clause-len : goal.judge_grown-judged-requires-clause-len
judge_grown-judged-requires-clause-len c =
    let m = c.args.parts.now in
    let k = c.args.kept.now in
    let g = c.args.global in
    let n : Parts = record m { globals = m.globals ++ g ∷ [] } in
    let item = c.in_ok-item.item in
    let longer = longer_by _ _ _ k.pieces.sections.items n item c.in_ok-item.ensures
    (global_longer g m k.pieces.sections.items c.requires.kept.pieces.sections) in
    let told = item_told item c.item_len.result c.in_ok-item.ensures.few c.item_len.ensures in
    c.len_beside-len.ensures n item.alone refl refl longer told
    ∙ ap (λ (gs : List GlobalDef). limited (length (encoded (record m { globals = gs })))) (sym c.in_ok-push.ensures.ok)

pub keep_grown-grown-requires-clause-id : goal.keep_grown-grown-requires-clause-id
keep_grown-grown-requires-clause-id c = omega (arith, c.in_ok-item.ensures.id_is, ap length c.requires.kept.pieces.sections)

pub returns-clause-grown : goal.returns-clause-grown
returns-clause-grown c =
    let m = c.args.parts.now in
    let k = c.args.kept.now in
    let g = c.args.global in
    let n : Parts = record m { globals = m.globals ++ g ∷ [] } in
    let typed = c.judge_grown-judged.new.meter in
    let at = (goal.at.returns-clause-grown c).After-without_last_global-before in
    let judged = judged_before m (before_is at) (pushed at) c.args.keep k typed c.judge_grown-judged.result c.judge_grown-judged.ensures in
    let longer = global_longer g m k.pieces.sections.items c.requires.kept.pieces.sections in
    item_grown c.args.keep m n k typed longer _ c.in_ok-item.item _ _ c.in_ok-item.ensures refl refl c.requires.kept judged
    (c.keep_grown-grown.ensures c.args.keep (answers_of m) n typed)
