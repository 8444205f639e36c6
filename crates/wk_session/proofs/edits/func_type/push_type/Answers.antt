use Rattle.std.proofs.Common.{◌≡◌, ℕ, List, [], ◌∷◌, length, refl, sym, ap, ◌∙◌, arith, length-append}
use Rattle.std.proofs.lemmas.Result.{err_from_is_err_and}
use Rattle.wk_body.specs.Lengths.{limited}
use Rattle.wk_module.specs.declared.types.FuncType.{FuncType}
use Rattle.wk_module.specs.declared.types.Parts.{Parts}
use Rattle.wk_module.specs.Changes.{with_type}
use Rattle.wk_module.specs.Listed.{listed, listed_with}
use Rattle.wk_module.specs.Sections.{SectionLists, TypeSection}
use Rattle.wk_module.specs.ShapeLaws.{types_formed}
use Rattle.wk_module.specs.Writing.{encoded}
use Rattle.wk_check.specs.Spaces.{answer_in, spaces_of}
use Rattle.wk_check.specs.SpacesLaws.{answers_of, type_grows}
use Rattle.wk_session.proofs.Appending.{grows_before, item_grown, item_refused, judged_before, kept_before, known_before}
use Rattle.wk_session.proofs.LongerLists.{type_longer}
use Rattle.wk_session.proofs.Keeping.{room_kept}
use Rattle.wk_session.proofs.LastItems.{but_last, push_before}
use Rattle.wk_session.proofs.edits.func_type.push_type.Goals as goal
use Rattle.wk_session.proofs.edits.func_type.push_type.Goals.{After-without_last_type-before}

pushed : (c : After-without_last_type-before) → record c.args.parts.now { types = c.push.new.self } ≡ with_type c.args.ty c.args.parts.now
pushed c = ap (λ (ts : List FuncType). let p : Parts = record c.args.parts.now { types = ts } in p) c.in_ok-push.ensures.ok

-- references find in the lists without the type what they find in the module that was there
before_is : (c : After-without_last_type-before) → answer_in (spaces_of (listed c.without_last_type-before.result)) ≡ answers_of c.args.parts.now
before_is c =
    let lists = c.without_last_type-before.ensures ∙ ap (λ (l : SectionLists). record l { types = but_last l.types }) c.of.ensures.lists in
    let m = c.args.parts.now in
    push_before m (λ (ts : List FuncType) (fs : List ℕ). record (listed_with fs m) { types = ts }) m.types c.push.new.self c.args.ty c.deref.result.now
    (listed c.without_last_type-before.result) refl lists c.in_ok-push.ensures.ok (c.deref.ensures.value ∙ c.requires.kept.types)

pub judge_grown-judged-requires-clause-formed : goal.judge_grown-judged-requires-clause-formed
judge_grown-judged-requires-clause-formed c =
    let m = c.args.parts.now in
    let few = room_kept m c.args.kept.now TypeSection c.requires.kept in
    let count = ap length c.in_ok-push.ensures.ok ∙ length-append m.types (c.args.ty ∷ []) in
    types_formed c.push.new.self m (omega (arith, few, count)) c.requires.shaped.formed

pub judge_grown-judged-requires-clause-grows : goal.judge_grown-judged-requires-clause-grows
judge_grown-judged-requires-clause-grows c =
    let m = c.args.parts.now in
    let at = (goal.at.judge_grown-judged-requires-clause-grows c).After-without_last_type-before in
    grows_before m (before_is at) (pushed at) (type_grows m c.args.ty)

pub judge_grown-judged-requires-clause-kept : goal.judge_grown-judged-requires-clause-kept
judge_grown-judged-requires-clause-kept c =
    let at = (goal.at.judge_grown-judged-requires-clause-kept c).After-without_last_type-before in
    kept_before c.args.parts.now (before_is at) (pushed at) c.args.kept.now refl refl c.requires.kept

pub judge_grown-judged-requires-clause-known : goal.judge_grown-judged-requires-clause-known
judge_grown-judged-requires-clause-known c =
    let at = (goal.at.judge_grown-judged-requires-clause-known c).After-without_last_type-before in
    known_before c.args.parts.now (before_is at) (pushed at) c.known_with_type-known.result c.known_with_type-known.ensures.some

pub judge_grown-judged-requires-clause-len : goal.judge_grown-judged-requires-clause-len
judge_grown-judged-requires-clause-len c =
    let m = c.args.parts.now in
    c.requires.len ∙ ap (λ (ts : List FuncType). limited (length (encoded (record m { types = ts })))) (sym c.in_ok-push.ensures.ok)

pub new_type-requires : goal.new_type-requires
new_type-requires c = room_kept c.args.parts.now c.args.kept.now TypeSection c.requires.kept

pub returns-in_err-item-clause-grown : goal.returns-in_err-item-clause-grown
returns-in_err-item-clause-grown c =
    let m = c.args.parts.now in
    let k = c.args.kept.now in
    let r = c.from_residual.result in
    let longer = type_longer c.args.ty m k.pieces.sections.items c.requires.kept.pieces.sections in
    item_refused c.args.keep m (with_type c.args.ty m) k c.args.meter.now longer c.in_err-item.field-0.0 r c.requires.shaped.formed.order
    c.in_err-item.ensures (err_from_is_err_and r c.from_residual.ensures.1)

pub keep_grown-grown-requires-clause-id : goal.keep_grown-grown-requires-clause-id
keep_grown-grown-requires-clause-id c = omega (arith, c.in_ok-item.ensures.id_is, ap length c.requires.kept.pieces.sections)

pub returns-clause-grown : goal.returns-clause-grown
returns-clause-grown c =
    let m = c.args.parts.now in
    let k = c.args.kept.now in
    let n = with_type c.args.ty m in
    let typed = c.judge_grown-judged.new.meter in
    let at = (goal.at.returns-clause-grown c).After-without_last_type-before in
    let judged = judged_before m (before_is at) (pushed at) c.args.keep k typed c.judge_grown-judged.result c.judge_grown-judged.ensures in
    let longer = type_longer c.args.ty m k.pieces.sections.items c.requires.kept.pieces.sections in
    item_grown c.args.keep m n k typed longer _ c.in_ok-item.item _ _ c.in_ok-item.ensures refl refl c.requires.kept judged
    (c.keep_grown-grown.ensures c.args.keep (answers_of m) n typed)
