use Rattle.std.proofs.Common.{◌<◌, ◌^◌, ◌++◌, ℕ, [], ◌∷◌, ◌∙◌, length, length-append, sym, subst, refl, arith}
use Rattle.std.proofs.lemmas.Result.{err_from_is_err_and}
use Rattle.wk_module.specs.Changes.{with_type}
use Rattle.wk_module.specs.ShapeLaws.{types_formed}
use Rattle.wk_module.specs.Types.{written_functype}
use Rattle.wk_module.specs.Sections.{TypeSection}
use Rattle.wk_module.specs.Shape.{settle}
use Rattle.wk_module.specs.Writing.{list_contents}
use Rattle.wk_pieces.specs.Longer.{IsLonger}
use Rattle.wk_session.specs.declared.edit.Edit.TheVariants as edits
use Rattle.wk_session.proofs.Appending.{IsAddition, copy_long, pushed, too_long, uncopied, unpushed}
use Rattle.wk_session.proofs.Keeping.{room_kept}
use Rattle.wk_session.proofs.LongerLists.{alone_len, type_longer}
use Rattle.wk_session.proofs.Works.{codeless_work, few_counted}
use Rattle.wk_session.proofs.edits.func_type.add_type.Goals as goal
use Rattle.wk_session.proofs.edits.func_type.add_type.Goals.{After-len_beside-len}

pub len_beside-len-requires-clause-count : goal.len_beside-len-requires-clause-count
len_beside-len-requires-clause-count c = omega (arith, c.len-count.ensures, room_kept c.args.parts.now c.args.kept.now TypeSection c.requires.kept)

-- how long the module gets
added : (c : After-len_beside-len) → IsAddition (λ x. edits.Ty x) with_type c.args.keep c.args.ty.now c.args.parts.now c.args.kept.now
    c.len_beside-len.result
added c =
    let x = c.args.ty.now in
    let m = c.args.parts.now in
    let ps = c.args.kept.now.pieces.sections.items in
    let alone = list_contents written_functype (x ∷ []) in
    let longer = subst (λ (n : ℕ). IsLonger 1 n alone ps (with_type x m)) (sym c.len-count.ensures) (type_longer x m ps c.requires.kept.pieces.sections) in
    record {
      order = c.requires.shaped.formed.order;
      long = c.len_beside-len.ensures (with_type x m) alone refl refl longer (alone_len written_functype x c.type_len.result c.type_len.ensures);
      kept = c.requires.kept;
      makes = refl;
      decides = refl;
    }

pub returns-then-is_none : goal.returns-then-is_none
returns-then-is_none c = too_long (added (goal.at.returns-then-is_none c).After-len_beside-len) c.if-is_none.ensures

pub returns-in_err-ty : goal.returns-in_err-ty
returns-in_err-ty c =
    uncopied (added (goal.at.returns-in_err-ty c).After-len_beside-len) c.if-is_none.ensures c.from_residual.result
    (err_from_is_err_and c.from_residual.result c.from_residual.ensures.1)

pub push_type-requires-clause-len : goal.push_type-requires-clause-len
push_type-requires-clause-len c =
    copy_long (added (goal.at.push_type-requires-clause-len c).After-len_beside-len) c.in_ok-ty.ty c.in_ok-ty.ensures

pub returns-in_err-sections : goal.returns-in_err-sections
returns-in_err-sections c =
    let new = c.push_type.new in
    let result = c.from_residual-in_err-sections.result in
    unpushed (added (goal.at.returns-in_err-sections c).After-len_beside-len) c.in_ok-ty.ty c.in_ok-ty.ensures c.if-is_none.ensures
    new.parts new.kept new.meter 1 c.in_err-sections.field-0.0 result (err_from_is_err_and result c.from_residual-in_err-sections.ensures.1)
    c.in_err-sections.ensures.grown c.in_err-sections.ensures.err

pub overflow_cast-result : goal.overflow_cast-result
overflow_cast-result c =
    omega (arith, few_counted c.args.parts.now _ c.typed.result c.requires.shaped.formed (c.typed.ensures ∙ c.in_ok-sections.ensures.grown.2))

pub returns : goal.returns
returns c =
    let m = c.args.parts.now in
    let y = c.in_ok-ty.ty in
    let sections = c.in_ok-sections.sections in
    let grown = c.in_ok-sections.ensures.grown in
    let works = codeless_work (edits.Ty y) m (settle (with_type y m)) refl (λ f. refl) c.typed.result sections (c.typed.ensures ∙ grown.2) grown.3 in
    let room = room_kept m c.args.kept.now TypeSection c.requires.kept in
    let few_more : length (m.types ++ y ∷ []) < 2 ^ 32 = omega (arith, room, length-append m.types (y ∷ [])) in
    let new = c.push_type.new in
    pushed (added (goal.at.returns c).After-len_beside-len) y c.in_ok-ty.ensures new.parts new.kept new.meter sections 1 _ c.in_ok-sections.ensures.ok grown
    works (types_formed (m.types ++ y ∷ []) m few_more c.requires.shaped.formed)
