use Rattle.std.proofs.Common.{sym, ◌∙◌, refl}
use Rattle.std.proofs.lemmas.Result.{IfOk-weaker, on_ok_weaker}
use Rattle.wk_body.specs.declared.renumber.Moving.TheVariants as moving
use Rattle.wk_module.specs.declared.types.Kind.TheVariants as kinds
use Rattle.wk_module.specs.Imports.{import_count}
use Rattle.wk_check.specs.SpacesLaws.{func_import_moves, global_import_moves, table_import_grows, memory_import_grows}
use Rattle.wk_session.specs.Imported.{before_import}
use Rattle.wk_session.proofs.ImportEdits.{funcs_few, grows_beside, retypes_none, typed_beside, verdicts_beside, verdicts_stay}
use Rattle.wk_session.proofs.edits.import.verdicts_after.Goals as goal

pub verdicts_beside-requires-clause-few : goal.verdicts_beside-requires-clause-few
verdicts_beside-requires-clause-few c = funcs_few c.args.import.now (before_import c.args.basis.parts.now) c.requires.ready.formed

pub verdicts_beside-requires-clause-grows : goal.verdicts_beside-requires-clause-grows
verdicts_beside-requires-clause-grows c =
    let i = c.args.import.now in
    let m = before_import c.args.basis.parts.now in
    grows_beside i m _ c.in-Table.is _ c.requires.lists (table_import_grows m i _ (import_count kinds.Table m.imports) c.in-Table.is)

pub verdicts_beside-requires-in-Memory-clause-few : goal.verdicts_beside-requires-in-Memory-clause-few
verdicts_beside-requires-in-Memory-clause-few c = funcs_few c.args.import.now (before_import c.args.basis.parts.now) c.requires.ready.formed

pub verdicts_beside-requires-in-Memory-clause-grows : goal.verdicts_beside-requires-in-Memory-clause-grows
verdicts_beside-requires-in-Memory-clause-grows c =
    let i = c.args.import.now in
    let m = before_import c.args.basis.parts.now in
    grows_beside i m _ c.in-Memory.is _ c.requires.lists (memory_import_grows m i _ (import_count kinds.Memory m.imports) c.in-Memory.is)

pub returns-in-Func-clause-verdicts : goal.returns-in-Func-clause-verdicts
returns-in-Func-clause-verdicts c =
    let i = c.args.import.now in
    let m = before_import c.args.basis.parts.now in
    c.requires.ready.kept.verdicts
    ∙ sym (verdicts_stay i m _ c.in-Func.is c.verdicts_that_keep.ensures.moved moving.Func (λ f. refl)
    (func_import_moves m i _ c.in-Func.is) (λ t. refl))

pub returns-in-Func-clause-typed : goal.returns-in-Func-clause-typed
returns-in-Func-clause-typed c =
    let i = c.args.import.now in
    let m = before_import c.args.basis.parts.now in
    c.requires.fresh ∙ sym (retypes_none i m _ c.in-Func.is (func_import_moves m i _ c.in-Func.is))

pub returns-in-Global-clause-verdicts : goal.returns-in-Global-clause-verdicts
returns-in-Global-clause-verdicts c =
    let i = c.args.import.now in
    let m = before_import c.args.basis.parts.now in
    c.requires.ready.kept.verdicts
    ∙ sym (verdicts_stay i m _ c.in-Global.is c.verdicts_that_keep.ensures.moved moving.Global (λ f. refl)
    (global_import_moves m i _ c.in-Global.is) (λ t. refl))

pub returns-in-Global-clause-typed : goal.returns-in-Global-clause-typed
returns-in-Global-clause-typed c =
    let i = c.args.import.now in
    let m = before_import c.args.basis.parts.now in
    c.requires.fresh ∙ sym (retypes_none i m _ c.in-Global.is (global_import_moves m i _ c.in-Global.is))

pub returns-in-Table-clause-verdicts : goal.returns-in-Table-clause-verdicts
returns-in-Table-clause-verdicts c =
    let m = before_import c.args.basis.parts.now in
    let same = verdicts_beside c.args.import.now m _ c.in-Table.is _ c.requires.lists (λ f. refl) in
    IfOk-weaker c.verdicts_beside.result _ _ (λ v e. e ∙ same) c.verdicts_beside.ensures.verdicts

pub returns-in-Table-clause-typed : goal.returns-in-Table-clause-typed
returns-in-Table-clause-typed c =
    let m = before_import c.args.basis.parts.now in
    let same = typed_beside c.args.import.now m _ c.in-Table.is _ c.requires.lists refl in
    on_ok_weaker c.verdicts_beside.result (λ e. e ∙ same) c.verdicts_beside.ensures.typed

pub returns-in-Memory-clause-verdicts : goal.returns-in-Memory-clause-verdicts
returns-in-Memory-clause-verdicts c =
    let m = before_import c.args.basis.parts.now in
    let same = verdicts_beside c.args.import.now m _ c.in-Memory.is _ c.requires.lists (λ f. refl) in
    IfOk-weaker c.verdicts_beside-in-Memory.result _ _ (λ v e. e ∙ same) c.verdicts_beside-in-Memory.ensures.verdicts

pub returns-in-Memory-clause-typed : goal.returns-in-Memory-clause-typed
returns-in-Memory-clause-typed c =
    let m = before_import c.args.basis.parts.now in
    let same = typed_beside c.args.import.now m _ c.in-Memory.is _ c.requires.lists refl in
    on_ok_weaker c.verdicts_beside-in-Memory.result (λ e. e ∙ same) c.verdicts_beside-in-Memory.ensures.typed
