use Rattle.std.proofs.Common.{◌≡◌, ℕ, Bool, map, ap, sym, subst, ◌∙◌, refl, arith, List, length, Some, Ok}
use Rattle.std.proofs.lemmas.Result.{err_from_is_err_and}
use Rattle.wk_module.specs.declared.types.Func.{Func}
use Rattle.wk_module.specs.declared.types.Import.{Import}
use Rattle.wk_module.specs.declared.types.Kind.{Kind}
use Rattle.wk_module.specs.declared.types.Parts.{Parts}
use Rattle.wk_module.specs.Imports.{import_count}
use Rattle.wk_module.specs.ImportLaws.{import_count_le}
use Rattle.wk_module.specs.Items.{desc_kind}
use Rattle.wk_module.specs.MovedLaws.{types_stay}
use Rattle.wk_module.specs.Moving.{is_code_moving}
use Rattle.wk_module.specs.NumberedLaws.{funcs_numbered, module_numbered}
use Rattle.wk_module.specs.Shape.{IsFormed, settle}
use Rattle.wk_pieces.specs.Overlays.{with_items}
use Rattle.wk_session.specs.declared.edit.Edit.TheVariants as edits
use Rattle.wk_session.specs.declared.edit.Work.{Work}
use Rattle.wk_session.specs.Dependents.{work_of}
use Rattle.wk_session.specs.Edits.{import_place, made}
use Rattle.wk_session.specs.Imported.{after_import, IsImportPlan}
use Rattle.wk_session.specs.Kept.{IsKept}
use Rattle.wk_session.proofs.ImportEdits.{made_free}
use Rattle.wk_session.proofs.ImportOutcome.{unplanned, laid_parts, laid_refs}
use Rattle.wk_session.proofs.Keeping.{refs_count}
use Rattle.wk_session.proofs.Works.{few_counted, work_is}
use Rattle.wk_session.proofs.edits.import.add_import.Goals as goal
use Rattle.wk_session.proofs.edits.import.add_import.Goals.{After-import_count-from, In_ok-plan, After-put_import}

place : (c : After-import_count-from) → c.import_count-from.result ≡ import_place c.args.import.now c.args.parts.now
place c =
    c.import_count-from.ensures
    ∙ ap (λ (k : Kind). import_count k c.as_slice.result.now) c.kind-kind.ensures
    ∙ ap (λ (is : List Import). import_count (desc_kind c.args.import.now.desc) is) c.as_slice.ensures

pub overflow_cast-from : goal.overflow_cast-from
overflow_cast-from c =
    let m = c.args.parts.now in
    omega (
      arith,
      c.import_count-from.ensures,
      import_count_le c.kind-kind.result c.as_slice.result.now,
      ap length c.as_slice.ensures,
      (module_numbered m c.requires.shaped.formed).imports,
    )

pub returns-in_err-plan : goal.returns-in_err-plan
returns-in_err-plan c =
    let p = err_from_is_err_and c.from_residual.result c.from_residual.ensures.1 in
    let m = c.args.parts.now in
    rw (p.1, p.2) (
      λ some. unplanned c.args.keep c.args.import.now m c.kind-kind.result c.import_count-from.result c.in_err-plan.field-0.0 c.kind-kind.ensures
          (place (goal.at.returns-in_err-plan c).After-import_count-from) c.in_err-plan.ensures some,
      λ none. refl,
      refl,
      c.requires.kept,
    )

pub plan_import-requires-clause-few : goal.plan_import-requires-clause-few
plan_import-requires-clause-few c = funcs_numbered c.args.parts.now c.requires.shaped.formed

planned : (c : In_ok-plan) → c.import_count-from.result ≡ import_place c.args.import.now c.args.parts.now
    → IsImportPlan (desc_kind c.args.import.now.desc) (import_place c.args.import.now c.args.parts.now) c.args.parts.now c.in_ok-plan.plan
planned c at =
    let m = c.args.parts.now in
    let i = c.args.import.now in
    let told : IsImportPlan c.kind-kind.result c.import_count-from.result m c.in_ok-plan.plan = c.in_ok-plan.ensures in
    subst (λ (x : ℕ). IsImportPlan (desc_kind i.desc) x m c.in_ok-plan.plan) at
    (subst (λ (k : Kind). IsImportPlan k c.import_count-from.result m c.in_ok-plan.plan) c.kind-kind.ensures told)

pub overflow_cast-work : goal.overflow_cast-work
overflow_cast-work c =
    omega (arith, few_counted c.args.parts.now _ c.typed.result c.requires.shaped.formed (c.typed.ensures ∙ c.in_ok-judgement.ensures.typed))

pub put_import-requires-clause-refs : goal.put_import-requires-clause-refs
put_import-requires-clause-refs c =
    omega (arith, refs_count c.args.parts.now c.args.kept.now c.requires.kept, c.in_ok-plan.ensures.entries.ref_count)

pub put_import-requires-clause-moves : goal.put_import-requires-clause-moves
put_import-requires-clause-moves c =
    let moving : List Func → List Bool = map (λ f. is_code_moving c.kind-kind.result c.import_count-from.result f.body.instrs) in
    c.in_ok-plan.ensures.entries.moves ∙ sym (ap (λ (q : Parts). moving q.funcs) c.in_ok-judgement.ensures.ok)

kept_now : (c : After-put_import) → IsImportPlan (desc_kind c.args.import.now.desc)
    (import_place c.args.import.now c.args.parts.now) c.args.parts.now c.in_ok-plan.plan
    → IsKept (after_import c.args.import.now c.args.parts.now) c.put_import.new.kept
kept_now c plan =
    let i = c.args.import.now in
    let m = c.args.parts.now in
    let was = c.requires.kept in
    let put = c.put_import.ensures in
    let judged = c.in_ok-judgement.ensures.judgement in
    record {
      verdict = put.verdict ∙ judged.appraised.1;
      len = judged.appraised.2 ∙ ap Some (sym put.len);
      types = ap (λ v. v.items) put.types ∙ was.types ∙ sym (types_stay (desc_kind i.desc) (import_place i m) m.funcs);
      verdicts = ap (λ v. v.items) put.verdicts ∙ judged.verdicts;
      refs = laid_refs i m c.in_ok-plan.plan c.args.kept.now.refs.items c.put_import.new.kept.refs.items was.refs plan put.refs;
      pieces = record {
        sections = put.sections ∙ judged.sections;
        codes = put.codes ∙ ap (λ (codes : List (List ℕ)). with_items codes c.in_ok-plan.plan.entries.codes.items) was.pieces.codes ∙ plan.entries.codes;
        codes_len = put.codes_len ∙ judged.codes_len;
        customs_len = put.customs_len ∙ was.pieces.customs_len;
      };
    }

work_now : (c : After-put_import) → IsImportPlan (desc_kind c.args.import.now.desc)
    (import_place c.args.import.now c.args.parts.now) c.args.parts.now c.in_ok-plan.plan
    → ◌≡◌ {A = Work} (record { typed = c.typed.result; encoded = c.in_ok-plan.plan.entries.encoded; sections = c.in_ok-judgement.judgement.remade.made })
    (work_of (edits.Import c.args.import.now) c.args.parts.now (settle (after_import c.args.import.now c.args.parts.now)))
work_now c plan =
    let i = c.args.import.now in
    let m = c.args.parts.now in
    work_is c.typed.result c.in_ok-plan.plan.entries.encoded c.in_ok-judgement.judgement.remade.made (work_of (edits.Import i) m (settle (after_import i m)))
    (omega (arith, c.typed.ensures, c.in_ok-judgement.ensures.typed))
    (omega (arith, plan.entries.encoded))
    c.in_ok-judgement.ensures.judgement.made

pub returns : goal.returns
returns c =
    let i = c.args.import.now in
    let m = c.args.parts.now in
    let at = place (goal.at.returns c).After-import_count-from in
    let plan = planned (goal.at.returns c).In_ok-plan at in
    let judged = c.in_ok-judgement.ensures in
    let is = c.put_import.ensures.parts
    ∙ laid_parts c.moving_of_module.ensures.lists i m c.push_judged.new.parts c.in_ok-plan.plan c.kind-kind.result c.import_count-from.result
    c.kind-kind.ensures at judged.ok plan in
    subst (λ (q : Parts). (made c.args.keep (edits.Import i) m ≡ Ok (settle q))
    × (◌≡◌ {A = Work} (record {
      typed = c.typed.result;
      encoded = c.in_ok-plan.plan.entries.encoded;
      sections =
          c.in_ok-judgement.judgement.remade.made;
    }) (work_of (edits.Import i) m (settle q))) × IsFormed q × IsKept q c.put_import.new.kept)
    (sym is) (
      made_free c.args.keep i m plan.free ∙ judged.judgement.appraised.0,
      work_now (goal.at.returns c).After-put_import plan,
      judged.formed,
      kept_now (goal.at.returns c).After-put_import plan,
    )
