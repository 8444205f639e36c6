-- What an import comes to: why it is refused, or what is left of the module and beside it.
use Rattle.std.proofs.Common.{◌≡◌, ℕ, Bool, List, map, Err, Global, ap, sym, subst, ◌∙◌}
use Rattle.std.specs.Prelude.{◌≢◌, option_map}
use Rattle.std.specs.declared.collections.BTreeSet.{BTreeSet}
use Rattle.wk_body.specs.declared.references.Ref.{Ref}
use Rattle.wk_module.specs.declared.renumber.MovedLists.{MovedLists}
use Rattle.wk_module.specs.declared.types.Import.{Import}
use Rattle.wk_module.specs.declared.types.Kind.{Kind}
use Rattle.wk_module.specs.declared.types.Parts.{Parts}
use Rattle.wk_module.specs.Changes.{with_import}
use Rattle.wk_module.specs.Items.{desc_kind}
use Rattle.wk_module.specs.Moving.{moved_func, with_lists}
use Rattle.wk_pieces.specs.Overlays.{with_items}
use Rattle.wk_pieces.proofs.Replacing.{map-with_items}
use Rattle.wk_session.specs.declared.edit.Edit.TheVariants as edits
use Rattle.wk_session.specs.declared.edit.EditFault.{EditFault}
use Rattle.wk_session.specs.declared.edit.EditFault.TheVariants.{Memory}
use Rattle.wk_session.specs.declared.edits.import.ImportPlan.{ImportPlan}
use Rattle.wk_session.specs.Edits.{import_place, made}
use Rattle.wk_session.specs.Imported.{after_import, IsImportPlan, IsUnplanned}
use Rattle.wk_session.specs.Kept.{uses_of}
use Rattle.wk_session.proofs.ImportEdits.{AreLaid, made_stuck}
use Rattle.wk_session.proofs.MovedCode.{set_keys}

-- ---- refusals

pub unplanned : (keep : Bool) (i : Import) (m : Parts) (kind : Kind) (from : ℕ) (e : EditFault) → kind ≡ desc_kind i.desc → from ≡ import_place i m
    → IsUnplanned kind from m e → e ≢ Memory
    → made keep (edits.Import i) m ≡ Err e
unplanned keep i m kind from e is_kind is_from why some =
    let here : IsUnplanned (desc_kind i.desc) (import_place i m) m e =
    subst (λ (x : ℕ). IsUnplanned (desc_kind i.desc) x m e) is_from (subst (λ (k : Kind). IsUnplanned k from m e) is_kind why) in
    made_stuck keep i m (here some).1 ∙ ap Err (sym (here some).0)

-- ---- what is left

-- the parts, with what moved in its place
pub laid_parts : AreLaid → (i : Import) (m p : Parts) (plan : ImportPlan) (kind : Kind) (from : ℕ) → kind ≡ desc_kind i.desc → from ≡ import_place i m
    → p ≡ with_import i m → IsImportPlan (desc_kind i.desc) (import_place i m) m plan
    → record (with_lists plan.lists p) { funcs = map (moved_func kind from) p.funcs } ≡ after_import i m
laid_parts laid i m p plan kind from is_kind is_from pushed planned =
    let here = desc_kind i.desc in
    let place = import_place i m in
    let funcs = map (moved_func here place) m.funcs in
    ap (λ (k : Kind). record (with_lists plan.lists p) { funcs = map (moved_func k from) p.funcs }) is_kind
    ∙ ap (λ (x : ℕ). record (with_lists plan.lists p) { funcs = map (moved_func here x) p.funcs }) is_from
    ∙ ap (λ (q : Parts). record (with_lists plan.lists q) { funcs = map (moved_func here place) q.funcs }) pushed
    ∙ ap (λ (v : MovedLists). with_import i (record (with_lists v m) { funcs = funcs })) planned.lists
    ∙ ap (λ (q : Parts). with_import i (record q { funcs = funcs })) (laid here place m)

-- what functions refer to, with the sets of those that moved in their places
pub laid_refs : (i : Import) (m : Parts) (plan : ImportPlan) (sets now : List (BTreeSet Ref Global)) → map set_keys sets ≡ map uses_of m.funcs
    → IsImportPlan (desc_kind i.desc) (import_place i m) m plan
    → now ≡ with_items sets plan.entries.refs.items → map set_keys now ≡ map uses_of (after_import i m).funcs
laid_refs i m plan sets now were planned is =
    let news = plan.entries.refs.items in
    ap (map set_keys) is
    ∙ map-with_items set_keys sets news
    ∙ ap (λ (xs : List (List Ref)). with_items xs (map (option_map set_keys) news)) were
    ∙ planned.entries.refs
