-- The sections that an import makes anew.
use Rattle.std.proofs.Common.{◌≡◌, ℕ, Bool, true, false, if◌then◌else◌, Option, Some, None, List, set, is_some, refl, sym, ap, ◌∙◌, arith}
use Rattle.wk_module.specs.declared.renumber.MovedLists.{MovedLists}
use Rattle.wk_module.specs.Sections.{SectionLists, of_number}
use Rattle.wk_module.specs.Writing.{contents_by}
use Rattle.wk_pieces.specs.declared.pieces.NewSections.{NewSections}
use Rattle.wk_pieces.specs.Pieces.{one_new, IsOneRemade}
use Rattle.wk_session.specs.Imported.{new_where, IsRemadeWhere, IsRemadeAfter}

put_where : (moved : Bool) (id : ℕ) (contents : List ℕ) (was now xs : List (Option (List ℕ)))
    → now ≡ (if moved then set was id (Some contents) else was) → was ≡ xs → set xs id None ≡ xs
    → now ≡ set xs id (new_where moved contents)
put_where true id contents was now xs is at none = is ∙ ap (λ (ys : List (Option (List ℕ))). set ys id (Some contents)) at
put_where false id contents was now xs is at none = is ∙ at ∙ sym none

pub remade_in_order : (l : SectionLists) (v : MovedLists) (a b c d e f : NewSections) → IsOneRemade 2 (contents_by l (of_number 2)) a
    → IsRemadeWhere l (is_some v.globals) 6 a b → IsRemadeWhere l (is_some v.exports) 7 b c
    → IsRemadeWhere l (is_some v.start) 8 c d → IsRemadeWhere l (is_some v.elems) 9 d e → IsRemadeWhere l (is_some v.datas) 11 e f → IsRemadeAfter l v f
remade_in_order l v a b c d e f first globals exports start elems datas =
    let contents : ℕ → List ℕ = λ id. contents_by l (of_number id) in
    let xs : List (Option (List ℕ)) = one_new 2 (contents 2) in
    let gs = put_where (is_some v.globals) 6 (contents 6) a.sections.items b.sections.items xs globals.sections first.sections refl in
    let with_globals = set xs 6 (new_where (is_some v.globals) (contents 6)) in
    let es = put_where (is_some v.exports) 7 (contents 7) b.sections.items c.sections.items with_globals exports.sections gs refl in
    let with_exports = set with_globals 7 (new_where (is_some v.exports) (contents 7)) in
    let ss = put_where (is_some v.start) 8 (contents 8) c.sections.items d.sections.items with_exports start.sections es refl in
    let with_start = set with_exports 8 (new_where (is_some v.start) (contents 8)) in
    let ls = put_where (is_some v.elems) 9 (contents 9) d.sections.items e.sections.items with_start elems.sections ss refl in
    let with_elems = set with_start 9 (new_where (is_some v.elems) (contents 9)) in
    record {
      sections = put_where (is_some v.datas) 11 (contents 11) e.sections.items f.sections.items with_elems datas.sections ls refl;
      made = omega (arith, first.made, globals.made, exports.made, start.made, elems.made, datas.made);
    }
