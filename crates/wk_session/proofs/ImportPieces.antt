-- The pieces of a module with an import more.
use Rattle.std.proofs.Common.{◌≡◌, ◌≢◌, ℕ, ◌+◌, Bool, true, false, Option, Some, None, unwrap_or, is_some, List, [], ◌∷◌, map, Err, refl, sym, subst}
use Rattle.std.proofs.Common.{ap, ◌∙◌, arith}
use Rattle.wk_body.specs.declared.fault.EncodeFault.{EncodeFault}
use Rattle.wk_body.specs.declared.fault.EncodeFault.TheVariants as encoding
use Rattle.wk_module.specs.declared.renumber.MovedLists.{MovedLists}
use Rattle.wk_module.specs.declared.types.Func.{Func}
use Rattle.wk_module.specs.declared.types.Import.{Import}
use Rattle.wk_module.specs.declared.types.Kind.{Kind}
use Rattle.wk_module.specs.declared.types.Parts.{Parts}
use Rattle.wk_module.specs.Items.{desc_kind}
use Rattle.wk_module.specs.Listed.{listed_with}
use Rattle.wk_module.specs.MovedLaws.{types_stay}
use Rattle.wk_module.specs.Moving.{instead, start_instead, some_if, start_if_moving, is_start_moving, moved_lists, moved_parts, with_lists}
use Rattle.wk_module.specs.Sections.{SectionLists, FunctionSection, GlobalSection, ExportSection, StartSection, ElementSection, DataSection}
use Rattle.wk_module.specs.Shape.{IsInOrderFrom}
use Rattle.wk_module.specs.Writing.{section_contents}
use Rattle.wk_pieces.specs.declared.pieces.NewSections.{NewSections}
use Rattle.wk_pieces.specs.Overlays.{with_items}
use Rattle.wk_pieces.specs.Pieces.{IsUnwritten, section_piece, section_pieces}
use Rattle.wk_session.specs.declared.edit.EditFault.TheVariants.{Memory}
use Rattle.wk_session.specs.Dependents.{one_if, sections_moving}
use Rattle.wk_session.specs.Edits.{import_place}
use Rattle.wk_session.specs.Imported.{after_import, new_where, news_after, IsRemadeAfter}
use Rattle.wk_session.specs.Kept.{standing}
use Rattle.wk_session.specs.Refusals.{encode_refusal}
use Rattle.wk_session.proofs.ImportEdits.{AreLaid}
use Rattle.wk_session.proofs.Oversized.{section_large}

-- ---- sections

-- a section whose list moves, or stays
piece_after : {A : Type 0} (f : A → List ℕ) (v : Option A) (was now : A) → instead v was ≡ now → unwrap_or (new_where (is_some v) (f now)) (f was) ≡ f now
piece_after f None was now is = ap f is
piece_after f (Some y) was now is = refl

start_after : (f : Option ℕ → List ℕ) (v was now : Option ℕ) → start_instead v was ≡ now → unwrap_or (new_where (is_some v) (f now)) (f was) ≡ f now
start_after f None was now is = ap f is
start_after f (Some y) was now is = refl

-- all of them are those of the module
laid_pieces : AreLaid → (i : Import) (m : Parts) (v : MovedLists) → v ≡ moved_lists (desc_kind i.desc) (import_place i m) m
    → with_items (section_pieces m) (news_after (listed_with (map (λ (f : Func). f.ty) (after_import i m).funcs) (after_import i m)) v)
    ≡ section_pieces (after_import i m)
laid_pieces laid i m v lists =
    let kind = desc_kind i.desc in
    let from = import_place i m in
    let n : Parts = after_import i m in
    let is : with_lists v m ≡ record (moved_parts kind from m) { funcs = m.funcs } = ap (λ (w : MovedLists). with_lists w m) lists ∙ laid kind from m in
    let all : List ℕ → List ℕ → List ℕ → List ℕ → List ℕ → List ℕ → List (List ℕ) = λ funcs globals exports start elems datas.
    [] ∷ section_piece 1 m ∷ section_piece 2 n ∷ funcs ∷ section_piece 4 m ∷ section_piece 5 m ∷ globals ∷ exports ∷ start ∷ elems ∷ [] ∷ datas ∷ [] in
    let funcs : section_piece 3 m ≡ section_piece 3 n = ap (λ (ts : List ℕ). section_contents FunctionSection ts) (sym (types_stay kind from m.funcs)) in
    let globals = piece_after (λ gs. section_contents GlobalSection gs) v.globals m.globals n.globals (ap (λ (q : Parts). q.globals) is) in
    let exports = piece_after (λ es. section_contents ExportSection es) v.exports m.exports n.exports (ap (λ (q : Parts). q.exports) is) in
    let start = start_after (λ s. section_contents StartSection s) v.start m.start n.start (ap (λ (q : Parts). q.start) is) in
    let elems = piece_after (λ es. section_contents ElementSection es) v.elems m.elems n.elems (ap (λ (q : Parts). q.elems) is) in
    let datas = piece_after (λ ds. section_contents DataSection ds) v.datas m.datas n.datas (ap (λ (q : Parts). q.datas) is) in
    let was_globals = unwrap_or (new_where (is_some v.globals) (section_piece 6 n)) (section_piece 6 m) in
    let was_exports = unwrap_or (new_where (is_some v.exports) (section_piece 7 n)) (section_piece 7 m) in
    let was_start = unwrap_or (new_where (is_some v.start) (section_piece 8 n)) (section_piece 8 m) in
    let was_elems = unwrap_or (new_where (is_some v.elems) (section_piece 9 n)) (section_piece 9 m) in
    let was_datas = unwrap_or (new_where (is_some v.datas) (section_piece 11 n)) (section_piece 11 m) in
    ap (λ (b : List ℕ). all b was_globals was_exports was_start was_elems was_datas) funcs
    ∙ ap (λ (b : List ℕ). all (section_piece 3 n) b was_exports was_start was_elems was_datas) globals
    ∙ ap (λ (b : List ℕ). all (section_piece 3 n) (section_piece 6 n) b was_start was_elems was_datas) exports
    ∙ ap (λ (b : List ℕ). all (section_piece 3 n) (section_piece 6 n) (section_piece 7 n) b was_elems was_datas) start
    ∙ ap (λ (b : List ℕ). all (section_piece 3 n) (section_piece 6 n) (section_piece 7 n) (section_piece 8 n) b was_datas) elems
    ∙ ap (λ (b : List ℕ). all (section_piece 3 n) (section_piece 6 n) (section_piece 7 n) (section_piece 8 n) (section_piece 9 n) b) datas

pub pieces_after : AreLaid → (i : Import) (m : Parts) (v : MovedLists) (l : SectionLists) (r : NewSections) (pieces : List (List ℕ))
    → v ≡ moved_lists (desc_kind i.desc) (import_place i m) m
    → l ≡ listed_with (map (λ (f : Func). f.ty) (after_import i m).funcs) (after_import i m) → IsRemadeAfter l v r → pieces ≡ section_pieces m
    → with_items pieces r.sections.items ≡ section_pieces (after_import i m)
pieces_after laid i m v l r pieces lists lent made kept =
    ap (λ (ps : List (List ℕ)). with_items ps r.sections.items) kept
    ∙ ap (λ (news : List (Option (List ℕ))). with_items (section_pieces m) news) (made.sections ∙ ap (λ (w : SectionLists). news_after w v) lent)
    ∙ laid_pieces laid i m v lists

-- ---- how many are made anew

some_moves : {A : Type 0} (moves : Bool) (x : A) → one_if (is_some (some_if moves x)) ≡ one_if moves
some_moves true x = refl
some_moves false x = refl

start_moves : (kind : Kind) (from : ℕ) (start : Option ℕ) → one_if (is_some (start_if_moving kind from start)) ≡ one_if (is_start_moving kind from start)
start_moves kind from None = refl
start_moves kind from (Some x) = some_moves _ _

pub made_after : (kind : Kind) (from : ℕ) (m : Parts) (v : MovedLists) (l : SectionLists) (r : NewSections) → v ≡ moved_lists kind from m
    → IsRemadeAfter l v r → r.made ≡ 1 + sections_moving kind from m
made_after kind from m v l r lists made =
    let globals = ap (λ (w : MovedLists). one_if (is_some w.globals)) lists ∙ some_moves _ _ in
    let exports = ap (λ (w : MovedLists). one_if (is_some w.exports)) lists ∙ some_moves _ _ in
    let start = ap (λ (w : MovedLists). one_if (is_some w.start)) lists ∙ start_moves kind from m.start in
    let elems = ap (λ (w : MovedLists). one_if (is_some w.elems)) lists ∙ some_moves _ _ in
    let datas = ap (λ (w : MovedLists). one_if (is_some w.datas)) lists ∙ some_moves _ _ in
    omega (arith, made.made, globals, exports, start, elems, datas)

-- ---- refusals

pub unwritten : (keep : Bool) (n : Parts) (l : SectionLists) (e : EncodeFault) → IsInOrderFrom 0 n.customs
    → l ≡ listed_with (map (λ (f : Func). f.ty) n.funcs) n → IsUnwritten l e
    → encode_refusal e ≢ Memory → standing keep n ≡ Err (encode_refusal e)
unwritten keep n l encoding.TooLarge order lent why some =
    let long : IsUnwritten (listed_with (map (λ (f : Func). f.ty) n.funcs) n) encoding.TooLarge =
    subst (λ (w : SectionLists). IsUnwritten w encoding.TooLarge) lent why in
    let found = long (λ same. absurd cc) in
    section_large keep found.0 n order found.1
unwritten keep n l encoding.Memory order lent why some = absurd (some refl)
