-- A valid module to which one item comes: its verdict is what is wrong with that item.
use Rattle.std.proofs.Common.{◌≡◌, ℕ, zero, suc, ◌+◌, ◌<◌, ◌≤◌, Bool, true, false, ◌||◌, if◌then◌else◌, List, [], ◌∷◌, ◌++◌, length, map, take, drop, Option}
use Rattle.std.proofs.Common.{Some, None, refl, sym, ap, subst, ◌∙◌, arith, length-append}
use Rattle.std.proofs.Math.Nat.{zero-add}
use Rattle.std.proofs.lemmas.Bool.{lt-ltb, le-ltb}
use Rattle.std.proofs.lemmas.List.{length-map, map_push}
use Rattle.std.proofs.lemmas.List.Folds.{list_any-append}
use Rattle.std.specs.Prelude.{slice_get, option_map, remove}
use Rattle.std.specs.List.{AllByRecursion, list_any}
use Rattle.std.specs.Str.{bytes_eq}
use Rattle.wk_bytes.specs.LebLaws.{some_is}
use Rattle.wk_body.specs.declared.references.Ref.{Ref}
use Rattle.wk_body.specs.declared.references.Ref.TheVariants as refs
use Rattle.wk_body.specs.Bodies.{BodyOf}
use Rattle.wk_body.specs.Tree.{Instrs}
use Rattle.wk_module.specs.declared.types.FuncType.{FuncType}
use Rattle.wk_module.specs.declared.types.Func.{Func}
use Rattle.wk_module.specs.declared.types.GlobalType.{GlobalType}
use Rattle.wk_module.specs.declared.types.GlobalDef.{GlobalDef}
use Rattle.wk_module.specs.declared.types.Export.{Export}
use Rattle.wk_module.specs.declared.types.Parts.{Parts}
use Rattle.wk_module.specs.Changes.{with_type, with_func, first_given, with_body, with_global, with_export}
use Rattle.wk_module.specs.Sections.{SectionLists}
use Rattle.wk_module.specs.Shape.{lists_of}
use Rattle.wk_typing.specs.declared.fault.FaultKind.TheVariants.{UnknownType, DuplicateExport}
use Rattle.wk_typing.specs.declared.fault.Flaw.{Flaw}
use Rattle.wk_typing.specs.declared.fault.Verdict.TheVariants.{Valid}
use Rattle.wk_typing.specs.Answers.{Found}
use Rattle.wk_typing.specs.Constants.{constant_flaw}
use Rattle.wk_typing.specs.Finds.{Grows}
use Rattle.wk_check.specs.Flaws.{numbered, first_in, first_fault, verdict_by, AreFine, IsVerdictOn}
use Rattle.wk_check.specs.Growth.{StaysWithout, HasValidBodies, VerdictsStay, ReferencesStay}
use Rattle.wk_typing.specs.Faults.{body_flaw}
use Rattle.wk_check.specs.Items.{earlier, flaw, unless, within, type_flaw, global_flaw, export_flaw, index_flaw, start_flaws, elem_flaw, data_flaw}
use Rattle.wk_check.specs.Spaces.{Spaces, answer_in, spaces_of, initial_spaces, global_found, imported, func_in, global_in}
use Rattle.wk_check.specs.SpacesLaws.{answers_of, type_grows, func_grows, global_grows}
use Rattle.wk_typing.specs.Typing.{body_verdict}
use Rattle.wk_check.specs.Verdict.{type_flaws, import_flaws, func_flaws, table_flaws, memory_flaws, global_flaws, export_flaws, elem_flaws, code_flaws}
use Rattle.wk_check.specs.Verdict.{data_flaws, flaws_before_code, func_verdict, module_verdict, module_flaws}
use Rattle.wk_check.proofs.FlawLists.{none_in, none_from, first_behind, first_alone, first_last, numbered_push, length-numbered, behind, numbered_behind}
use Rattle.wk_check.proofs.FlawLists.{behind_push, length-behind, without_one}
use Rattle.wk_check.proofs.Flaws.{module_flaws_are, module_verdict_told}
use Rattle.wk_check.proofs.Valid.{both_none, none_both, IsFine, by_sections}
use Rattle.wk_check.proofs.LargerSpaces.{IsIn, imports_fine, funcs_fine, globals_fine, valid_bodies, bodies_agree, bodies_stay, codes_fine, exports_fine}
use Rattle.wk_check.proofs.LargerSpaces.{start_fine, elems_fine, datas_fine}

-- ---- modules by their sections

pub valid_fine : (m : Parts) → module_verdict m ≡ Valid → IsFine m
valid_fine m valid = by_sections m (subst (IsVerdictOn (module_flaws m)) valid (module_verdict_told m))

-- where something may be wrong with one section alone
verdict_of_section : (m : Parts) (front : List (List (Option Flaw))) (ws : List (Option Flaw)) (back : List (List (Option Flaw)))
    → module_flaws m ≡ front ++ ws ∷ back → AllByRecursion AreFine front → AllByRecursion AreFine back
    → module_verdict m ≡ verdict_by (first_in (1 + length front) 0 ws)
verdict_of_section m front ws back are fine_front fine_back =
    sym (module_flaws_are m)
    ∙ ap verdict_by (ap (first_fault 1) are ∙ first_behind 1 front (ws ∷ back) fine_front ∙ first_alone (1 + length front) ws back fine_back)

-- one item more in a section
pub pushed_in : (section : ℕ) (ws vs : List (Option Flaw)) (w : Option Flaw) (n : ℕ) → vs ≡ ws ++ w ∷ [] → length ws ≡ n → AreFine ws
    → first_in section 0 vs ≡ first_in section n (w ∷ [])
pushed_in section ws vs w n are many fine =
    ap (first_in section 0) are ∙ first_last section 0 ws w fine ∙ ap (λ k. first_in section k (w ∷ [])) (zero-add (length ws) ∙ many)

length_le : {X : Type 0} (xs : List X) (x : X) → length xs ≤ length (xs ++ x ∷ [])
length_le xs x = omega (arith, length-append xs (x ∷ []))

-- initialisers see what they saw, where nothing is imported
initial_grows : (l k : SectionLists) → k.imports ≡ l.imports → Grows (answer_in (spaces_of l)) (answer_in (spaces_of k))
    → Grows (answer_in (initial_spaces l)) (answer_in (initial_spaces k))
initial_grows l k same grows (refs.Ty x) h = grows (refs.Ty x) h
initial_grows l k same grows (refs.Func x) h = grows (refs.Func x) h
initial_grows l k same grows (refs.Global x) h = ap (λ is. global_found (slice_get (imported global_in is) x)) same
initial_grows l k same grows refs.Table h = grows refs.Table h
initial_grows l k same grows refs.Memory h = grows refs.Memory h

-- what refers to the spaces of a valid module has no flaw in larger ones: exports, the start function, segments and codes
uses_fine : (m : Parts) (t : Spaces) → IsFine m → IsIn (spaces_of (lists_of m)) t
    → AllByRecursion AreFine
    (numbered (λ item e. export_flaw t (take item m.exports) e) 0 m.exports ∷ start_flaws t m.start ∷ numbered (λ item e. elem_flaw t e) 0 m.elems
    ∷ map body_flaw (map (func_verdict (answer_in t)) m.funcs) ∷ numbered (λ item d. data_flaw t d) 0 m.datas ∷ [])
uses_fine m t fine larger =
    let s = spaces_of (lists_of m) in (
      exports_fine s t larger m.exports fine.exports,
      (
        start_fine s t larger m.start fine.start,
        (elems_fine s t larger m.elems fine.elems, (codes_fine _ _ larger.found m.funcs fine.codes, (datas_fine s t larger m.datas fine.datas, tt))),
      ),
    )

-- ---- a type comes

pub valid_with_type : (m : Parts) (t : FuncType) → module_verdict m ≡ Valid
    → module_verdict (with_type t m) ≡ verdict_by (first_in 1 (length m.types) (type_flaw m.profile t ∷ []))
valid_with_type m t valid =
    let n = with_type t m in
    let fine = valid_fine m valid in
    let l = lists_of m in
    let k = lists_of n in
    let s = spaces_of l in
    let r = spaces_of k in
    let rule : ℕ → FuncType → Option Flaw = λ i ty. type_flaw m.profile ty in
    let larger : IsIn s r = record { found = type_grows m t; funcs = omega arith; tables = omega arith; memories = omega arith; globals = omega arith } in
    let globals = globals_fine _ _ (initial_grows l k refl larger.found) m.globals fine.globals in
    verdict_of_section n [] _ _ refl tt (
      imports_fine m.types k.types m.imports (length_le m.types t) fine.imports,
      (funcs_fine m.types k.types l.funcs (length_le m.types t) fine.funcs, (fine.tables, (fine.memories, (globals, uses_fine m r fine larger)))),
    )
    ∙ ap verdict_by (pushed_in 1 (numbered rule 0 m.types) _ _ (length m.types) (numbered_push rule 0 m.types t) (length-numbered rule 0 m.types) fine.types)

-- ---- a function comes

pub valid_with_func : (m : Parts) (t : ℕ) (b : BodyOf) → module_verdict m ≡ Valid
    → module_verdict (with_func t b m)
    ≡ verdict_by (earlier (first_in 3 (length m.funcs) (within UnknownType m.types t ∷ []))
    (first_in 10 (length m.funcs) (body_flaw (body_verdict (answers_of (with_func t b m)) t b) ∷ [])))
valid_with_func m t b valid =
    let n = with_func t b m in
    let f : Func = record { ty = t; body = b } in
    let fine = valid_fine m valid in
    let l = lists_of m in
    let k = lists_of n in
    let s = spaces_of l in
    let r = spaces_of k in
    let typed : ℕ → ℕ → Option Flaw = λ i x. within UnknownType m.types x in
    let own = func_verdict (answers_of n) in
    let back = table_flaws k ∷ memory_flaws k ∷ global_flaws k ∷ export_flaws k ∷ start_flaws r m.start ∷ elem_flaws k ∷ [] in
    let types_are : k.funcs ≡ l.funcs ++ t ∷ [] = map_push (λ (g : Func). g.ty) m.funcs f in
    let more : length s.funcs ≤ length r.funcs =
    omega (
      arith,
      length-append (imported func_in m.imports) l.funcs,
      length-append (imported func_in m.imports) k.funcs,
      ap (λ (xs : List ℕ). length xs) types_are,
      length-append l.funcs (t ∷ []),
    ) in
    let larger : IsIn s r = record { found = func_grows m t b; funcs = more; tables = omega arith; memories = omega arith; globals = omega arith } in
    let uses = uses_fine m r fine larger in
    let fine_back : AllByRecursion AreFine back = (
      fine.tables,
      (
        fine.memories,
        (globals_fine _ _ (initial_grows l k refl larger.found) m.globals fine.globals, (uses.0, (uses.1.0, (uses.1.1.0, tt)))),
      ),
    ) in
    sym (module_flaws_are n)
    ∙ ap verdict_by (
    first_behind 1 (type_flaws m.profile k ∷ import_flaws k ∷ []) (func_flaws k ∷ back ++ code_flaws k n.funcs ∷ data_flaws k ∷ [])
    (fine.types, (fine.imports, tt))
    ∙ ap (earlier (first_in 3 0 (func_flaws k)))
    (first_behind 4 back (code_flaws k n.funcs ∷ data_flaws k ∷ []) fine_back ∙ first_alone 10 (code_flaws k n.funcs) (data_flaws k ∷ []) uses.1.1.1.1)
    ∙ ap (λ o. earlier o (first_in 10 0 (code_flaws k n.funcs)))
    (pushed_in 3 (func_flaws l) _ _ (length m.funcs) (ap (numbered typed 0) types_are ∙ numbered_push typed 0 l.funcs t)
    (length-numbered typed 0 l.funcs ∙ length-map m.funcs (λ (g : Func). g.ty)) fine.funcs)
    ∙ ap (earlier (first_in 3 (length m.funcs) (within UnknownType m.types t ∷ [])))
    (pushed_in 10 (code_flaws k m.funcs) _ _ (length m.funcs)
    (ap (map body_flaw) (map_push own m.funcs f) ∙ map_push body_flaw (map own m.funcs) (own f))
    (length-map (map own m.funcs) body_flaw ∙ length-map m.funcs own) uses.1.1.1.0)
    )

-- whose type is not there, or is
pub func_of_no_type : (m : Parts) (t : ℕ) (b : BodyOf) → module_verdict m ≡ Valid → length m.types ≤ t
    → module_verdict (with_func t b m) ≡ verdict_by (first_in 3 (length m.funcs) (flaw UnknownType ∷ []))
func_of_no_type m t b valid beyond =
    valid_with_func m t b valid
    ∙ ap (λ w. verdict_by (earlier (first_in 3 (length m.funcs) (unless UnknownType w ∷ []))
    (first_in 10 (length m.funcs) (body_flaw (body_verdict (answers_of (with_func t b m)) t b) ∷ [])))) (le-ltb t (length m.types) beyond)

pub func_of_type : (m : Parts) (t : ℕ) (b : BodyOf) → module_verdict m ≡ Valid → t < length m.types
    → module_verdict (with_func t b m) ≡ verdict_by (first_in 10 (length m.funcs) (body_flaw (body_verdict (answers_of (with_func t b m)) t b) ∷ []))
func_of_type m t b valid inside =
    valid_with_func m t b valid
    ∙ ap (λ w. verdict_by (earlier (first_in 3 (length m.funcs) (unless UnknownType w ∷ []))
    (first_in 10 (length m.funcs) (body_flaw (body_verdict (answers_of (with_func t b m)) t b) ∷ [])))) (lt-ltb t (length m.types) inside)

-- ---- a global comes

pub valid_with_global : (m : Parts) (t : GlobalType) (e : Instrs) → module_verdict m ≡ Valid
    → module_verdict (with_global t e m) ≡ verdict_by (first_in 6 (length m.globals) (constant_flaw (answer_in (initial_spaces (lists_of m))) t.val e ∷ []))
valid_with_global m t e valid =
    let n = with_global t e m in
    let g : GlobalDef = record { ty = t; init = e } in
    let fine = valid_fine m valid in
    let l = lists_of m in
    let k = lists_of n in
    let s = spaces_of l in
    let r = spaces_of k in
    let own : List GlobalType = map (λ (d : GlobalDef). d.ty) m.globals in
    let rule : ℕ → GlobalDef → Option Flaw = λ i d. global_flaw (answer_in (initial_spaces l)) d in
    let more : length s.globals ≤ length r.globals =
    omega (
      arith,
      length-append (imported global_in m.imports) own,
      length-append (imported global_in m.imports) (map (λ (d : GlobalDef). d.ty) n.globals),
      ap (λ (xs : List GlobalType). length xs) (map_push (λ (d : GlobalDef). d.ty) m.globals g),
      length-append own (t ∷ []),
    ) in
    let larger : IsIn s r = record { found = global_grows m t e; funcs = omega arith; tables = omega arith; memories = omega arith; globals = more } in
    verdict_of_section n (type_flaws m.profile k ∷ import_flaws k ∷ func_flaws k ∷ table_flaws k ∷ memory_flaws k ∷ []) _ _ refl
    (fine.types, (fine.imports, (fine.funcs, (fine.tables, (fine.memories, tt))))) (uses_fine m r fine larger)
    ∙ ap verdict_by (pushed_in 6 (numbered rule 0 m.globals) _ _ (length m.globals) (numbered_push rule 0 m.globals g)
    (length-numbered rule 0 m.globals) fine.globals)

-- ---- an export comes, or goes

abbrev named : Spaces → List Export → Export → Option Flaw
named s before e = export_flaw s before e

pub valid_with_export : (m : Parts) (e : Export) → module_verdict m ≡ Valid
    → module_verdict (with_export e m) ≡ verdict_by (first_in 7 (length m.exports) (export_flaw (spaces_of (lists_of m)) m.exports e ∷ []))
valid_with_export m e valid =
    let n = with_export e m in
    let fine = valid_fine m valid in
    let k = lists_of n in
    let rule = named (spaces_of (lists_of m)) in
    let before : export_flaws (lists_of m) ≡ behind rule [] m.exports = numbered_behind rule [] m.exports m.exports refl in
    let now : export_flaws k ≡ behind rule [] m.exports ++ rule m.exports e ∷ [] =
    numbered_behind rule [] n.exports n.exports refl ∙ behind_push rule [] m.exports e in
    verdict_of_section n (type_flaws m.profile k ∷ import_flaws k ∷ func_flaws k ∷ table_flaws k ∷ memory_flaws k ∷ global_flaws k ∷ []) _ _ refl
    (fine.types, (fine.imports, (fine.funcs, (fine.tables, (fine.memories, (fine.globals, tt))))))
    (fine.start, (fine.elems, (fine.codes, (fine.datas, tt))))
    ∙ ap verdict_by (pushed_in 7 (behind rule [] m.exports) _ _ (length m.exports) now (length-behind rule [] m.exports) (subst AreFine before fine.exports))

any_fewer : (test : Export → Bool) (front : List Export) (y : Export) (back : List Export) → list_any test (front ++ y ∷ back) ≡ false
    → list_any test (front ++ back) ≡ false
any_fewer test front y back e =
    let p = parts (list_any test front) (test y) (list_any test back) (sym (list_any-append test front (y ∷ back)) ∙ e) in
    list_any-append test front back ∙ p
  where
    parts : (a b c : Bool) → (a || (b || c)) ≡ false → (a || c) ≡ false
    parts true b c e = e
    parts false true c e = absurd cc
    parts false false c e = e

unnamed : (b : Bool) → (if b then flaw DuplicateExport else None) ≡ None → b ≡ false
unnamed true e = absurd cc
unnamed false e = refl

fewer_names : (s : Spaces) (front : List Export) (y : Export) (back : List Export) (e : Export) → named s (front ++ y ∷ back) e ≡ None
    → named s (front ++ back) e ≡ None
fewer_names s front y back e none =
    let test : Export → Bool = λ d. bytes_eq d.name e.name in
    let p = both_none (index_flaw s e.kind e.index) _ none in
    none_both _ _ p.0 (ap (λ (b : Bool). if b then flaw DuplicateExport else None)
    (any_fewer test front y back (unnamed (list_any test (front ++ y ∷ back)) p.1)))

pub valid_without : StaysWithout
valid_without m place valid =
    let n = record m { exports = remove m.exports place } in
    let fine = valid_fine m valid in
    let s = spaces_of (lists_of m) in
    let before : export_flaws (lists_of m) ≡ behind (named s) [] m.exports = numbered_behind (named s) [] m.exports m.exports refl in
    let now : export_flaws (lists_of n) ≡ behind (named s) [] n.exports = numbered_behind (named s) [] n.exports n.exports refl in
    let left : AreFine (export_flaws (lists_of n)) = subst AreFine (sym now)
    (without_one (named s) (fewer_names s) [] m.exports place (subst AreFine before fine.exports)) in
    sym (module_flaws_are n)
    ∙ ap verdict_by (none_from 1 (module_flaws n) (
      fine.types,
      (
        fine.imports,
        (fine.funcs, (fine.tables, (fine.memories, (fine.globals, (left, (fine.start, (fine.elems, (fine.codes, (fine.datas, tt))))))))),
      ),
    ))

-- ---- bodies

pub has_valid_bodies : HasValidBodies
has_valid_bodies m valid =
    let fine = valid_fine m valid in
    valid_bodies (answers_of m) m.funcs fine.codes

pub verdicts_stay : VerdictsStay
verdicts_stay m now valid grows = bodies_stay (answers_of m) now grows m.funcs (has_valid_bodies m valid)

pub references_stay : ReferencesStay
references_stay m now valid grows = bodies_agree (answers_of m) now grows m.funcs (has_valid_bodies m valid)

-- a body is replaced

abbrev replaced : ℕ → BodyOf → List Func → List Func
replaced place b fs = take place fs ++ first_given b (drop place fs)

types_stay : (place : ℕ) (b : BodyOf) (fs : List Func) → map (λ (f : Func). f.ty) (replaced place b fs) ≡ map (λ (f : Func). f.ty) fs
types_stay zero b [] = refl
types_stay (suc place) b [] = refl
types_stay zero b (f ∷ fs) = refl
types_stay (suc place) b (f ∷ fs) = ap (λ ts. f.ty ∷ ts) (types_stay place b fs)

first_of_fine : (section item : ℕ) (w : Option Flaw) (ws : List (Option Flaw)) → AreFine ws → first_in section item (w ∷ ws) ≡ first_in section item (w ∷ [])
first_of_fine section item None ws fine = none_in section (item + 1) ws fine
first_of_fine section item (Some w) ws fine = refl

module _ (A : Ref → Found) (section ty : ℕ) (b : BodyOf) where
  codes_replaced : (item place : ℕ) (fs : List Func) → Some ty ≡ option_map (λ (f : Func). f.ty) (slice_get fs place)
      → AreFine (map body_flaw (map (func_verdict A) fs))
      → first_in section item (map body_flaw (map (func_verdict A) (replaced place b fs)))
      ≡ first_in section (item + place) (body_flaw (body_verdict A ty b) ∷ [])
  codes_replaced item place [] is fine = absurd cc
  codes_replaced item zero (f ∷ fs) is fine =
      first_of_fine section item (body_flaw (body_verdict A f.ty b)) _ fine.1
      ∙ ap (λ t. first_in section item (body_flaw (body_verdict A t b) ∷ [])) (sym (some_is ty f.ty is))
      ∙ ap (λ n. first_in section n (body_flaw (body_verdict A ty b) ∷ [])) (omega arith)
  codes_replaced item (suc place) (f ∷ fs) is fine =
      rw (fine.0)
      (codes_replaced (item + 1) place fs is fine.1 ∙ ap (λ n. first_in section n (body_flaw (body_verdict A ty b) ∷ [])) (omega arith))

pub valid_with_body : (m : Parts) (place ty : ℕ) (b : BodyOf) → Some ty ≡ option_map (λ (f : Func). f.ty) (slice_get m.funcs place) → module_verdict m ≡ Valid
    → module_verdict (with_body place b m) ≡ verdict_by (first_in 10 place (body_flaw (body_verdict (answers_of m) ty b) ∷ []))
valid_with_body m place ty b is valid =
    let n = with_body place b m in
    let fine = valid_fine m valid in
    let l = lists_of m in
    let flaws : List ℕ → List (List (Option Flaw)) = λ types.
    flaws_before_code m.profile (record l { funcs = types }) ++ code_flaws (record l { funcs = types }) n.funcs
    ∷ data_flaws (record l { funcs = types }) ∷ [] in
    verdict_of_section n (flaws_before_code m.profile l) (code_flaws l n.funcs) (data_flaws l ∷ []) (ap flaws (types_stay place b m.funcs))
    (fine.types, (fine.imports, (fine.funcs, (fine.tables, (fine.memories, (fine.globals, (fine.exports, (fine.start, (fine.elems, tt)))))))))
    (fine.datas, tt)
    ∙ ap verdict_by (codes_replaced (answers_of m) 10 ty b 0 place m.funcs is fine.codes
    ∙ ap (λ k. first_in 10 k (body_flaw (body_verdict (answers_of m) ty b) ∷ [])) (zero-add place))

-- ---- one flaw at a place

pub told_at : (section n k : ℕ) (v w : Option Flaw) → v ≡ w → n ≡ k → verdict_by (first_in section n (v ∷ [])) ≡ verdict_by (first_in section k (w ∷ []))
told_at section n k v w same place = rw (same, place) refl
