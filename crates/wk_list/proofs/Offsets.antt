-- Where the pieces of the written form stand.
use Rattle.std.proofs.Common.{◌≡◌, ℕ, ◌+◌, ◌<◌, ◌≤◌, false, List, [], ◌∷◌, ◌++◌, length, map, take, drop, get_or, slice_index_or, refl, sym, ap, ◌∙◌, arith}
use Rattle.std.proofs.Common.{length-append}
use Rattle.std.specs.List.{flat_map}
use Rattle.std.proofs.lemmas.List.{flat_map_more, take_more, length-map}
use Rattle.std.proofs.lemmas.List.Folds.{length-flat_map-take, flat_map-map}
use Rattle.wk_bytes.specs.Frames.{limit, magic, version}
use Rattle.wk_bytes.specs.ListWords.{is_empty}
use Rattle.wk_bytes.specs.Short.{short}
use Rattle.wk_body.specs.declared.types.LocalGroup.{LocalGroup}
use Rattle.wk_body.specs.Bodies.{BodyOf}
use Rattle.wk_body.specs.ValTypes.{valtype_byte}
use Rattle.wk_body.specs.Vectors.{written_vector}
use Rattle.wk_body.specs.Written.{written_group, written_expr, written_body}
use Rattle.wk_module.specs.declared.types.Custom.{Custom}
use Rattle.wk_module.specs.declared.types.Func.{Func}
use Rattle.wk_module.specs.declared.types.Import.{Import}
use Rattle.wk_module.specs.declared.types.Kind.TheVariants.{Func as FuncKind}
use Rattle.wk_module.specs.declared.types.Parts.{Parts}
use Rattle.wk_module.specs.Customs.{written_custom}
use Rattle.wk_module.specs.Items.{written_code}
use Rattle.wk_module.specs.Sections.{CodeSection, contents}
use Rattle.wk_module.specs.Shape.{lists_of}
use Rattle.wk_module.specs.Writing.{section_contents, written_section, section_of, customs_at, section_and_customs, ids, encoded, Fits}
use Rattle.wk_module.specs.WritingLaws.{id_is}
use Rattle.wk_list.specs.Headers.{contents_start}
use Rattle.wk_list.specs.Spaces.{count_of}
use Rattle.wk_list.specs.CodeText.{entries_text, instrs_start, code_start, first_code, code_text}
use Rattle.wk_list.proofs.Entries.{codes_of}
use Rattle.wk_list.proofs.HeaderSteps.{custom_end, custom_long}
use Rattle.wk_list.proofs.Walk.{length-of}

-- ---- in a code

-- local groups up to one are no longer than all of them
pub group_fits : (groups : List LocalGroup) (i n : ℕ) (d : LocalGroup) → n ≡ length (short (get_or groups i d).count) → i < length groups
    → length (flat_map written_group (take i groups)) + (n + 1) ≤ length (flat_map written_group groups)
group_fits groups i n d e within =
    let g = get_or groups i d in
    omega (arith, length-flat_map-take written_group groups i d within, e, length-append (short g.count) (valtype_byte g.ty ∷ []))

-- a code: its size, the count of local groups, these, and the instructions
pub length_code : (b : BodyOf) → length (written_code b) ≡ length (short (length (written_body b)))
    + (length (short (length b.groups)) + length (flat_map written_group b.groups)) + length (written_expr b.instrs)
length_code b =
    omega (
      arith,
      length-append (short (length (written_body b))) (written_body b),
      length-append (written_vector written_group b.groups) (written_expr b.instrs),
      length-append (short (length b.groups)) (flat_map written_group b.groups),
    )

-- it ends where its instructions do
pub code_end : (at : ℕ) (f : Func) → instrs_start at f + length (written_expr f.body.instrs) ≡ at + length (written_code f.body)
code_end at f = omega (arith, length_code f.body, length-append (short (length f.body.groups)) (flat_map written_group f.body.groups))

-- where the instructions of a function start, by its lengths
pub starts_at : (at size n k l : ℕ) (f : Func) (gs : List LocalGroup) → gs ≡ f.body.groups → size ≡ length (written_body f.body)
    → n ≡ length (short size) → k ≡ length (short (length gs)) → l ≡ length (flat_map written_group gs) → (at + n) + (k + l) ≡ instrs_start at f
starts_at at size n k l f gs same len n_is k_is l_is =
    let count = ap (λ (hs : List LocalGroup). length (short (length hs))) same in
    let all = ap (λ (hs : List LocalGroup). length (flat_map written_group hs)) same in
    let body = ap (λ (m : ℕ). length (short m)) len in
    omega (arith, n_is, k_is, l_is, count, all, body, length-append (short (length f.body.groups)) (flat_map written_group f.body.groups))

-- ---- custom sections one after the other

-- one more of the place
pub custom_counted : (place : ℕ) (customs items : List Custom) (i total whole size : ℕ) (c : Custom) → items ≡ customs → c ≡ get_or items i c → i < length items
    → ((other : Custom) → size ≡ length (written_custom (slice_index_or customs i other))) → c.place ≡ place
    → total + length (customs_at place (drop i customs)) ≡ whole → (contents_start total size + size) + length (customs_at place (drop (i + 1) customs)) ≡ whole
custom_counted place customs items i total whole size c same is within len here so_far =
    let within_cs : i < length customs = omega (arith, within, ap length same) in
    let is_cs : c ≡ get_or customs i c = is ∙ ap (λ (ds : List Custom). get_or ds i c) same in
    omega (
      arith,
      so_far,
      length-of place i c customs within_cs is_cs here,
      custom_end total (contents_start total size) size _ c refl (custom_long i size c customs items same is len) refl,
    )

-- ---- sections one after the other

length_both : (m : Parts) (id : ℕ) → length (section_and_customs m id) ≡ length (section_of m id) + length (customs_at id m.customs)
length_both m id = length-append (section_of m id) (customs_at id m.customs)

-- the sections up to one, and the custom sections behind it
pub sections_more : (m : Parts) (id : ℕ) → id < 12 → length (flat_map (section_and_customs m) (take (id + 1) ids))
    ≡ length (flat_map (section_and_customs m) (take id ids)) + length (section_of m id) + length (customs_at id m.customs)
sections_more m id lt =
    let f = section_and_customs m in
    let split = ap (λ (ks : List ℕ). length (flat_map f ks)) (take_more ids id id lt ∙ ap (λ (k : ℕ). take id ids ++ k ∷ []) (sym (id_is id lt))) in
    let parts = ap length (sym (flat_map_more f [] (take id ids) id)) ∙ length-append (flat_map f (take id ids)) (f id) in
    omega (arith, split, parts, length_both m id)

-- in a module that fits, these stay within the limit
pub sections_fit : (m : Parts) (id : ℕ) → id < 12 → Fits m → 8 + length (flat_map (section_and_customs m) (take id ids)) + length (section_of m id)
    + length (customs_at id m.customs) ≤ limit
unfolding encoded
sections_fit m id lt fits =
    let f = section_and_customs m in
    let le = length-flat_map-take f ids id id lt in
    let here = ap (λ (k : ℕ). length (f k)) (sym (id_is id lt)) in
    omega (arith, le, here, fits, length_both m id, length-append (magic ++ version) (flat_map f ids))

-- ---- the code section

abbrev bodies : List Func → List BodyOf
bodies fs = map (λ (f : Func). f.body) fs

length_bodies : (fs : List Func) → length (written_vector written_code (bodies fs)) ≡ length (short (length fs)) + length (codes_of fs)
length_bodies fs =
    omega (
      arith,
      length-append (short (length (bodies fs))) (flat_map written_code (bodies fs)),
      ap (λ (n : ℕ). length (short n)) (length-map fs (λ (f : Func). f.body)),
      ap length (flat_map-map written_code (λ (f : Func). f.body) fs),
    )

-- where there are codes, they end where their section does
code_section : (fs : List Func) (at : ℕ) → 0 < length fs
    → contents_start at (length (section_contents CodeSection (map (λ f. f.body) fs))) + length (short (length fs)) + length (codes_of fs)
    ≡ at + length (written_section CodeSection (map (λ f. f.body) fs))
code_section [] at some = absurd (omega arith)
code_section (f ∷ fs) at some =
    let all = written_vector written_code (bodies (f ∷ fs)) in
    omega (arith, length_bodies (f ∷ fs), length-append (short (length all)) all)

-- where the first code begins, by the lengths of what stands before it
pub first_is : (m parts : Parts) (start size at n count : ℕ) → parts ≡ m → start ≡ code_start m
    → size ≡ length (section_contents CodeSection (contents (lists_of m) CodeSection)) → at ≡ contents_start start size
    → n ≡ length (short count) → count ≡ length parts.funcs → at + n ≡ first_code m
first_is m parts start size at n count same start_is size_is at_is n_is count_is =
    let all : count ≡ length m.funcs = count_is ∙ ap (λ (p : Parts). length p.funcs) same in
    omega (arith, start_is, at_is, n_is, ap (λ (k : ℕ). length (short k)) size_is, ap (λ (k : ℕ). length (short k)) all)

some_items : (fs : List Func) → false ≡ is_empty fs → 0 < length fs
some_items [] some = absurd cc
some_items (f ∷ fs) some = omega arith

-- in a module that fits, the codes stay within the limit
pub codes_fit : (m parts : Parts) (first : ℕ) → parts ≡ m → false ≡ is_empty parts.funcs → Fits m → first ≡ first_code m
    → first + length (codes_of m.funcs) ≤ limit
codes_fit m parts first same some fits is =
    let any : 0 < length m.funcs = some_items m.funcs (some ∙ ap (λ (p : Parts). is_empty p.funcs) same) in
    omega (arith, is, sections_fit m 10 (omega arith) fits, code_section m.funcs (code_start m) any)

-- the text of all functions
pub text_is : (m parts : Parts) (imports : List Import) (imported first : ℕ) → parts ≡ m → imports ≡ parts.imports
    → imported ≡ count_of FuncKind imports → first ≡ first_code m → entries_text imported first m.funcs ≡ code_text m
text_is m parts imports imported first same is count place =
    let counted : imported ≡ count_of FuncKind m.imports = count ∙ ap (count_of FuncKind) (is ∙ ap (λ (p : Parts). p.imports) same) in
    ap (λ (n : ℕ). entries_text n first m.funcs) counted ∙ ap (λ (n : ℕ). entries_text (count_of FuncKind m.imports) n m.funcs) place
