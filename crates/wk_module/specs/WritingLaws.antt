-- Laws of the written form: its parts have bytes, how long it is, and by which parts.
use Rattle.std.proofs.Common.{◌≡◌, ◌≢◌, ℕ, zero, suc, ◌+◌, ◌/◌, ◌^◌, ◌<◌, ◌≤◌, ◌==◌, Bool, true, false, inl, inr, Option, Some, None, List, [], ◌∷◌, ◌++◌}
use Rattle.std.proofs.Common.{length, map, drop, add-one, drop-cons, get_or, filter, if◌then◌else◌, refl, sym, ap, ◌∙◌, arith, length-append}
use Rattle.std.proofs.lemmas.Bool.{cases_Bool, cases_eq, cases_lt, cond_both, eq-eqb, ne_eqb}
use Rattle.std.proofs.lemmas.List.{append-nil, length-map}
use Rattle.std.proofs.lemmas.List.Folds.{length-flat_map-take, flat_map-map}
use Rattle.std.proofs.lemmas.List.FromFn.{get_or-range_with_len}
use Rattle.std.proofs.lemmas.List.Sums.{sum_by-cons}
use Rattle.std.specs.List.{flat_map, range_with_len, sum_by}
use Rattle.wk_bytes.specs.Short.{short}
use Rattle.wk_bytes.specs.Frames.{magic, version}
use Rattle.wk_bytes.specs.ShortLaws.{short-last, short-more, short-some}
use Rattle.wk_module.specs.declared.types.Parts.{Parts}
use Rattle.wk_module.specs.declared.types.Custom.{Custom}
use Rattle.wk_body.specs.Bodies.{BodyOf}
use Rattle.wk_body.specs.Vectors.{written_vector}
use Rattle.wk_body.specs.Written.{written_expr, written_body}
use Rattle.wk_module.specs.declared.types.Limits.{Limits}
use Rattle.wk_module.specs.declared.types.FuncType.{FuncType}
use Rattle.wk_module.specs.declared.types.Import.{Import}
use Rattle.wk_module.specs.declared.types.Func.{Func}
use Rattle.wk_module.specs.declared.types.GlobalDef.{GlobalDef}
use Rattle.wk_module.specs.declared.types.Export.{Export}
use Rattle.wk_module.specs.declared.types.Elem.{Elem}
use Rattle.wk_module.specs.declared.types.DataSeg.{DataSeg}
use Rattle.wk_module.specs.Formats.{written_bytes}
use Rattle.wk_module.specs.Types.{written_functype, written_tabletype, written_limits, kind_byte}
use Rattle.wk_module.specs.Items.{written_import, written_desc, written_global, written_export, written_elem, written_code, written_data}
use Rattle.wk_module.specs.Customs.{written_custom}
use Rattle.wk_module.specs.Sections.{SectionId, TypeSection, ImportSection, FunctionSection, TableSection, MemorySection, GlobalSection, ExportSection}
use Rattle.wk_module.specs.Sections.{StartSection, ElementSection, CodeSection, DataSection, number, of_number, ContentsOf, SectionLists, contents, item_count}
use Rattle.wk_module.specs.Sections.{is_full, written_contents}
use Rattle.wk_module.specs.SectionLaws.{number_most, of_number-number, number-of_number}
use Rattle.wk_module.specs.Shape.{lists_of, is_filled, settled_custom, settle, IsInOrderFrom}
use Rattle.wk_module.specs.ShapeLaws.{settled_in_order}
use Rattle.wk_module.specs.Sizes.{framed_size, section_size, whole_size}
use Rattle.wk_module.specs.Writing.{framed, list_contents, section_contents, written_section, section_by, contents_by, section_of, customs_at}
use Rattle.wk_module.specs.Writing.{section_and_customs, ids, encoded, Fits}

-- ---- no written form is empty

pub some_vector : {A : Type 0} (written : A → List ℕ) (xs : List A) → 0 < length (written_vector written xs)
some_vector written xs = omega (arith, length-append (short (length xs)) (flat_map written xs), short-some (length xs))

pub some_functype : (t : FuncType) → 0 < length (written_functype t)
some_functype t = omega arith

pub some_bytes : (bytes : List ℕ) → 0 < length (written_bytes bytes)
some_bytes bytes = omega (arith, length-append (short (length bytes)) bytes, short-some (length bytes))

pub some_import : (i : Import) → 0 < length (written_import i)
some_import i = omega (arith, length-append (written_bytes i.from) (written_bytes i.name ++ written_desc i.desc), some_bytes i.from)

pub some_export : (e : Export) → 0 < length (written_export e)
some_export e = omega (arith, length-append (written_bytes e.name) (kind_byte e.kind ∷ short e.index), some_bytes e.name)

pub some_elem : (e : Elem) → 0 < length (written_elem e)
some_elem e = omega (arith, length-append (short e.table) (written_expr e.offset ++ written_vector short e.funcs), short-some e.table)

pub some_code : (body : BodyOf) → 0 < length (written_code body)
some_code body = some_bytes (written_body body)

pub some_data : (d : DataSeg) → 0 < length (written_data d)
some_data d = omega (arith, length-append (short d.memory) (written_expr d.offset ++ written_bytes d.bytes), short-some d.memory)

-- ---- lists end to end

pub length-flat_map_le : {A : Type 0} (f g : A → List ℕ) → ((x : A) → length (f x) ≤ length (g x)) → (xs : List A)
    → length (flat_map f xs) ≤ length (flat_map g xs)
length-flat_map_le f g le [] = omega arith
length-flat_map_le f g le (x ∷ xs) = omega (arith, le x, length-flat_map_le f g le xs, length-append (f x) (flat_map f xs), length-append (g x) (flat_map g xs))

-- as many bytes as items, at least
pub length_le_flat_map : {A : Type 0} (f : A → List ℕ) → ((x : A) → 0 < length (f x)) → (xs : List A) → length xs ≤ length (flat_map f xs)
length_le_flat_map f some [] = omega arith
length_le_flat_map f some (x ∷ xs) = omega (arith, some x, length_le_flat_map f some xs, length-append (f x) (flat_map f xs))

-- pieces one after the other are as long whatever their order
length-flat_map_both : {A : Type 0} (f g : A → List ℕ) (xs : List A) → length (flat_map (λ x. f x ++ g x) xs) ≡ length (flat_map f xs) + length (flat_map g xs)
length-flat_map_both f g [] = omega arith
length-flat_map_both f g (x ∷ xs) =
    omega (
      arith,
      length-flat_map_both f g xs,
      length-append (f x) (flat_map f xs),
      length-append (g x) (flat_map g xs),
      length-append (f x) (g x),
      length-append (f x ++ g x) (flat_map (λ x. f x ++ g x) xs),
    )

length-flat_map_same : {A : Type 0} (f g : A → List ℕ) → ((x : A) → f x ≡ g x) → (xs : List A) → length (flat_map f xs) ≡ length (flat_map g xs)
length-flat_map_same f g same [] = refl
length-flat_map_same f g same (x ∷ xs) =
    omega (arith, ap length (same x), length-flat_map_same f g same xs, length-append (f x) (flat_map f xs), length-append (g x) (flat_map g xs))

-- ---- sections

pub some_tabletype : (l : Limits) → 0 < length (written_tabletype l)
some_tabletype l = omega arith

pub some_limits : (l : Limits) → 0 < length (written_limits l)
some_limits l = omega arith

pub some_global : (g : GlobalDef) → 0 < length (written_global g)
some_global g = omega arith

-- no section that is written has empty contents
pub some_contents : (k : SectionId) (x : ContentsOf k) → is_full k x ≡ true → 0 < length (written_contents k x)
some_contents TypeSection x full = some_vector written_functype x
some_contents ImportSection x full = some_vector written_import x
some_contents FunctionSection x full = some_vector short x
some_contents TableSection x full = some_vector written_tabletype x
some_contents MemorySection x full = some_vector written_limits x
some_contents GlobalSection x full = some_vector written_global x
some_contents ExportSection x full = some_vector written_export x
some_contents StartSection None full = absurd cc
some_contents StartSection (Some x) full = short-some x
some_contents ElementSection x full = some_vector written_elem x
some_contents CodeSection x full = some_vector written_code x
some_contents DataSection x full = some_vector written_data x

pub length-framed : (id : ℕ) (b : List ℕ) → length (framed id b) ≡ framed_size (length b)
length-framed id b = omega (arith, length-append (short (length b)) b)

-- longer contents have no shorter size
rises_within : (k a b : ℕ) → a ≤ k → a ≤ b → length (short a) ≤ length (short b)
rises_within zero a b within le = rw (short-last a (omega arith)) (short-some b)
rises_within (suc k) a b within le =
    elim (cases_lt a 128) [
      | inl small ↦ rw (short-last a small) (short-some b)
      | inr large ↦
          let large_too : 128 ≤ b = omega arith in
          let rest = rises_within k (a / 128) (b / 128) (omega arith) (omega arith) in
          rw (short-more a large, short-more b large_too) (omega arith)
    ]

pub short-rises : (a b : ℕ) → a ≤ b → length (short a) ≤ length (short b)
short-rises a b le = rises_within a a b (omega arith) le

pub framed_rises : (i j : ℕ) (a b : List ℕ) → length a ≤ length b → length (framed i a) ≤ length (framed j b)
framed_rises i j a b le = omega (arith, length-framed i a, length-framed j b, short-rises (length a) (length b) le)

-- a section of no contents is left out
left_out : (k : SectionId) (x : ContentsOf k) (full : Bool) → is_full k x ≡ full → length (if full then written_contents k x else []) ≡ 0
    → (if full then framed (number k) (written_contents k x) else []) ≡ []
left_out k x true is none = absurd (omega (arith, some_contents k x is, none))
left_out k x false is none = refl

pub section_none : (l : SectionLists) (k : Option SectionId) → length (contents_by l k) ≡ 0 → section_by l k ≡ []
section_none l None none = refl
section_none l (Some k) none = left_out k (contents l k) (is_full k (contents l k)) refl none

-- any other is framed
put_in : (k : SectionId) (x : ContentsOf k) (full : Bool) → 0 < length (if full then written_contents k x else [])
    → (if full then framed (number k) (written_contents k x) else []) ≡ framed (number k) (if full then written_contents k x else [])
put_in k x true some = refl
put_in k x false some = absurd (omega arith)

pub section_some : (l : SectionLists) (id : ℕ) (k : Option SectionId) → of_number id ≡ k → 0 < length (contents_by l k)
    → section_by l k ≡ framed id (contents_by l k)
section_some l id None is some = absurd (omega arith)
section_some l id (Some k) is some =
    put_in k (contents l k) (is_full k (contents l k)) some ∙ ap (λ (n : ℕ). framed n (section_contents k (contents l k))) (sym (number-of_number id k is))

-- the lists that are lent have the contents of the module's sections, but for the codes
by_lent : (l : SectionLists) (k : Option SectionId) → (k ≡ Some CodeSection → ⊥) → contents_by (record l { codes = [] }) k ≡ contents_by l k
by_lent l None other = refl
by_lent l (Some CodeSection) other = absurd (other refl)
by_lent l (Some k) other = refl

pub contents_by-lent : (l : SectionLists) (id : ℕ) → id ≢ 10 → contents_by (record l { codes = [] }) (of_number id) ≡ contents_by l (of_number id)
contents_by-lent l id other = by_lent l (of_number id) (λ is. other (number-of_number id CodeSection is))

-- ---- customs

-- a custom section as it stands in the written form
abbrev pub written_frame : Custom → List ℕ
written_frame c = framed 0 (written_custom c)

-- a piece, at the one place where it stands
abbrev pub at_place : ℕ → List ℕ → ℕ → List ℕ
at_place place piece id = if place == id then piece else []

at_place_after : (place : ℕ) (piece : List ℕ) (n from : ℕ) → place < from → flat_map (at_place place piece) (range_with_len from n) ≡ []
at_place_after place piece zero from lt = refl
at_place_after place piece (suc n) from lt =
    rw (ne_eqb place from (omega arith)) (at_place_after place piece n (from + 1) (omega arith))

-- over all ids a piece stands once
at_place_once : (place : ℕ) (piece : List ℕ) (n from : ℕ) → from ≤ place → place < from + n → flat_map (at_place place piece) (range_with_len from n) ≡ piece
at_place_once place piece zero from le lt = absurd (omega arith)
at_place_once place piece (suc n) from le lt =
    elim (cases_eq place from) [
      | inl same ↦ rw (eq-eqb place from same)
          (ap (λ (later : List ℕ). piece ++ later) (at_place_after place piece n (from + 1) (omega arith)) ∙ append-nil piece)
      | inr other ↦ rw (ne_eqb place from other) (at_place_once place piece n (from + 1) (omega arith) (omega arith))
    ]

pub customs_at-cons : (c : Custom) (cs : List Custom) (id : ℕ) → customs_at id (c ∷ cs) ≡ at_place c.place (written_frame c) id ++ customs_at id cs
customs_at-cons c cs id =
    elim (cases_Bool (c.place == id)) [
      | inl t ↦ rw t refl
      | inr f ↦ rw f refl
    ]

-- customs take as many bytes at their places as one after the other
length-customs : (least : ℕ) (cs : List Custom) → IsInOrderFrom least cs → length (flat_map (λ id. customs_at id cs) ids) ≡ length (flat_map written_frame cs)
length-customs least [] o = refl
length-customs least (c ∷ cs) o =
    let first = at_place c.place (written_frame c) in
    let once : flat_map first ids ≡ written_frame c = at_place_once c.place (written_frame c) 12 0 (omega arith) (omega (arith, o.1)) in
    let split = length-flat_map_same (λ id. customs_at id (c ∷ cs)) (λ id. first id ++ customs_at id cs) (customs_at-cons c cs) ids in
    let both = length-flat_map_both first (λ id. customs_at id cs) ids in
    omega (arith, split, both, ap length once, length-customs c.place cs o.2, length-append (written_frame c) (flat_map written_frame cs))

fewer_customs : (keep : Custom → Bool) (id : ℕ) (cs : List Custom) → length (customs_at id (filter keep cs)) ≤ length (customs_at id cs)
fewer_customs keep id [] = omega arith
fewer_customs keep id (c ∷ cs) =
    let rest = fewer_customs keep id cs in
    let first = at_place c.place (written_frame c) id in
    let with_c : length (customs_at id (c ∷ cs)) ≡ length first + length (customs_at id cs) =
    ap length (customs_at-cons c cs id) ∙ length-append first (customs_at id cs) in
    let with_kept : length (customs_at id (c ∷ filter keep cs)) ≡ length first + length (customs_at id (filter keep cs)) =
    ap length (customs_at-cons c (filter keep cs) id) ∙ length-append first (customs_at id (filter keep cs)) in
    cond_both (keep c) (c ∷ filter keep cs) (filter keep cs) (λ ds. length (customs_at id ds) ≤ length (customs_at id (c ∷ cs)))
    (λ t. omega (arith, rest, with_c, with_kept)) (λ f. omega (arith, rest, with_c))

-- ---- modules

-- The length of a written form: where the customs stand makes no difference.
pub length-encoded : (m : Parts) → IsInOrderFrom 0 m.customs
    → length (encoded m) ≡ 8 + length (flat_map (section_of m) ids) + length (flat_map written_frame m.customs)
unfolding encoded
length-encoded m o =
    let both = length-flat_map_both (section_of m) (λ id. customs_at id m.customs) ids in
    omega (arith, both, length-customs 0 m.customs o, length-append (magic ++ version) (flat_map (section_and_customs m) ids))

-- without some of its customs a module is no longer
pub length-encoded_filter : (keep : Custom → Bool) (m : Parts) → length (encoded (record m { customs = filter keep m.customs })) ≤ length (encoded m)
unfolding encoded
length-encoded_filter keep m =
    let fewer : Parts = record m { customs = filter keep m.customs } in
    let le = length-flat_map_le (section_and_customs fewer) (section_and_customs m)
    (λ id. omega (
      arith,
      fewer_customs keep id m.customs,
      length-append (section_of m id) (customs_at id m.customs),
      length-append (section_of m id) (customs_at id (filter keep m.customs)),
    )) ids in
    omega (
      arith,
      le,
      length-append (magic ++ version) (flat_map (section_and_customs m) ids),
      length-append (magic ++ version) (flat_map (section_and_customs fewer) ids),
    )

-- ---- each piece is no longer than the whole

pub piece_le : {A : Type 0} (f : A → List ℕ) (xs : List A) (i : ℕ) (x : A) → i < length xs → x ≡ get_or xs i x → length (f x) ≤ length (flat_map f xs)
piece_le f xs i x within is = omega (arith, ap (λ y. length (f y)) is, length-flat_map-take f xs i x within)

-- an id stands at its own place among the ids
pub id_is : (id : ℕ) → id < 12 → id ≡ get_or ids id id
id_is id lt = omega (arith, get_or-range_with_len 0 12 id id lt)

-- the ids from one on
pub drop-ids : (id : ℕ) → id < 12 → drop id ids ≡ id ∷ drop (id + 1) ids
drop-ids id lt =
    let here : get_or ids id 0 ≡ id = omega (arith, get_or-range_with_len 0 12 id 0 lt) in
    rw (add-one id) (drop-cons ids id 0 lt ∙ ap (λ (n : ℕ). n ∷ drop (suc id) ids) here)

-- of a section
pub section_within : (m : Parts) (k : SectionId) → length (written_section k (contents (lists_of m) k)) ≤ length (encoded m)
unfolding encoded
section_within m k =
    let id = number k in
    let here = ap (λ (j : Option SectionId). length (section_by (lists_of m) j)) (of_number-number k) in
    let le = piece_le (section_and_customs m) ids id id (omega (arith, number_most k)) (id_is id (number_most k)) in
    omega (arith, here, le, length-append (section_of m id) (customs_at id m.customs), length-append (magic ++ version) (flat_map (section_and_customs m) ids))

framed_within : (k : SectionId) (x : ContentsOf k) (full : Bool)
    → length (if full then written_contents k x else []) ≤ length (if full then framed (number k) (written_contents k x) else [])
framed_within k x true = omega (arith, length-framed (number k) (written_contents k x))
framed_within k x false = omega arith

-- of the contents of a section
pub contents_within : (m : Parts) (k : Option SectionId) → length (contents_by (lists_of m) k) ≤ length (encoded m)
contents_within m None = omega arith
contents_within m (Some k) = omega (arith, framed_within k (contents (lists_of m) k) (is_full k (contents (lists_of m) k)), section_within m k)

-- of a custom section
pub custom_within : (m : Parts) (i : ℕ) (c : Custom) → i < length m.customs → c ≡ get_or m.customs i c → IsInOrderFrom 0 m.customs
    → length (written_frame c) ≤ length (encoded m)
custom_within m i c within is order = omega (arith, piece_le written_frame m.customs i c within is, length-encoded m order)

code_le : (funcs : List Func) (i : ℕ) (f : Func) → i < length funcs → f ≡ get_or funcs i f
    → length (written_code f.body) ≤ length (section_contents CodeSection (map (λ g. g.body) funcs))
code_le [] i f within is = absurd (omega arith)
code_le (g ∷ gs) i f within is =
    let bodies = map (λ (h : Func). h.body) (g ∷ gs) in
    omega (
      arith,
      piece_le (λ (h : Func). written_code h.body) (g ∷ gs) i f within is,
      ap length (flat_map-map written_code (λ (h : Func). h.body) (g ∷ gs)),
      length-append (short (length bodies)) (flat_map written_code bodies),
    )

-- of a code, with its size
pub code_within : (m : Parts) (i : ℕ) (f : Func) → i < length m.funcs → f ≡ get_or m.funcs i f → length (written_code f.body) ≤ length (encoded m)
code_within m i f within is = omega (arith, code_le m.funcs i f within is, contents_within m (Some CodeSection))

-- ---- no list has more items than its written form has bytes

listed_within : {A : Type 0} (written : A → List ℕ) → ((x : A) → 0 < length (written x)) → (xs : List A) → length xs ≤ length (list_contents written xs)
listed_within written some [] = omega arith
listed_within written some (x ∷ xs) =
    omega (arith, length_le_flat_map written some (x ∷ xs), length-append (short (length (x ∷ xs))) (flat_map written (x ∷ xs)))

pub count_within : (k : SectionId) (x : ContentsOf k) → item_count k x ≤ length (section_contents k x)
count_within TypeSection = listed_within written_functype some_functype
count_within ImportSection = listed_within written_import some_import
count_within FunctionSection = listed_within short short-some
count_within TableSection = listed_within written_tabletype some_tabletype
count_within MemorySection = listed_within written_limits some_limits
count_within GlobalSection = listed_within written_global some_global
count_within ExportSection = listed_within written_export some_export
count_within StartSection = λ x. omega arith
count_within ElementSection = listed_within written_elem some_elem
count_within CodeSection = listed_within written_code some_code
count_within DataSection = listed_within written_data some_data

pub items_within : (m : Parts) (k : SectionId) → item_count k (contents (lists_of m) k) ≤ length (encoded m)
items_within m k = omega (arith, count_within k (contents (lists_of m) k), contents_within m (Some k))

-- in a module that fits, each list has room for one more item
pub room : (m : Parts) (k : SectionId) → Fits m → item_count k (contents (lists_of m) k) + 1 < 2 ^ 32
room m k fits = omega (arith, items_within m k, fits)

pub room_for_func : (m : Parts) → Fits m → length m.funcs + 1 < 2 ^ 32
room_for_func m fits = omega (arith, room m CodeSection fits, length-map m.funcs (λ (f : Func). f.body))

-- ---- lengths of parts

-- how many bytes the contents of the section of an id have
abbrev pub contents_size : Parts → ℕ → ℕ
contents_size m id = length (contents_by (lists_of m) (of_number id))

pub size_some : (n : ℕ) → n ≢ 0 → section_size n ≡ framed_size n
size_some n some = ap (λ (b : Bool). if b then 0 else framed_size n) (ne_eqb n 0 some)

section_sized : (m : Parts) (id : ℕ) → length (section_of m id) ≡ section_size (contents_size m id)
section_sized m id =
    elim (cases_eq (contents_size m id) 0) [
      | inl none ↦
          ap length (section_none (lists_of m) (of_number id) none)
          ∙ sym (ap (λ (b : Bool). if b then 0 else framed_size (contents_size m id)) (eq-eqb (contents_size m id) 0 none))
      | inr some ↦
          ap length (section_some (lists_of m) id (of_number id) refl (omega arith))
          ∙ length-framed id (contents_by (lists_of m) (of_number id))
          ∙ sym (size_some (contents_size m id) some)
    ]

sections_sized : (m : Parts) (is : List ℕ) → length (flat_map (section_of m) is) ≡ sum_by section_size (map (contents_size m) is)
sections_sized m [] = refl
sections_sized m (i ∷ is) =
    length-append (section_of m i) (flat_map (section_of m) is)
    ∙ ap (λ n. n + length (flat_map (section_of m) is)) (section_sized m i)
    ∙ ap (λ n. section_size (contents_size m i) + n) (sections_sized m is)
    ∙ sym (sum_by-cons section_size (contents_size m i) (map (contents_size m) is))

-- The length of a written form is told by the lengths of its parts.
pub length-encoded_sizes : (m : Parts) → IsInOrderFrom 0 m.customs
    → length (encoded m) ≡ whole_size (map (contents_size m) ids) (length (flat_map written_frame m.customs))
length-encoded_sizes m order =
    length-encoded m order ∙ ap (λ n. 8 + n + length (flat_map written_frame m.customs)) (sections_sized m ids)

frames_settled : (passes : ℕ → Bool) (cs : List Custom) → flat_map written_frame (map (settled_custom passes) cs) ≡ flat_map written_frame cs
frames_settled passes [] = refl
frames_settled passes (c ∷ cs) = ap (λ (b : List ℕ). written_frame c ++ b) (frames_settled passes cs)

-- settling customs leaves the length
pub length-encoded_settle : (m : Parts) → IsInOrderFrom 0 m.customs → length (encoded (settle m)) ≡ length (encoded m)
length-encoded_settle m order =
    let same = ap length (frames_settled (is_filled m) m.customs) in
    omega (arith, length-encoded (settle m) (settled_in_order (is_filled m) 0 m.customs order), length-encoded m order, same)

-- ---- modules of which one is no longer

by_shorter : (l n : SectionLists) → ((k : SectionId) → length (written_section k (contents l k)) ≤ length (written_section k (contents n k)))
    → (k : Option SectionId) → length (section_by l k) ≤ length (section_by n k)
by_shorter l n each None = omega arith
by_shorter l n each (Some k) = each k

-- where each section is
pub length-encoded_le : (m n : Parts) → m.customs ≡ n.customs
    → ((k : SectionId) → length (written_section k (contents (lists_of m) k)) ≤ length (written_section k (contents (lists_of n) k)))
    → length (encoded m) ≤ length (encoded n)
unfolding encoded
length-encoded_le m n same each =
    let le = length-flat_map_le (section_and_customs m) (section_and_customs n)
    (λ id. omega (
      arith,
      by_shorter (lists_of m) (lists_of n) each (of_number id),
      ap (λ (cs : List Custom). length (customs_at id cs)) same,
      length-append (section_of m id) (customs_at id m.customs),
      length-append (section_of n id) (customs_at id n.customs),
    )) ids in
    omega (
      arith,
      le,
      length-append (magic ++ version) (flat_map (section_and_customs m) ids),
      length-append (magic ++ version) (flat_map (section_and_customs n) ids),
    )
