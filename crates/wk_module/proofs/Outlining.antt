-- What is read where each code stands aside, as what is kept of its body.
use Rattle.std.proofs.Common.{◌≡◌, ◌≢◌, ℕ, zero, suc, Bool, false, not, eqb, cond, List, [], ◌∷◌, length, map, max, Option, Some, None, Result, Ok, Err, refl}
use Rattle.std.proofs.Common.{sym, ap, subst, ◌∙◌, slice_index_or, arith}
use Rattle.std.proofs.lemmas.Bool.{ne_eqb}
use Rattle.std.proofs.lemmas.List.{length-map}
use Rattle.std.specs.List.{AllByRecursion}
use Rattle.std.specs.Prelude.{MatchResult}
use Rattle.wk_bytes.specs.declared.fault.ReadKind.{ReadKind}
use Rattle.wk_bytes.specs.declared.fault.ReadKind.TheVariants.{Memory}
use Rattle.wk_bytes.specs.declared.fault.ReadFault.{ReadFault}
use Rattle.wk_bytes.specs.Fault.{no_memory}
use Rattle.wk_bytes.specs.Frames.{Section, sections_of}
use Rattle.wk_bytes.specs.Leb.{◌>>=◌}
use Rattle.wk_bytes.specs.LebLaws.{done}
use Rattle.wk_bytes.specs.ListWords.{is_empty}
use Rattle.wk_body.specs.declared.types.Profile.{Profile}
use Rattle.wk_body.specs.Bodies.{BodyOf}
use Rattle.wk_body.specs.Meaning.{Whole, FindsOnly}
use Rattle.wk_body.specs.Reading.{all_body_at, whole_at}
use Rattle.wk_body.specs.Reads.{FailsAs, Reads}
use Rattle.wk_body.specs.ReadsLaws.{fails_on}
use Rattle.wk_body.specs.Shape.{IsU32}
use Rattle.wk_body.specs.Spelling.{SpellsBody}
use Rattle.wk_body.specs.Vectors.{items_at}
use Rattle.wk_module.specs.declared.types.Custom.{Custom}
use Rattle.wk_module.specs.declared.types.Func.{Func}
use Rattle.wk_module.specs.declared.types.Parts.{Parts}
use Rattle.wk_module.specs.Customs.{custom_at}
use Rattle.wk_module.specs.Formats.{Reader, made_at, taking_all, all_at}
use Rattle.wk_module.specs.Items.{code_at, IsCode}
use Rattle.wk_module.specs.ListReading.{IsReading, Rise}
use Rattle.wk_module.specs.OutlineReading.{PartialOutline, without_codes, aside, read_aside, code_aside_at, codes_aside_at, stub_of, read_outlined}
use Rattle.wk_module.specs.Outlines.{outlined, outlined_func, stub}
use Rattle.wk_module.specs.Reading.{Progress, at_start, section_end, with_custom, with_lists, section_by, with_section, sections_read, zipped, module_of}
use Rattle.wk_module.specs.Reading.{joined, module_at}
use Rattle.wk_module.specs.SectionLaws.{number-of_number}
use Rattle.wk_module.specs.Sections.{SectionId, FunctionSection, CodeSection, of_number, ContentsOf, SectionLists, contents, codes_at}
use Rattle.wk_module.specs.Sections.{contents_at, AreItems, AreValid}
use Rattle.wk_module.specs.Shape.{lists_of, filled_ids, settled_custom, settle, IsFormed, IsShaped}
use Rattle.wk_module.proofs.VectorReading.{with_front, nothing_before}
use Rattle.wk_module.proofs.ListReading.{bound, some_rise}
use Rattle.wk_module.proofs.ModuleReading.{joined_again, joined_is}
use Rattle.wk_module.proofs.SectionSteps.{broken_off}
use Rattle.wk_module.proofs.Standing.{failed_before}

-- ---- items that are made of others

-- items behind one
abbrev behind_item : {X : Type 0} → X → Result (List X × List ℕ) ReadFault → Result (List X × List ℕ) ReadFault
behind_item x r = r >>= λ xs. Ok (x ∷ xs.0, xs.1)

-- one item that was read, and so many behind it
abbrev then_items : {X : Type 0} → Reader X → ℕ → ℕ → Result (X × List ℕ) ReadFault → Result (List X × List ℕ) ReadFault
then_items read n end r = r >>= λ x. behind_item x.0 (items_at read n end x.1)

module _ {A B : Type 0} (make : A → B) where
  abbrev one_made : Result (A × List ℕ) ReadFault → Result (B × List ℕ) ReadFault
  one_made r = r >>= λ x. Ok (make x.0, x.1)

  abbrev all_made : Result (List A × List ℕ) ReadFault → Result (List B × List ℕ) ReadFault
  all_made r = r >>= λ xs. Ok (map make xs.0, xs.1)

  made_behind : (x : A) (r : Result (List A × List ℕ) ReadFault) → behind_item (make x) (all_made r) ≡ all_made (behind_item x r)
  made_behind x (Ok xs) = refl
  made_behind x (Err e) = refl

  made_more : (read : Reader A) (n end : ℕ) (r : Result (A × List ℕ) ReadFault)
      → ((bytes : List ℕ) → items_at (made_at make read) n end bytes ≡ all_made (items_at read n end bytes))
      → then_items (made_at make read) n end (one_made r) ≡ all_made (then_items read n end r)
  made_more read n end (Ok x) more = rw (more x.1) (made_behind x.0 (items_at read n end x.1))
  made_more read n end (Err e) more = refl

  made_items : (read : Reader A) (n end : ℕ) (bytes : List ℕ) → items_at (made_at make read) n end bytes ≡ all_made (items_at read n end bytes)
  unfolding made_at
  made_items read zero end bytes = refl
  made_items read (suc n) end bytes = made_more read n end (read end bytes) (λ rest. made_items read n end rest)

  made_all_of : (end : ℕ) (r : Result (A × List ℕ) ReadFault) → (one_made r >>= taking_all end) ≡ ((r >>= taking_all end) >>= λ x. Ok (make x))
  made_all_of end (Ok (x, [])) = refl
  made_all_of end (Ok (x, y ∷ rest)) = refl
  made_all_of end (Err e) = refl

  -- all of the contents, read as what is made of them
  made_all : (read : Reader A) (end : ℕ) (bytes : List ℕ) → all_at (made_at make read) end bytes ≡ (all_at read end bytes >>= λ x. Ok (make x))
  unfolding made_at
  made_all read end bytes = made_all_of end (read end bytes)

-- ---- the codes of a section

-- where the codes begin, they are read aside too
opened_aside : {K : Type 0} (make : BodyOf → K) (profile : Profile) (funcs end : ℕ) (bytes : List ℕ) (last : ℕ) (rest : List ℕ)
    → codes_at profile funcs end bytes ≡ items_at (code_at profile) funcs last rest
    → codes_aside_at make profile funcs end bytes ≡ items_at (code_aside_at make profile) funcs last rest
unfolding made_at
opened_aside make profile funcs end bytes last rest opened = rw opened (sym (made_items make (code_at profile) funcs last rest))

-- ... as a loop begins to read them
pub opened_front : {K : Type 0} (make : BodyOf → K) (profile : Profile) (funcs end : ℕ) (bytes : List ℕ) (count last : ℕ) (rest : List ℕ)
    (front : List K) → count ≡ funcs → front ≡ [] → codes_at profile funcs end bytes ≡ items_at (code_at profile) funcs last rest
    → with_front front (items_at (code_aside_at make profile) count last rest) ≡ codes_aside_at make profile funcs end bytes
opened_front make profile funcs end bytes count last rest front all none opened =
    rw (none, all) (nothing_before (items_at (code_aside_at make profile) funcs last rest)) ∙ sym (opened_aside make profile funcs end bytes last rest opened)

pub not_opened : {K : Type 0} (make : BodyOf → K) (profile : Profile) (funcs end : ℕ) (bytes : List ℕ) (e : ReadFault)
    → FailsAs e e.kind (codes_at profile funcs end bytes) → FailsAs e e.kind (all_at (codes_aside_at make profile funcs) end bytes)
unfolding made_at
not_opened make profile funcs end bytes e = fails_on e e.kind (codes_at profile funcs end bytes) (all_at (codes_aside_at make profile funcs) end bytes)
    (λ bad. rw bad refl)

-- ---- one more section

module _ {K : Type 0} (make : BodyOf → K) (profile : Profile) (p : Progress) (s : Section) where
  -- what was read of all but the codes, with the codes that stand aside
  abbrev beside : Progress → PartialOutline K
  beside q = record { rest = q; codes = map make p.lists.codes }

  abbrev StepsAside : Option SectionId → Type 0
  StepsAside k = read_aside make (section_by profile p s k) ≡ (section_by profile (without_codes p) s k >>= λ q. Ok (beside q))

  custom_aside : (r : Result Custom ReadFault) → ((r >>= λ c. Ok (with_custom p c)) >>= λ q. Ok (aside make q))
      ≡ ((r >>= λ c. Ok (with_custom (without_codes p) c)) >>= λ q. Ok (beside q))
  custom_aside (Ok c) = refl
  custom_aside (Err e) = refl

  contents_aside : (k : SectionId) → ((x : ContentsOf k) → aside make (with_lists k p x) ≡ beside (with_lists k (without_codes p) x))
      → (r : Result (ContentsOf k) ReadFault)
      → ((r >>= λ x. Ok (with_lists k p x)) >>= λ q. Ok (aside make q)) ≡ ((r >>= λ x. Ok (with_lists k (without_codes p) x)) >>= λ q. Ok (beside q))
  contents_aside k same (Ok x) = ap (λ (u : PartialOutline K). done u) (same x)
  contents_aside k same (Err e) = refl

  by_contents : (k : SectionId) → ((x : ContentsOf k) → aside make (with_lists k p x) ≡ beside (with_lists k (without_codes p) x)) → StepsAside (Some k)
  unfolding section_by
  by_contents k same = contents_aside k same (all_at (contents_at profile (length p.lists.funcs) k) (section_end s) s.contents)

  by_custom : StepsAside None
  unfolding section_by
  by_custom = custom_aside (custom_at p.place (section_end s) s.contents)

  by_id : (k : Option SectionId) → (k ≡ Some CodeSection → ⊥) → StepsAside k
  by_id None other = by_custom
  by_id (Some CodeSection) other = absurd (other refl)
  by_id (Some k) other = by_contents k (λ x. refl)

  -- a section that is not that of the codes, where the codes stand aside
  pub steps_aside : s.id ≢ 10 → read_aside make (with_section profile p s) ≡ (with_section profile (without_codes p) s >>= λ q. Ok (beside q))
  steps_aside other = by_id (of_number s.id) (λ is. other (number-of_number s.id CodeSection is))

  -- a call that reads one so far as all but the codes go
  pub reads_aside : {X : Type 0} (view : X → Progress) (r : Result X ReadFault) → s.id ≢ 10 → Reads view r (with_section profile (without_codes p) s)
      → Reads (λ x. beside (view x)) r (read_aside make (with_section profile p s))
  reads_aside view (Ok x) other reads = steps_aside other ∙ rw reads refl
  reads_aside view (Err e) other reads = fails_on e e.kind (with_section profile (without_codes p) s) (read_aside make (with_section profile p s))
      (λ bad. steps_aside other ∙ rw bad refl) reads

  -- ---- the codes

  abbrev codes_read : Result (List BodyOf) ReadFault
  codes_read = all_at (contents_at profile (length p.lists.funcs) CodeSection) (section_end s) s.contents

  codes_step : (r : Result (List BodyOf) ReadFault) → s.id ≡ 10 → codes_read ≡ r
      → with_section profile p s ≡ (r >>= λ bodies. Ok (with_lists CodeSection p bodies))
  unfolding section_by
  codes_step r is codes = rw (is, codes) refl

  some_made : (bodies : List BodyOf) → is_empty bodies ≡ is_empty (map make bodies)
  some_made [] = refl
  some_made (b ∷ bodies) = refl

  -- what was read, with those codes
  abbrev pub with_written : List K → PartialOutline K
  with_written codes = record { rest = record (without_codes p) { place = cond (not (is_empty codes)) 10 p.place }; codes = codes }

  pub codes_aside : (codes : List K) → s.id ≡ 10 → all_at (codes_aside_at make profile (length p.lists.funcs)) (section_end s) s.contents ≡ Ok codes
      → read_aside make (with_section profile p s) ≡ Ok (with_written codes)
  codes_aside codes is read =
      let a = bound codes_read (map make) codes (sym (made_all (map make) (codes_at profile (length p.lists.funcs)) (section_end s) s.contents) ∙ read) in
      let step : read_aside make (with_section profile p s) ≡ Ok (aside make (with_lists CodeSection p a.0)) = rw (codes_step (Ok a.0) is a.1) refl in
      let place : aside make (with_lists CodeSection p a.0) ≡ with_written (map make a.0) =
      ap (λ (none : Bool). record { rest = record (without_codes p) { place = cond (not none) 10 p.place }; codes = map make a.0 }) (some_made a.0) in
      step ∙ ap (λ (u : PartialOutline K). done u) (place ∙ ap with_written a.2)

  pub codes_aside_fail : (e : ReadFault) → s.id ≡ 10 → FailsAs e e.kind
      (all_at (codes_aside_at make profile (length p.lists.funcs)) (section_end s) s.contents) → FailsAs e e.kind (read_aside make (with_section profile p s))
  codes_aside_fail e is = fails_on e e.kind (all_at (codes_aside_at make profile (length p.lists.funcs)) (section_end s) s.contents)
      (read_aside make (with_section profile p s))
      (λ bad. rw (codes_step (Err e) is
      (failed_before codes_read (map make) e (sym (made_all (map make) (codes_at profile (length p.lists.funcs)) (section_end s) s.contents) ∙ bad))) refl)

  -- ... as a call answers it
  pub section_beside : {X : Type 0} (view : X → Progress) (r : Result X ReadFault) (u : PartialOutline K) → u ≡ aside make p → s.id ≢ 10
      → Reads view r (with_section profile u.rest s) → Reads (λ x. record { rest = view x; codes = u.codes }) r (read_aside make (with_section profile p s))
  section_beside view r u is other =
      subst (λ (w : PartialOutline K). Reads view r (with_section profile w.rest s)
      → Reads (λ x. record { rest = view x; codes = w.codes }) r (read_aside make (with_section profile p s))) (sym is) (reads_aside view r other)

  empty_by : (codes : List K) (n : ℕ) → n ≡ length codes → eqb n 0 ≡ is_empty codes
  empty_by [] n many = rw many refl
  empty_by (c ∷ codes) n many = rw many (ne_eqb (suc (length codes)) 0 (omega arith))

  module _ (u : PartialOutline K) (q : Progress) (funcs : ℕ) (is : u ≡ aside make p) (rest_is : q ≡ u.rest) (code : s.id ≡ 10)
      (funcs_are : funcs ≡ length q.lists.funcs) where
    same_rest : q ≡ without_codes p
    same_rest = rest_is ∙ ap (λ (w : PartialOutline K). w.rest) is

    same_funcs : funcs ≡ length p.lists.funcs
    same_funcs = funcs_are ∙ ap (λ (x : Progress). length x.lists.funcs) same_rest

    pub section_made : (place n : ℕ) (none : Bool) (codes : List K) → place ≡ cond (not none) 10 q.place → none ≡ eqb n 0 → n ≡ length codes
        → all_at (codes_aside_at make profile funcs) (section_end s) s.contents ≡ Ok codes
        → read_aside make (with_section profile p s) ≡ Ok (record { rest = record q { place = place }; codes = codes })
    section_made place n none codes place_is none_is many read =
        let read_it : all_at (codes_aside_at make profile (length p.lists.funcs)) (section_end s) s.contents ≡ Ok codes =
        subst (λ (k : ℕ). all_at (codes_aside_at make profile k) (section_end s) s.contents ≡ Ok codes) same_funcs read in
        let empty : is_empty codes ≡ none = sym (none_is ∙ empty_by codes n many) in
        let by_test : with_written codes ≡ record { rest = record (without_codes p) { place = cond (not none) 10 p.place }; codes = codes } =
        ap (λ (b : Bool). record { rest = record (without_codes p) { place = cond (not b) 10 p.place }; codes = codes }) empty in
        let by_rest : record { rest = record (without_codes p) { place = cond (not none) 10 p.place }; codes = codes }
        ≡ record { rest = record q { place = cond (not none) 10 q.place }; codes = codes } =
        ap (λ (x : Progress). record { rest = record x { place = cond (not none) 10 x.place }; codes = codes }) (sym same_rest) in
        let by_place : record { rest = record q { place = cond (not none) 10 q.place }; codes = codes }
        ≡ record { rest = record q { place = place }; codes = codes } =
        ap (λ (k : ℕ). record { rest = record q { place = k }; codes = codes }) (sym place_is) in
        codes_aside codes code read_it ∙ ap (λ (w : PartialOutline K). done w) (by_test ∙ by_rest ∙ by_place)

    pub section_fails : (e : ReadFault) → FailsAs e e.kind (all_at (codes_aside_at make profile funcs) (section_end s) s.contents)
        → FailsAs e e.kind (read_aside make (with_section profile p s))
    section_fails e fails = codes_aside_fail e code
        (subst (λ (k : ℕ). FailsAs e e.kind (all_at (codes_aside_at make profile k) (section_end s) s.contents)) same_funcs fails)

-- ---- section after section

-- Of the sections, some are read and the rest come next.
pub record IsReadSo {K : Type 0} (make : BodyOf → K) (profile : Profile) (left all : List (Result Section ReadFault)) (u : PartialOutline K) : Type 0 where
  pub so_far : Progress
  pub is_aside : u ≡ aside make so_far
  pub reads : sections_read profile so_far left ≡ sections_read profile at_start all
  pub rise : (last : ℕ) × Rise last left

pub begun : {K : Type 0} (make : BodyOf → K) (profile : Profile) (b : List ℕ) (items : List (Result Section ReadFault)) (p : Progress) (codes : List K)
    → items ≡ sections_of b → p ≡ at_start → codes ≡ [] → IsReadSo make profile items (sections_of b) (record { rest = p; codes = codes })
begun {K = K} make profile b items p codes first new none = record {
  so_far = at_start;
  is_aside = ap (λ (q : Progress). record { rest = q; codes = codes }) new ∙ ap (λ (w : List K). record { rest = at_start; codes = w }) none;
  reads = ap (λ (is : List (Result Section ReadFault)). sections_read profile at_start is) first;
  rise = subst (λ (is : List (Result Section ReadFault)). (last : ℕ) × Rise last is) (sym first) (some_rise b);
}

module _ {K : Type 0} (make : BodyOf → K) (profile : Profile) (all : List (Result Section ReadFault)) where
  abbrev whole : Result Progress ReadFault
  whole = sections_read profile at_start all

  module _ (items left : List (Result Section ReadFault)) (u : PartialOutline K) (so : IsReadSo make profile items all u) where
    pub one_more : (s : Section) (v : PartialOutline K) → items ≡ Ok s ∷ left → read_aside make (with_section profile so.so_far s) ≡ Ok v
        → IsReadSo make profile left all v
    unfolding sections_read
    one_more s v first step =
        let a = bound (with_section profile so.so_far s) (aside make) v step in
        let next : sections_read profile so.so_far items ≡ (with_section profile so.so_far s >>= λ q. sections_read profile q left) =
        ap (λ (is : List (Result Section ReadFault)). sections_read profile so.so_far is) first in
        record {
          so_far = a.0;
          is_aside = sym a.2;
          reads = sym (next ∙ ap (λ (r : Result Progress ReadFault). r >>= λ q. sections_read profile q left) a.1) ∙ so.reads;
          rise = let rise = subst (λ (is : List (Result Section ReadFault)). (last : ℕ) × Rise last is) first so.rise in (max rise.0 s.id, rise.1.1);
        }

    stops_at : (e : ReadFault) → sections_read profile so.so_far items ≡ Err e → read_aside make whole ≡ Err e
    stops_at e stop = rw (sym so.reads ∙ stop) refl

    pub stopped : (s : Section) (e : ReadFault) → items ≡ Ok s ∷ left → FailsAs e e.kind (read_aside make (with_section profile so.so_far s))
        → FailsAs e e.kind (read_aside make whole)
    unfolding sections_read
    stopped s e first =
        fails_on e e.kind (read_aside make (with_section profile so.so_far s)) (read_aside make whole)
        (λ bad. stops_at e (ap (λ (is : List (Result Section ReadFault)). sections_read profile so.so_far is) first
        ∙ ap (λ (r : Result Progress ReadFault). r >>= λ q. sections_read profile q left)
        (failed_before (with_section profile so.so_far s) (aside make) e bad)))

    pub broken : (e : ReadFault) → items ≡ Err e ∷ left → FailsAs e e.kind (read_aside make whole)
    unfolding sections_read
    broken e first =
        broken_off e first so.rise refl (stops_at e (ap (λ (is : List (Result Section ReadFault)). sections_read profile so.so_far is) first))

    pub finished : items ≡ [] → read_aside make whole ≡ Ok u
    unfolding sections_read
    finished first =
        let end : sections_read profile so.so_far items ≡ Ok so.so_far =
        ap (λ (is : List (Result Section ReadFault)). sections_read profile so.so_far is) first in
        rw (sym so.reads ∙ end) (ap (λ (v : PartialOutline K). done v) (sym so.is_aside))

-- ---- the module

stubs_zipped : (ts : List ℕ) (bs : List BodyOf) → length ts ≡ length bs → map outlined_func (zipped ts bs) ≡ map stub_of ts
stubs_zipped [] bs e = refl
stubs_zipped (t ∷ ts) [] e = absurd (omega arith)
stubs_zipped (t ∷ ts) (b ∷ bs) e = ap (λ (rest : List Func). stub_of t ∷ rest) (stubs_zipped ts bs (omega arith))

kept_zipped : {K : Type 0} (make : BodyOf → K) (ts : List ℕ) (bs : List BodyOf) → length ts ≡ length bs → map (λ f. make f.body) (zipped ts bs) ≡ map make bs
kept_zipped make [] [] e = refl
kept_zipped make [] (b ∷ bs) e = absurd (omega arith)
kept_zipped make (t ∷ ts) [] e = absurd (omega arith)
kept_zipped {K = K} make (t ∷ ts) (b ∷ bs) e = ap (λ (rest : List K). make b ∷ rest) (kept_zipped make ts bs (omega arith))

module _ (profile : Profile) (end : ℕ) (p : Progress) where
  pub outline_made : (q r : Progress) (n : ℕ) (fs : List Func) → r ≡ q → q ≡ without_codes p → n ≡ length p.lists.codes → length r.lists.funcs ≡ n
      → fs ≡ map stub_of r.lists.funcs
      → read_outlined (joined profile end p) ≡ Ok (record (module_of profile r) { funcs = fs })
  outline_made q r n fs same is many lens fs_are =
      let rest : r ≡ without_codes p = same ∙ is in
      let all : length p.lists.funcs ≡ length p.lists.codes = sym (ap (λ (x : Progress). length x.lists.funcs) rest) ∙ lens ∙ many in
      let made : read_outlined (joined profile end p) ≡ Ok (outlined (module_of profile p)) = rw (joined_again profile end p all) refl in
      made ∙ ap (λ (fs' : List Func). done (record (module_of profile p) { funcs = fs' })) (stubs_zipped p.lists.funcs p.lists.codes all)
      ∙ ap (λ (x : Progress). done (record (module_of profile x) { funcs = map stub_of x.lists.funcs })) (sym rest)
      ∙ ap (λ (fs' : List Func). done (record (module_of profile r) { funcs = fs' })) (sym fs_are)

-- ---- what the outline keeps

types_outlined : (fs : List Func) → map (λ f. f.ty) (map outlined_func fs) ≡ map (λ f. f.ty) fs
types_outlined [] = refl
types_outlined (f ∷ fs) = ap (λ (ts : List ℕ). f.ty ∷ ts) (types_outlined fs)

none_outlined : (fs : List Func) → is_empty (map (λ f. f.body) (map outlined_func fs)) ≡ is_empty (map (λ f. f.body) fs)
none_outlined [] = refl
none_outlined (f ∷ fs) = refl

many_outlined : (fs : List Func) → length (map (λ f. f.body) (map outlined_func fs)) ≡ length (map (λ f. f.body) fs)
many_outlined [] = refl
many_outlined (f ∷ fs) = ap suc (many_outlined fs)

stub_valid : (profile : Profile) → IsCode profile stub
stub_valid profile = (record { counted = omega arith; few = omega arith }, (record { in_range = (tt, tt); shallow = omega arith }, (omega arith, tt)))

stubs_valid : (profile : Profile) (fs : List Func) → AllByRecursion (IsCode profile) (map (λ f. f.body) (map outlined_func fs))
stubs_valid profile [] = tt
stubs_valid profile (f ∷ fs) = (stub_valid profile, stubs_valid profile fs)

module _ (m : Parts) where
  abbrev IsValidIn : SectionId → SectionLists → Type 0
  IsValidIn k l = AreValid m.profile k (contents l k)

  outlined_valid : (k : SectionId) → IsValidIn k (lists_of m) → IsValidIn k (lists_of (outlined m))
  outlined_valid FunctionSection v = subst (λ (ts : List ℕ). AreItems IsU32 ts) (sym (types_outlined m.funcs)) v
  outlined_valid CodeSection v = (subst IsU32 (sym (many_outlined m.funcs)) v.0, stubs_valid m.profile m.funcs)
  outlined_valid _ v = v

  outlined_formed : IsFormed m → IsFormed (outlined m)
  outlined_formed f = record { valid = λ k. outlined_valid k (f.valid k); order = f.order; names = f.names }

  filled_outlined : filled_ids (outlined m) ≡ filled_ids m
  filled_outlined = rw (types_outlined m.funcs, none_outlined m.funcs) refl

  outlined_settled : settle m ≡ m → settle (outlined m) ≡ outlined m
  outlined_settled still =
      ap (λ (ids : List Bool). record (outlined m) { customs = map (settled_custom (λ id. slice_index_or ids id false)) m.customs }) filled_outlined
      ∙ ap (λ (n : Parts). record (outlined m) { customs = n.customs }) still

-- what is read of a module, with a stub in the place of each body
record IsOutlined (read : Result Parts ReadFault) (d : Parts) : Type 0 where
  of : Parts
  is : read ≡ Ok of
  stubs : outlined of ≡ d

module _ (profile : Profile) (b : List ℕ) (is : IsReading profile b (module_at profile b)) where
  outlined_is : (d : Parts) → read_outlined (module_at profile b) ≡ Ok d → IsOutlined (module_at profile b) d
  outlined_is d e = let a = bound (module_at profile b) outlined d e in record { of = a.0; is = a.1; stubs = a.2 }

  read_shaped : (m : Parts) → module_at profile b ≡ Ok m → IsShaped m
  read_shaped m read = (subst (IsReading profile b) read is).3

  pub outline_formed : (d : Parts) → read_outlined (module_at profile b) ≡ Ok d → IsFormed d
  outline_formed d e = let a = outlined_is d e in subst (λ (n : Parts). IsFormed n) a.stubs (outlined_formed a.of (read_shaped a.of a.is).formed)

  pub outline_settled : (d : Parts) → read_outlined (module_at profile b) ≡ Ok d → settle d ≡ d
  outline_settled d e = let a = outlined_is d e in subst (λ (n : Parts). settle n ≡ n) a.stubs (outlined_settled a.of (read_shaped a.of a.is).settled)

-- ---- the whole of it

module _ {K : Type 0} (make : BodyOf → K) (profile : Profile) (b : List ℕ) where
  abbrev progress : Result Progress ReadFault
  progress = sections_read profile at_start (sections_of b)

  pub sections_fail : (e : ReadFault) → FailsAs e e.kind (read_aside make progress) → FailsAs e e.kind (module_at profile b)
  unfolding module_at
  sections_fail e = fails_on e e.kind (read_aside make progress) (module_at profile b) (λ bad. rw (failed_before progress (aside make) e bad) refl)

  -- all that was read, where each code stands aside
  pub record AreRead (u : PartialOutline K) : Type 0 where
    pub so_far : Progress
    pub read : progress ≡ Ok so_far
    pub rest : u.rest ≡ without_codes so_far
    pub codes : u.codes ≡ map make so_far.lists.codes
    pub many : length u.codes ≡ length so_far.lists.codes

  pub are_read : (u v : PartialOutline K) → v ≡ u → read_aside make progress ≡ Ok u → AreRead v
  are_read u v same e =
      let a = bound progress (aside make) u e in
      let is : v ≡ aside make a.0 = same ∙ sym a.2 in
      record {
        so_far = a.0;
        read = a.1;
        rest = ap (λ (w : PartialOutline K). w.rest) is;
        codes = ap (λ (w : PartialOutline K). w.codes) is;
        many = ap (λ (w : PartialOutline K). length w.codes) is ∙ length-map a.0.lists.codes make;
      }

  together_is : (p : Progress) → progress ≡ Ok p → module_at profile b ≡ joined profile (length b) p
  unfolding module_at
  together_is p read = rw read refl

  -- what a call answers that puts together all that was read but the codes, of which there are so many
  abbrev IsTogether : Progress → ℕ → Result Parts ReadFault → Type 0
  IsTogether q n r = (p : Progress) → q ≡ without_codes p → n ≡ length p.lists.codes → Reads (λ d. d) r (read_outlined (joined profile (length b) p))

  module _ (u : PartialOutline K) (r : AreRead u) (n : ℕ) (many : n ≡ length u.codes) where
    joined_by : (x : Result Parts ReadFault) → IsTogether u.rest n x → Reads (λ d. d) x (read_outlined (joined profile (length b) r.so_far))
    joined_by x together = together r.so_far r.rest (many ∙ r.many)

    pub joined_fails : (e : ReadFault) → IsTogether u.rest n (Err e) → FailsAs e e.kind (module_at profile b)
    joined_fails e together =
        fails_on e e.kind (read_outlined (joined profile (length b) r.so_far)) (module_at profile b)
        (λ bad. together_is r.so_far r.read ∙ failed_before (joined profile (length b) r.so_far) outlined e bad) (joined_by (Err e) together)

    pub joined_outlined : (d : Parts) → IsTogether u.rest n (Ok d) → read_outlined (module_at profile b) ≡ Ok d
    joined_outlined d together = rw (together_is r.so_far r.read) (joined_by (Ok d) together)

    pub outline_is : (d m : Parts) → IsTogether u.rest n (Ok d) → m ≡ d
        → (o : Parts) × (module_at profile b ≡ Ok o) × (m ≡ outlined o) × (u.codes ≡ map (λ f. make f.body) o.funcs)
    outline_is d m together same =
        let a = bound (joined profile (length b) r.so_far) outlined d (joined_by (Ok d) together) in
        let j = joined_is profile (length b) r.so_far a.0 a.1 in
        let codes : map (λ f. make f.body) a.0.funcs ≡ map make r.so_far.lists.codes =
        ap (λ (o : Parts). map (λ f. make f.body) o.funcs) (sym j.1) ∙ kept_zipped make r.so_far.lists.funcs r.so_far.lists.codes j.0 in
        (a.0, together_is r.so_far r.read ∙ a.1, same ∙ sym a.2, r.codes ∙ sym codes)

-- ---- the stub

pub stub_spelled : (profile : Profile) → SpellsBody profile stub (0 ∷ 0 ∷ 11 ∷ [])
stub_spelled profile = record {
  locals = 0 ∷ [];
  code = 0 ∷ 11 ∷ [];
  parts = refl;
  grouped = record { count = 0 ∷ []; items = []; parts = refl; counts = (omega arith, omega arith, refl); spelled = refl };
  spelled = record { front = 0 ∷ []; spelled = (0 ∷ [], [], ([], omega arith, refl, refl), refl, refl); whole = refl; shallow = omega arith };
  groups = record { counted = omega arith; few = omega arith };
}

pub stub_whole : (profile : Profile) → Whole (SpellsBody profile) stub (0 ∷ 0 ∷ 11 ∷ [])
stub_whole profile = (omega arith, stub_spelled profile)

no_stub : (e : ReadFault) (kind : ReadKind) (r : Result BodyOf ReadFault) → e.kind ≡ kind → FailsAs e kind r → (kind ≢ Memory → ⊥) → e ≡ no_memory
no_stub e Memory r is fails some = ap (λ (k : ReadKind). let d : ReadFault = record { kind = k; at = e.at } in d) is
    ∙ ap (λ (n : ℕ). let d : ReadFault = record { kind = Memory; at = n } in d) fails
no_stub e _ r is fails some = absurd (some (λ same. absurd cc))

-- a call that reads the stub gives it, or wants memory
pub stub_read : (profile : Profile) (r : Result BodyOf ReadFault) → Reads (λ b. b) r (whole_at (all_body_at profile) (0 ∷ 0 ∷ 11 ∷ []))
    → FindsOnly (λ b. b) (SpellsBody profile) (0 ∷ 0 ∷ 11 ∷ []) r
    → MatchResult r (λ body. body ≡ stub) (λ e. e ≡ no_memory)
stub_read profile (Ok b) reads only = sym (only.1 stub (stub_whole profile))
stub_read profile (Err e) reads only = no_stub e e.kind (whole_at (all_body_at profile) (0 ∷ 0 ∷ 11 ∷ [])) refl reads
    (λ other. only other stub (stub_whole profile))
