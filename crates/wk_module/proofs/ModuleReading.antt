-- Modules are read as they are spelled.
use Rattle.std.proofs.Common.{◌≡◌, ◌≢◌, ◌≤◌, ℕ, Bool, cond, eqb, MatchBool, Some, None, List, [], ◌∷◌, ◌++◌, length, map, max, Result, Ok, Err, refl, sym, ap}
use Rattle.std.proofs.Common.{subst, ◌∙◌, append_assoc, inl, inr, arith}
use Rattle.std.proofs.lemmas.Bool.{eqb-true, ne_eqb, eq-eqb, cases_Bool, cond-true, cond-false, MatchBool-at_true, MatchBool-at_false}
use Rattle.std.proofs.lemmas.List.{append-nil}
use Rattle.std.specs.Prelude.{IfOk, IfErr}
use Rattle.wk_bytes.specs.declared.fault.ReadKind.TheVariants.{FuncCodeCount, Memory}
use Rattle.wk_bytes.specs.declared.fault.ReadFault.{ReadFault}
use Rattle.wk_bytes.specs.LebLaws.{IsBytes, bind_ok, chosen, done, ok_is, IsBytes-after, IsBytes-before}
use Rattle.wk_bytes.specs.Pieces.{SpellsName}
use Rattle.wk_bytes.specs.PieceLaws.{name_at-found, name_at-again}
use Rattle.wk_bytes.specs.Span.{name_at}
use Rattle.wk_bytes.specs.Frames.{Frame, Section, MayCome, frame_of, SpellsFrames, SpellsFraming, magic, version, sections_of, without_fault}
use Rattle.wk_bytes.specs.FrameLaws.{contents_bytes, sections_of-found, sections_of-again}
use Rattle.wk_body.specs.declared.types.Profile.{Profile}
use Rattle.wk_body.specs.Bodies.{BodyOf}
use Rattle.wk_body.specs.Reads.{Reads}
use Rattle.wk_body.specs.ReadsLaws.{other_fault}
use Rattle.wk_module.specs.declared.types.Custom.{Custom}
use Rattle.wk_module.specs.declared.types.Func.{Func}
use Rattle.wk_module.specs.declared.types.Parts.{Parts}
use Rattle.wk_module.specs.Customs.{SpellsCustom, IsPlaceAfter, SpellsCustoms, custom_at}
use Rattle.wk_module.specs.FormatLaws.{CountIs, SectionLaws}
use Rattle.wk_module.specs.Formats.{taking_all, all_at}
use Rattle.wk_module.specs.Sections.{SectionId, FunctionSection, CodeSection, number, of_number, ContentsOf, SectionLists, contents, omitted, no_lists}
use Rattle.wk_module.specs.Sections.{with_contents, is_full, SpellsContents, contents_at}
use Rattle.wk_module.specs.Shape.{lists_of, settle}
use Rattle.wk_module.specs.Modules.{SpellsSection, Spells, SpellsNone}
use Rattle.wk_module.specs.ModuleLaws.{SpellOne}
use Rattle.wk_module.specs.Reading.{Progress, at_start, section_end, with_custom, with_lists, section_by, with_section, sections_read, zipped, module_of}
use Rattle.wk_module.specs.Reading.{joined, module_at}
use Rattle.wk_module.proofs.Formats.{behind}
use Rattle.wk_module.proofs.Shaped.{section_stays}
use Rattle.wk_module.specs.SectionLaws.{of_number-none, of_number-is, has_id, HasId, number_some, same_or_other, other_number, contents-here}
use Rattle.wk_module.specs.SectionLaws.{contents-elsewhere, contents-none, same_lists}

-- ---- custom sections

custom_found : (place end : ℕ) (bytes : List ℕ) (c : Custom) → IsBytes bytes → custom_at place end bytes ≡ Ok c → SpellsCustom bytes c × (c.place ≡ place)
unfolding custom_at
custom_found place end bytes c fits e =
    let a = bind_ok (name_at end bytes) (λ name. Ok (record { place = place; name = name.0; bytes = name.1 })) c e in
    let made : Custom = record { place = place; name = a.0.0; bytes = a.0.1 } in
    let same : made ≡ c = ok_is _ _ a.2 in
    let name = name_at-found end bytes a.0.0 a.0.1 fits a.1 in
    let parts : bytes ≡ name.1.size ++ (a.0.0 ++ a.0.1) = name.2 ∙ ap (λ (b : List ℕ). b ++ a.0.1) name.1.parts ∙ append_assoc name.1.size a.0.0 a.0.1 in
    let spelled : SpellsCustom bytes made = record { size = name.1.size; parts = parts; counts = name.1.counts; text = name.1.utf8 } in
    (subst (SpellsCustom bytes) same spelled, sym (ap (λ (d : Custom). d.place) same))

pub custom_again : (place end : ℕ) (bytes : List ℕ) (c : Custom) → SpellsCustom bytes c → c.place ≡ place → custom_at place end bytes ≡ Ok c
unfolding custom_at
custom_again place end bytes c s is =
    let name : SpellsName (s.size ++ c.name) c.name = record { size = s.size; parts = refl; counts = s.counts; utf8 = s.text } in
    let parts : bytes ≡ (s.size ++ c.name) ++ c.bytes = s.parts ∙ sym (append_assoc s.size c.name c.bytes) in
    let read : name_at end bytes ≡ Ok (c.name, c.bytes) = ap (name_at end) parts ∙ name_at-again end (s.size ++ c.name) c.name c.bytes name in
    rw (read, ← is) refl

-- ---- the section of an id

module _ {A : Type 0} (id : ℕ) (Spells : List ℕ → A → Type 0) (omitted x : A) (f : Frame) (fs : List Frame) where
  abbrev Here : Type 0
  Here = (y : A) × Spells f.contents y × SpellsSection id Spells y fs x

  abbrev Later : Type 0
  Later = SpellsSection id Spells omitted fs x

  pub section_here : f.id ≡ id → Here → SpellsSection id Spells omitted (f ∷ fs) x
  section_here e h = subst (λ (b : Bool). MatchBool b Here Later) (sym (eq-eqb f.id id e)) h

  pub section_later : f.id ≢ id → Later → SpellsSection id Spells omitted (f ∷ fs) x
  section_later e h = subst (λ (b : Bool). MatchBool b Here Later) (sym (ne_eqb f.id id e)) h

  pub section_is_here : f.id ≡ id → SpellsSection id Spells omitted (f ∷ fs) x → Here
  section_is_here e h = MatchBool-at_true Here Later (eq-eqb f.id id e) h

  pub section_is_later : f.id ≢ id → SpellsSection id Spells omitted (f ∷ fs) x → Later
  section_is_later e h = MatchBool-at_false Here Later (ne_eqb f.id id e) h

-- ---- functions, and their types and codes

types-zipped : (ts : List ℕ) (bs : List BodyOf) → length ts ≡ length bs → map (λ f. f.ty) (zipped ts bs) ≡ ts
types-zipped [] bs e = refl
types-zipped (t ∷ ts) [] e = absurd (omega arith)
types-zipped (t ∷ ts) (b ∷ bs) e = ap (λ (rest : List ℕ). t ∷ rest) (types-zipped ts bs (omega arith))

bodies-zipped : (ts : List ℕ) (bs : List BodyOf) → length ts ≡ length bs → map (λ f. f.body) (zipped ts bs) ≡ bs
bodies-zipped [] [] e = refl
bodies-zipped [] (b ∷ bs) e = absurd (omega arith)
bodies-zipped (t ∷ ts) [] e = absurd (omega arith)
bodies-zipped (t ∷ ts) (b ∷ bs) e = ap (λ (rest : List BodyOf). b ∷ rest) (bodies-zipped ts bs (omega arith))

zipped-parted : (fs : List Func) → zipped (map (λ f. f.ty) fs) (map (λ f. f.body) fs) ≡ fs
zipped-parted [] = refl
zipped-parted (f ∷ fs) = ap (λ (rest : List Func). f ∷ rest) (zipped-parted fs)

parted_lengths : (fs : List Func) → length (map (λ f. f.ty) fs) ≡ length (map (λ f. f.body) fs)
parted_lengths [] = refl
parted_lengths (f ∷ fs) = omega (arith, parted_lengths fs)

-- the lists of what was read, with these functions
abbrev lists_with : SectionLists → List ℕ → List BodyOf → SectionLists
lists_with l funcs codes = record l { funcs = funcs; codes = codes }

pub lists_of-module_of : (profile : Profile) (p : Progress) → length p.lists.funcs ≡ length p.lists.codes → lists_of (module_of profile p) ≡ p.lists
lists_of-module_of profile p e =
    let funcs = zipped p.lists.funcs p.lists.codes in
    ap (λ (ts : List ℕ). lists_with p.lists ts (map (λ f. f.body) funcs)) (types-zipped p.lists.funcs p.lists.codes e)
    ∙ ap (λ (bs : List BodyOf). lists_with p.lists p.lists.funcs bs) (bodies-zipped p.lists.funcs p.lists.codes e)

-- the module of these lists and customs
abbrev made_of : Profile → List Custom → SectionLists → Parts
made_of profile customs l = module_of profile (record { lists = l; customs = customs; place = 0 })

pub module_of-lists_of : (profile : Profile) (p : Progress) (m : Parts) → m.profile ≡ profile → p.lists ≡ lists_of m → p.customs ≡ m.customs
    → module_of profile p ≡ m
module_of-lists_of profile p m same lists customs =
    ap (made_of profile p.customs) lists
    ∙ ap (λ (cs : List Custom). made_of profile cs (lists_of m)) customs
    ∙ ap (λ (pr : Profile). made_of pr m.customs (lists_of m)) (sym same)
    ∙ ap (λ (fs : List Func). record m { funcs = fs }) (zipped-parted m.funcs)

-- ---- section after section

-- the sections read one after the other, and what that gives
abbrev pub IsReadTo : Profile → Progress → List Section → Progress → Type 0
IsReadTo profile p [] last = p ≡ last
IsReadTo profile p (s ∷ ss) last = (q : Progress) × (with_section profile p s ≡ Ok q) × IsReadTo profile q ss last

pub sections_are : (profile : Profile) (p : Progress) (items : List (Result Section ReadFault)) (last : Progress) → sections_read profile p items ≡ Ok last
    → (ss : List Section) × (items ≡ without_fault ss) × IsReadTo profile p ss last
unfolding sections_read
sections_are profile p [] last e = ([], refl, ok_is _ _ e)
sections_are profile p (Err f ∷ items) last e = absurd cc
sections_are profile p (Ok s ∷ items) last e =
    let a = bind_ok (with_section profile p s) (λ q. sections_read profile q items) last e in
    let others = sections_are profile a.0 items last a.2 in
    (s ∷ others.0, ap (λ (is : List (Result Section ReadFault)). Ok s ∷ is) others.1, (a.0, a.1, others.2))

pub sections_again : (profile : Profile) (p : Progress) (ss : List Section) (last : Progress) → IsReadTo profile p ss last
    → sections_read profile p (without_fault ss) ≡ Ok last
unfolding sections_read
sections_again profile p [] last r = ap (λ (q : Progress). done q) r
sections_again profile p (s ∷ ss) last r = rw r.1 (sections_again profile r.0 ss last r.2)

pub may_come_small : (last id : ℕ) → MayCome last id → id ≤ 11
may_come_small last id (inl p) = omega arith
may_come_small last id (inr p) = p.1

-- what the joined lists say of the number of functions
pub joined_is : (profile : Profile) (end : ℕ) (p : Progress) (m : Parts) → joined profile end p ≡ Ok m
    → (length p.lists.funcs ≡ length p.lists.codes) × (module_of profile p ≡ m)
joined_is profile end p m e =
    elim (chosen (eqb (length p.lists.funcs) (length p.lists.codes)) (Ok (module_of profile p)) (Err (record { kind = FuncCodeCount; at = end })) (Ok m) e) [
      | inl h ↦ (eqb-true (length p.lists.funcs) (length p.lists.codes) h.0, ok_is _ _ h.1)
      | inr h ↦ absurd cc
    ]

pub joined_again : (profile : Profile) (end : ℕ) (p : Progress) → length p.lists.funcs ≡ length p.lists.codes → joined profile end p ≡ Ok (module_of profile p)
joined_again profile end p e = rw (eq-eqb (length p.lists.funcs) (length p.lists.codes) e) refl

-- what was read is settled already, so that settling it gives the same
pub read_settled : (profile : Profile) (b : List ℕ) (m r : Parts) → module_at profile b ≡ Ok m → settle m ≡ m → r ≡ settle m → module_at profile b ≡ Ok r
read_settled profile b m r read settled is = read ∙ ap (λ (n : Parts). done n) (sym settled ∙ sym is)

refused : (r : Result Parts ReadFault) (e : ReadFault) (m : Parts) → r ≡ Err e → r ≡ Ok m → ⊥
refused r e m p q = cc

module _ (profile : Profile) (sections : SectionLaws profile) where
  -- ---- the whole of a section's contents

  taking_all_is : {A : Type 0} (end : ℕ) (y : A) (rest : List ℕ) (x : A) → taking_all end (y, rest) ≡ Ok x → (y ≡ x) × (rest ≡ [])
  taking_all_is end y [] x e = (ok_is _ _ e, refl)
  taking_all_is end y (z ∷ rest) x e = absurd cc

  pub contents_found : (k : SectionId) (funcs end : ℕ) (bytes : List ℕ) (x : ContentsOf k) → IsBytes bytes
      → all_at (contents_at profile funcs k) end bytes ≡ Ok x → SpellsContents profile k bytes x
  contents_found k funcs end bytes x fits e =
      let a = bind_ok (contents_at profile funcs k end bytes) (taking_all end) x e in
      let whole = taking_all_is end a.0.0 a.0.1 x a.2 in
      let s = (sections k).found funcs end bytes a.0.0 a.0.1 fits a.1 in
      let all : s.0 ≡ bytes = sym (behind bytes s.0 a.0.1 [] s.2 whole.1 ∙ append-nil s.0) in
      subst (SpellsContents profile k bytes) whole.0 (subst (λ (c : List ℕ). SpellsContents profile k c a.0.0) all s.1)

  pub contents_again : (k : SectionId) (funcs end : ℕ) (b : List ℕ) (x : ContentsOf k) → CountIs k funcs x → SpellsContents profile k b x
      → all_at (contents_at profile funcs k) end b ≡ Ok x
  contents_again k funcs end b x count s =
      let one : contents_at profile funcs k end b ≡ Ok (x, []) =
      ap (contents_at profile funcs k end) (sym (append-nil b)) ∙ (sections k).again funcs end b x [] count s in
      rw one refl

  -- ---- the place after a section: it stays where that is empty, as the frame is

  abbrev place_behind : (k : SectionId) → ContentsOf k → ℕ → ℕ
  place_behind k x place = cond (is_full k x) (number k) place

  place_after : (k : SectionId) (place : ℕ) (f : Frame) (x : ContentsOf k) → f.id ≡ number k → SpellsContents profile k f.contents x
      → IsPlaceAfter place f (place_behind k x place)
  place_after k place f x is s =
      elim (cases_Bool (is_full k x)) [
        | inl t ↦ inr (λ none. (sections k).full f.contents x s t (λ e. none.vector (is ∙ e)) none.none, cond-true (is_full k x) (number k) place t ∙ sym is)
        | inr n ↦
            let none = (sections k).empty f.contents x s n in
            inl (record { vector = λ e. none.0 (sym is ∙ e); none = none.1 }, cond-false (is_full k x) (number k) place n)
      ]

  one_place_after : (k : SectionId) (place : ℕ) (f : Frame) (x : ContentsOf k) (next : ℕ) → f.id ≡ number k → SpellsContents profile k f.contents x
      → IsPlaceAfter place f next → next ≡ place_behind k x place
  one_place_after k place f x next is s after =
      elim (cases_Bool (is_full k x)) [
        | inl t ↦ elim after [
          | inl p ↦ absurd ((sections k).full f.contents x s t (λ e. p.0.vector (is ∙ e)) p.0.none)
          | inr p ↦ p.1 ∙ is ∙ sym (cond-true (is_full k x) (number k) place t)
        ]
        | inr n ↦
            let none = (sections k).empty f.contents x s n in
            elim after [
              | inl p ↦ p.1 ∙ sym (cond-false (is_full k x) (number k) place n)
              | inr p ↦ absurd (p.0 (record { vector = λ e. none.0 (sym is ∙ e); none = none.1 }))
            ]
      ]

  -- ---- one more section

  -- what the frames spell of one section, where l was read before
  abbrev pub SpellsOne : SectionLists → List Frame → SectionLists → SectionId → Type 0
  SpellsOne l fs lists k = SpellsSection (number k) (SpellsContents profile k) (contents l k) fs (contents lists k)

  -- the frames spell the lists and the customs, behind what was read so far
  pub record Completes (p : Progress) (fs : List Frame) (lists : SectionLists) (cs : List Custom) : Type 0 where
    pub each : (k : SectionId) → SpellsOne p.lists fs lists k
    pub later : List Custom
    pub more : cs ≡ p.customs ++ later
    pub customs : SpellsCustoms p.place fs later

  custom_step : (p : Progress) (s : Section) (c : Custom) → of_number s.id ≡ None → custom_at p.place (section_end s) s.contents ≡ Ok c
      → with_section profile p s ≡ Ok (with_custom p c)
  unfolding section_by
  custom_step p s c is read = rw (is, read) refl

  lists_step : (p : Progress) (s : Section) (k : SectionId) (x : ContentsOf k) → of_number s.id ≡ Some k
      → all_at (contents_at profile (length p.lists.funcs) k) (section_end s) s.contents ≡ Ok x → with_section profile p s ≡ Ok (with_lists k p x)
  unfolding section_by
  lists_step p s k x is read = rw (is, read) refl

  pub custom_stepped : (p : Progress) (s : Section) (q : Progress) → of_number s.id ≡ None → with_section profile p s ≡ Ok q
      → (c : Custom) × (custom_at p.place (section_end s) s.contents ≡ Ok c) × (with_custom p c ≡ q)
  unfolding section_by
  custom_stepped p s q is e =
      let e' : section_by profile p s None ≡ Ok q = sym (ap (section_by profile p s) is) ∙ e in
      let a = bind_ok (custom_at p.place (section_end s) s.contents) (λ c. Ok (with_custom p c)) q e' in
      (a.0, a.1, ok_is _ _ a.2)

  pub lists_stepped : (p : Progress) (s : Section) (q : Progress) (k : SectionId) → of_number s.id ≡ Some k → with_section profile p s ≡ Ok q
      → (x : ContentsOf k) × (all_at (contents_at profile (length p.lists.funcs) k) (section_end s) s.contents ≡ Ok x) × (with_lists k p x ≡ q)
  unfolding section_by
  lists_stepped p s q k is e =
      let e' : section_by profile p s (Some k) ≡ Ok q = sym (ap (section_by profile p s) is) ∙ e in
      let a = bind_ok (all_at (contents_at profile (length p.lists.funcs) k) (section_end s) s.contents) (λ x. Ok (with_lists k p x)) q e' in
      (a.0, a.1, ok_is _ _ a.2)

  -- the lists with those of one section, before its frame
  one_earlier : (k j : SectionId) (x : ContentsOf k) (l : SectionLists) (f : Frame) (fs : List Frame) (lists : SectionLists) → f.id ≡ number k
      → SpellsContents profile k f.contents x
      → SpellsOne (with_contents k x l) fs lists j → SpellsOne l (f ∷ fs) lists j
  one_earlier k j x l f fs lists is s h =
      elim (same_or_other j k) [
        | inl same ↦
            let h' : SpellsOne (with_contents k x l) fs lists k = subst (SpellsOne (with_contents k x l) fs lists) same h in
            let h'' = subst (λ (y : ContentsOf k). SpellsSection (number k) (SpellsContents profile k) y fs (contents lists k)) (contents-here k x l) h' in
            subst (SpellsOne l (f ∷ fs) lists) (sym same)
            (section_here (number k) (SpellsContents profile k) (contents l k) (contents lists k) f fs is (x, s, h''))
        | inr other ↦
            let h' = subst (λ (y : ContentsOf j). SpellsSection (number j) (SpellsContents profile j) y fs (contents lists j))
            (contents-elsewhere k j x l (λ e. other (sym e))) h in
            section_later (number j) (SpellsContents profile j) (contents l j) (contents lists j) f fs (λ e. other_number j k other (sym e ∙ is)) h'
      ]

  -- and behind it
  one_later : (k j : SectionId) (x : ContentsOf k) (l : SectionLists) (f : Frame) (fs : List Frame) (lists : SectionLists) → f.id ≡ number k
      → SpellsSection (number k) (SpellsContents profile k) x fs (contents lists k) → SpellsOne l (f ∷ fs) lists j → SpellsOne (with_contents k x l) fs lists j
  one_later k j x l f fs lists is here h =
      elim (same_or_other j k) [
        | inl same ↦
            let h' = subst (λ (y : ContentsOf k). SpellsSection (number k) (SpellsContents profile k) y fs (contents lists k))
            (sym (contents-here k x l)) here in
            subst (SpellsOne (with_contents k x l) fs lists) (sym same) h'
        | inr other ↦
            let h' = section_is_later (number j) (SpellsContents profile j) (contents l j) (contents lists j) f fs
            (λ e. other_number j k other (sym e ∙ is)) h in
            subst (λ (y : ContentsOf j). SpellsSection (number j) (SpellsContents profile j) y fs (contents lists j))
            (sym (contents-elsewhere k j x l (λ e. other (sym e)))) h'
      ]

  custom_completes : (p : Progress) (s : Section) (c : Custom) (fs : List Frame) (lists : SectionLists) (cs : List Custom) → IsBytes s.contents
      → s.id ≡ 0 → custom_at p.place (section_end s) s.contents ≡ Ok c
      → Completes (with_custom p c) fs lists cs → Completes p (frame_of s ∷ fs) lists cs
  custom_completes p s c fs lists cs fits is read rest =
      let spelled = custom_found p.place (section_end s) s.contents c fits read in
      record {
        each = λ k. section_later (number k) (SpellsContents profile k) (contents p.lists k) (contents lists k) (frame_of s) fs
            (λ e. omega (arith, number_some k, e, is)) (rest.each k);
        later = c ∷ rest.later;
        more = rest.more ∙ append_assoc p.customs (c ∷ []) rest.later;
        customs = inl (is, c, rest.later, refl, spelled.1, spelled.0, rest.customs);
      }

  lists_complete : (p : Progress) (s : Section) (k : SectionId) (x : ContentsOf k) (fs : List Frame) (lists : SectionLists) (cs : List Custom)
      → IsBytes s.contents → s.id ≡ number k
      → all_at (contents_at profile (length p.lists.funcs) k) (section_end s) s.contents ≡ Ok x → Completes (with_lists k p x) fs lists cs
      → Completes p (frame_of s ∷ fs) lists cs
  lists_complete p s k x fs lists cs fits is read rest =
      let spelled = contents_found k (length p.lists.funcs) (section_end s) s.contents x fits read in
      record {
        each = λ j. one_earlier k j x p.lists (frame_of s) fs lists is spelled (rest.each j);
        later = rest.later;
        more = rest.more;
        customs = inr (λ e. omega (arith, number_some k, is, e), place_behind k x p.place, place_after k p.place (frame_of s) x is spelled, rest.customs);
      }

  step_completes : (p : Progress) (s : Section) (q : Progress) (fs : List Frame) (lists : SectionLists) (cs : List Custom) → IsBytes s.contents
      → HasId s.id → with_section profile p s ≡ Ok q → Completes q fs lists cs → Completes p (frame_of s ∷ fs) lists cs
  step_completes p s q fs lists cs fits (inl is) e rest =
      let a = custom_stepped p s q is.1 e in
      custom_completes p s a.0 fs lists cs fits is.0 a.1 (subst (λ (r : Progress). Completes r fs lists cs) (sym a.2) rest)
  step_completes p s q fs lists cs fits (inr is) e rest =
      let a = lists_stepped p s q is.0 is.2 e in
      lists_complete p s is.0 a.0 fs lists cs fits is.1 a.1 (subst (λ (r : Progress). Completes r fs lists cs) (sym a.2) rest)

  -- the same the other way round
  abbrev Steps : Progress → Section → List Frame → SectionLists → List Custom → Type 0
  Steps p s fs lists cs = (q : Progress) × (with_section profile p s ≡ Ok q) × Completes q fs lists cs

  completes_custom : (p : Progress) (s : Section) (fs : List Frame) (lists : SectionLists) (cs : List Custom) → Completes p (frame_of s ∷ fs) lists cs
      → (h : (s.id ≡ 0) × (c : Custom) × (later : List Custom) × (all : List Custom) × (all ≡ c ∷ later) × (cs ≡ p.customs ++ all) × (c.place ≡ p.place)
      × SpellsCustom s.contents c × SpellsCustoms p.place fs later) → Steps p s fs lists cs
  completes_custom p s fs lists cs rest h =
      let read = custom_again p.place (section_end s) s.contents h.1 h.7 h.6 in (
        with_custom p h.1,
        custom_step p s h.1 (of_number-none s.id h.0) read,
        record {
          each = λ k. section_is_later (number k) (SpellsContents profile k) (contents p.lists k) (contents lists k) (frame_of s) fs
              (λ e. omega (arith, number_some k, e, h.0)) (rest.each k);
          later = h.2;
          more = h.5 ∙ ap (λ (ds : List Custom). p.customs ++ ds) h.4 ∙ sym (append_assoc p.customs (h.1 ∷ []) h.2);
          customs = h.8;
        },
      )

  -- behind a code section the functions are all declared
  count_is : (k : SectionId) (id last : ℕ) (b : List ℕ) (fs : List Frame) (x : ContentsOf k) (funcs : List ℕ) (lists : SectionLists)
      → length lists.funcs ≡ length lists.codes → id ≡ number k → SpellsFrames (max last id) b fs
      → SpellsSection (number k) (SpellsContents profile k) x fs (contents lists k)
      → (id ≢ 3 → SpellsSection 3 (SpellsContents profile FunctionSection) funcs fs lists.funcs) → CountIs k (length funcs) x
  count_is CodeSection id last b fs x funcs lists same is framed here h =
      let codes : lists.codes ≡ x = section_stays (SpellsContents profile CodeSection) 10 (max last id) b fs x lists.codes (omega arith)
      (omega arith) framed here in
      let declared : lists.funcs ≡ funcs = section_stays (SpellsContents profile FunctionSection) 3 (max last id) b fs funcs lists.funcs (omega arith)
      (omega arith) framed (h (omega arith)) in
      omega (arith, same, ap length codes, ap length declared)
  count_is _ id last b fs x funcs lists same is framed here h = tt

  completes_lists : (p : Progress) (s : Section) (k : SectionId) (last : ℕ) (b : List ℕ) (fs : List Frame) (lists : SectionLists) (cs : List Custom)
      → length lists.funcs ≡ length lists.codes → s.id ≡ number k
      → SpellsFrames (max last s.id) b fs → Completes p (frame_of s ∷ fs) lists cs
      → (h : (all : List Custom) × (cs ≡ p.customs ++ all) × (next : ℕ) × IsPlaceAfter p.place (frame_of s) next × SpellsCustoms next fs all)
      → Steps p s fs lists cs
  completes_lists p s k last b fs lists cs same is framed rest h =
      let here = section_is_here (number k) (SpellsContents profile k) (contents p.lists k) (contents lists k) (frame_of s) fs is (rest.each k) in
      let count = count_is k s.id last b fs here.0 p.lists.funcs lists same is framed here.2
      (λ other. section_is_later 3 (SpellsContents profile FunctionSection) p.lists.funcs lists.funcs (frame_of s) fs other
      (rest.each FunctionSection)) in
      let read = contents_again k (length p.lists.funcs) (section_end s) s.contents here.0 count here.1 in
      let place = one_place_after k p.place (frame_of s) here.0 h.2 is here.1 h.3 in (
        with_lists k p here.0,
        lists_step p s k here.0 (of_number-is s.id k is) read,
        record {
          each = λ j. one_later k j here.0 p.lists (frame_of s) fs lists is here.2 (rest.each j);
          later = h.0;
          more = h.1;
          customs = subst (λ (next : ℕ). SpellsCustoms next fs h.0) place h.4;
        },
      )

  completes_step_by : (p : Progress) (s : Section) (last : ℕ) (b : List ℕ) (fs : List Frame) (lists : SectionLists) (cs : List Custom)
      → length lists.funcs ≡ length lists.codes → HasId s.id
      → SpellsFrames (max last s.id) b fs → Completes p (frame_of s ∷ fs) lists cs → (all : List Custom) → cs ≡ p.customs ++ all
      → SpellsCustoms p.place (frame_of s ∷ fs) all → Steps p s fs lists cs
  completes_step_by p s last b fs lists cs same (inl is) framed rest all more (inl h) =
      completes_custom p s fs lists cs rest (h.0, h.1, h.2, all, h.3, more, h.4, h.5, h.6)
  completes_step_by p s last b fs lists cs same (inr is) framed rest all more (inl h) = absurd (omega (arith, number_some is.0, is.1, h.0))
  completes_step_by p s last b fs lists cs same (inl is) framed rest all more (inr h) = absurd (h.0 is.0)
  completes_step_by p s last b fs lists cs same (inr is) framed rest all more (inr h) =
      completes_lists p s is.0 last b fs lists cs same is.1 framed rest (all, more, h.1, h.2, h.3)

  completes_step : (p : Progress) (s : Section) (last : ℕ) (b : List ℕ) (fs : List Frame) (lists : SectionLists) (cs : List Custom)
      → length lists.funcs ≡ length lists.codes → HasId s.id
      → SpellsFrames (max last s.id) b fs → Completes p (frame_of s ∷ fs) lists cs → Steps p s fs lists cs
  completes_step p s last b fs lists cs same is framed rest = completes_step_by p s last b fs lists cs same is framed rest rest.later rest.more rest.customs

  -- ---- all sections

  pub sections_complete : (p : Progress) (ss : List Section) (end : Progress) (last : ℕ) (b : List ℕ) → IsBytes b → SpellsFrames last b (map frame_of ss)
      → IsReadTo profile p ss end → Completes p (map frame_of ss) end.lists end.customs
  sections_complete p [] end last b fits framed r = record {
    each = λ k. ap (λ (q : Progress). contents q.lists k) (sym r);
    later = [];
    more = ap (λ (q : Progress). q.customs) (sym r) ∙ sym (append-nil p.customs);
    customs = refl;
  }
  sections_complete p (s ∷ ss) end last b fits framed r =
      let here = contents_bytes framed.0 (frame_of s) (IsBytes-before framed.0 framed.1 b framed.2 fits) framed.4 in
      let rest = sections_complete r.0 ss end (max last s.id) framed.1 (IsBytes-after framed.0 framed.1 b framed.2 fits) framed.5 r.2 in
      step_completes p s r.0 (map frame_of ss) end.lists end.customs here (has_id s.id (may_come_small last s.id framed.3)) r.1 rest

  -- where they end, with these lists and customs
  abbrev EndsAt : Progress → List Section → SectionLists → List Custom → Type 0
  EndsAt p ss lists cs = (end : Progress) × IsReadTo profile p ss end × (end.lists ≡ lists) × (end.customs ≡ cs)

  complete_sections : (p : Progress) (ss : List Section) (lists : SectionLists) (cs : List Custom) (last : ℕ) (b : List ℕ)
      → length lists.funcs ≡ length lists.codes → SpellsFrames last b (map frame_of ss)
      → Completes p (map frame_of ss) lists cs → EndsAt p ss lists cs
  complete_sections p [] lists cs last b same framed rest = (
    p,
    refl,
    same_lists p.lists lists (λ k. sym (rest.each k)),
    sym (rest.more ∙ ap (λ (ds : List Custom). p.customs ++ ds) rest.customs ∙ append-nil p.customs),
  )
  complete_sections p (s ∷ ss) lists cs last b same framed rest =
      let step = completes_step p s last framed.1 (map frame_of ss) lists cs same (has_id s.id (may_come_small last s.id framed.3)) framed.5 rest in
      let others = complete_sections step.0 ss lists cs (max last s.id) framed.1 same framed.5 step.2 in
      (others.0, (step.0, step.1, others.1), others.2, others.3)

  -- ---- modules

  abbrev IsFound : List ℕ → Parts → Type 0
  IsFound b m = Spells b m × (m.profile ≡ profile)

  found_at_end : (b : List ℕ) (p : Progress) (fs : List Frame) → SpellsFraming b fs → length p.lists.funcs ≡ length p.lists.codes
      → Completes at_start fs p.lists p.customs → IsFound b (module_of profile p)
  found_at_end b p fs framing same whole =
      let lists : p.lists ≡ lists_of (module_of profile p) = sym (lists_of-module_of profile p same) in
      let each : (k : SectionId) → SpellsSection (number k) (SpellsContents profile k) (omitted k) fs (contents p.lists k) =
      λ k. subst (λ (x : ContentsOf k). SpellsSection (number k) (SpellsContents profile k) x fs (contents p.lists k)) (contents-none k) (whole.each k) in (
        record {
          frames = fs;
          framing = framing;
          sections = λ k. subst (λ (l : SectionLists). SpellsSection (number k) (SpellsContents profile k) (omitted k) fs (contents l k)) lists (each k);
          customs = subst (SpellsCustoms 0 fs) (sym whole.more) whole.customs;
        },
        refl,
      )

  -- what is read is spelled
  pub module_found : (b : List ℕ) (m : Parts) → IsBytes b → module_at profile b ≡ Ok m → Spells b m × (m.profile ≡ profile)
  unfolding module_at
  module_found b m fits e =
      let a = bind_ok (sections_read profile at_start (sections_of b)) (joined profile (length b)) m e in
      let end = joined_is profile (length b) a.0 m a.2 in
      let ss = sections_are profile at_start (sections_of b) a.0 a.1 in
      let framing = sections_of-found b ss.0 fits ss.1 in
      let inner : IsBytes framing.frames = IsBytes-after (magic ++ version) framing.frames b framing.parts fits in
      let whole = sections_complete at_start ss.0 a.0 0 framing.frames inner framing.spelled ss.2 in
      subst (IsFound b) end.1 (found_at_end b a.0 (map frame_of ss.0) framing end.0 whole)

  -- what is spelled is read
  pub module_again : (b : List ℕ) (m : Parts) → m.profile ≡ profile → Spells b m → module_at profile b ≡ Ok m
  unfolding module_at
  module_again b m same s =
      let a = sections_of-again b s.frames s.framing in
      let each : (k : SectionId) → SpellsOne no_lists s.frames (lists_of m) k =
      λ k. subst (λ (x : ContentsOf k). SpellsSection (number k) (SpellsContents profile k) x s.frames (contents (lists_of m) k))
      (sym (contents-none k)) (subst
      (λ (pr : Profile). SpellsSection (number k) (SpellsContents pr k) (omitted k) s.frames (contents (lists_of m) k)) same (s.sections k)) in
      let whole : Completes at_start s.frames (lists_of m) m.customs = record { each = each; later = m.customs; more = refl; customs = s.customs } in
      let whole' : Completes at_start (map frame_of a.0) (lists_of m) m.customs =
      subst (λ (fs : List Frame). Completes at_start fs (lists_of m) m.customs) (sym a.1) whole in
      let framed : SpellsFrames 0 s.framing.frames (map frame_of a.0) = subst (SpellsFrames 0 s.framing.frames) (sym a.1) s.framing.spelled in
      let ends = complete_sections at_start a.0 (lists_of m) m.customs 0 s.framing.frames (parted_lengths m.funcs) framed whole' in
      let read : sections_read profile at_start (sections_of b) ≡ Ok ends.0 =
      ap (sections_read profile at_start) a.2 ∙ sections_again profile at_start a.0 ends.0 ends.1 in
      let lengths : length ends.0.lists.funcs ≡ length ends.0.lists.codes =
      subst (λ (l : SectionLists). length l.funcs ≡ length l.codes) (sym ends.2) (parted_lengths m.funcs) in
      rw read (joined_again profile (length b) ends.0 lengths) ∙ ap (λ (n : Parts). done n) (module_of-lists_of profile ends.0 m same ends.2 ends.3)

  -- no bytes spell two modules of the profile
  pub module_one : (b : List ℕ) (m n : Parts) → m.profile ≡ profile → n.profile ≡ profile → Spells b m → Spells b n → m ≡ n
  module_one b m n p q s t = ok_is m n (sym (module_again b m p s) ∙ module_again b n q t)

  -- where a fault is read, no module of the profile is spelled
  pub module_none : (b : List ℕ) (e : ReadFault) → module_at profile b ≡ Err e → SpellsNone profile b
  module_none b e is m same s = refused (module_at profile b) e m is (module_again b m same s)

  -- ---- what a call that reads answers

  pub answer_found : (b : List ℕ) (r : Result Parts ReadFault) → IsBytes b → Reads (λ m. m) r (module_at profile b) → IfOk r (λ m. Spells b m)
  answer_found b (Ok m) fits reads = (module_found b m fits reads).0
  answer_found b (Err e) fits reads = tt

  pub answer_profile : (b : List ℕ) (r : Result Parts ReadFault) → IsBytes b → Reads (λ m. m) r (module_at profile b) → IfOk r (λ m. m.profile ≡ profile)
  answer_profile b (Ok m) fits reads = (module_found b m fits reads).1
  answer_profile b (Err e) fits reads = tt

  pub answer_only : (b : List ℕ) (r : Result Parts ReadFault) → Reads (λ m. m) r (module_at profile b)
      → IfOk r (λ m. (n : Parts) → n.profile ≡ profile → Spells b n → n ≡ m)
  answer_only b (Ok m) reads = λ n same s. ok_is n m (sym (module_again b n same s) ∙ reads)
  answer_only b (Err e) reads = tt

  pub answer_refused : (b : List ℕ) (r : Result Parts ReadFault) → Reads (λ m. m) r (module_at profile b)
      → IfErr r (λ e. e.kind ≢ Memory → SpellsNone profile b)
  answer_refused b (Ok m) reads = tt
  answer_refused b (Err e) reads = λ other. module_none b e (other_fault e e.kind (module_at profile b) other reads)

-- no bytes spell two modules of one profile
pub spell_one : ((profile : Profile) → SectionLaws profile) → SpellOne
spell_one all b m n same s t = module_one n.profile (all n.profile) b m n same refl s t
