-- What the first fault of reading a module says of its bytes.
use Rattle.std.proofs.Common.{◌≡◌, ◌≢◌, ◌⊎◌, ℕ, zero, suc, ◌-◌, ◌<◌, ◌≤◌, max, eqb, inl, inr, List, [], ◌∷◌, ◌++◌, length}
use Rattle.std.proofs.Common.{map, Some, None, Result, Ok, Err, All, refl, sym, ap, subst, ◌∙◌, append_assoc, arith}
use Rattle.std.proofs.lemmas.Bool.{cases_Bool, eqb-true, eqb-false}
use Rattle.std.proofs.lemmas.List.{append-nil}
use Rattle.std.proofs.lemmas.List.Elements.{All-nil, All-cons}
use Rattle.wk_bytes.specs.declared.fault.ReadKind.TheVariants.{FuncCodeCount, SectionSize, Memory}
use Rattle.wk_bytes.specs.declared.fault.ReadFault.{ReadFault}
use Rattle.wk_bytes.specs.Leb.{◌>>=◌, SpellsU}
use Rattle.wk_bytes.specs.LebLaws.{IsBytes, chosen, IsBytes-after, IsBytes-before}
use Rattle.wk_bytes.specs.PieceLaws.{u32_at-found}
use Rattle.wk_bytes.specs.Span.{Span, name_at}
use Rattle.wk_bytes.specs.SpanLaws.{not_both, err_is, piece_at-takes}
use Rattle.wk_bytes.specs.Frames.{Section, MayCome, SpellsFrames, frame_of, magic, version, section_at, each_then}
use Rattle.wk_bytes.specs.Frames.{sections_within, sections_from, header_at, framing, sections_of}
use Rattle.wk_bytes.specs.FrameLaws.{steps_of, id_at-takes, section_at-takes, section_at-shorter, header_at-takes}
use Rattle.wk_bytes.specs.FrameLaws.{sections_of-found}
use Rattle.wk_body.specs.declared.types.Profile.{Profile}
use Rattle.wk_body.specs.Bodies.{BodyOf}
use Rattle.wk_body.specs.Reads.{FailsAs}
use Rattle.wk_body.specs.ReadsLaws.{other_fault}
use Rattle.wk_module.specs.declared.types.Custom.{Custom}
use Rattle.wk_module.specs.declared.types.Parts.{Parts}
use Rattle.wk_module.specs.Customs.{SpellsCustom, custom_at}
use Rattle.wk_module.specs.ContentsFaults.{IsAt, BreaksIn}
use Rattle.wk_module.specs.FirstFaults.{IsHeaderFault, BeginsWith, last_id, IsFrameFault}
use Rattle.wk_module.specs.FirstFaults.{IsLeftOver, IsCustomFault, IsListFault, IsContentsFault, IsEndFault, IsFirstFault}
use Rattle.wk_module.specs.FormatLaws.{SectionLaws}
use Rattle.wk_module.specs.Formats.{taking_all, all_at}
use Rattle.wk_module.specs.Modules.{SpellsSection}
use Rattle.wk_module.specs.Sections.{SectionId, FunctionSection, CodeSection, number, of_number, ContentsOf, contents}
use Rattle.wk_module.specs.Sections.{SpellsContents, contents_at}
use Rattle.wk_module.specs.SectionLaws.{HasId, has_id, of_number-is, contents-elsewhere, contents-none}
use Rattle.wk_module.specs.Reading.{Progress, at_start, section_end, with_custom, with_lists, section_by, with_section, sections_read, module_of, joined}
use Rattle.wk_module.specs.Reading.{module_at}
use Rattle.wk_module.proofs.ModuleReading.{IsReadTo, sections_complete, custom_stepped, lists_stepped, contents_again, custom_again, may_come_small}
use Rattle.wk_module.proofs.ModuleReading.{sections_are}
use Rattle.wk_module.proofs.ContentsFaults.{at_place, given, name_wrong, count_read, all_codes_count}
use Rattle.wk_module.proofs.FirstFrames.{header_wrong, frame_wrong}
use Rattle.wk_module.proofs.Standing.{section_stands, failed_before}

-- ---- how far reading goes

module _ (profile : Profile) where
  -- no frame is read, or one whose contents are not
  abbrev Fails : Progress → ℕ → ℕ → List ℕ → ReadFault → Type 0
  Fails q last end rest e =
      ((0 < length rest) × (section_at last end rest ≡ Err e))
      ⊎ ((s : Section) × (later : List ℕ) × (section_at last end rest ≡ Ok (s, later)) × (with_section profile q s ≡ Err e))

  -- sections are read as far as the fault
  record Halts (p : Progress) (last end : ℕ) (bytes : List ℕ) (e : ReadFault) : Type 0 where
    read : List Section
    so_far : Progress
    front : List ℕ
    rest : List ℕ
    parts : bytes ≡ front ++ rest
    framed : SpellsFrames last front (map frame_of read)
    goes : IsReadTo profile p read so_far
    fails : Fails so_far (max last (last_id (map frame_of read))) end rest e

  max_zero : (n : ℕ) → max n 0 ≡ n
  max_zero n = omega arith

  max_assoc : (a b c : ℕ) → max (max a b) c ≡ max a (max b c)
  max_assoc a b c = omega arith

  halts_here : (p : Progress) (last end : ℕ) (bytes : List ℕ) (e : ReadFault) → Fails p last end bytes e → Halts p last end bytes e
  halts_here p last end bytes e fails = record {
    read = [];
    so_far = p;
    front = [];
    rest = bytes;
    parts = refl;
    framed = refl;
    goes = refl;
    fails = subst (λ (n : ℕ). Fails p n end bytes e) (sym (max_zero last)) fails;
  }

  halts_later : (p q : Progress) (last end : ℕ) (bytes : List ℕ) (s : Section) (rest : List ℕ) (e : ReadFault) → IsBytes bytes
      → section_at last end bytes ≡ Ok (s, rest) → with_section profile p s ≡ Ok q → Halts q (max last s.id) end rest e → Halts p last end bytes e
  halts_later p q last end bytes s rest e fits is step h =
      let taken = section_at-takes last end bytes s rest fits is in
      record {
        read = s ∷ h.read;
        so_far = h.so_far;
        front = taken.0 ++ h.front;
        rest = h.rest;
        parts = taken.1 ∙ ap (λ (c : List ℕ). taken.0 ++ c) h.parts ∙ sym (append_assoc taken.0 h.front h.rest);
        framed = (taken.0, h.front, refl, taken.2, taken.3, h.framed);
        goes = (q, step, h.goes);
        fails = subst (λ (n : ℕ). Fails h.so_far n end h.rest e) (max_assoc last s.id (last_id (map frame_of h.read))) h.fails;
      }

  halts_step : (p : Progress) (last end : ℕ) (bytes : List ℕ) (s : Section) (rest : List ℕ) (items : List (Result Section ReadFault)) (e : ReadFault)
      (r : Result Progress ReadFault) → IsBytes bytes → section_at last end bytes ≡ Ok (s, rest) → with_section profile p s ≡ r
      → ((q : Progress) → sections_read profile q items ≡ Err e → Halts q (max last s.id) end rest e)
      → (r >>= λ q. sections_read profile q items) ≡ Err e → Halts p last end bytes e
  halts_step p last end bytes s rest items e (Err d) fits is step more h = halts_here p last end bytes e (inr (s, rest, is, step ∙ cc))
  halts_step p last end bytes s rest items e (Ok q) fits is step more h = halts_later p q last end bytes s rest e fits is step (more q h)

  halts_by : (k : ℕ) (p : Progress) (last end : ℕ) (bytes : List ℕ) (e : ReadFault) (r : Result (Section × List ℕ) ReadFault) → IsBytes bytes
      → 0 < length bytes → section_at last end bytes ≡ r
      → ((s : Section) (rest : List ℕ) (q : Progress) → length rest < length bytes → IsBytes rest
      → sections_read profile q (sections_within k (max last s.id) end rest) ≡ Err e → Halts q (max last s.id) end rest e)
      → sections_read profile p (each_then (λ s rest. sections_within k (max last s.id) end rest) r) ≡ Err e → Halts p last end bytes e
  unfolding sections_read
  halts_by k p last end bytes e (Err d) fits some is more h =
      halts_here p last end bytes e (inl (some, is ∙ cc))
  halts_by k p last end bytes e (Ok y) fits some is more h =
      let taken = section_at-takes last end bytes y.0 y.1 fits is in
      let fits' = IsBytes-after taken.0 y.1 bytes taken.1 fits in
      halts_step p last end bytes y.0 y.1 (sections_within k (max last y.0.id) end y.1) e (with_section profile p y.0) fits is refl
      (λ q h'. more y.0 y.1 q (section_at-shorter last end bytes y.0 y.1 is) fits' h') h

  none_left : (p : Progress) (e : ReadFault) → sections_read profile p [] ≡ Err e → ⊥
  unfolding sections_read
  none_left p e h = absurd cc

  halts_within : (k : ℕ) (p : Progress) (last end : ℕ) (bytes : List ℕ) (e : ReadFault) → length bytes ≤ k → IsBytes bytes
      → sections_read profile p (sections_within k last end bytes) ≡ Err e → Halts p last end bytes e
  halts_within zero p last end bytes e le fits h = absurd (none_left p e h)
  halts_within (suc k) p last end [] e le fits h = absurd (none_left p e h)
  halts_within (suc k) p last end (x ∷ bytes) e le fits h =
      halts_by k p last end (x ∷ bytes) e (section_at last end (x ∷ bytes)) fits (omega arith) refl
      (λ s rest q less fits' h'. halts_within k q (max last s.id) end rest e (omega arith) fits' h') h

  halts_from : (p : Progress) (last end : ℕ) (bytes : List ℕ) (e : ReadFault) → IsBytes bytes → sections_read profile p (sections_from last end bytes) ≡ Err e
      → Halts p last end bytes e
  unfolding sections_from
  halts_from p last end bytes e fits h = halts_within (length bytes) p last end bytes e (omega arith) fits h

-- no id of 1 to 10 may come after 10
may_not : (last id n : ℕ) → MayCome last id → 10 ≤ last → 1 ≤ n → n ≤ 10 → id ≡ n → ⊥
may_not last id n (inl p) high some few is = absurd (omega (arith, p, some, is))
may_not last id n (inr p) high some few is = absurd (omega (arith, p.0, high, few, is))

module _ (profile : Profile) (sections : SectionLaws profile) where
  -- what a section holds is the same after others
  keeps : (j : SectionId) (p q : Progress) (s : Section) → HasId s.id → s.id ≢ number j → with_section profile p s ≡ Ok q
      → contents q.lists j ≡ contents p.lists j
  keeps j p q s (inl is) other e =
      let a = custom_stepped profile sections p s q is.1 e in
      ap (λ (r : Progress). contents r.lists j) (sym a.2)
  keeps j p q s (inr is) other e =
      let a = lists_stepped profile sections p s q is.0 is.2 e in
      ap (λ (r : Progress). contents r.lists j) (sym a.2)
      ∙ contents-elsewhere is.0 j a.0 p.lists (λ same. other (is.1 ∙ ap number same))

  codes_stepped : (p q : Progress) (s : Section) → s.id ≡ 10 → with_section profile p s ≡ Ok q → length q.lists.codes ≡ length q.lists.funcs
  codes_stepped p q s is e =
      let a = lists_stepped profile sections p s q CodeSection (of_number-is s.id CodeSection is) e in
      let counted = all_codes_count profile (length p.lists.funcs) (section_end s) s.contents a.0 a.1 in
      subst (λ (r : Progress). length r.lists.codes ≡ length r.lists.funcs) a.2 counted

  abbrev Same : Progress → Progress → Type 0
  Same p q = (q.lists.codes ≡ p.lists.codes) × (q.lists.funcs ≡ p.lists.funcs)

  -- after the code section no other gives codes, and none gives functions
  stays : (p : Progress) (ss : List Section) (q : Progress) (last : ℕ) (b : List ℕ) → 10 ≤ last → SpellsFrames last b (map frame_of ss)
      → IsReadTo profile p ss q → Same p q
  stays p [] q last b high framed goes = (ap (λ (r : Progress). r.lists.codes) (sym goes), ap (λ (r : Progress). r.lists.funcs) (sym goes))
  stays p (s ∷ ss) q last b high framed goes =
      let has = has_id s.id (may_come_small last s.id framed.3) in
      let later = stays goes.0 ss q (max last s.id) framed.1 (omega (arith, high)) framed.5 goes.2 in
      let other : (n : ℕ) → 1 ≤ n → n ≤ 10 → s.id ≢ n = λ n some few is. may_not last s.id n framed.3 high some few is in (
        later.0 ∙ keeps CodeSection p goes.0 s has (other 10 (omega arith) (omega arith)) goes.1,
        later.1 ∙ keeps FunctionSection p goes.0 s has (other 3 (omega arith) (omega arith)) goes.1,
      )

  -- no code section came, and no codes; or there are as many as functions
  abbrev Counted : List Section → Progress → Type 0
  Counted ss q = (All (λ f. f.id ≢ 10) (map frame_of ss) × (q.lists.codes ≡ [])) ⊎ (length q.lists.codes ≡ length q.lists.funcs)

  counted : (p : Progress) (ss : List Section) (q : Progress) (last : ℕ) (b : List ℕ) → SpellsFrames last b (map frame_of ss)
      → IsReadTo profile p ss q → p.lists.codes ≡ [] → Counted ss q
  counted p [] q last b framed goes none =
      inl (All-nil (λ f. f.id ≢ 10), ap (λ (r : Progress). r.lists.codes) (sym goes) ∙ none)
  counted p (s ∷ ss) q last b framed goes none =
      elim (cases_Bool (eqb s.id 10)) [
        | inl t ↦
            let is = eqb-true s.id 10 t in
            let same = stays goes.0 ss q (max last s.id) framed.1 (omega (arith, is)) framed.5 goes.2 in
            inr (ap (λ (xs : List BodyOf). length xs) same.0 ∙ codes_stepped p goes.0 s is goes.1 ∙ sym (ap (λ (xs : List ℕ). length xs) same.1))
        | inr f ↦
            let other = eqb-false s.id 10 f in
            let has = has_id s.id (may_come_small last s.id framed.3) in
            let none' = keeps CodeSection p goes.0 s has other goes.1 ∙ none in
            elim (counted goes.0 ss q (max last s.id) framed.1 framed.5 goes.2 none') [
              | inl h ↦ inl (All-cons (λ f. f.id ≢ 10) (frame_of s) (map frame_of ss) other h.0, h.1)
              | inr h ↦ inr h
            ]
      ]

  -- ---- what was read is in the grammar

  begins : (b front rest : List ℕ) (ss : List Section) (q : Progress) → IsBytes b → b ≡ (magic ++ version) ++ (front ++ rest)
      → SpellsFrames 0 front (map frame_of ss) → IsReadTo profile at_start ss q → BeginsWith profile b (map frame_of ss) q.lists rest
  begins b front rest ss q fits parts framed goes =
      let fits' = IsBytes-before front rest (front ++ rest) refl (IsBytes-after (magic ++ version) (front ++ rest) b parts fits) in
      let whole = sections_complete profile sections at_start ss q 0 front fits' framed goes in
      record {
        front = front;
        parts = parts;
        framed = framed;
        sections = λ k. subst (λ (x : ContentsOf k). SpellsSection (number k) (SpellsContents profile k) x (map frame_of ss) (contents q.lists k))
            (contents-none k) (whole.each k);
        customs = whole.later;
        named = whole.customs;
        counted = elim (counted at_start ss q 0 front framed goes refl) [
          | inl h ↦ inl h.0
          | inr h ↦ inr h
        ];
      }

  -- ---- contents

  abbrev at_once : (p : Progress) (s : Section) (k : SectionId) → Result (ContentsOf k) ReadFault
  at_once p s k = all_at (contents_at profile (length p.lists.funcs) k) (section_end s) s.contents

  custom_wrong : (p : Progress) (s : Section) (e : ReadFault) → IsBytes s.contents → s.id ≡ 0 → custom_at p.place (section_end s) s.contents ≡ Err e
      → IsCustomFault s e
  unfolding custom_at
  custom_wrong p s e fits is h = record {
    id = is;
    none = λ c spelled.
        let here : Custom = record c { place = p.place } in
        let same : SpellsCustom s.contents here = record { size = spelled.size; parts = spelled.parts; counts = spelled.counts; text = spelled.text } in
        not_both (custom_at p.place (section_end s) s.contents) e here h (custom_again p.place (section_end s) s.contents here same refl);
    name = name_wrong (section_end s) s.contents e fits
        (failed_before (name_at (section_end s) s.contents) (λ name. let c : Custom = record { place = p.place; name = name.0; bytes = name.1 } in c) e h);
  }

  left_over : (funcs end : ℕ) (bytes : List ℕ) (k : SectionId) (x : ContentsOf k) (rest : List ℕ) (e : ReadFault) → IsBytes bytes
      → contents_at profile funcs k end bytes ≡ Ok (x, rest) → taking_all end (x, rest) ≡ Err e
      → IsLeftOver profile funcs k (record { rest = bytes; end = end }) e
  left_over funcs end bytes k x [] e fits is h = absurd cc
  left_over funcs end bytes k x (y ∷ rest) e fits is h =
      let found = (sections k).found funcs end bytes x (y ∷ rest) fits is in
      record {
        front = found.0;
        left = y ∷ rest;
        holds = x;
        parts = found.2;
        spelled = found.1;
        counted = count_read profile funcs k end bytes x (y ∷ rest) is;
        some = omega arith;
        there = given SectionSize (end - length (y ∷ rest)) e (err_is {A = ContentsOf k} _ _ h);
      }

  part_wrong : (funcs end : ℕ) (bytes : List ℕ) (k : SectionId) (e : ReadFault) (r : Result (ContentsOf k × List ℕ) ReadFault) → IsBytes bytes
      → length bytes ≤ end → contents_at profile funcs k end bytes ≡ r → (r >>= taking_all end) ≡ Err e
      → BreaksIn profile funcs k (record { rest = bytes; end = end }) e ⊎ IsLeftOver profile funcs k (record { rest = bytes; end = end }) e
  part_wrong funcs end bytes k e (Err d) fits long is h = inl ((sections k).breaks funcs end bytes e fits long (is ∙ cc))
  part_wrong funcs end bytes k e (Ok x) fits long is h = inr (left_over funcs end bytes k x.0 x.1 e fits is h)

  list_wrong : (p : Progress) (s : Section) (e : ReadFault) (k : SectionId) → IsBytes s.contents → s.id ≡ number k → at_once p s k ≡ Err e
      → IsListFault profile (length p.lists.funcs) s e
  list_wrong p s e k fits is h =
      let funcs = length p.lists.funcs in
      record {
        id = k;
        is = is;
        none = λ x count spelled. not_both (at_once p s k) e x h (contents_again profile sections k funcs (section_end s) s.contents x count spelled);
        wrong = part_wrong funcs (section_end s) s.contents k e (contents_at profile funcs k (section_end s) s.contents) fits (omega arith) refl h;
      }

  section_wrong : (p : Progress) (s : Section) (e : ReadFault) → IsBytes s.contents → HasId s.id → with_section profile p s ≡ Err e
      → IsCustomFault s e ⊎ IsListFault profile (length p.lists.funcs) s e
  unfolding section_by
  section_wrong p s e fits (inl is) h =
      let h' : section_by profile p s None ≡ Err e = sym (ap (section_by profile p s) is.1) ∙ h in
      inl (custom_wrong p s e fits is.0 (failed_before (custom_at p.place (section_end s) s.contents) (with_custom p) e h'))
  section_wrong p s e fits (inr is) h =
      let h' : section_by profile p s (Some is.0) ≡ Err e = sym (ap (section_by profile p s) is.2) ∙ h in
      inr (list_wrong p s e is.0 fits is.1 (failed_before (at_once p s is.0) (with_lists is.0 p) e h'))

  contents_wrong : (b front rest : List ℕ) (ss : List Section) (q : Progress) (s : Section) (later : List ℕ) (e : ReadFault) → IsBytes b
      → b ≡ (magic ++ version) ++ (front ++ rest) → SpellsFrames 0 front (map frame_of ss) → IsReadTo profile at_start ss q
      → section_at (last_id (map frame_of ss)) (length b) rest ≡ Ok (s, later) → with_section profile q s ≡ Err e → IsContentsFault profile b e
  contents_wrong b front rest ss q s later e fits parts framed goes is h =
      let last = last_id (map frame_of ss) in
      let fits' = IsBytes-after front rest (front ++ rest) refl (IsBytes-after (magic ++ version) (front ++ rest) b parts fits) in
      let t = steps_of last (length b) rest s later is in
      let one = id_at-takes last (length b) rest s.id t.after_id t.ids in
      let size = u32_at-found (length b) t.after_id t.size t.after_size (IsBytes-after (s.id ∷ []) t.after_id rest one.0 fits') t.sizes in
      let piece = piece_at-takes t.size (length b) t.after_size s.contents later t.pieces in
      let bytes = IsBytes-before s.contents later t.after_size piece.0 (IsBytes-after size.0 t.after_size t.after_id size.2 (IsBytes-after (s.id ∷ []) t.after_id rest one.0 fits')) in
      let all : rest ≡ s.id ∷ (size.0 ++ (s.contents ++ later)) =
      one.0 ∙ ap (λ (c : List ℕ). s.id ∷ c) (size.2 ∙ ap (λ (c : List ℕ). size.0 ++ c) piece.0) in
      record {
        frames = map frame_of ss;
        lists = q.lists;
        section = s;
        size = size.0;
        later = later;
        begins = subst (BeginsWith profile b (map frame_of ss) q.lists) all (begins b front rest ss q fits parts framed goes);
        may = one.1;
        counts = subst (SpellsU 32 size.0) (sym piece.1) size.1;
        place = t.place ∙ ap (λ (c : List ℕ). length b - length c) piece.0;
        wrong = section_wrong q s e bytes (has_id s.id (may_come_small last s.id one.1)) h;
        within = section_stands profile sections q s e (of_number s.id) h;
      }

  -- ---- all of them

  some_frame : (b front rest : List ℕ) (ss : List Section) (q : Progress) (e : ReadFault) → IsBytes b
      → b ≡ (magic ++ version) ++ (front ++ rest) → SpellsFrames 0 front (map frame_of ss) → IsReadTo profile at_start ss q
      → 0 < length rest → section_at (last_id (map frame_of ss)) (length b) rest ≡ Err e → IsFrameFault profile b e
  some_frame b front [] ss q e fits parts framed goes some h = absurd (omega (arith, some))
  some_frame b front (id ∷ after) ss q e fits parts framed goes some h =
      let fits' = IsBytes-after front (id ∷ after) (front ++ (id ∷ after)) refl (IsBytes-after (magic ++ version) (front ++ (id ∷ after)) b parts fits) in
      record {
        frames = map frame_of ss;
        lists = q.lists;
        id = id;
        after_id = after;
        begins = begins b front (id ∷ after) ss q fits parts framed goes;
        wrong = frame_wrong (last_id (map frame_of ss)) b id after e fits' h;
      }

  halted : (b frames : List ℕ) (e : ReadFault) → IsBytes b → b ≡ (magic ++ version) ++ frames → Halts profile at_start 0 (length b) frames e
      → IsHeaderFault b e ⊎ IsFrameFault profile b e ⊎ IsContentsFault profile b e ⊎ IsEndFault profile b e
  halted b frames e fits parts h =
      let all : b ≡ (magic ++ version) ++ (h.front ++ h.rest) = parts ∙ ap (λ (c : List ℕ). (magic ++ version) ++ c) h.parts in
      let last = last_id (map frame_of h.read) in
      let from_zero : max 0 last ≡ last = omega arith in
      elim (subst (λ (n : ℕ). Fails profile h.so_far n (length b) h.rest e) from_zero h.fails) [
        | inl none ↦ inr (inl (some_frame b h.front h.rest h.read h.so_far e fits all h.framed h.goes none.0 none.1))
        | inr one ↦
            inr (inr (inl (contents_wrong b h.front h.rest h.read h.so_far one.0 one.1 e fits all h.framed h.goes one.2 one.3)))
      ]

  sections_wrong : (b : List ℕ) (e : ReadFault) (r : Result Span ReadFault) → IsBytes b → header_at b ≡ r
      → sections_read profile at_start (framing r) ≡ Err e → IsFirstFault profile b e
  unfolding sections_read
  sections_wrong b e (Err d) fits is h = header_wrong profile b e (is ∙ cc)
  sections_wrong b e (Ok s) fits is h =
      let t = header_at-takes b s is in
      let fits' = IsBytes-after (magic ++ version) s.rest b t.0 fits in
      let h' : sections_read profile at_start (sections_from 0 (length b) s.rest) ≡ Err e =
      ap (λ (end : ℕ). sections_read profile at_start (sections_from 0 end s.rest)) (sym t.2) ∙ h in
      inr (t.1, halted b s.rest e fits t.0 (halts_from profile at_start 0 (length b) s.rest e fits' h'))

  -- where sections are read to their end, and their functions have no codes
  uncoded : (b frames : List ℕ) (ss : List Section) (p : Progress) (e : ReadFault) → IsBytes b → b ≡ (magic ++ version) ++ frames
      → SpellsFrames 0 frames (map frame_of ss) → IsReadTo profile at_start ss p → length p.lists.funcs ≢ length p.lists.codes
      → IsAt e FuncCodeCount (length b) → IsEndFault profile b e
  uncoded b frames ss p e fits parts framed goes differ is =
      let all : b ≡ (magic ++ version) ++ (frames ++ []) = parts ∙ ap (λ (c : List ℕ). (magic ++ version) ++ c) (sym (append-nil frames)) in
      elim (counted at_start ss p 0 frames framed goes refl) [
        | inl h ↦
            let none : length p.lists.codes ≡ 0 = ap (λ (xs : List BodyOf). length xs) h.1 in
            record {
              frames = map frame_of ss;
              lists = p.lists;
              begins = begins b frames [] ss p fits all framed goes;
              none = h.0;
              declared = omega (arith, none, differ);
              at_end = is;
            }
        | inr h ↦ absurd (differ (sym h))
      ]

  joined_wrong : (b : List ℕ) (p : Progress) (e : ReadFault) → IsBytes b → sections_read profile at_start (sections_of b) ≡ Ok p
      → joined profile (length b) p ≡ Err e → IsFirstFault profile b e
  joined_wrong b p e fits read h =
      let a = sections_are profile at_start (sections_of b) p read in
      let framing = sections_of-found b a.0 fits a.1 in
      elim (chosen (eqb (length p.lists.funcs) (length p.lists.codes)) (Ok (module_of profile p)) (Err (at_place FuncCodeCount (length b))) (Err e) h) [
        | inl j ↦ absurd cc
        | inr j ↦
            let is = given FuncCodeCount (length b) e (err_is {A = Parts} _ _ j.1) in
            let differ = eqb-false (length p.lists.funcs) (length p.lists.codes) j.0 in
            inr (framing.fits, inr (inr (inr (uncoded b framing.frames a.0 p e fits framing.parts framing.spelled a.2 differ is))))
      ]

  module_by : (b : List ℕ) (e : ReadFault) (r : Result Progress ReadFault) → IsBytes b → sections_read profile at_start (sections_of b) ≡ r
      → (r >>= joined profile (length b)) ≡ Err e → IsFirstFault profile b e
  module_by b e (Err d) fits is h = sections_wrong b e (header_at b) fits refl (is ∙ cc)
  module_by b e (Ok p) fits is h = joined_wrong b p e fits is h

  -- the fault of reading a module is its first
  pub module_first : (b : List ℕ) (e : ReadFault) → IsBytes b → module_at profile b ≡ Err e → IsFirstFault profile b e
  unfolding module_at
  module_first b e fits h = module_by b e (sections_read profile at_start (sections_of b)) fits refl h

  -- so is the fault that a call answers, unless it wants memory
  pub answer_first : (b : List ℕ) (e : ReadFault) → IsBytes b → FailsAs e e.kind (module_at profile b) → e.kind ≢ Memory → IsFirstFault profile b e
  answer_first b e fits fails other = module_first b e fits (other_fault e e.kind (module_at profile b) other fails)
