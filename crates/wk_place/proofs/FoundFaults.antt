-- The first code that spells no body is the one in which a first fault lies, and the other way round.
use Rattle.std.proofs.Common.{◌≡◌, ◌⊎◌, ℕ, zero, suc, ◌+◌, ◌-◌, ◌<◌, ltb, cond, inl, inr, List, [], ◌∷◌, ◌++◌, length}
use Rattle.std.proofs.Common.{Option, Some, None, Result, Ok, Err, refl, sym, ap, ◌∙◌, arith}
use Rattle.std.proofs.lemmas.Bool.{ltb-true, lt-ltb}
use Rattle.wk_bytes.specs.declared.fault.ReadFault.{ReadFault}
use Rattle.wk_bytes.specs.Frames.{Section, sections_of}
use Rattle.wk_bytes.specs.Leb.{◌>>=◌}
use Rattle.wk_bytes.specs.LebLaws.{IsBytes, bind_ok, chosen, some_is, ok_is, IsBytes-after, IsBytes-before}
use Rattle.wk_bytes.specs.Span.{Span, u32_at}
use Rattle.wk_body.specs.declared.types.Profile.{Profile}
use Rattle.wk_body.specs.Bodies.{BodyOf}
use Rattle.wk_body.specs.Reading.{all_body_at}
use Rattle.wk_body.specs.Vectors.{items_at}
use Rattle.wk_body.proofs.Promised.{bodies_read}
use Rattle.wk_module.specs.Formats.{Reader, bytes_at}
use Rattle.wk_module.specs.Reading.{section_end}
use Rattle.wk_module.specs.Sections.{CodeSection}
use Rattle.wk_module.proofs.Formats.{made_steps}
use Rattle.wk_place.specs.Places.{IsSectionAt, IsItemAt, IsCodeAt, IsBodyFault}
use Rattle.wk_place.specs.Seeking.{first_with, passed, all_passed, item_passed, seek_at, sized_at, then_at, fault_met, met_or, broken_from, broken_at, broken_in}
use Rattle.wk_place.proofs.FoundItems.{passed_again, seek_found}
use Rattle.wk_place.proofs.FoundPlaces.{contents_fit, item_fits, item_again}
use Rattle.wk_place.proofs.FoundSections.{section_found, section_again}
use Rattle.wk_place.proofs.FoundInstrs.{at_span, some_span, span_is, none_some, sized_found, sized_again}

-- ---- things that are passed

abbrev passed_to : List ℕ → Result (Unit {0} × List ℕ) ReadFault
passed_to rest = Ok (tt, rest)

same_rest : (a b : List ℕ) → passed_to a ≡ passed_to b → a ≡ b
same_rest a b e = ap (λ (x : Unit {0} × List ℕ). x.1) (ok_is (tt, a) (tt, b) e)

module _ (p : Reader (Unit {0})) (end : ℕ) where
  all_items : (n : ℕ) (bytes rest : List ℕ) → all_passed p n end bytes ≡ passed_to rest → (us : List (Unit {0})) × (items_at p n end bytes ≡ Ok (us, rest))
  all_items n bytes rest e = let m = made_steps (λ us. tt) (items_at p n) end bytes tt rest e in (m.0, m.1)

  all_none : (bytes rest : List ℕ) → all_passed p 0 end bytes ≡ passed_to rest → bytes ≡ rest
  all_none bytes rest e =
      let m = all_items 0 bytes rest e in
      ap (λ (x : List (Unit {0}) × List ℕ). x.1) (ok_is ([], bytes) (m.0, rest) m.1)

  none_passed : (bytes : List ℕ) → all_passed p 0 end bytes ≡ passed_to bytes
  none_passed bytes = passed_again (items_at p 0) end bytes [] bytes refl

  one_first : (n : ℕ) (bytes after rest : List ℕ) → p end bytes ≡ passed_to after → all_passed p n end after ≡ passed_to rest
      → all_passed p (suc n) end bytes ≡ passed_to rest
  one_first n bytes after rest one others =
      let m = all_items n after rest others in
      passed_again (items_at p (suc n)) end bytes (tt ∷ m.0) rest (rw (one, m.1) refl)

  first_one : (n : ℕ) (bytes rest : List ℕ) → all_passed p (suc n) end bytes ≡ passed_to rest
      → (after : List ℕ) × (p end bytes ≡ passed_to after) × (all_passed p n end after ≡ passed_to rest)
  first_one n bytes rest e =
      let m = all_items (suc n) bytes rest e in
      let a = bind_ok (p end bytes) (λ u. items_at p n end u.1 >>= λ us. Ok (u.0 ∷ us.0, us.1)) (m.0, rest) m.1 in
      let b = bind_ok (items_at p n end a.0.1) (λ us. Ok (a.0.0 ∷ us.0, us.1)) (m.0, rest) a.2 in
      let same : b.0.1 ≡ rest = ap (λ (x : List (Unit {0}) × List ℕ). x.1) (ok_is (a.0.0 ∷ b.0.0, b.0.1) (m.0, rest) b.2) in
      (a.0.1, a.1, passed_again (items_at p n) end a.0.1 b.0.0 rest (b.1 ∙ ap (λ (c : List ℕ). some_items b.0.0 c) same))
    where
      some_items : List (Unit {0}) → List ℕ → Result (List (Unit {0}) × List ℕ) ReadFault
      some_items us rest = Ok (us, rest)

  one_last : (n : ℕ) (bytes mid rest : List ℕ) → all_passed p n end bytes ≡ passed_to mid → p end mid ≡ passed_to rest
      → all_passed p (suc n) end bytes ≡ passed_to rest
  one_last zero bytes mid rest e one =
      let same = all_none bytes mid e in
      one_first 0 bytes rest rest (ap (p end) same ∙ one) (none_passed rest)
  one_last (suc n) bytes mid rest e one =
      let f = first_one n bytes mid e in
      one_first (suc n) bytes f.0 rest f.1 (one_last n f.0 mid rest f.2 one)

-- ---- codes

abbrev code : Reader (Unit {0})
code = passed bytes_at

sized_passes : (end : ℕ) (bytes : List ℕ) (x : Span × List ℕ) → sized_at end bytes ≡ Ok x → code end bytes ≡ passed_to x.1
unfolding sized_at
sized_passes end bytes x e =
    let b = bind_ok (bytes_at end bytes) (λ c. Ok (at_span (end - length c.1) c.0, c.1)) x e in
    let same : b.0.1 ≡ x.1 = ap (λ (y : Span × List ℕ). y.1) (ok_is (at_span (end - length b.0.1) b.0.0, b.0.1) x b.2) in
    passed_again bytes_at end bytes b.0.0 b.0.1 b.1 ∙ ap passed_to same

passed_sized : (end : ℕ) (bytes rest : List ℕ) → code end bytes ≡ passed_to rest → (c : Span) × (sized_at end bytes ≡ Ok (c, rest))
unfolding sized_at
passed_sized end bytes rest e =
    let m = made_steps (λ c. tt) bytes_at end bytes tt rest e in
    (at_span (end - length rest) m.0, rw m.1 refl)

module _ (profile : Profile) where
  code_reached : (item n end : ℕ) (contents counted rest : List ℕ) → u32_at end contents ≡ Ok (n, counted) → item < n
      → all_passed code item end counted ≡ passed_to rest → seek_at profile 10 item end contents ≡ some_span (at_span end rest)
  unfolding seek_at item_passed
  code_reached item n end contents counted rest is lt reached = rw (is, lt-ltb item n lt, reached) refl

  record Reached (item end : ℕ) (contents : List ℕ) (s : Span) : Type 0 where
    n : ℕ
    counted : List ℕ
    is : u32_at end contents ≡ Ok (n, counted)
    within : item < n
    reached : all_passed code item end counted ≡ passed_to s.rest
    ends : s.end ≡ end

  reached_code : (item end : ℕ) (contents : List ℕ) (s : Span) → seek_at profile 10 item end contents ≡ some_span s → Reached item end contents s
  unfolding seek_at item_passed
  reached_code item end contents s e =
      let a = bind_ok (u32_at end contents)
      (λ n. cond (ltb item n.0) (all_passed code item end n.1 >>= λ x. Ok (Some (at_span end x.1))) (Ok None)) (Some s) e in
      elim (chosen (ltb item a.0.0) (all_passed code item end a.0.1 >>= λ x. Ok (Some (at_span end x.1))) (Ok None) (some_span s) a.2) [
        | inl p ↦
            let b = bind_ok (all_passed code item end a.0.1) (λ x. Ok (Some (at_span end x.1))) (Some s) p.1 in
            let there = span_is (at_span end b.0.1) s b.2 in
            record {
              n = a.0.0;
              counted = a.0.1;
              is = a.1;
              within = ltb-true item a.0.0 p.0;
              reached = b.1 ∙ ap passed_to (ap (λ (t : Span). t.rest) there);
              ends = sym (ap (λ (t : Span). t.end) there);
            }
        | inr p ↦ absurd (none_some s p.1)
      ]

  -- ---- the first that spells no body

  abbrev Met : Type 0
  Met = Result (Option (ℕ × ReadFault)) ReadFault

  abbrev met_at : ℕ → ReadFault → Met
  met_at item e = Ok (Some (item, e))

  none_met : (item : ℕ) (e : ReadFault) → Ok None ≡ met_at item e → ⊥
  none_met item e h = absurd cc

  same_met : (i j : ℕ) (d e : ReadFault) → met_at i d ≡ met_at j e → (i ≡ j) × (d ≡ e)
  same_met i j d e h =
      let both = some_is (i, d) (j, e) (ok_is (Some (i, d)) (Some (j, e)) h) in
      (ap (λ (x : ℕ × ReadFault). x.0) both, ap (λ (x : ℕ × ReadFault). x.1) both)

  met_split : (r : Result BodyOf ReadFault) (i item : ℕ) (e : ReadFault) (more : Met) → met_or (fault_met r) i more ≡ met_at item e
      → ((body : BodyOf) × (r ≡ Ok body) × (more ≡ met_at item e)) ⊎ ((i ≡ item) × (r ≡ Err e))
  met_split (Ok body) i item e more h = inl (body, refl, h)
  met_split (Err d) i item e more h = let s = same_met i item d e h in inr (s.0, ap (λ (f : ReadFault). Err f) s.1)

  abbrev body_of : Span → Result BodyOf ReadFault
  body_of c = all_body_at profile c.end c.rest

  record Broken (i n end item : ℕ) (bytes : List ℕ) (e : ReadFault) : Type 0 where
    j : ℕ
    rest : List ℕ
    c : Span
    later : List ℕ
    number : i + j ≡ item
    within : j < n
    passed : all_passed code j end bytes ≡ passed_to rest
    sized : sized_at end rest ≡ Ok (c, later)
    met : body_of c ≡ Err e

  broken_parts : (n i end item : ℕ) (bytes : List ℕ) (e : ReadFault) → broken_from profile i n end bytes ≡ met_at item e → Broken i n end item bytes e
  broken_parts zero i end item bytes e h = absurd (none_met item e h)
  broken_parts (suc n) i end item bytes e h =
      let a = bind_ok (sized_at end bytes) (λ c. met_or (fault_met (body_of c.0)) i (broken_from profile (i + 1) n end c.1)) (Some (item, e)) h in
      elim (met_split (body_of a.0.0) i item e (broken_from profile (i + 1) n end a.0.1) a.2) [
        | inl p ↦
            let b = broken_parts n (i + 1) end item a.0.1 e p.2 in
            record {
              j = suc b.j;
              rest = b.rest;
              c = b.c;
              later = b.later;
              number = omega (arith, b.number);
              within = omega (arith, b.within);
              passed = one_first code end b.j bytes a.0.1 b.rest (sized_passes end bytes a.0 a.1) b.passed;
              sized = b.sized;
              met = b.met;
            }
        | inr p ↦
            record {
              j = 0;
              rest = bytes;
              c = a.0.0;
              later = a.0.1;
              number = omega (arith, p.0);
              within = omega arith;
              passed = none_passed code end bytes;
              sized = a.1;
              met = p.1;
            }
      ]

  same_sized : (x y : Span × List ℕ) (r : Result (Span × List ℕ) ReadFault) → r ≡ Ok x → r ≡ Ok y → x ≡ y
  same_sized x y r e f = ok_is x y (sym e ∙ f)

  -- those in front of it spell bodies
  broken_sound : (j i n end item : ℕ) (bytes rest later : List ℕ) (e : ReadFault) (c : Span) → broken_from profile i n end bytes ≡ met_at item e
      → all_passed code j end bytes ≡ passed_to rest → i + j < item → sized_at end rest ≡ Ok (c, later) → (body : BodyOf) × (body_of c ≡ Ok body)
  broken_sound j i zero end item bytes rest later e c h passes lt sized = absurd (none_met item e h)
  broken_sound zero i (suc n) end item bytes rest later e c h passes lt sized =
      let a = bind_ok (sized_at end bytes) (λ c. met_or (fault_met (body_of c.0)) i (broken_from profile (i + 1) n end c.1)) (Some (item, e)) h in
      let same = same_sized a.0 (c, later) (sized_at end bytes) a.1 (ap (sized_at end) (all_none code end bytes rest passes) ∙ sized) in
      elim (met_split (body_of a.0.0) i item e (broken_from profile (i + 1) n end a.0.1) a.2) [
        | inl p ↦ (p.0, ap (λ (x : Span × List ℕ). body_of x.0) (sym same) ∙ p.1)
        | inr p ↦ absurd (omega (arith, p.0, lt))
      ]
  broken_sound (suc j) i (suc n) end item bytes rest later e c h passes lt sized =
      let a = bind_ok (sized_at end bytes) (λ c. met_or (fault_met (body_of c.0)) i (broken_from profile (i + 1) n end c.1)) (Some (item, e)) h in
      let f = first_one code end j bytes rest passes in
      let same = same_rest f.0 a.0.1 (sym f.1 ∙ sized_passes end bytes a.0 a.1) in
      elim (met_split (body_of a.0.0) i item e (broken_from profile (i + 1) n end a.0.1) a.2) [
        | inl p ↦
            broken_sound j (i + 1) n end item a.0.1 rest later e c p.2 (ap (all_passed code j end) (sym same) ∙ f.2) (omega (arith, lt)) sized
        | inr p ↦ absurd (omega (arith, p.0, lt))
      ]

  -- ---- of an input

  -- what stands at a code is read as it
  code_read : (b : List ℕ) (item : ℕ) (c : Span) (at : IsCodeAt profile b item c) → sized_at at.place.end at.place.rest ≡ Ok (c, at.later)
  code_read b item c at =
      ap (sized_at at.place.end) at.parts ∙ sized_again at.place.end at.size c.rest at.later at.counts
      ∙ ap (λ (end : ℕ). sized_to (at_span end c.rest) at.later) (sym at.ends)
    where
      sized_to : Span → List ℕ → Result (Span × List ℕ) ReadFault
      sized_to c later = Ok (c, later)

  place_fits : (b : List ℕ) (item : ℕ) (place : Span) → IsBytes b → IsItemAt profile b CodeSection item place → IsBytes place.rest
  place_fits b item place fits at =
      item_fits profile CodeSection item at.section.contents place.rest (contents_fit b at.section fits at.is_section) at.reaches

  code_fits : (b : List ℕ) (item : ℕ) (c : Span) → IsBytes b → IsCodeAt profile b item c → IsBytes c.rest
  code_fits b item c fits at =
      let whole : IsBytes (c.rest ++ at.later) = IsBytes-after at.size (c.rest ++ at.later) at.place.rest at.parts (place_fits b item at.place fits at.reached) in
      IsBytes-before c.rest at.later (c.rest ++ at.later) refl whole

  -- where a code of a section stands
  module _ (b : List ℕ) (s : Section) (fits : IsBytes b) (is_section : IsSectionAt b s) (id : s.id ≡ 10) (found : first_with 10 (sections_of b) ≡ Some s) where
    contents_bytes : IsBytes s.contents
    contents_bytes = contents_fit b s fits is_section

    code_there : (item n : ℕ) (counted rest later : List ℕ) (c : Span) → u32_at (section_end s) s.contents ≡ Ok (n, counted) → item < n
        → all_passed code item (section_end s) counted ≡ passed_to rest → sized_at (section_end s) rest ≡ Ok (c, later) → IsCodeAt profile b item c
    code_there item n counted rest later c is lt reached sized =
        let end = section_end s in
        let at = code_reached item n end s.contents counted rest is lt reached in
        let f = seek_found profile CodeSection item end s.contents (at_span end rest) contents_bytes at in
        let rest_fits = item_fits profile CodeSection item s.contents rest contents_bytes f.0 in
        let own = sized_found end rest (c, later) rest_fits sized in
        record {
          place = at_span end rest;
          size = own.size;
          later = later;
          reached = record { section = s; is_section = is_section; id = id; reaches = f.0; ends = refl };
          parts = own.parts;
          counts = own.counts;
          ends = own.ends;
        }

    -- a code that stands there is one of this section
    reached_there : (item : ℕ) (c : Span) (at : IsCodeAt profile b item c) → Reached item (section_end s) s.contents at.place
    reached_there item c at =
        let read = item_again profile b CodeSection item at.place at.reached in
        let here : seek_at profile s.id item (section_end s) s.contents ≡ some_span at.place =
        sym (ap (λ (o : Option Section). then_at o (λ t. seek_at profile t.id item (section_end t) t.contents)) found) ∙ read in
        reached_code item (section_end s) s.contents at.place (ap (λ (n : ℕ). seek_at profile n item (section_end s) s.contents) (sym id) ∙ here)

    sized_there : (item : ℕ) (c : Span) (at : IsCodeAt profile b item c) → sized_at (section_end s) at.place.rest ≡ Ok (c, at.later)
    sized_there item c at =
        ap (λ (end : ℕ). sized_at end at.place.rest) (sym (reached_there item c at).ends) ∙ code_read b item c at

    same_count : (n m : ℕ) (x y : List ℕ) → u32_at (section_end s) s.contents ≡ Ok (n, x) → u32_at (section_end s) s.contents ≡ Ok (m, y) → (n ≡ m) × (x ≡ y)
    same_count n m x y e f =
        let both = ok_is (n, x) (m, y) (sym e ∙ f) in
        (ap (λ (z : ℕ × List ℕ). z.0) both, ap (λ (z : ℕ × List ℕ). z.1) both)

    section_broken : (item : ℕ) (e : ReadFault) → broken_at profile (section_end s) s.contents ≡ met_at item e → IsBodyFault profile b e item
    unfolding broken_at
    section_broken item e h =
        let end = section_end s in
        let a = bind_ok (u32_at end s.contents) (λ n. broken_from profile 0 n.0 end n.1) (Some (item, e)) h in
        let p = broken_parts a.0.0 0 end item a.0.1 e a.2 in
        let number : p.j ≡ item = omega (arith, p.number) in
        let reached : all_passed code item end a.0.1 ≡ passed_to p.rest = ap (λ (n : ℕ). all_passed code n end a.0.1) (sym number) ∙ p.passed in
        record {
          code = p.c;
          there = code_there item a.0.0 a.0.1 p.rest p.later p.c a.1 (omega (arith, number, p.within)) reached p.sized;
          met = p.met;
          sound = λ i c lt at.
              let r = reached_there i c at in
              let same = same_count r.n a.0.0 r.counted a.0.1 r.is a.1 in
              let passes : all_passed code i end a.0.1 ≡ passed_to at.place.rest = ap (all_passed code i end) (sym same.1) ∙ r.reached in
              let body = broken_sound i 0 a.0.0 end item a.0.1 at.place.rest at.later e c a.2 passes (omega (arith, lt)) (sized_there i c at) in
              (body.0, (bodies_read profile).takes c.end c.rest body.0 (code_fits b i c fits at) body.1);
        }

    module _ (item : ℕ) (e : ReadFault) (fault : IsBodyFault profile b e item) (n : ℕ) (counted : List ℕ)
        (is : u32_at (section_end s) s.contents ≡ Ok (n, counted)) (within : item < n) where
      again_from : (k j m : ℕ) (bytes : List ℕ) → all_passed code j (section_end s) counted ≡ passed_to bytes
          → all_passed code k (section_end s) bytes ≡ passed_to fault.there.place.rest → j + k ≡ item → k < m
          → broken_from profile j m (section_end s) bytes ≡ met_at item e
      again_from k j zero bytes before passes number lt = absurd (omega arith)
      again_from zero j (suc m) bytes before passes number lt =
          let end = section_end s in
          let sized : sized_at end bytes ≡ Ok (fault.code, fault.there.later) =
          ap (sized_at end) (all_none code end bytes fault.there.place.rest passes) ∙ sized_there item fault.code fault.there in
          let same : j ≡ item = omega (arith, number) in
          rw (sized, fault.met) (ap (λ (i : ℕ). met_at i e) same)
      again_from (suc k) j (suc m) bytes before passes number lt =
          let end = section_end s in
          let f = first_one code end k bytes fault.there.place.rest passes in
          let c = passed_sized end bytes f.0 f.1 in
          let at = code_there j n counted bytes f.0 c.0 is (omega (arith, number, within)) before c.1 in
          let body = fault.sound j c.0 (omega (arith, number)) at in
          let read : body_of c.0 ≡ Ok body.0 = (bodies_read profile).again c.0.end body.0 c.0.rest body.1 in
          let next : j + 1 ≡ suc j = omega arith in
          let further : all_passed code (j + 1) end counted ≡ passed_to f.0 =
          ap (λ (i : ℕ). all_passed code i end counted) next ∙ one_last code end j counted bytes f.0 before f.1 in
          rw (c.1, read) (again_from k (j + 1) m f.0 further f.2 (omega (arith, number)) (omega (arith, lt)))

    section_again_broken : (item : ℕ) (e : ReadFault) → IsBodyFault profile b e item → broken_at profile (section_end s) s.contents ≡ met_at item e
    unfolding broken_at
    section_again_broken item e fault =
        let r = reached_there item fault.code fault.there in
        let from = again_from item e fault r.n r.counted r.is r.within item 0 r.n r.counted (none_passed code (section_end s) r.counted) r.reached
        (omega arith) r.within in
        rw r.is from

  then_met : (o : Option Section) (more : Section → Met) (item : ℕ) (e : ReadFault) → then_at o more ≡ met_at item e
      → (s : Section) × (o ≡ Some s) × (more s ≡ met_at item e)
  then_met None more item e h = absurd (none_met item e h)
  then_met (Some s) more item e h = (s, refl, h)

  pub broken_found : (b : List ℕ) (item : ℕ) (e : ReadFault) → IsBytes b → broken_in profile b ≡ Ok (Some (item, e)) → IsBodyFault profile b e item
  broken_found b item e fits h =
      let a = then_met (first_with 10 (sections_of b)) (λ s. broken_at profile (section_end s) s.contents) item e h in
      let at = section_found b 10 a.0 fits a.1 in
      section_broken b a.0 fits at.0 at.1 a.1 item e a.2

  pub broken_again : (b : List ℕ) (item : ℕ) (e : ReadFault) → IsBytes b → IsBodyFault profile b e item → broken_in profile b ≡ Ok (Some (item, e))
  broken_again b item e fits fault =
      let at = fault.there.reached in
      let s = at.section in
      let some : 0 < s.id = omega (arith, at.id) in
      let found : first_with 10 (sections_of b) ≡ Some s =
      ap (λ (n : ℕ). first_with n (sections_of b)) (sym at.id) ∙ section_again b s some at.is_section in
      ap (λ (o : Option Section). then_at o (λ t. broken_at profile (section_end t) t.contents)) found
      ∙ section_again_broken b s fits at.is_section at.id found item e fault
