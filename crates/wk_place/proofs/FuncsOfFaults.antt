-- The function in whose body a first fault lies.
use Rattle.std.proofs.Common.{◌≡◌, ℕ, ◌+◌, ◌^◌, ◌<◌, ◌≤◌, ltb, inl, inr, List, ◌++◌, length}
use Rattle.std.proofs.Common.{Option, Some, None, Result, Ok, Err, refl, sym, ap, ◌∙◌, length-append, arith}
use Rattle.std.proofs.lemmas.Bool.{lt-ltb}
use Rattle.std.specs.Option.{MatchOption}
use Rattle.wk_bytes.specs.declared.fault.ReadFault.{ReadFault}
use Rattle.wk_bytes.specs.Frames.{Section, limit, sections_of}
use Rattle.wk_bytes.specs.Leb.{◌>>=◌}
use Rattle.wk_bytes.specs.LebLaws.{IsBytes, bind_ok, chosen, some_is, ok_is}
use Rattle.wk_bytes.specs.SpanLaws.{not_both}
use Rattle.wk_body.specs.declared.types.Profile.{Profile}
use Rattle.wk_body.specs.Vectors.{SpellsVector, vector_at}
use Rattle.wk_module.specs.declared.types.Import.{Import}
use Rattle.wk_module.specs.declared.types.Kind.TheVariants as kinds
use Rattle.wk_module.specs.Formats.{made_at}
use Rattle.wk_module.specs.Imports.{import_count}
use Rattle.wk_module.specs.ImportLaws.{import_count_le}
use Rattle.wk_module.specs.Items.{SpellsImport, import_at}
use Rattle.wk_module.specs.Reading.{section_end}
use Rattle.wk_module.specs.Sections.{CodeSection}
use Rattle.wk_module.proofs.Formats.{vector_format, made_steps}
use Rattle.wk_module.proofs.ItemFormats.{import_format}
use Rattle.wk_typing.specs.declared.fault.Place.{Place}
use Rattle.wk_place.specs.Places.{IsSectionAt, IsBodyFault, AreImported, IsInNoBody, IsInBodyOf}
use Rattle.wk_place.specs.Seeking.{first_with, funcs_at, imported_in, imported_at, func_by, broken_in, IsFuncIf}
use Rattle.wk_place.proofs.FoundFaults.{broken_found, broken_again}
use Rattle.wk_place.proofs.FoundFuncs.{items_long}
use Rattle.wk_place.proofs.FoundPlaces.{contents_fit, contents_short, item_no_longer, place_again}
use Rattle.wk_place.proofs.FoundSections.{section_found, section_again}

-- ---- imported functions

abbrev number_is : ℕ → Result ℕ ReadFault
number_is n = Ok n

imported_by : (b : List ℕ) (n : ℕ) (o : Option Section) → IsBytes b → first_with 2 (sections_of b) ≡ o → imported_in o ≡ number_is n → AreImported b n
unfolding made_at
imported_by b n None fits is e = inl (λ s at id. nowhere s at id, sym (ok_is 0 n e))
  where
    none_some : (s : Section) → None ≡ Some s → ⊥
    none_some s e = absurd cc

    nowhere : (s : Section) → IsSectionAt b s → s.id ≡ 2 → ⊥
    nowhere s at id =
        let some : 0 < s.id = omega (arith, id) in
        none_some s (sym is ∙ ap (λ (k : ℕ). first_with k (sections_of b)) (sym id) ∙ section_again b s some at)
imported_by b n (Some s) fits is e =
    let at = section_found b 2 s fits is in
    let a = bind_ok (funcs_at (section_end s) s.contents) (λ x. Ok x.0) n e in
    let m = made_steps (import_count kinds.Func) (vector_at import_at) (section_end s) s.contents a.0.0 a.0.1 a.1 in
    let f = (vector_format import_format).found (section_end s) s.contents m.0 a.0.1 (contents_fit b s fits at.0) m.1 in
    inr (s, f.0, a.0.1, m.0, at.0, at.1, f.2, f.1, sym (m.2 ∙ ok_is a.0.0 n a.2))

funcs_again : (end : ℕ) (contents front later : List ℕ) (is : List Import) → contents ≡ front ++ later → SpellsVector SpellsImport front is
    → (funcs_at end contents >>= λ n. Ok n.0) ≡ number_is (import_count kinds.Func is)
unfolding made_at
funcs_again end contents front later is parts s =
    let read : vector_at import_at end contents ≡ Ok (is, later) =
    ap (vector_at import_at end) parts ∙ (vector_format import_format).again end front is later s in
    rw read refl

-- what is counted where they stand so
abbrev Counted : List ℕ → ℕ → Type 0
Counted b n = (imported_at b ≡ number_is n) × (n ≤ limit)

imported_none : (b : List ℕ) (n : ℕ) (o : Option Section) → IsBytes b → ((s : Section) → IsSectionAt b s → s.id ≡ 2 → ⊥) → n ≡ 0
    → first_with 2 (sections_of b) ≡ o → Counted b n
imported_none b n None fits nowhere none is = (ap imported_in is ∙ ap number_is (sym none), omega (arith, none))
imported_none b n (Some s) fits nowhere none is = let at = section_found b 2 s fits is in absurd (nowhere s at.0 at.1)

imported_again : (b : List ℕ) (n : ℕ) → IsBytes b → AreImported b n → Counted b n
imported_again b n fits (inl p) = imported_none b n (first_with 2 (sections_of b)) fits p.0 p.1 refl
imported_again b n fits (inr p) =
    let s = p.0 in
    let is = p.3 in
    let some : 0 < s.id = omega (arith, p.5) in
    let found : first_with 2 (sections_of b) ≡ Some s =
    ap (λ (k : ℕ). first_with k (sections_of b)) (sym p.5) ∙ section_again b s some p.4 in
    let v = p.7 in (
      ap imported_in found ∙ funcs_again (section_end s) s.contents p.1 p.2 is p.6 v ∙ ap number_is (sym p.8),
      omega (
        arith,
        p.8,
        import_count_le kinds.Func is,
        items_long v.items is v.spelled,
        ap length v.parts,
        length-append v.count v.items,
        ap length p.6,
        length-append p.1 p.2,
        contents_short b s p.4,
      ),
    )

-- ---- the function

abbrev met_at : ℕ → ReadFault → Result (Option (ℕ × ReadFault)) ReadFault
met_at item e = Ok (Some (item, e))

-- what is told of a fault: nothing where it is that of no body, and else the function
abbrev pub IsFuncOfFault : Profile → List ℕ → ReadFault → Option ℕ → Type 0
IsFuncOfFault profile b e o = MatchOption o (IsInNoBody profile b e) (IsInBodyOf profile b e)

module _ (profile : Profile) (b : List ℕ) (e : ReadFault) (fits : IsBytes b) where
  -- where a first fault lies in a body, it is found, and so are the imported functions
  record Complete (n item : ℕ) : Type 0 where
    broken : broken_in profile b ≡ met_at item e
    imported : imported_at b ≡ number_is n
    few : n + item < 2 ^ 32

  complete : (n item : ℕ) → AreImported b n → IsBodyFault profile b e item → Complete n item
  complete n item are fault =
      let p : Place = record { section = 10; item = item; token = None } in
      let at = fault.there in
      let place = place_again profile b p at.place fits (record { id = CodeSection; is = refl; item = at.place; reached = at.reached; within = refl }) in
      let short = item_no_longer profile b p at.place fits place in
      let counted = imported_again b n fits are in
      record { broken = broken_again profile b item e fits fault; imported = counted.0; few = omega (arith, short, counted.1) }

  none_some : (n : ℕ) → None ≡ Some n → ⊥
  none_some n h = absurd cc

  same_met : (i j : ℕ) (d f : ReadFault) → met_at i d ≡ met_at j f → (i ≡ j) × (d ≡ f)
  same_met i j d f h =
      let both = some_is (i, d) (j, f) (ok_is (Some (i, d)) (Some (j, f)) h) in
      (ap (λ (x : ℕ × ReadFault). x.0) both, ap (λ (x : ℕ × ReadFault). x.1) both)

  func_found : (n item func : ℕ) (r : Result ℕ ReadFault) → imported_at b ≡ r → func_by r item ≡ Some func
      → (m : ℕ) × (imported_at b ≡ number_is m) × (func ≡ m + item)
  func_found n item func (Ok m) is h =
      elim (chosen (ltb (m + item) (2 ^ 32)) (Some (m + item)) None (Some func) h) [
        | inl p ↦ (m, is, sym (some_is (m + item) func p.1))
        | inr p ↦ absurd (none_some func p.1)
      ]
  func_found n item func (Err d) is h = absurd (none_some func h)

  -- it is told of a code and its fault
  pub told : (item : ℕ) (met : ReadFault) (func : Option ℕ) → broken_in profile b ≡ Ok (Some (item, met)) → IsFuncIf e item met (imported_at b) func
      → IsFuncOfFault profile b e func
  told item met None h (inl p) = λ n i are fault.
      let c = complete n i are fault in
      let same = same_met i item e met (sym c.broken ∙ h) in
      let few : n + item < 2 ^ 32 = omega (arith, c.few, same.0) in
      let some : func_by (imported_at b) item ≡ Some (n + item) = ap (λ r. func_by r item) c.imported ∙ rw (lt-ltb _ _ few) refl in
      none_some (n + item) (p.1 ∙ some)
  told item met None h (inr p) = λ n i are fault. p.0 (sym (same_met i item e met (sym (complete n i are fault).broken ∙ h)).1)
  told item met (Some func) h (inl p) =
      let f = func_found 0 item func (imported_at b) refl (sym p.1) in
      let there : broken_in profile b ≡ met_at item e = h ∙ ap (λ (d : ReadFault). met_at item d) p.0 in
      (f.0, item, imported_by b f.0 (first_with 2 (sections_of b)) fits refl f.1, broken_found profile b item e fits there, f.2)
  told item met (Some func) h (inr p) = absurd (none_some func (sym p.1))

  -- each code spells a body, or a size is wrong
  pub told_none : (o : Option (ℕ × ReadFault)) → broken_in profile b ≡ Ok o → o ≡ None → IsFuncOfFault profile b e None
  told_none o h none = λ n item are fault. none_met item (sym (h ∙ ap some_of none) ∙ (complete n item are fault).broken)
    where
      some_of : Option (ℕ × ReadFault) → Result (Option (ℕ × ReadFault)) ReadFault
      some_of o = Ok o

      none_met : (item : ℕ) → some_of None ≡ met_at item e → ⊥
      none_met item h = absurd cc

  pub told_err : (d : ReadFault) → broken_in profile b ≡ Err d → IsFuncOfFault profile b e None
  told_err d h = λ n item are fault. not_both (broken_in profile b) d (Some (item, e)) h (complete n item are fault).broken
