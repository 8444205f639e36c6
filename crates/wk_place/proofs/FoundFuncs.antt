-- The index of the function whose body an item is.
use Rattle.std.proofs.Common.{◌≡◌, ◌≢◌, ◌⊎◌, ℕ, ◌+◌, ◌^◌, ◌<◌, ◌≤◌, max, Bool, false, eqb, cond, inl, inr, List, [], ◌∷◌, ◌++◌, length, map, IfSome, MatchBool}
use Rattle.std.specs.Option.{MatchOption}
use Rattle.std.proofs.Common.{Option, Some, None, Ok, refl, sym, ap, subst, ◌∙◌, length-append, arith}
use Rattle.std.proofs.lemmas.Bool.{cases_Bool, eqb-true, eqb-false, lt-ltb, ne_eqb}
use Rattle.std.proofs.lemmas.List.{append-nil}
use Rattle.wk_bytes.specs.Frames.{Frame, Section, MayCome, SpellsFrames, frame_of, limit, magic, version, without_fault}
use Rattle.wk_bytes.specs.FrameLaws.{sections_of-again}
use Rattle.wk_bytes.specs.Leb.{◌>>=◌}
use Rattle.wk_bytes.specs.LebLaws.{IsBytes}
use Rattle.wk_bytes.specs.Span.{Span}
use Rattle.wk_body.specs.declared.types.Profile.{Profile}
use Rattle.wk_body.specs.Vectors.{SpellsItems, SpellsVector, vector_at}
use Rattle.wk_module.specs.declared.types.Import.{Import}
use Rattle.wk_module.specs.declared.types.Kind.TheVariants as kinds
use Rattle.wk_module.specs.declared.types.Parts.{Parts}
use Rattle.wk_module.specs.Formats.{made_at}
use Rattle.wk_module.specs.Imports.{import_count}
use Rattle.wk_module.specs.ImportLaws.{import_count_le}
use Rattle.wk_module.specs.Items.{SpellsImport, import_at}
use Rattle.wk_module.specs.Modules.{Spells, SpellsSection}
use Rattle.wk_module.specs.Reading.{section_end}
use Rattle.wk_module.specs.Sections.{ImportSection}
use Rattle.wk_module.proofs.Formats.{vector_format}
use Rattle.wk_module.proofs.ItemFormats.{import_format}
use Rattle.wk_typing.specs.declared.fault.Place.{Place}
use Rattle.wk_place.specs.declared.place.Located.{Located}
use Rattle.wk_place.specs.Places.{IsNowhere, LiesThere, func_index}
use Rattle.wk_place.specs.Seeking.{first_with, place_at, funcs_at, imported_in, imported_at, func_by, func_at, located_at}
use Rattle.wk_place.proofs.PlaceLaws.{place_lies}
use Rattle.wk_place.proofs.FoundPlaces.{place_found, place_nowhere, item_no_longer}

-- ---- the section of an id, of frames that spell what it holds

module _ {A : Type 0} (id : ℕ) (Holds : List ℕ → A → Type 0) (some : 0 < id) where
  differs : (last n : ℕ) → id ≤ last → MayCome last n → n ≢ id
  differs last n le (inl p) = λ e. absurd (omega (arith, p, e, some))
  differs last n le (inr p) = λ e. absurd (omega (arith, p.0, le, e))

  -- behind a section of that id or a later one there is none of it
  none_later : (last : ℕ) (bytes : List ℕ) (frames : List Frame) (y x : A) → id ≤ last → SpellsFrames last bytes frames
      → SpellsSection id Holds y frames x → x ≡ y
  none_later last bytes [] y x le framed h = h
  none_later last bytes (f ∷ fs) y x le framed h =
      let other : eqb f.id id ≡ false = ne_eqb f.id id (differs last f.id le framed.3) in
      let rest = subst (λ (b : Bool). MatchBool b ((z : A) × Holds f.contents z × SpellsSection id Holds z fs x) (SpellsSection id Holds y fs x)) other h in
      none_later (max last f.id) framed.1 fs y x (omega (arith, le)) framed.5 rest

  -- there is no such section, and it holds what an omitted one does; or there is one
  abbrev pub Section_of : List ℕ → List Section → A → A → Type 0
  Section_of bytes ss y x =
      ((first_with id (without_fault ss) ≡ None) × (x ≡ y))
      ⊎ ((s : Section) × (first_with id (without_fault ss) ≡ Some s) × Holds s.contents x × (length s.contents ≤ length bytes))

  one_more : (front later bytes : List ℕ) (s : Section) (ss : List Section) (y x : A) → bytes ≡ front ++ later → s.id ≢ id → Section_of later ss y x
      → Section_of bytes (s ∷ ss) y x
  one_more front later bytes s ss y x parts other (inl p) = inl (rw (ne_eqb s.id id other) p.0, p.1)
  one_more front later bytes s ss y x parts other (inr p) =
      inr (p.0, rw (ne_eqb s.id id other) p.1, p.2, omega (arith, p.3, ap length parts, length-append front later))

  pub section_of : (last : ℕ) (bytes : List ℕ) (ss : List Section) (y x : A) → SpellsFrames last bytes (map frame_of ss)
      → SpellsSection id Holds y (map frame_of ss) x → Section_of bytes ss y x
  section_of last bytes [] y x framed h = inl (refl, h)
  section_of last bytes (s ∷ ss) y x framed h =
      let Either : Bool → Type 0 = λ (b : Bool). MatchBool b ((z : A) × Holds s.contents z × SpellsSection id Holds z (map frame_of ss) x)
      (SpellsSection id Holds y (map frame_of ss) x) in
      elim (cases_Bool (eqb s.id id)) [
        | inl p ↦
            let here = subst Either p h in
            let le : id ≤ max last s.id = omega (arith, eqb-true s.id id p) in
            let same = none_later (max last s.id) framed.1 (map frame_of ss) here.0 x le framed.5 here.2 in
            let frame = framed.4 in
            inr (
              s,
              rw p refl,
              subst (Holds s.contents) (sym same) here.1,
              omega (arith, ap length framed.2, length-append framed.0 framed.1, ap length frame.parts, length-append frame.size s.contents),
            )
        | inr p ↦
            let later = subst Either p h in
            one_more framed.0 framed.1 bytes s ss y x framed.2 (eqb-false s.id id p) (section_of (max last s.id) framed.1 ss y x framed.5 later)
      ]

-- ---- imported functions

pub items_long : (b : List ℕ) (xs : List Import) → SpellsItems SpellsImport b xs → length xs ≤ length b
items_long b [] s = omega arith
items_long b (x ∷ xs) s =
    omega (arith, items_long s.1 xs s.4, ap length s.2, length-append s.0 s.1, import_format.least s.0 x s.3, import_format.some x)

funcs_read : (end : ℕ) (contents : List ℕ) (is : List Import) → SpellsVector SpellsImport contents is
    → (funcs_at end contents >>= λ n. Ok n.0) ≡ Ok (import_count kinds.Func is)
unfolding made_at
funcs_read end contents is s =
    let read : vector_at import_at end contents ≡ Ok (is, []) =
    ap (vector_at import_at end) (sym (append-nil contents)) ∙ (vector_format import_format).again end contents is [] s in
    rw read refl

-- how many functions are imported, and that an index of 32 bits is left for each code
pub imported_is : (b : List ℕ) (m : Parts) → Spells b m → (imported_at b ≡ Ok (import_count kinds.Func m.imports)) × (import_count kinds.Func m.imports ≤ limit)
imported_is b m s =
    let f = s.framing in
    let ss = sections_of-again b s.frames f in
    let framed : SpellsFrames 0 f.frames (map frame_of ss.0) = subst (SpellsFrames 0 f.frames) (sym ss.1) f.spelled in
    let holds : SpellsSection 2 (SpellsVector SpellsImport) [] (map frame_of ss.0) m.imports =
    subst (λ (fs : List Frame). SpellsSection 2 (SpellsVector SpellsImport) [] fs m.imports) (sym ss.1) (s.sections ImportSection) in
    let whole : imported_at b ≡ imported_in (first_with 2 (without_fault ss.0)) = ap (λ items. imported_in (first_with 2 items)) ss.2 in
    elim (section_of 2 (SpellsVector SpellsImport) (omega arith) 0 f.frames ss.0 [] m.imports framed holds) [
      | inl p ↦
          let none : import_count kinds.Func m.imports ≡ 0 = ap (import_count kinds.Func) p.1 in
          (whole ∙ ap imported_in p.0 ∙ ap (λ n. Ok n) (sym none), omega (arith, none))
      | inr p ↦
          let v = p.2 in
          let few : import_count kinds.Func m.imports ≤ limit = omega (
            arith,
            import_count_le kinds.Func m.imports,
            items_long v.items m.imports v.spelled,
            ap length v.parts,
            length-append v.count v.items,
            p.3,
            f.fits,
            ap length f.parts,
            length-append (magic ++ version) f.frames,
          ) in
          (whole ∙ ap imported_in p.1 ∙ funcs_read (section_end p.0) p.0.contents m.imports v, few)
    ]

pub func_is : (profile : Profile) (b : List ℕ) (p : Place) (m : Parts) (place : Span) → IsBytes b → Spells b m → place_at profile b p ≡ Ok (Some place)
    → func_at b p ≡ func_index m p
func_is profile b p m place fits s e =
    let n = imported_is b m s in
    let few = item_no_longer profile b p place fits e in
    let fit : import_count kinds.Func m.imports + p.item < 2 ^ 32 = omega (arith, n.1, few) in
    let here : func_by (imported_at b) p.item ≡ Some (import_count kinds.Func m.imports + p.item) =
    ap (λ r. func_by r p.item) n.0 ∙ rw (lt-ltb _ _ fit) refl in
    ap (λ o. cond (eqb p.section 10) o None) here

-- ---- what is told of a place

-- what is told of a place: nothing where there is none, and else its offset
abbrev pub IsLocated : Profile → List ℕ → Place → Option Located → Type 0
IsLocated profile b p o = MatchOption o (IsNowhere profile b p) (LiesThere profile b p)

pub told_place : (profile : Profile) (b : List ℕ) (p : Place) (found : Option Span) (func : Option ℕ) (r : Option Located) → IsBytes b
    → place_at profile b p ≡ Ok found → r ≡ located_at func found → IsLocated profile b p r
told_place profile b p None func r fits e is = rw is (place_nowhere profile b p fits e)
told_place profile b p (Some place) func r fits e is =
    let at = place_found profile b p place fits e in
    rw is (place, at, place_lies profile b p place at, refl)

pub told_func : (profile : Profile) (b : List ℕ) (p : Place) (m : Parts) (found : Option Span) (r : Option Located) → IsBytes b
    → place_at profile b p ≡ Ok found → r ≡ located_at (func_at b p) found → Spells b m → IfSome r (λ l. l.func ≡ func_index m p)
told_func profile b p m None r fits e is s = rw is tt
told_func profile b p m (Some place) r fits e is s = rw is (func_is profile b p m place fits s e)
