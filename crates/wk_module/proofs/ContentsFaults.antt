-- What a fault in the contents of a section says of them.
use Rattle.std.proofs.Common.{◌≡◌, ℕ, zero, suc, ◌-◌, ◌<◌, ◌≤◌, cond, eqb, leb, inl, inr, List, [], ◌∷◌, ◌++◌, length, Option, Some}
use Rattle.std.proofs.Common.{Result, Ok, Err, refl, sym, ap, subst, ◌∙◌, append_assoc, length-append, arith}
use Rattle.std.proofs.lemmas.Bool.{eqb-true, eqb-false, leb-false, false≢true}
use Rattle.std.proofs.lemmas.Str.{is_utf8-from_IsUtf8}
use Rattle.std.specs.Str.{is_utf8}
use Rattle.wk_bytes.specs.declared.fault.ReadKind.{ReadKind}
use Rattle.wk_bytes.specs.declared.fault.ReadKind.TheVariants.{UnexpectedEnd, BadUtf8, FuncCodeCount}
use Rattle.wk_bytes.specs.declared.fault.ReadFault.{ReadFault}
use Rattle.wk_bytes.specs.Leb.{◌>>=◌, SpellsU, IsIntKind, lastU, uint_at}
use Rattle.wk_bytes.specs.LebLaws.{IsBytes, bind_ok, chosen, uint_wrong, IsBytes-after}
use Rattle.wk_bytes.specs.PieceLaws.{u32_at-found, none_spelled}
use Rattle.wk_bytes.specs.Span.{fault, u32_at, piece_at, name_at}
use Rattle.wk_bytes.specs.SpanLaws.{err_is, placed_err, piece_at-takes}
use Rattle.wk_bytes.specs.Stands.{Stands}
use Rattle.wk_body.specs.declared.types.Profile.{Profile}
use Rattle.wk_body.specs.Bodies.{BodyOf}
use Rattle.wk_body.specs.FaultKindLaws.{HasKinds, fails_as}
use Rattle.wk_body.specs.Vectors.{SpellsItems, items_at, vector_at}
use Rattle.wk_module.specs.ContentsFaults.{IsAt, BeginsNone, IsNumberFault, IsNameFault, IsItemFault, IsVectorFault}
use Rattle.wk_module.specs.ContentsFaults.{IsBodyKind, BreaksIn}
use Rattle.wk_module.specs.FormatLaws.{CountIs, IsFormat}
use Rattle.wk_module.specs.Formats.{Reader, taking_all, all_at, made_at}
use Rattle.wk_module.specs.Items.{SpellsCode, code_at}
use Rattle.wk_module.specs.Sections.{SectionId, CodeSection, ContentsOf, codes_at, contents_at}
use Rattle.wk_module.proofs.NumberedReading.{items_counted, taken_all}
use Rattle.wk_module.proofs.Standing.{failed_before}

-- ---- integers, pieces and names

abbrev pub at_place : ReadKind → ℕ → ReadFault
at_place kind at = record { kind = kind; at = at }

-- a fault that is given
pub given : (kind : ReadKind) (at : ℕ) (e : ReadFault) → at_place kind at ≡ e → IsAt e kind at
given kind at e is = (sym (ap (λ (d : ReadFault). d.kind) is), sym (ap (λ (d : ReadFault). d.at) is))

-- a piece that is not there
pub piece_fails : (n end : ℕ) (bytes : List ℕ) (e : ReadFault) → piece_at n end bytes ≡ Err e → (length bytes < n) × IsAt e UnexpectedEnd (end - length bytes)
unfolding piece_at
piece_fails n end bytes e h =
    elim (chosen (leb n (length bytes)) _ (Err (fault UnexpectedEnd end bytes)) (Err e) h) [
      | inl p ↦ absurd cc
      | inr p ↦ (leb-false _ _ p.0, given UnexpectedEnd (end - length bytes) e (err_is {A = List ℕ × List ℕ} _ _ p.1))
    ]

pub u32_wrong : (end : ℕ) (bytes : List ℕ) (e : ReadFault) → u32_at end bytes ≡ Err e → IsIntKind lastU 32 bytes e.kind × (e.at ≡ end - length bytes)
unfolding u32_at
u32_wrong end bytes e h =
    let p = placed_err (uint_at 32 bytes) end bytes e h in
    let is = given p.0 (end - length bytes) e p.2 in
    (subst (IsIntKind lastU 32 bytes) (sym is.0) (uint_wrong 32 bytes p.0 p.1), is.1)

text_wrong : (end : ℕ) (bytes size after : List ℕ) (n : ℕ) (e : ReadFault) (r : Result (List ℕ × List ℕ) ReadFault) → bytes ≡ size ++ after
    → SpellsU 32 size n → piece_at n end after ≡ r
    → (r >>= λ text. cond (is_utf8 text.0) (Ok text) (Err (fault BadUtf8 end after))) ≡ Err e → IsNameFault (record { rest = bytes; end = end }) e
text_wrong end bytes size after n e (Err d) parts counts is h =
    let short = piece_fails n end after e (is ∙ cc) in
    inl (inr (record { size = size; after = after; n = n; parts = parts; counts = counts; fewer = short.0; there = short.1 }))
text_wrong end bytes size after n e (Ok text) parts counts is h =
    elim (chosen (is_utf8 text.0) (Ok text) (Err (fault BadUtf8 end after)) (Err e) h) [
      | inl p ↦ absurd cc
      | inr p ↦
          let t = piece_at-takes n end after text.0 text.1 is in
          let there = given BadUtf8 (end - length after) e (err_is {A = List ℕ × List ℕ} _ _ p.1) in
          inr (record {
            size = size;
            text = text.0;
            later = text.1;
            parts = parts ∙ ap (λ (c : List ℕ). size ++ c) t.0;
            counts = subst (SpellsU 32 size) (sym t.1) counts;
            wrong = λ utf8. false≢true (sym p.0 ∙ is_utf8-from_IsUtf8 text.0 utf8);
            there = (there.0, there.1 ∙ ap (λ (c : List ℕ). end - length c) t.0);
          })
    ]

name_wrong_by : (end : ℕ) (bytes : List ℕ) (e : ReadFault) (r : Result (ℕ × List ℕ) ReadFault) → IsBytes bytes → u32_at end bytes ≡ r
    → (r >>= λ n. piece_at n.0 end n.1 >>= λ text. cond (is_utf8 text.0) (Ok text) (Err (fault BadUtf8 end n.1))) ≡ Err e
    → IsNameFault (record { rest = bytes; end = end }) e
name_wrong_by end bytes e (Err d) fits is h = inl (inl (u32_wrong end bytes e (is ∙ cc)))
name_wrong_by end bytes e (Ok n) fits is h =
    let size = u32_at-found end bytes n.0 n.1 fits is in
    text_wrong end bytes size.0 n.1 n.0 e (piece_at n.0 end n.1) size.2 size.1 refl h

pub name_wrong : (end : ℕ) (bytes : List ℕ) (e : ReadFault) → IsBytes bytes → name_at end bytes ≡ Err e → IsNameFault (record { rest = bytes; end = end }) e
unfolding name_at
name_wrong end bytes e fits h = name_wrong_by end bytes e (u32_at end bytes) fits refl h

pub start_wrong : (end : ℕ) (bytes : List ℕ) (e : ReadFault) → made_at {A = ℕ} {B = Option ℕ} Some u32_at end bytes ≡ Err e
    → IsNumberFault (record { rest = bytes; end = end }) e
unfolding made_at
start_wrong end bytes e h =
    u32_wrong end bytes e (failed_before (u32_at end bytes) (λ x. let made : Option ℕ × List ℕ = (Some x.0, x.1) in made) e h)

-- ---- items

-- some items are spelled, and then none is
record StopsShort {A : Type 0} (Spells : List ℕ → A → Type 0) (read : Reader A) (IsKind : ReadKind → Type 0) (n end : ℕ) (bytes : List ℕ) (e : ReadFault) :
    Type 0 where
  items : List ℕ
  rest : List ℕ
  before : List A
  parts : bytes ≡ items ++ rest
  spelled : SpellsItems Spells items before
  fewer : length before < n
  none : BeginsNone Spells rest
  kind : IsKind e.kind
  within : Stands (record { rest = rest; end = end }) e
  met : read end rest ≡ Err e

item_later : {A : Type 0} {Spells : List ℕ → A → Type 0} {read : Reader A} {IsKind : ReadKind → Type 0} (n end : ℕ) (bytes front : List ℕ) (x : A) (later : List ℕ) (e : ReadFault) → Spells front x → bytes ≡ front ++ later
    → StopsShort Spells read IsKind n end later e → StopsShort Spells read IsKind (suc n) end bytes e
item_later n end bytes front x later e spelled parts stop = record {
  items = front ++ stop.items;
  rest = stop.rest;
  before = x ∷ stop.before;
  parts = parts ∙ ap (λ (c : List ℕ). front ++ c) stop.parts ∙ sym (append_assoc front stop.items stop.rest);
  spelled = (front, stop.items, refl, spelled, stop.spelled);
  fewer = omega (arith, stop.fewer);
  none = stop.none;
  kind = stop.kind;
  within = stop.within;
  met = stop.met;
}

-- an item, and the others
abbrev then_items : {A : Type 0} → Reader A → ℕ → ℕ → A × List ℕ → Result (List A × List ℕ) ReadFault
then_items read n end x = items_at read n end x.1 >>= λ ys. Ok (x.0 ∷ ys.0, ys.1)

module _ {A : Type 0} {Valid : A → Type 0} {Spells : List ℕ → A → Type 0} {IsKind : ReadKind → Type 0} {read : Reader A} {written : A → List ℕ} where
  item_wrong : IsFormat Valid Spells read written → HasKinds IsKind read → (n end : ℕ) (bytes : List ℕ) (e : ReadFault) → length bytes ≤ end → read end bytes ≡ Err e
      → StopsShort Spells read IsKind (suc n) end bytes e
  item_wrong of has n end bytes e long h = record {
    items = [];
    rest = bytes;
    before = [];
    parts = refl;
    spelled = refl;
    fewer = omega arith;
    none = λ x front later spelled parts. none_spelled Spells read of.again (record { rest = bytes; end = end }) e h front later x spelled parts;
    kind = fails_as IsKind (read end bytes) e (has end bytes) h;
    within = of.fronts.faults end bytes e h long;
    met = h;
  }

  items_by : IsFormat Valid Spells read written → HasKinds IsKind read → (n end : ℕ) (bytes : List ℕ) (e : ReadFault) (r : Result (A × List ℕ) ReadFault) → IsBytes bytes
      → length bytes ≤ end → read end bytes ≡ r
      → ((later : List ℕ) → IsBytes later → length later ≤ end → items_at read n end later ≡ Err e → StopsShort Spells read IsKind n end later e)
      → (r >>= then_items read n end) ≡ Err e → StopsShort Spells read IsKind (suc n) end bytes e
  items_by of has n end bytes e (Err d) fits long is more h = item_wrong of has n end bytes e long (is ∙ cc)
  items_by of has n end bytes e (Ok x) fits long is more h =
      let first = of.found end bytes x.0 x.1 fits is in
      let failed = failed_before (items_at read n end x.1) (λ ys. let all : List A × List ℕ = (x.0 ∷ ys.0, ys.1) in all) e h in
      item_later n end bytes first.0 x.0 x.1 e first.1 first.2
      (more x.1 (IsBytes-after first.0 x.1 bytes first.2 fits) (omega (arith, long, ap length first.2, length-append first.0 x.1)) failed)

  items_wrong : IsFormat Valid Spells read written → HasKinds IsKind read → (n end : ℕ) (bytes : List ℕ) (e : ReadFault) → IsBytes bytes → length bytes ≤ end
      → items_at read n end bytes ≡ Err e → StopsShort Spells read IsKind n end bytes e
  items_wrong of has zero end bytes e fits long h = absurd cc
  items_wrong of has (suc n) end bytes e fits long h =
      items_by of has n end bytes e (read end bytes) fits long refl (λ later fits' long' h'. items_wrong of has n end later e fits' long' h') h

  -- after their count
  pub counted_wrong : IsFormat Valid Spells read written → HasKinds IsKind read → (n end : ℕ) (bytes count after : List ℕ) (e : ReadFault) → IsBytes bytes → length bytes ≤ end
      → SpellsU 32 count n → bytes ≡ count ++ after → items_at read n end after ≡ Err e → IsItemFault Spells read IsKind n (record { rest = bytes; end = end }) e
  counted_wrong of has n end bytes count after e fits long counts parts h =
      let long' : length after ≤ end = omega (arith, long, ap length parts, length-append count after) in
      let stop = items_wrong of has n end after e (IsBytes-after count after bytes parts fits) long' h in
      record {
        count = count;
        items = stop.items;
        rest = stop.rest;
        before = stop.before;
        parts = parts ∙ ap (λ (c : List ℕ). count ++ c) stop.parts;
        counts = counts;
        spelled = stop.spelled;
        fewer = stop.fewer;
        none = stop.none;
        kind = stop.kind;
        within = stop.within;
        met = stop.met;
      }

  vector_by : IsFormat Valid Spells read written → HasKinds IsKind read → (end : ℕ) (bytes : List ℕ) (e : ReadFault) (r : Result (ℕ × List ℕ) ReadFault) → IsBytes bytes
      → length bytes ≤ end → u32_at end bytes ≡ r → (r >>= λ n. items_at read n.0 end n.1) ≡ Err e → IsVectorFault Spells read IsKind (record { rest = bytes; end = end }) e
  vector_by of has end bytes e (Err d) fits long is h = inl (u32_wrong end bytes e (is ∙ cc))
  vector_by of has end bytes e (Ok n) fits long is h =
      let count = u32_at-found end bytes n.0 n.1 fits is in
      inr (n.0, counted_wrong of has n.0 end bytes count.0 n.1 e fits long count.1 count.2 h)

  pub vector_wrong : IsFormat Valid Spells read written → HasKinds IsKind read → (end : ℕ) (bytes : List ℕ) (e : ReadFault) → IsBytes bytes → length bytes ≤ end
      → vector_at read end bytes ≡ Err e → IsVectorFault Spells read IsKind (record { rest = bytes; end = end }) e
  unfolding vector_at
  vector_wrong of has end bytes e fits long h = vector_by of has end bytes e (u32_at end bytes) fits long refl h

-- ---- codes

module _ {profile : Profile} {Valid : BodyOf → Type 0} {written : BodyOf → List ℕ} (of : IsFormat Valid (SpellsCode profile) (code_at profile) written)
    (has : HasKinds IsBodyKind (code_at profile)) where
  abbrev IsCodesFault : ℕ → ℕ → List ℕ → ReadFault → Type 0
  IsCodesFault funcs end bytes e = BreaksIn profile funcs CodeSection (record { rest = bytes; end = end }) e

  codes_by : (funcs end : ℕ) (bytes : List ℕ) (e : ReadFault) (r : Result (ℕ × List ℕ) ReadFault) → IsBytes bytes → length bytes ≤ end
      → u32_at end bytes ≡ r
      → (r >>= λ n. cond (eqb n.0 funcs) (items_at (code_at profile) n.0 end n.1) (Err (fault FuncCodeCount end bytes))) ≡ Err e
      → IsCodesFault funcs end bytes e
  codes_by funcs end bytes e (Err d) fits long is h = inl (u32_wrong end bytes e (is ∙ cc))
  codes_by funcs end bytes e (Ok n) fits long is h =
      let count = u32_at-found end bytes n.0 n.1 fits is in
      elim (chosen (eqb n.0 funcs) (items_at (code_at profile) n.0 end n.1) (Err (fault FuncCodeCount end bytes)) (Err e) h) [
        | inl p ↦
            let fault = counted_wrong of has n.0 end bytes count.0 n.1 e fits long count.1 count.2 p.1 in
            inr (inr (subst (λ (m : ℕ). IsItemFault (SpellsCode profile) (code_at profile) IsBodyKind m (record { rest = bytes; end = end }) e) (eqb-true n.0 funcs p.0) fault))
        | inr p ↦
            let there = given FuncCodeCount (end - length bytes) e (err_is {A = List BodyOf × List ℕ} _ _ p.1) in
            inr (inl (record {
              count = count.0;
              codes = n.1;
              n = n.0;
              parts = count.2;
              counts = count.1;
              other = eqb-false n.0 funcs p.0;
              there = there;
            }))
      ]

  pub codes_wrong : (funcs end : ℕ) (bytes : List ℕ) (e : ReadFault) → IsBytes bytes → length bytes ≤ end → codes_at profile funcs end bytes ≡ Err e
      → BreaksIn profile funcs CodeSection (record { rest = bytes; end = end }) e
  unfolding codes_at
  codes_wrong funcs end bytes e fits long h = codes_by funcs end bytes e (u32_at end bytes) fits long refl h

-- ---- as many codes as functions

codes_count : (profile : Profile) (funcs end : ℕ) (bytes : List ℕ) (xs : List BodyOf) (rest : List ℕ) → codes_at profile funcs end bytes ≡ Ok (xs, rest)
    → length xs ≡ funcs
unfolding codes_at
codes_count profile funcs end bytes xs rest e =
    let a = bind_ok (u32_at end bytes) (λ n. cond (eqb n.0 funcs) (items_at (code_at profile) n.0 end n.1) (Err (fault FuncCodeCount end bytes))) (xs, rest) e in
    elim (chosen (eqb a.0.0 funcs) (items_at (code_at profile) a.0.0 end a.0.1) (Err (fault FuncCodeCount end bytes)) (Ok (xs, rest)) a.2) [
      | inl p ↦ items_counted (code_at profile) a.0.0 end a.0.1 xs rest p.1 ∙ eqb-true a.0.0 funcs p.0
      | inr p ↦ absurd cc
    ]

pub all_codes_count : (profile : Profile) (funcs end : ℕ) (bytes : List ℕ) (xs : List BodyOf) → all_at (codes_at profile funcs) end bytes ≡ Ok xs
    → length xs ≡ funcs
all_codes_count profile funcs end bytes xs e =
    let a = bind_ok (codes_at profile funcs end bytes) (taking_all end) xs e in
    let same : a.0.0 ≡ xs = taken_all end a.0.0 xs a.0.1 a.2 in
    sym (ap (λ (ys : List BodyOf). length ys) same) ∙ codes_count profile funcs end bytes a.0.0 a.0.1 a.1

-- what is read has as many codes as functions
pub count_read : (profile : Profile) (funcs : ℕ) (k : SectionId) (end : ℕ) (bytes : List ℕ) (x : ContentsOf k) (rest : List ℕ)
    → contents_at profile funcs k end bytes ≡ Ok (x, rest) → CountIs k funcs x
count_read profile funcs CodeSection = codes_count profile funcs
count_read profile funcs _ = λ end bytes x rest e. tt
