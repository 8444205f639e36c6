-- The laws of the contents of each section.
use Rattle.std.proofs.Common.{◌≡◌, ◌≢◌, ℕ, ◌^◌, ◌<◌, ◌≤◌, true, false, not, cond, eqb, List, [], ◌∷◌, ◌++◌, length, Option, Some, None, Result, Ok, Err}
use Rattle.std.proofs.Common.{refl, sym, ap, subst, ◌∙◌, inl, inr, length-append, arith}
use Rattle.std.proofs.lemmas.Bool.{eq-eqb}
use Rattle.std.proofs.lemmas.List.{append-nil}
use Rattle.std.specs.List.{AllByRecursion}
use Rattle.wk_bytes.specs.declared.fault.ReadKind.{ReadKind}
use Rattle.wk_bytes.specs.declared.fault.ReadKind.TheVariants.{FuncCodeCount}
use Rattle.wk_bytes.specs.declared.fault.ReadFault.{ReadFault}
use Rattle.wk_bytes.specs.Leb.{◌>>=◌, SpellsU}
use Rattle.wk_bytes.specs.LebLaws.{IsBytes, bind_ok, chosen, one_SpellsU, SpellsU-below, IsBytes-after}
use Rattle.wk_bytes.specs.ListWords.{is_empty}
use Rattle.wk_bytes.specs.ShortLaws.{short-some}
use Rattle.wk_bytes.specs.Span.{fault, u32_at}
use Rattle.wk_bytes.specs.SpanLaws.{err_is}
use Rattle.wk_bytes.specs.Stands.{Stands}
use Rattle.wk_bytes.specs.StandsLaws.{Stands-later, stands_as, u32_there}
use Rattle.wk_body.specs.declared.types.Profile.{Profile}
use Rattle.wk_body.specs.Bodies.{BodyOf}
use Rattle.wk_body.specs.FaultKindLaws.{HasKinds}
use Rattle.wk_body.specs.Shape.{IsU32}
use Rattle.wk_body.specs.Vectors.{SpellsVector, items_at, vector_at, written_vector}
use Rattle.wk_module.specs.declared.types.FuncType.{FuncType}
use Rattle.wk_module.specs.ContentsFaults.{IsNumberFault, IsVectorFault, BreaksIn}
use Rattle.wk_module.specs.FormatLaws.{CodeLaws, IsFormat, IsContents, SectionLaws}
use Rattle.wk_module.specs.Formats.{Reader, made_at}
use Rattle.wk_module.specs.Types.{SpellsFuncType, functype_at, written_functype}
use Rattle.wk_module.specs.Items.{SpellsCode, code_at, written_code, IsCode}
use Rattle.wk_module.specs.Sections.{TypeSection, ImportSection, FunctionSection, TableSection, MemorySection, GlobalSection, ExportSection}
use Rattle.wk_module.specs.Sections.{StartSection, ElementSection, CodeSection, DataSection, is_some, SpellsStart, codes_at, written_start, IsStart, AreItems}
use Rattle.wk_module.proofs.ContentsFaults.{start_wrong, vector_wrong, codes_wrong}
use Rattle.wk_module.proofs.Formats.{u32_format, made_front, made_steps, made_again, valid_as, items_found, items_again, items_front, vector_made}
use Rattle.wk_module.proofs.Formats.{vector_format, joined, both_parts}
use Rattle.wk_module.proofs.ItemKinds.{functype_fails, import_fails, index_fails, tabletype_fails, limits_fails, global_fails, export_fails, elem_fails}
use Rattle.wk_module.proofs.ItemKinds.{code_fails, data_fails}
use Rattle.wk_module.proofs.ItemFormats.{functype_format, limits_format, tabletype_format, import_format, export_format, global_format, elem_format}
use Rattle.wk_module.proofs.ItemFormats.{code_format, data_format}

-- ---- empty vectors

module _ {A : Type 0} (Spells : List ℕ → A → Type 0) where
  -- a vector without items is a count of zero, and nothing else
  empty_spelled : (b : List ℕ) → SpellsVector Spells b [] → SpellsU 32 b 0
  empty_spelled b s = subst (λ (c : List ℕ). SpellsU 32 c 0) (sym (s.parts ∙ ap (λ (c : List ℕ). s.count ++ c) s.spelled ∙ append-nil s.count)) s.counts

  some_spelled : (b : List ℕ) (x : A) (xs : List A) → SpellsVector Spells b (x ∷ xs) → SpellsU 32 b 0 → ⊥
  some_spelled b x xs s none =
      let both = one_SpellsU 32 s.count b s.items [] (length (x ∷ xs)) 0 s.counts none (sym s.parts ∙ sym (append-nil b)) in
      let zero : length (x ∷ xs) ≡ 0 = both.1 in
      absurd (omega arith)

  vector_empty : (b : List ℕ) (xs : List A) → SpellsVector Spells b xs → not (is_empty xs) ≡ false → SpellsU 32 b 0
  vector_empty b [] s e = empty_spelled b s
  vector_empty b (x ∷ xs) s e = absurd cc

  vector_full : (b : List ℕ) (xs : List A) → SpellsVector Spells b xs → not (is_empty xs) ≡ true → SpellsU 32 b 0 → ⊥
  vector_full b [] s e none = absurd cc
  vector_full b (x ∷ xs) s e none = some_spelled b x xs s none

-- ---- sections that are vectors

vector_contents : {A : Type 0} {Valid : List A → Type 0} {Spells : List ℕ → A → Type 0} {item_at : Reader A} {read : Reader (List A)}
    {written : List A → List ℕ} {IsKind : ReadKind → Type 0} (id : ℕ)
    → id ≢ 8 → IsFormat Valid (SpellsVector Spells) read written
    → ((end : ℕ) (bytes : List ℕ) (e : ReadFault) → IsBytes bytes → length bytes ≤ end → read end bytes ≡ Err e
    → IsVectorFault Spells item_at IsKind (record { rest = bytes; end = end }) e)
    → IsContents id (λ funcs xs. Unit {0}) (λ funcs. IsVectorFault Spells item_at IsKind) (λ xs. not (is_empty xs)) Valid (SpellsVector Spells)
    (λ funcs. read) written
vector_contents {Spells = Spells} id other of breaks = record {
  found = λ funcs. of.found;
  again = λ funcs end b xs rest counts s. of.again end b xs rest s;
  fronts = λ funcs. of.fronts;
  breaks = λ funcs. breaks;
  some = λ xs full. of.some xs;
  spells = λ xs full. of.spells xs;
  least = of.least;
  valid = of.valid;
  empty = λ b xs s e. (other, vector_empty Spells b xs s e);
  full = λ b xs s e vector. vector_full Spells b xs s e;
}

-- what is spelled has no more items than indexes count
items_format : {A : Type 0} {Valid : A → Type 0} {Spells : List ℕ → A → Type 0} {read : Reader A} {written : A → List ℕ} → IsFormat Valid Spells read written
    → IsFormat (AreItems Valid) (SpellsVector Spells) (vector_at read) (written_vector written)
items_format of =
    let vector = vector_format of in
    record {
      found = vector.found;
      again = vector.again;
      fronts = vector.fronts;
      some = vector.some;
      spells = λ xs valid. vector.spells xs valid.1;
      least = vector.least;
      valid = λ b xs bytes s. (SpellsU-below 32 s.count (length xs) s.counts, vector.valid b xs bytes s);
    }

list_contents : {A : Type 0} {Valid : A → Type 0} {Spells : List ℕ → A → Type 0} {read : Reader A} {written : A → List ℕ} {IsKind : ReadKind → Type 0} (id : ℕ)
    → id ≢ 8 → IsFormat Valid Spells read written → HasKinds IsKind read
    → IsContents id (λ funcs xs. Unit {0}) (λ funcs. IsVectorFault Spells read IsKind) (λ xs. not (is_empty xs)) (AreItems Valid) (SpellsVector Spells)
    (λ funcs. vector_at read) (written_vector written)
list_contents id other of has = vector_contents id other (items_format of) (vector_wrong of has)

-- any function types are valid
types_format : IsFormat (λ (xs : List FuncType). IsU32 (length xs)) (SpellsVector SpellsFuncType) (vector_at functype_at) (written_vector written_functype)
types_format = valid_as (λ xs. IsU32 (length xs)) (λ xs few. (few, all_any xs)) (λ xs all. all.0) (items_format functype_format)
  where
    all_any : {A : Type 0} (xs : List A) → AllByRecursion (λ (x : A). Unit {0}) xs
    all_any [] = tt
    all_any (x ∷ xs) = (tt, all_any xs)

-- ---- the start section

start_found : (end : ℕ) (bytes : List ℕ) (x : Option ℕ) (rest : List ℕ) → IsBytes bytes → made_at Some u32_at end bytes ≡ Ok (x, rest)
    → (b : List ℕ) × SpellsStart b x × (bytes ≡ b ++ rest)
start_found end bytes x rest fits e =
    let m = made_steps Some u32_at end bytes x rest e in
    let f = u32_format.found end bytes m.0 rest fits m.1 in
    (f.0, subst (SpellsStart f.0) m.2 f.1, f.2)

start_again : (end : ℕ) (b : List ℕ) (x : Option ℕ) (rest : List ℕ) → SpellsStart b x → made_at Some u32_at end (b ++ rest) ≡ Ok (x, rest)
start_again end b None rest s = absurd s
start_again end b (Some x) rest s = made_again Some u32_at end (b ++ rest) x rest (u32_format.again end b x rest s)

start_some : (x : Option ℕ) → is_some x ≡ true → 0 < length (written_start x)
start_some None e = absurd cc
start_some (Some x) e = short-some x

start_spells : (x : Option ℕ) → is_some x ≡ true → IsStart x → length (written_start x) < 2 ^ 32 → SpellsStart (written_start x) x
start_spells None e valid fits = absurd cc
start_spells (Some x) e valid fits = u32_format.spells x valid fits

start_least : (b : List ℕ) (x : Option ℕ) → SpellsStart b x → length (written_start x) ≤ length b
start_least b None s = absurd s
start_least b (Some x) s = u32_format.least b x s

start_valid : (b : List ℕ) (x : Option ℕ) → IsBytes b → SpellsStart b x → IsStart x
start_valid b None bytes s = absurd s
start_valid b (Some x) bytes s = u32_format.valid b x bytes s

-- it is never empty
start_full : (b : List ℕ) (x : Option ℕ) → SpellsStart b x → is_some x ≡ false → ⊥
start_full b None s e = s
start_full b (Some x) s e = absurd cc

start_contents : IsContents 8 (λ funcs x. Unit {0}) (λ funcs. IsNumberFault) is_some IsStart SpellsStart (λ funcs. made_at Some u32_at) written_start
start_contents = record {
  found = λ funcs. start_found;
  again = λ funcs end b x rest counts s. start_again end b x rest s;
  fronts = λ funcs. made_front Some u32_at u32_format.fronts;
  breaks = λ funcs end bytes e fits long. start_wrong end bytes e;
  some = start_some;
  spells = start_spells;
  least = start_least;
  valid = start_valid;
  empty = λ b x s e. absurd (start_full b x s e);
  full = λ b x s e other. absurd (other refl);
}

-- ---- the code section

module _ (profile : Profile) (laws : CodeLaws profile) where
  -- what is read behind the count, where the bytes with the count are `bytes`
  abbrev counted_at : ℕ → ℕ → List ℕ → ℕ × List ℕ → Result (List BodyOf × List ℕ) ReadFault
  counted_at funcs end bytes n = cond (eqb n.0 funcs) (items_at (code_at profile) n.0 end n.1) (Err (fault FuncCodeCount end bytes))

  -- the steps of reading them
  codes_steps : (funcs end : ℕ) (bytes : List ℕ) (xs : List BodyOf) (rest : List ℕ) → codes_at profile funcs end bytes ≡ Ok (xs, rest)
      → (n : ℕ) × (after : List ℕ) × (u32_at end bytes ≡ Ok (n, after)) × (items_at (code_at profile) n end after ≡ Ok (xs, rest))
  unfolding codes_at
  codes_steps funcs end bytes xs rest e =
      let a = bind_ok (u32_at end bytes) (counted_at funcs end bytes) (xs, rest) e in
      elim (chosen (eqb a.0.0 funcs) (items_at (code_at profile) a.0.0 end a.0.1) (Err (fault FuncCodeCount end bytes)) (Ok (xs, rest)) a.2) [
        | inl p ↦ (a.0.0, a.0.1, a.1, p.1)
        | inr p ↦ absurd cc
      ]

  codes_found : (funcs end : ℕ) (bytes : List ℕ) (xs : List BodyOf) (rest : List ℕ) → IsBytes bytes → codes_at profile funcs end bytes ≡ Ok (xs, rest)
      → (b : List ℕ) × SpellsVector (SpellsCode profile) b xs × (bytes ≡ b ++ rest)
  codes_found funcs end bytes xs rest fits e =
      let m = codes_steps funcs end bytes xs rest e in
      let count = u32_format.found end bytes m.0 m.1 fits m.2 in
      let items = items_found (code_format profile laws) m.0 end m.1 xs rest (IsBytes-after count.0 m.1 bytes count.2 fits) m.3 in
      vector_made count.0 items.0 bytes m.1 rest m.0 xs count.1 count.2 items.1 items.2 items.3

  codes_again : (funcs end : ℕ) (b : List ℕ) (xs : List BodyOf) (rest : List ℕ) → length xs ≡ funcs → SpellsVector (SpellsCode profile) b xs
      → codes_at profile funcs end (b ++ rest) ≡ Ok (xs, rest)
  unfolding codes_at
  codes_again funcs end b xs rest counts s =
      ap (codes_at profile funcs end) (both_parts b s.count s.items rest s.parts)
      ∙ rw (u32_format.again end s.count (length xs) (s.items ++ rest) s.counts, eq-eqb (length xs) funcs counts)
      (items_again (code_format profile laws) end s.items xs rest s.spelled)

  codes_takes : (funcs end : ℕ) (bytes : List ℕ) (xs : List BodyOf) (rest : List ℕ) → codes_at profile funcs end bytes ≡ Ok (xs, rest)
      → (front : List ℕ) × (bytes ≡ front ++ rest)
  codes_takes funcs end bytes xs rest e =
      let m = codes_steps funcs end bytes xs rest e in
      let count = u32_format.fronts.takes end bytes m.0 m.1 m.2 in
      let items = (items_front (code_format profile laws) m.0).takes end m.1 xs rest m.3 in
      (count.0 ++ items.0, joined bytes count.0 m.1 items.0 rest count.1 items.1)

  counted_fault : (funcs end : ℕ) (bytes : List ℕ) (e : ReadFault) (r : Result (ℕ × List ℕ) ReadFault) → u32_at end bytes ≡ r
      → (r >>= counted_at funcs end bytes) ≡ Err e → length bytes ≤ end → Stands (record { rest = bytes; end = end }) e
  counted_fault funcs end bytes e (Err d) is h fits = u32_format.fronts.faults end bytes e (is ∙ cc) fits
  counted_fault funcs end bytes e (Ok n) is h fits =
      elim (chosen (eqb n.0 funcs) (items_at (code_at profile) n.0 end n.1) (Err (fault FuncCodeCount end bytes)) (Err e) h) [
        | inl p ↦
            let count = u32_format.fronts.takes end bytes n.0 n.1 is in
            let fits' : length n.1 ≤ end = omega (arith, ap length count.1, length-append count.0 n.1) in
            Stands-later count.0 (record { rest = bytes; end = end }) (record { rest = n.1; end = end }) e count.1 refl fits
            ((items_front (code_format profile laws) n.0).faults end n.1 e p.1 fits')
        | inr p ↦ stands_as FuncCodeCount end bytes e (err_is {A = List BodyOf × List ℕ} _ _ p.1) (inr (u32_there end bytes n is))
      ]

  codes_fault : (funcs end : ℕ) (bytes : List ℕ) (e : ReadFault) → codes_at profile funcs end bytes ≡ Err e → length bytes ≤ end
      → Stands (record { rest = bytes; end = end }) e
  unfolding codes_at
  codes_fault funcs end bytes e h fits = counted_fault funcs end bytes e (u32_at end bytes) refl h fits

  codes_contents : IsContents 10 (λ funcs xs. length xs ≡ funcs) (λ funcs. BreaksIn profile funcs CodeSection) (λ xs. not (is_empty xs))
      (AreItems (IsCode profile)) (SpellsVector (SpellsCode profile)) (codes_at profile) (written_vector written_code)
  codes_contents =
      let of = items_format (code_format profile laws) in
      record {
        found = codes_found;
        again = codes_again;
        fronts = λ funcs. record { takes = codes_takes funcs; faults = codes_fault funcs };
        breaks = codes_wrong (code_format profile laws) (code_fails profile);
        some = λ xs full. of.some xs;
        spells = λ xs full. of.spells xs;
        least = of.least;
        valid = of.valid;
        empty = λ b xs s e. (λ is. omega arith, vector_empty (SpellsCode profile) b xs s e);
        full = λ b xs s e vector. vector_full (SpellsCode profile) b xs s e;
      }

-- ---- all sections

pub section_laws : (profile : Profile) → CodeLaws profile → SectionLaws profile
section_laws profile laws TypeSection = vector_contents 1 (λ e. omega arith) types_format (vector_wrong functype_format functype_fails)
section_laws profile laws ImportSection = list_contents 2 (λ e. omega arith) import_format import_fails
section_laws profile laws FunctionSection = list_contents 3 (λ e. omega arith) u32_format index_fails
section_laws profile laws TableSection = list_contents 4 (λ e. omega arith) tabletype_format tabletype_fails
section_laws profile laws MemorySection = list_contents 5 (λ e. omega arith) limits_format limits_fails
section_laws profile laws GlobalSection = list_contents 6 (λ e. omega arith) (global_format profile laws) (global_fails profile)
section_laws profile laws ExportSection = list_contents 7 (λ e. omega arith) export_format export_fails
section_laws profile laws StartSection = start_contents
section_laws profile laws ElementSection = list_contents 9 (λ e. omega arith) (elem_format profile laws) (elem_fails profile)
section_laws profile laws CodeSection = codes_contents profile laws
section_laws profile laws DataSection = list_contents 11 (λ e. omega arith) (data_format profile laws) (data_fails profile)
