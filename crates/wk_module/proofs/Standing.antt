-- The faults of reading a module stand in its bytes.
use Rattle.std.proofs.Common.{◌≡◌, ◌≢◌, ℕ, ◌-◌, ◌<◌, ◌≤◌, ◌==◌, ◌⊎◌, List, [], ◌∷◌, ◌++◌, length, length-append, Option, Some, None, Result, Ok, Err, All, refl}
use Rattle.std.proofs.Common.{sym, ap, subst, ◌∙◌, inl, inr, arith}
use Rattle.std.specs.Prelude.{IfErr, MatchResult}
use Rattle.std.proofs.lemmas.List.Elements.{All-head, All-tail}
use Rattle.wk_bytes.specs.declared.fault.ReadKind.{ReadKind}
use Rattle.wk_bytes.specs.declared.fault.ReadKind.TheVariants.{SectionSize, FuncCodeCount, Memory}
use Rattle.wk_bytes.specs.declared.fault.ReadFault.{ReadFault}
use Rattle.wk_bytes.specs.Fault.{no_memory}
use Rattle.wk_bytes.specs.Leb.{◌>>=◌}
use Rattle.wk_bytes.specs.LebLaws.{chosen}
use Rattle.wk_bytes.specs.Span.{Span, fault, u32_at, name_at}
use Rattle.wk_bytes.specs.SpanLaws.{err_is, u32_at-counts}
use Rattle.wk_bytes.specs.Frames.{Section, sections_of}
use Rattle.wk_bytes.specs.FrameStands.{sections_of-stand}
use Rattle.wk_bytes.specs.Stands.{IsShort, Stands, StandsIn, StandsOrMemory, LiesIn, ItemStands, contents_of, whole}
use Rattle.wk_bytes.specs.StandsLaws.{ReadsFront, ReadsFront-name_at, short_stands, u32_there, Stands-here, Stands-later, Stands-within, Stands-contents}
use Rattle.wk_bytes.specs.StandsLaws.{Stands-at_end}
use Rattle.wk_body.specs.declared.types.Profile.{Profile}
use Rattle.wk_body.specs.Reads.{FailsAs}
use Rattle.wk_body.specs.ReadsLaws.{other_fault}
use Rattle.wk_module.specs.declared.types.Custom.{Custom}
use Rattle.wk_module.specs.declared.types.Parts.{Parts}
use Rattle.wk_module.specs.Customs.{custom_at}
use Rattle.wk_module.specs.FirstFaults.{IsFirstFault}
use Rattle.wk_module.specs.FormatLaws.{SectionLaws}
use Rattle.wk_module.specs.Formats.{Reader, bytes_at, taking_all, all_at}
use Rattle.wk_module.specs.ListReading.{IsReading, listed_by, with_listed, lists_read}
use Rattle.wk_module.specs.Modules.{SpellsNone}
use Rattle.wk_module.specs.Sections.{SectionId, ContentsOf, SectionLists, of_number, with_contents, contents_at}
use Rattle.wk_module.specs.Reading.{Progress, at_start, section_end, with_custom, with_lists, section_by, with_section, sections_read, module_of, joined}
use Rattle.wk_module.specs.Reading.{module_at}
use Rattle.wk_module.proofs.Formats.{bytes_parts}

-- ---- contents

module _ {A : Type 0} (read : Reader A) where
  left_over : (end : ℕ) (bytes : List ℕ) (x : A) (rest : List ℕ) (e : ReadFault) → (front : List ℕ) × (bytes ≡ front ++ rest)
      → taking_all end (x, rest) ≡ Err e → length bytes ≤ end → Stands (record { rest = bytes; end = end }) e
  left_over end bytes x [] e front h fits = absurd cc
  left_over end bytes x (y ∷ rest) e front h fits =
      let is : fault SectionSize end (y ∷ rest) ≡ e = cc in
      Stands-later front.0 (record { rest = bytes; end = end }) (record { rest = y ∷ rest; end = end }) e front.1 refl fits
      (subst (Stands (record { rest = y ∷ rest; end = end })) is (Stands-here SectionSize end (y ∷ rest) (omega arith)))

  all_by : (end : ℕ) (bytes : List ℕ) (e : ReadFault) (r : Result (A × List ℕ) ReadFault) → ReadsFront read → read end bytes ≡ r
      → (r >>= taking_all end) ≡ Err e → length bytes ≤ end → Stands (record { rest = bytes; end = end }) e
  all_by end bytes e (Err d) fronts is h fits = fronts.faults end bytes e (is ∙ cc) fits
  all_by end bytes e (Ok x) fronts is h fits = left_over end bytes x.0 x.1 e (fronts.takes end bytes x.0 x.1 is) h fits

  pub all_at-stands : ReadsFront read → (end : ℕ) (bytes : List ℕ) (e : ReadFault) → all_at read end bytes ≡ Err e → length bytes ≤ end
      → Stands (record { rest = bytes; end = end }) e
  all_at-stands fronts end bytes e h fits = all_by end bytes e (read end bytes) fronts refl h fits

abbrev custom_named : ℕ → List ℕ → List ℕ → Result Custom ReadFault
custom_named place name bytes = Ok (record { place = place; name = name; bytes = bytes })

custom_by : (place end : ℕ) (bytes : List ℕ) (e : ReadFault) (r : Result (List ℕ × List ℕ) ReadFault) → name_at end bytes ≡ r
    → (r >>= λ name. custom_named place name.0 name.1) ≡ Err e → length bytes ≤ end → Stands (record { rest = bytes; end = end }) e
custom_by place end bytes e (Err d) is h fits = ReadsFront-name_at.faults end bytes e (is ∙ cc) fits
custom_by place end bytes e (Ok x) is h fits = absurd cc

pub custom_at-stands : (place end : ℕ) (bytes : List ℕ) (e : ReadFault) → custom_at place end bytes ≡ Err e → length bytes ≤ end
    → Stands (record { rest = bytes; end = end }) e
unfolding custom_at
custom_at-stands place end bytes e h fits = custom_by place end bytes e (name_at end bytes) refl h fits

-- ---- modules

pub failed_before : {A B E : Type 0} (r : Result A E) (f : A → B) (e : E) → (r >>= λ x. Ok (f x)) ≡ Err e → r ≡ Err e
failed_before (Ok x) f e h = absurd cc
failed_before (Err d) f e h = cc

joined_stands : (profile : Profile) (b : List ℕ) (p : Progress) (e : ReadFault) → joined profile (length b) p ≡ Err e → StandsIn b e
joined_stands profile b p e h =
    elim (chosen (length p.lists.funcs == length p.lists.codes) (Ok (module_of profile p)) (Err (record { kind = FuncCodeCount; at = length b })) (Err e) h) [
      | inl a ↦ absurd cc
      | inr a ↦ inr (inr (subst (Stands (whole b)) (err_is {A = Parts} _ _ a.1) (Stands-at_end FuncCodeCount b (inl refl))))
    ]

-- sections one after the other, as a step reads each
module _ {P : Type 0} (step : P → Section → Result P ReadFault) (read : P → List (Result Section ReadFault) → Result P ReadFault)
    (ends : (p : P) → read p [] ≡ Ok p) (fails : (p : P) (e : ReadFault) (items : List (Result Section ReadFault)) → read p (Err e ∷ items) ≡ Err e)
    (goes : (p : P) (s : Section) (items : List (Result Section ReadFault)) → read p (Ok s ∷ items) ≡ (step p s >>= λ q. read q items))
    (stands : (p : P) (s : Section) (e : ReadFault) → step p s ≡ Err e → Stands (contents_of s) e) where
  then_stands : (input : List ℕ) (s : Section) (items : List (Result Section ReadFault)) (e : ReadFault) (p : P) (r : Result P ReadFault)
      → LiesIn input s → step p s ≡ r
      → ((q : P) → read q items ≡ Err e → StandsIn input e) → (r >>= λ q. read q items) ≡ Err e → StandsIn input e
  then_stands input s items e p (Err d) lies is more h = inr (inr (Stands-contents input s e lies (stands p s e (is ∙ cc))))
  then_stands input s items e p (Ok q) lies is more h = more q h

  pub all_stand : (input : List ℕ) (p : P) (items : List (Result Section ReadFault)) (e : ReadFault) → All (ItemStands input) items
      → read p items ≡ Err e → StandsIn input e
  all_stand input p [] e stand h = let no : Ok p ≡ Err e = sym (ends p) ∙ h in absurd cc
  all_stand input p (Err d ∷ items) e stand h = subst (StandsIn input) (err_is {A = P} d e (sym (fails p d items) ∙ h))
      (All-head (ItemStands input) (Err d) items stand)
  all_stand input p (Ok s ∷ items) e stand h =
      then_stands input s items e p (step p s) (All-head (ItemStands input) (Ok s) items stand) refl
      (λ q. all_stand input q items e (All-tail (ItemStands input) (Ok s) items stand)) (sym (goes p s items) ∙ h)

module _ (profile : Profile) (sections : SectionLaws profile) where
  contents_stand : {B : Type 0} (funcs : ℕ) (s : Section) (e : ReadFault) (k : SectionId) (f : ContentsOf k → B)
      → (all_at (contents_at profile funcs k) (section_end s) s.contents >>= λ x. Ok (f x)) ≡ Err e → Stands (contents_of s) e
  contents_stand funcs s e k f h =
      let read : Reader (ContentsOf k) = contents_at profile funcs k in
      all_at-stands read ((sections k).fronts funcs) (section_end s) s.contents e (failed_before (all_at read (section_end s) s.contents) f e h) (omega arith)

  pub section_stands : (p : Progress) (s : Section) (e : ReadFault) (k : Option SectionId) → section_by profile p s k ≡ Err e → Stands (contents_of s) e
  unfolding section_by
  section_stands p s e None h =
      custom_at-stands p.place (section_end s) s.contents e (failed_before (custom_at p.place (section_end s) s.contents) (with_custom p) e h) (omega arith)
  section_stands p s e (Some k) h = contents_stand (length p.lists.funcs) s e k (with_lists k p) h

  listed_stands : (l : SectionLists) (s : Section) (e : ReadFault) (k : Option SectionId) → listed_by profile l s k ≡ Err e → Stands (contents_of s) e
  unfolding listed_by
  listed_stands l s e None h = ReadsFront-name_at.faults (section_end s) s.contents e
      (failed_before (name_at (section_end s) s.contents) (λ name. l) e h) (omega arith)
  listed_stands l s e (Some k) h = contents_stand (length l.funcs) s e k (λ x. with_contents k x l) h

  sections_stand : (input : List ℕ) (p : Progress) (items : List (Result Section ReadFault)) (e : ReadFault) → All (ItemStands input) items
      → sections_read profile p items ≡ Err e → StandsIn input e
  unfolding sections_read
  sections_stand = all_stand (with_section profile) (sections_read profile) (λ p. refl) (λ p e items. refl) (λ p s items. refl)
      (λ p s e. section_stands p s e (of_number s.id))

  -- the first fault of reading lists stands in the input in which their sections lie
  pub lists_stand : (input : List ℕ) (l : SectionLists) (items : List (Result Section ReadFault)) (e : ReadFault) → All (ItemStands input) items
      → lists_read profile l items ≡ Err e → StandsIn input e
  unfolding lists_read
  lists_stand = all_stand (with_listed profile) (lists_read profile) (λ l. refl) (λ l e items. refl) (λ l s items. refl)
      (λ l s e. listed_stands l s e (of_number s.id))

  module_by : (b : List ℕ) (e : ReadFault) (r : Result Progress ReadFault) → sections_read profile at_start (sections_of b) ≡ r
      → (r >>= joined profile (length b)) ≡ Err e → StandsIn b e
  module_by b e (Err d) is h = sections_stand b at_start (sections_of b) e (sections_of-stand b) (is ∙ cc)
  module_by b e (Ok p) is h = joined_stands profile b p e h

  -- the first fault of reading a module stands in its bytes
  pub module_stands : (b : List ℕ) (e : ReadFault) → module_at profile b ≡ Err e → StandsIn b e
  unfolding module_at
  module_stands b e h = module_by b e (sections_read profile at_start (sections_of b)) refl h

-- ---- what a function that reads answers

want_of_memory : (e : ReadFault) → e.kind ≡ Memory → e.at ≡ 0 → e ≡ no_memory
want_of_memory e is there = ap (λ (kind : ReadKind). record e { kind = kind }) is ∙ ap (λ (at : ℕ). record no_memory { at = at }) there

-- where a fault is answered, memory was wanted, or that fault is read
pub memory_or_read : {Y : Type 0} (e : ReadFault) (read : Result Y ReadFault) → FailsAs e e.kind read → (e ≡ no_memory) ⊎ (read ≡ Err e)
memory_or_read {Y = Y} e read fails = by_kind e.kind refl fails
  where
    by_kind : (k : ReadKind) → e.kind ≡ k → FailsAs {Y = Y} e k read → (e ≡ no_memory) ⊎ (read ≡ Err e)
    by_kind Memory is there = inl (want_of_memory e is there)
    by_kind _ is there = inr there

-- the fault that is answered stands in the bytes
pub told_stands : {Y : Type 0} (b : List ℕ) (e : ReadFault) (read : Result Y ReadFault) → ((d : ReadFault) → read ≡ Err d → StandsIn b d)
    → FailsAs e e.kind read → StandsIn b e
told_stands b e read stands fails =
    elim (memory_or_read e read fails) [
      | inl none ↦ inl none
      | inr is ↦ stands e is
    ]

-- ---- what a fault of reading a module says of its bytes

module _ (profile : Profile) (b : List ℕ) (is : IsReading profile b (module_at profile b)) where
  fault_read : (e : ReadFault) → module_at profile b ≡ Err e → SpellsNone profile b × StandsIn b e × IsFirstFault profile b e
  fault_read e read = subst (IsReading profile b) read is

  pub fault_refused : (e : ReadFault) → FailsAs e e.kind (module_at profile b) → e.kind ≢ Memory → SpellsNone profile b
  fault_refused e fails other = (fault_read e (other_fault e e.kind (module_at profile b) other fails)).0

  pub fault_first : (e : ReadFault) → FailsAs e e.kind (module_at profile b) → e.kind ≢ Memory → IsFirstFault profile b e
  fault_first e fails other = (fault_read e (other_fault e e.kind (module_at profile b) other fails)).2

  pub fault_stands : (e : ReadFault) → FailsAs e e.kind (module_at profile b) → StandsIn b e
  fault_stands e = told_stands b e (module_at profile b) (λ d read. (fault_read d read).1)

-- ---- codes

-- bytes that are fewer than the size in front of them says
pub behind_size : (old ahead after : Span) (n : ℕ) (e : ReadFault) → ahead ≡ old
    → (u32_at ahead.end ahead.rest ≡ Ok (n, after.rest)) × (after.end ≡ ahead.end) → length old.rest ≤ old.end → IsShort n after e → Stands old e
behind_size old ahead after n e same size fits short =
    let is : u32_at old.end old.rest ≡ Ok (n, after.rest) = ap (λ (s : Span). u32_at s.end s.rest) (sym same) ∙ size.0 in
    let count = u32_at-counts old.end old.rest n after.rest is in
    short_stands count.0 n old after e count.2 (sym (size.1 ∙ ap (λ (s : Span). s.end) same)) fits
    (inr (inr (inr (n, ([], count.0, refl, count.3), short.1)))) short

-- a count that is another than was declared
pub count_stands : (s : Span) (n : ℕ) (rest : List ℕ) (e : ReadFault) → u32_at s.end s.rest ≡ Ok (n, rest) → e ≡ fault FuncCodeCount s.end s.rest → Stands s e
count_stands s n rest e read is =
    subst (Stands s) (sym is) (Stands-here FuncCodeCount s.end s.rest (inr (u32_there s.end s.rest (n, rest) read)))

-- bytes that are left over
pub left_over_stands : {X : Type 0} (s : Span) (r : Result X ReadFault)
    → MatchResult r (λ x. s.rest ≡ []) (λ e. (e ≡ fault SectionSize s.end s.rest) × (s.rest ≢ [])) → IfErr r (λ e. Stands s e)
left_over_stands s (Ok x) ends = tt
left_over_stands s (Err e) ends = subst (Stands s) (sym ends.0) (Stands-here SectionSize s.end s.rest (some s.rest ends.1))
  where
    some : (bytes : List ℕ) → bytes ≢ [] → 0 < length bytes
    some [] other = absurd (other refl)
    some (x ∷ bytes) other = omega arith

-- a fault in the bytes of a code stands in what is left of the section
pub code_stands : (s after code : Span) (e : ReadFault) → bytes_at s.end s.rest ≡ Ok (code.rest, after.rest) → code.end ≡ s.end - length after.rest
    → length s.rest ≤ s.end → StandsOrMemory code e → StandsOrMemory s e
code_stands s after code e taken ends fits (inl none) = inl none
code_stands s after code e taken ends fits (inr stood) =
    let p = bytes_parts s.end s.rest code.rest after.rest taken in
    inr (Stands-within p.0 after.rest s code e p.1
    (omega (arith, ends, fits, ap length p.1, length-append p.0 (code.rest ++ after.rest), length-append code.rest after.rest)) fits p.2 stood)
