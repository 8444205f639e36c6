-- Lists that are read without custom sections are those of the module that is read.
use Rattle.std.proofs.Common.{◌≡◌, ◌≢◌, ℕ, zero, suc, All, Bool, true, false, eqb, max, List, [], ◌∷◌, length, Option, Some, None, Result, Ok, Err, IfOk, refl}
use Rattle.std.proofs.Common.{sym, ap, ◌∙◌, inl, inr, subst}
use Rattle.std.proofs.lemmas.Bool.{eqb-true}
use Rattle.std.proofs.lemmas.List.Elements.{All-head, All-tail}
use Rattle.wk_bytes.specs.declared.fault.ReadKind.{ReadKind}
use Rattle.wk_bytes.specs.declared.fault.ReadKind.TheVariants.{Memory}
use Rattle.wk_bytes.specs.declared.fault.ReadFault.{ReadFault}
use Rattle.wk_bytes.specs.FrameStands.{sections_of-stand}
use Rattle.wk_bytes.specs.Stands.{StandsAt, StandsIn, ItemStands}
use Rattle.wk_bytes.specs.Leb.{◌>>=◌}
use Rattle.wk_bytes.specs.LebLaws.{done}
use Rattle.wk_bytes.specs.Span.{Span, name_at}
use Rattle.wk_bytes.specs.SpanLaws.{ok_is}
use Rattle.wk_bytes.specs.Frames.{Section, MayCome, header_at, framing, section_at, sections_within, sections_from, sections_of, each_then}
use Rattle.wk_bytes.specs.FrameLaws.{steps_of, id_at-takes}
use Rattle.wk_body.specs.declared.types.Profile.{Profile}
use Rattle.wk_body.specs.Reads.{FailsAs, Reads}
use Rattle.wk_body.specs.ReadsLaws.{fails_on}
use Rattle.wk_module.specs.Formats.{all_at}
use Rattle.wk_module.specs.Reading.{Progress, at_start, section_end, with_section, section_by, sections_read, joined, module_at}
use Rattle.wk_module.specs.Shape.{lists_of}
use Rattle.wk_module.specs.Sections.{SectionId, CodeSection, of_number, SectionLists, ContentsOf, with_contents, contents_at}
use Rattle.wk_module.specs.Customs.{custom_at}
use Rattle.wk_module.specs.ListReading.{listed_by, with_listed, lists_read, IsFair, Rise, joined_lists, AreListsOfModule}
use Rattle.wk_module.specs.SectionLaws.{number-of_number, pick_other}
use Rattle.wk_module.proofs.ModuleReading.{lists_of-module_of}

-- ---- one section

module _ (profile : Profile) (p : Progress) (s : Section) where
  custom_step : (r : Result (List ℕ × List ℕ) ReadFault) → name_at (section_end s) s.contents ≡ r
      → listed_by profile p.lists s None ≡ (section_by profile p s None >>= λ q. Ok q.lists)
  unfolding listed_by section_by custom_at
  custom_step (Ok name) is = rw is refl
  custom_step (Err e) is = rw is refl

  contents_step : (k : SectionId) (r : Result (ContentsOf k) ReadFault) → all_at (contents_at profile (length p.lists.funcs) k) (section_end s) s.contents ≡ r
      → listed_by profile p.lists s (Some k) ≡ (section_by profile p s (Some k) >>= λ q. Ok q.lists)
  unfolding listed_by section_by
  contents_step k (Ok x) is = rw is refl
  contents_step k (Err e) is = rw is refl

  step_by : (k : Option SectionId) → listed_by profile p.lists s k ≡ (section_by profile p s k >>= λ q. Ok q.lists)
  step_by None = custom_step (name_at (section_end s) s.contents) refl
  step_by (Some k) = contents_step k (all_at (contents_at profile (length p.lists.funcs) k) (section_end s) s.contents) refl

  -- a section gives the same lists where customs are let go
  pub step_listed : with_listed profile p.lists s ≡ (with_section profile p s >>= λ q. Ok q.lists)
  step_listed = step_by (of_number s.id)

  -- so does a call that reads it
  pub reads_listed : {X : Type 0} (view : X → Progress) (r : Result X ReadFault) → Reads view r (with_section profile p s)
      → Reads (λ x. (view x).lists) r (with_listed profile p.lists s)
  reads_listed view (Ok x) reads = step_listed ∙ rw reads refl
  reads_listed view (Err e) reads = fails_on e e.kind (with_section profile p s) (with_listed profile p.lists s) (λ bad. step_listed ∙ rw bad refl) reads

-- ---- codes are read of the code section alone

pub bound : {A B : Type 0} (r : Result A ReadFault) (f : A → B) (y : B) → (r >>= λ x. Ok (f x)) ≡ Ok y → (x : A) × (r ≡ Ok x) × (f x ≡ y)
bound (Ok x) f y e = (x, refl, ok_is (f x) y e)
bound (Err e) f y h = absurd cc

keeps_by : (profile : Profile) (l q : SectionLists) (s : Section) (k : Option SectionId) → (k ≡ Some CodeSection → ⊥) → listed_by profile l s k ≡ Ok q
    → q.codes ≡ l.codes
unfolding listed_by
keeps_by profile l q s None other e =
    let a = bound (name_at (section_end s) s.contents) (λ name. l) q e in
    sym (ap (λ (x : SectionLists). x.codes) a.2)
keeps_by profile l q s (Some k) other e =
    let a = bound (all_at (contents_at profile (length l.funcs) k) (section_end s) s.contents) (λ x. with_contents k x l) q e in
    sym (ap (λ (x : SectionLists). x.codes) a.2) ∙ pick_other CodeSection k a.0 l.codes (λ is. other (ap (λ (j : SectionId). Some j) is))

pub keeps_codes : (profile : Profile) (l q : SectionLists) (s : Section) → s.id ≢ 10 → with_listed profile l s ≡ Ok q → q.codes ≡ l.codes
keeps_codes profile l q s other e = keeps_by profile l q s (of_number s.id) (λ is. other (number-of_number s.id CodeSection is)) e

pub codes_kept : {X : Type 0} (profile : Profile) (l : SectionLists) (s : Section) (view : X → SectionLists) (r : Result X ReadFault)
    → Reads view r (with_listed profile l s) → s.id ≢ 10 → IfOk r (λ x. (view x).codes ≡ l.codes)
codes_kept profile l s view (Ok x) reads other = keeps_codes profile l (view x) s other reads
codes_kept profile l s view (Err e) reads other = tt

-- ---- ids rise

-- a fault that comes next is that of reading on
pub fair_fails : {Y : Type 0} (e : ReadFault) (kind : ReadKind) (read : Result Y ReadFault) → IsFair e kind → read ≡ Err e → FailsAs e kind read
fair_fails e Memory read fair is = fair
fair_fails e _ read fair is = is

-- the same, whatever the fault is
abbrev AreOrdered : ℕ → List (Result Section ReadFault) → Type 0
AreOrdered last [] = Unit {0}
AreOrdered last (Err e ∷ items) = Unit {0}
AreOrdered last (Ok s ∷ items) = MayCome last s.id × AreOrdered (max last s.id) items

each_ordered : (k last end : ℕ) (bytes : List ℕ) (r : Result (Section × List ℕ) ReadFault)
    → ((l : ℕ) (rest : List ℕ) → AreOrdered l (sections_within k l end rest)) → section_at last end bytes ≡ r
    → AreOrdered last (each_then (λ s rest. sections_within k (max last s.id) end rest) r)
each_ordered k last end bytes (Ok s) more is =
    let steps = steps_of last end bytes s.0 s.1 is in
    ((id_at-takes last end bytes s.0.id steps.after_id steps.ids).1, more (max last s.0.id) s.1)
each_ordered k last end bytes (Err e) more is = tt

within_ordered : (k last end : ℕ) (bytes : List ℕ) → AreOrdered last (sections_within k last end bytes)
within_ordered zero last end bytes = tt
within_ordered (suc k) last end [] = tt
within_ordered (suc k) last end (x ∷ bytes) = each_ordered k last end (x ∷ bytes) (section_at last end (x ∷ bytes)) (λ l rest. within_ordered k l end rest) refl

framing_ordered : (r : Result Span ReadFault) → AreOrdered 0 (framing r)
unfolding sections_from
framing_ordered (Ok s) = within_ordered (length s.rest) 0 s.end s.rest
framing_ordered (Err e) = tt

stands_fair : (e : ReadFault) (kind : ReadKind) (skipped from : List ℕ) → StandsAt kind skipped from → IsFair e kind
stands_fair e Memory skipped from stands = absurd stands
stands_fair e _ skipped from stands = tt

stand_fair : (b : List ℕ) (e : ReadFault) → StandsIn b e → IsFair e e.kind
stand_fair b e (inl none) = subst (λ (x : ReadFault). IsFair x x.kind) (sym none) refl
stand_fair b e (inr (inl (inl long))) = subst (λ (x : ReadFault). IsFair x x.kind) (sym long.0) tt
stand_fair b e (inr (inl (inr (inl short)))) = subst (λ (x : ReadFault). IsFair x x.kind) (sym short.0) tt
stand_fair b e (inr (inl (inr (inr short)))) = subst (λ (x : ReadFault). IsFair x x.kind) (sym short.0) tt
stand_fair b e (inr (inr stands)) = stands_fair e e.kind stands.skipped stands.from stands.stands

ordered_rise : (b : List ℕ) (last : ℕ) (items : List (Result Section ReadFault)) → AreOrdered last items → All (ItemStands b) items → Rise last items
ordered_rise b last [] ordered stand = tt
ordered_rise b last (Err e ∷ items) ordered stand = stand_fair b e (All-head (ItemStands b) (Err e) items stand)
ordered_rise b last (Ok s ∷ items) ordered stand = (ordered.0, ordered_rise b (max last s.id) items ordered.1 (All-tail (ItemStands b) (Ok s) items stand))

-- the sections of an input rise
pub sections_rise : (b : List ℕ) → Rise 0 (sections_of b)
sections_rise b = ordered_rise b 0 (sections_of b) (framing_ordered (header_at b)) (sections_of-stand b)

pub some_rise : (b : List ℕ) → (last : ℕ) × Rise last (sections_of b)
some_rise b = (0, sections_rise b)

-- ---- all sections

lists_after : (profile : Profile) (items : List (Result Section ReadFault)) (r : Result Progress ReadFault)
    → ((q : Progress) → (sections_read profile q items >>= λ p. Ok p.lists) ≡ lists_read profile q.lists items)
    → ((r >>= λ q. sections_read profile q items) >>= λ q. Ok q.lists) ≡ ((r >>= λ q. Ok q.lists) >>= λ l. lists_read profile l items)
lists_after profile items (Ok q) more = more q
lists_after profile items (Err e) more = refl

pub lists_of_sections : (profile : Profile) (p : Progress) (items : List (Result Section ReadFault))
    → (sections_read profile p items >>= λ q. Ok q.lists) ≡ lists_read profile p.lists items
unfolding sections_read lists_read
lists_of_sections profile p [] = refl
lists_of_sections profile p (Err e ∷ items) = refl
lists_of_sections profile p (Ok s ∷ items) =
    lists_after profile items (with_section profile p s) (λ q. lists_of_sections profile q items)
    ∙ ap (λ (r : Result SectionLists ReadFault). r >>= λ l. lists_read profile l items) (sym (step_listed profile p s))

joined_both : (profile : Profile) (end : ℕ) (p : Progress) (same : Bool) → eqb (length p.lists.funcs) (length p.lists.codes) ≡ same
    → (joined profile end p >>= λ m. Ok (lists_of m)) ≡ joined_lists end p.lists
joined_both profile end p true is =
    rw is (ap (λ (l : SectionLists). done l) (lists_of-module_of profile p (eqb-true (length p.lists.funcs) (length p.lists.codes) is)))
joined_both profile end p false is = rw is refl

lists_joined : (profile : Profile) (end : ℕ) (r : Result Progress ReadFault)
    → ((r >>= joined profile end) >>= λ m. Ok (lists_of m)) ≡ ((r >>= λ q. Ok q.lists) >>= joined_lists end)
lists_joined profile end (Ok p) = joined_both profile end p (eqb (length p.lists.funcs) (length p.lists.codes)) refl
lists_joined profile end (Err e) = refl

-- the lists that are read are those of the module
pub lists_of_module : (profile : Profile) (b : List ℕ) → AreListsOfModule profile b
unfolding module_at
lists_of_module profile b =
    lists_joined profile (length b) (sections_read profile at_start (sections_of b))
    ∙ ap (λ (r : Result SectionLists ReadFault). r >>= joined_lists (length b)) (lists_of_sections profile at_start (sections_of b))
