-- The instructions of an item, as they are looked for, are what stands there, and the other way round.
use Rattle.std.proofs.Common.{◌≡◌, ℕ, ◌-◌, List, ◌++◌, length}
use Rattle.std.proofs.Common.{Option, Some, None, Result, Ok, refl, sym, ap, subst, ◌∙◌, append_assoc}
use Rattle.wk_bytes.specs.declared.fault.ReadFault.{ReadFault}
use Rattle.wk_bytes.specs.Leb.{◌>>=◌, SpellsU}
use Rattle.wk_bytes.specs.LebLaws.{IsBytes, bind_ok, some_is, ok_is, IsBytes-after, IsBytes-before}
use Rattle.wk_bytes.specs.Span.{Span}
use Rattle.wk_body.specs.TokenReading.{local_groups_at}
use Rattle.wk_body.proofs.Grammar.{local_groups_take, local_groups_again}
use Rattle.wk_module.specs.FormatLaws.{IsFormat}
use Rattle.wk_module.specs.Formats.{Reader, bytes_at}
use Rattle.wk_module.specs.Sections.{SectionId, GlobalSection}
use Rattle.wk_module.specs.Sections.{ElementSection, CodeSection, DataSection, number}
use Rattle.wk_module.proofs.Formats.{u32_format, bytes_format}
use Rattle.wk_module.proofs.ItemFormats.{globaltype_format}
use Rattle.wk_place.specs.Places.{IsBehind, IsInBody, HoldsInstrs}
use Rattle.wk_place.specs.Seeking.{rest_at, sized_at, body_instrs_at, instrs_at}

abbrev pub at_span : ℕ → List ℕ → Span
at_span end rest = record { rest = rest; end = end }

abbrev pub some_span : Span → Result (Option Span) ReadFault
some_span s = Ok (Some s)

abbrev pub nothing : Result (Option Span) ReadFault
nothing = Ok None

pub span_is : (s t : Span) → some_span s ≡ some_span t → s ≡ t
span_is s t e = some_is s t (ok_is (Some s) (Some t) e)

-- ---- the instructions of an item

abbrev rest_of : {A : Type 0} → Reader A → ℕ → List ℕ → Result (Option Span) ReadFault
rest_of read end bytes = read end bytes >>= λ x. rest_at end x.1

behind_found : {A : Type 0} {Valid : A → Type 0} {Spells : List ℕ → A → Type 0} {read : Reader A} {written : A → List ℕ}
    → IsFormat Valid Spells read written → (item code : Span) → IsBytes item.rest → rest_of read item.end item.rest ≡ Ok (Some code)
    → IsBehind Spells item code
behind_found {Spells = Spells} {read = read} of item code fits e =
    let a = bind_ok (read item.end item.rest) (λ x. rest_at item.end x.1) (Some code) e in
    let there = span_is (at_span item.end a.0.1) code a.2 in
    let f = of.found item.end item.rest a.0.0 a.0.1 fits a.1 in
    (f.0, a.0.0, f.1, f.2 ∙ ap (λ (s : Span). f.0 ++ s.rest) there, sym (ap (λ (s : Span). s.end) there))

behind_again : {A : Type 0} {Valid : A → Type 0} {Spells : List ℕ → A → Type 0} {read : Reader A} {written : A → List ℕ}
    → IsFormat Valid Spells read written → (item code : Span) → IsBehind Spells item code → rest_of read item.end item.rest ≡ Ok (Some code)
behind_again {read = read} of item code h =
    let is : read item.end item.rest ≡ Ok (h.1, code.rest) = ap (read item.end) h.3 ∙ of.again item.end h.0 h.1 code.rest h.2 in
    rw is (ap (λ (end : ℕ). some_span (at_span end code.rest)) (sym h.4))

abbrev body_of : ℕ → List ℕ → Result (Option Span) ReadFault
body_of end bytes = body_instrs_at end bytes >>= λ x. Ok (Some x.0)

-- the bytes of a code, behind its size
pub record IsSized (bytes : List ℕ) (end : ℕ) (code : Span) (later : List ℕ) : Type 0 where
  pub size : List ℕ
  pub parts : bytes ≡ size ++ (code.rest ++ later)
  pub counts : SpellsU 32 size (length code.rest)
  pub ends : code.end ≡ end - length later
  pub fits : IsBytes code.rest
  pub later_fits : IsBytes later

pub sized_found : (end : ℕ) (bytes : List ℕ) (x : Span × List ℕ) → IsBytes bytes → sized_at end bytes ≡ Ok x → IsSized bytes end x.0 x.1
unfolding sized_at
sized_found end bytes x fits e =
    let b = bind_ok (bytes_at end bytes) (λ c. Ok (at_span (end - length c.1) c.0, c.1)) x e in
    let f = bytes_format.found end bytes b.0.0 b.0.1 fits b.1 in
    let own = f.1 in
    let made : Span × List ℕ = (at_span (end - length b.0.1) b.0.0, b.0.1) in
    subst (λ (y : Span × List ℕ). IsSized bytes end y.0 y.1) {x = made} (ok_is made x b.2) (record {
      size = own.size;
      parts = f.2 ∙ ap (λ (d : List ℕ). d ++ b.0.1) own.parts ∙ append_assoc own.size b.0.0 b.0.1;
      counts = own.counts;
      ends = refl;
      fits = IsBytes-after own.size b.0.0 f.0 own.parts (IsBytes-before f.0 b.0.1 bytes f.2 fits);
      later_fits = IsBytes-after f.0 b.0.1 bytes f.2 fits;
    })

pub sized_again : (end : ℕ) (size body later : List ℕ) → SpellsU 32 size (length body)
    → sized_at end (size ++ (body ++ later)) ≡ Ok (at_span (end - length later) body, later)
unfolding sized_at
sized_again end size body later counts =
    let read : bytes_at end (size ++ (body ++ later)) ≡ Ok (body, later) =
    ap (bytes_at end) (sym (append_assoc size body later))
    ∙ bytes_format.again end (size ++ body) body later (record { size = size; parts = refl; counts = counts }) in
    rw read refl

body_found : (item code : Span) → IsBytes item.rest → body_of item.end item.rest ≡ Ok (Some code) → IsInBody item code
unfolding body_instrs_at
body_found item code fits e =
    let a = bind_ok (body_instrs_at item.end item.rest) (λ x. Ok (Some x.0)) (Some code) e in
    let b = bind_ok (sized_at item.end item.rest) (λ c. local_groups_at c.0.end c.0.rest >>= λ g. Ok (at_span c.0.end g.1, c.1)) a.0 a.1 in
    let c = bind_ok (local_groups_at b.0.0.end b.0.0.rest) (λ g. Ok (at_span b.0.0.end g.1, b.0.1)) a.0 b.2 in
    let own = sized_found item.end item.rest b.0 fits b.1 in
    let g = local_groups_take b.0.0.end b.0.0.rest c.0 own.fits c.1 in
    let made : Span × List ℕ = (at_span b.0.0.end c.0.1, b.0.1) in
    let there : made.0 ≡ code = ap (λ (x : Span × List ℕ). x.0) (ok_is made a.0 c.2) ∙ span_is a.0.0 code a.2 in
    let body : b.0.0.rest ≡ g.front ++ code.rest = g.parts ∙ ap (λ (s : Span). g.front ++ s.rest) there in
    record {
      size = own.size;
      locals = g.front;
      later = b.0.1;
      groups = c.0.0;
      parts = own.parts ∙ ap (λ (d : List ℕ). own.size ++ (d ++ b.0.1)) body;
      counts = subst (λ (d : List ℕ). SpellsU 32 own.size (length d)) body own.counts;
      grouped = g.spelled;
      ends = sym (ap (λ (s : Span). s.end) there) ∙ own.ends;
    }

body_again : (item code : Span) → IsInBody item code → body_of item.end item.rest ≡ Ok (Some code)
unfolding body_instrs_at
body_again item code h =
    let body = h.locals ++ code.rest in
    let sized : sized_at item.end item.rest ≡ Ok (at_span (item.end - length h.later) body, h.later) =
    ap (sized_at item.end) h.parts ∙ sized_again item.end h.size body h.later h.counts in
    let grouped : local_groups_at (item.end - length h.later) body ≡ Ok (h.groups, code.rest) =
    local_groups_again (item.end - length h.later) h.groups h.locals code.rest h.grouped in
    rw (sized, grouped) (ap (λ (end : ℕ). some_span (at_span end code.rest)) (sym h.ends))

pub none_some : (s : Span) → nothing ≡ some_span s → ⊥
none_some s e = absurd cc

pub instrs_found : (k : SectionId) (item code : Span) → IsBytes item.rest → instrs_at (number k) item.end item.rest ≡ Ok (Some code)
    → HoldsInstrs k item code
unfolding instrs_at
instrs_found GlobalSection item code fits e = behind_found globaltype_format item code fits e
instrs_found ElementSection item code fits e = behind_found u32_format item code fits e
instrs_found CodeSection item code fits e = body_found item code fits e
instrs_found DataSection item code fits e = behind_found u32_format item code fits e
instrs_found k item code fits e = absurd (none_some code e)

pub instrs_again : (k : SectionId) (item code : Span) → HoldsInstrs k item code → instrs_at (number k) item.end item.rest ≡ Ok (Some code)
unfolding instrs_at
instrs_again GlobalSection item code h = behind_again globaltype_format item code h
instrs_again ElementSection item code h = behind_again u32_format item code h
instrs_again CodeSection item code h = body_again item code h
instrs_again DataSection item code h = behind_again u32_format item code h
instrs_again k item code h = absurd h
