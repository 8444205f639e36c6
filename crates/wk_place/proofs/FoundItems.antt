-- What a section holds from an item on, as it is looked for, is what stands behind the items in front, and the other way round.
use Rattle.std.proofs.Common.{◌≡◌, ◌≢◌, ℕ, zero, suc, ◌+◌, ◌<◌, ◌≤◌, ltb, cond, inl, inr, List, [], ◌∷◌, ◌++◌, length}
use Rattle.std.proofs.Common.{Some, None, Result, Ok, refl, sym, ap, ◌∙◌, append_assoc, length-append, arith}
use Rattle.std.proofs.lemmas.Bool.{ltb-true, lt-ltb, le-ltb, ne_eqb}
use Rattle.wk_bytes.specs.declared.fault.ReadFault.{ReadFault}
use Rattle.wk_bytes.specs.Leb.{◌>>=◌}
use Rattle.wk_bytes.specs.LebLaws.{IsBytes, bind_ok, chosen, some_is, ok_is, IsBytes-after}
use Rattle.wk_bytes.specs.PieceLaws.{u32_at-found, u32_at-again}
use Rattle.wk_bytes.specs.Span.{Span, u32_at}
use Rattle.wk_body.specs.declared.types.Profile.{Profile}
use Rattle.wk_body.specs.Vectors.{SpellsItems, items_at}
use Rattle.wk_body.proofs.EncodedSpells.{expr_encoded, body_encoded}
use Rattle.wk_body.proofs.Least.{expr_least, body_least}
use Rattle.wk_body.proofs.Promised.{exprs_read, bodies_read}
use Rattle.wk_body.proofs.Spelled.{expr_shaped, expr_allowed}
use Rattle.wk_module.specs.FormatLaws.{CodeLaws, IsFormat}
use Rattle.wk_module.specs.Formats.{Reader, made_at}
use Rattle.wk_module.specs.Sections.{SectionId, TypeSection, ImportSection, FunctionSection, TableSection, MemorySection, GlobalSection, ExportSection}
use Rattle.wk_module.specs.Sections.{StartSection, ElementSection, CodeSection, DataSection, number}
use Rattle.wk_module.proofs.Formats.{u32_format, bytes_format, made_steps}
use Rattle.wk_module.proofs.ItemFormats.{functype_format, limits_format, tabletype_format, import_format, export_format, global_format, elem_format}
use Rattle.wk_module.proofs.ItemFormats.{data_format}
use Rattle.wk_place.specs.Places.{SpellsItem, IsBehindItems, ReachesItem}
use Rattle.wk_place.proofs.FoundInstrs.{at_span, none_some}
use Rattle.wk_place.specs.Seeking.{passed, all_passed, item_passed, count_at, seek_at}

pub code_laws : (profile : Profile) → CodeLaws profile
code_laws profile = record {
  expr = exprs_read profile;
  body = bodies_read profile;
  expr_shape = λ t bytes fits s. (expr_shaped profile t bytes fits s, expr_allowed profile t bytes s);
  expr_written = expr_encoded profile;
  body_written = λ b groups shaped of. body_encoded profile b groups (expr_encoded profile b.instrs shaped of);
  expr_least = expr_least profile;
  body_least = body_least profile;
}

-- ---- one item

-- What is passed is spelled, what is spelled is passed, and that is a byte at least.
pub record IsPassed {A : Type 0} (Spells : List ℕ → A → Type 0) (pass : Reader (Unit {0})) : Type 0 where
  pub found : (end : ℕ) (bytes rest : List ℕ) → IsBytes bytes → pass end bytes ≡ Ok (tt, rest) → (b : List ℕ) × (x : A) × Spells b x × (bytes ≡ b ++ rest)
  pub again : (end : ℕ) (b : List ℕ) (x : A) (rest : List ℕ) → Spells b x → pass end (b ++ rest) ≡ Ok (tt, rest)
  pub some : (b : List ℕ) (x : A) → Spells b x → 0 < length b

pub passed_again : {A : Type 0} (read : Reader A) (end : ℕ) (bytes : List ℕ) (x : A) (rest : List ℕ) → read end bytes ≡ Ok (x, rest)
    → passed read end bytes ≡ Ok (tt, rest)
unfolding made_at
passed_again read end bytes x rest is = rw is refl

of_format : {A : Type 0} {Valid : A → Type 0} {Spells : List ℕ → A → Type 0} {read : Reader A} {written : A → List ℕ}
    → IsFormat Valid Spells read written → IsPassed Spells (passed read)
of_format {read = read} {written = written} of = record {
  found = λ end bytes rest fits is.
      let m = made_steps (λ x. tt) read end bytes tt rest is in
      let f = of.found end bytes m.0 rest fits m.1 in
      (f.0, m.0, f.1, f.2);
  again = λ end b x rest s. passed_again read end (b ++ rest) x rest (of.again end b x rest s);
  some = λ b x s. omega (arith, of.least b x s, of.some x);
}

pub item_is_passed : (profile : Profile) (k : SectionId) → IsPassed (SpellsItem profile k) (item_passed profile (number k))
unfolding item_passed
item_is_passed profile TypeSection = of_format functype_format
item_is_passed profile ImportSection = of_format import_format
item_is_passed profile FunctionSection = of_format u32_format
item_is_passed profile TableSection = of_format tabletype_format
item_is_passed profile MemorySection = of_format limits_format
item_is_passed profile GlobalSection = of_format (global_format profile (code_laws profile))
item_is_passed profile ExportSection = of_format export_format
item_is_passed profile StartSection = of_format u32_format
item_is_passed profile ElementSection = of_format (elem_format profile (code_laws profile))
item_is_passed profile CodeSection = of_format bytes_format
item_is_passed profile DataSection = of_format (data_format profile (code_laws profile))

-- ---- items one after the other

module _ {A : Type 0} (Spells : List ℕ → A → Type 0) (pass : Reader (Unit {0})) (is_passed : IsPassed Spells pass) where
  record Passes (n : ℕ) (bytes rest : List ℕ) : Type 0 where
    items : List ℕ
    before : List A
    spelled : SpellsItems Spells items before
    number : length before ≡ n
    parts : bytes ≡ items ++ rest
    short : n + length rest ≤ length bytes

  items_found : (n end : ℕ) (bytes : List ℕ) (x : List (Unit {0}) × List ℕ) → IsBytes bytes → items_at pass n end bytes ≡ Ok x → Passes n bytes x.1
  items_found zero end bytes x fits e =
      let same : ([], bytes) ≡ x = ok_is ([], bytes) x e in
      let rest : bytes ≡ x.1 = ap (λ (y : List (Unit {0}) × List ℕ). y.1) same in
      record { items = []; before = []; spelled = refl; number = refl; parts = rest; short = omega (arith, ap length rest) }
  items_found (suc n) end bytes x fits e =
      let a = bind_ok (pass end bytes) (λ u. items_at pass n end u.1 >>= λ us. Ok (u.0 ∷ us.0, us.1)) x e in
      let b = bind_ok (items_at pass n end a.0.1) (λ us. Ok (a.0.0 ∷ us.0, us.1)) x a.2 in
      let one = is_passed.found end bytes a.0.1 fits a.1 in
      let others = items_found n end a.0.1 b.0 (IsBytes-after one.0 a.0.1 bytes one.3 fits) b.1 in
      let last : b.0.1 ≡ x.1 = ap (λ (y : List (Unit {0}) × List ℕ). y.1) (ok_is (a.0.0 ∷ b.0.0, b.0.1) x b.2) in
      let parts : bytes ≡ (one.0 ++ others.items) ++ b.0.1 =
      one.3 ∙ ap (λ (c : List ℕ). one.0 ++ c) others.parts ∙ sym (append_assoc one.0 others.items b.0.1) in
      record {
        items = one.0 ++ others.items;
        before = one.1 ∷ others.before;
        spelled = (one.0, others.items, refl, one.2, others.spelled);
        number = ap suc others.number;
        parts = parts ∙ ap (λ (c : List ℕ). (one.0 ++ others.items) ++ c) last;
        short =
            omega (arith, others.short, ap length one.3, length-append one.0 a.0.1, is_passed.some one.0 one.1 one.2, ap length last);
      }

  items_again : (end : ℕ) (b : List ℕ) (xs : List A) (rest : List ℕ) → SpellsItems Spells b xs
      → (us : List (Unit {0})) × (items_at pass (length xs) end (b ++ rest) ≡ Ok (us, rest))
  items_again end b [] rest s = ([], ap (λ (c : List ℕ). none_read (c ++ rest)) s)
    where
      none_read : List ℕ → Result (List (Unit {0}) × List ℕ) ReadFault
      none_read c = Ok ([], c)
  items_again end b (x ∷ xs) rest s =
      let others = items_again end s.1 xs rest s.4 in
      let whole : b ++ rest ≡ s.0 ++ (s.1 ++ rest) = ap (λ (c : List ℕ). c ++ rest) s.2 ∙ append_assoc s.0 s.1 rest in
      let one : pass end (b ++ rest) ≡ Ok (tt, s.1 ++ rest) = ap (pass end) whole ∙ is_passed.again end s.0 x (s.1 ++ rest) s.3 in
      (tt ∷ others.0, rw (one, others.1) refl)

  all_found : (n end : ℕ) (bytes : List ℕ) (x : Unit {0} × List ℕ) → IsBytes bytes → all_passed pass n end bytes ≡ Ok x → Passes n bytes x.1
  all_found n end bytes x fits e =
      let m = made_steps (λ us. tt) (items_at pass n) end bytes x.0 x.1 e in
      items_found n end bytes (m.0, x.1) fits m.1

  all_again : (end : ℕ) (b : List ℕ) (xs : List A) (rest : List ℕ) → SpellsItems Spells b xs → all_passed pass (length xs) end (b ++ rest) ≡ Ok (tt, rest)
  all_again end b xs rest s = let r = items_again end b xs rest s in passed_again (items_at pass (length xs)) end (b ++ rest) r.0 rest r.1

-- ---- up to an item

-- a section with a count
module _ (profile : Profile) (k : SectionId) (list : number k ≢ 8) where
  counted : (end : ℕ) (bytes : List ℕ) → count_at (number k) end bytes ≡ u32_at end bytes
  counted end bytes = rw (ne_eqb (number k) 8 list) refl

  pub list_found : (item end : ℕ) (contents : List ℕ) (s : Span) → IsBytes contents → seek_at profile (number k) item end contents ≡ Ok (Some s)
      → IsBehindItems (SpellsItem profile k) item contents s.rest × (s.end ≡ end) × (item ≤ length contents)
  unfolding seek_at
  list_found item end contents s fits e =
      let pass = item_passed profile (number k) in
      let a = bind_ok (count_at (number k) end contents)
      (λ n. cond (ltb item n.0) (all_passed pass item end n.1 >>= λ x. Ok (Some (at_span end x.1))) (Ok None)) (Some s) e in
      let n = u32_at-found end contents a.0.0 a.0.1 fits (sym (counted end contents) ∙ a.1) in
      elim (chosen (ltb item a.0.0) (all_passed pass item end a.0.1 >>= λ x. Ok (Some (at_span end x.1))) (Ok None) (Ok (Some s)) a.2) [
        | inl p ↦
            let b = bind_ok (all_passed pass item end a.0.1) (λ x. Ok (Some (at_span end x.1))) (Some s) p.1 in
            let there : at_span end b.0.1 ≡ s = some_is (at_span end b.0.1) s (ok_is (Some (at_span end b.0.1)) (Some s) b.2) in
            let rest : b.0.1 ≡ s.rest = ap (λ (t : Span). t.rest) there in
            let f = all_found (SpellsItem profile k) pass (item_is_passed profile k) item end a.0.1 b.0 (IsBytes-after n.0 a.0.1 contents n.2 fits) b.1 in (
              record {
                count = n.0;
                items = f.items;
                n = a.0.0;
                before = f.before;
                parts = n.2 ∙ ap (λ (c : List ℕ). n.0 ++ c) (f.parts ∙ ap (λ (c : List ℕ). f.items ++ c) rest);
                counts = n.1;
                spelled = f.spelled;
                number = f.number;
                within = ltb-true item a.0.0 p.0;
              },
              sym (ap (λ (t : Span). t.end) there),
              omega (arith, f.short, ap length n.2, length-append n.0 a.0.1),
            )
        | inr p ↦ absurd cc
      ]

  pub list_again : (item end : ℕ) (contents rest : List ℕ) → IsBehindItems (SpellsItem profile k) item contents rest
      → seek_at profile (number k) item end contents ≡ Ok (Some (at_span end rest))
  unfolding seek_at
  list_again item end contents rest h =
      let pass = item_passed profile (number k) in
      let count : count_at (number k) end contents ≡ Ok (h.n, h.items ++ rest) =
      counted end contents ∙ ap (u32_at end) h.parts ∙ u32_at-again end h.count h.n (h.items ++ rest) h.counts in
      let reached : all_passed pass item end (h.items ++ rest) ≡ Ok (tt, rest) =
      ap (λ (n : ℕ). all_passed pass n end (h.items ++ rest)) (sym h.number)
      ∙ all_again (SpellsItem profile k) pass (item_is_passed profile k) end h.items h.before rest h.spelled in
      rw (count, lt-ltb item h.n h.within, reached) refl

-- what is found of the contents of a section
abbrev Found : Profile → SectionId → ℕ → ℕ → List ℕ → Span → Type 0
Found profile k item end contents s = ReachesItem profile k item contents s.rest × (s.end ≡ end) × (item ≤ length contents)

start_first : (profile : Profile) (end : ℕ) (contents : List ℕ) → seek_at profile 8 0 end contents ≡ Ok (Some (at_span end contents))
unfolding seek_at made_at
start_first profile end contents = refl

start_other : (profile : Profile) (item end : ℕ) (contents : List ℕ) → 1 ≤ item → seek_at profile 8 item end contents ≡ Ok None
unfolding seek_at
start_other profile item end contents some = rw (le-ltb item 1 some) refl

start_found : (profile : Profile) (item end : ℕ) (contents : List ℕ) (s : Span) → seek_at profile 8 item end contents ≡ Ok (Some s)
    → Found profile StartSection item end contents s
start_found profile zero end contents s e =
    let there : at_span end contents ≡ s =
    some_is (at_span end contents) s (ok_is (Some (at_span end contents)) (Some s) (sym (start_first profile end contents) ∙ e)) in
    ((refl, sym (ap (λ (t : Span). t.rest) there)), sym (ap (λ (t : Span). t.end) there), omega arith)
start_found profile (suc item) end contents s e = absurd (none_some s (sym (start_other profile (suc item) end contents (omega arith)) ∙ e))

pub seek_found : (profile : Profile) (k : SectionId) (item end : ℕ) (contents : List ℕ) (s : Span) → IsBytes contents
    → seek_at profile (number k) item end contents ≡ Ok (Some s) → Found profile k item end contents s
seek_found profile StartSection item end contents s fits e = start_found profile item end contents s e
seek_found profile TypeSection item end contents s fits e = list_found profile TypeSection (λ e. absurd cc) item end contents s fits e
seek_found profile k item end contents s fits e = list_found profile k (λ e. absurd cc) item end contents s fits e

start_again : (profile : Profile) (item end : ℕ) (contents rest : List ℕ) → ReachesItem profile StartSection item contents rest
    → seek_at profile 8 item end contents ≡ Ok (Some (at_span end rest))
start_again profile item end contents rest h = rw (h.0, h.1) (start_first profile end contents)

pub seek_again : (profile : Profile) (k : SectionId) (item end : ℕ) (contents rest : List ℕ) → ReachesItem profile k item contents rest
    → seek_at profile (number k) item end contents ≡ Ok (Some (at_span end rest))
seek_again profile StartSection item end contents rest h = start_again profile item end contents rest h
seek_again profile TypeSection item end contents rest h = list_again profile TypeSection (λ e. absurd cc) item end contents rest h
seek_again profile k item end contents rest h = list_again profile k (λ e. absurd cc) item end contents rest h
