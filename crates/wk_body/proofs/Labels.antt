-- The pool of labels grows, and tokens mean what they meant.
use Rattle.std.proofs.Common.{◌≡◌, ℕ, zero, suc, ◌+◌, ◌-◌, ◌<◌, ◌≤◌, List, [], ◌∷◌, ◌++◌, length, take, drop, Some, Result, Ok, Err, refl, sym, ap, ◌∙◌}
use Rattle.std.proofs.Common.{append_assoc, arith, length-append}
use Rattle.std.specs.List.{AllByRecursion}
use Rattle.std.proofs.lemmas.List.{append-nil, take-append-le, drop-append-le, drop_at, length-drop, length-map, take_all}
use Rattle.wk_bytes.specs.declared.fault.ReadFault.{ReadFault}
use Rattle.wk_bytes.specs.Leb.{◌>>=◌, IsIntKind, lastU}
use Rattle.wk_bytes.specs.LebLaws.{bind_ok}
use Rattle.wk_bytes.specs.Span.{Span, u32_at}
use Rattle.wk_bytes.specs.SpanLaws.{ok_is, u32_at-shorter}
use Rattle.wk_body.specs.declared.token.Token.{Token}
use Rattle.wk_body.specs.declared.token.Token.TheVariants as kept
use Rattle.wk_body.specs.declared.scratch.Scratch.{Scratch}
use Rattle.wk_body.specs.Instructions.{BrTable}
use Rattle.wk_body.specs.Tree.{Tok, Simple, over, before}
use Rattle.wk_body.specs.Kept.{told, all_told, IsWithin}
use Rattle.wk_body.specs.Vectors.{items_at, vector_at}
use Rattle.wk_body.specs.Reads.{FailsAs}
use Rattle.wk_body.specs.ReadsLaws.{fails_on}
use Rattle.wk_body.proofs.Faults.{fails_int}
use Rattle.wk_body.specs.Reading.{labels_at, after}
use Rattle.wk_body.specs.Building.{Good, Adds, Labelled, ReadsLabels, ReadsPlain, toks_of, kinds_of, size_of}

pub told-grow : (pool more : List ℕ) (t : Token) → IsWithin (length pool) t → told (pool ++ more) t ≡ told pool t
told-grow pool more (kept.BrTable start len other) h =
    ap (λ (ls : List ℕ). Simple (BrTable ls other))
    (ap (take len) (drop-append-le start pool more (omega (arith, h)))
    ∙ take-append-le len (drop start pool) more (omega (arith, h, length-drop start pool)))
told-grow pool more t h = refl

pub all_told-grow : (pool more : List ℕ) (ts : List Token) → AllByRecursion (IsWithin (length pool)) ts → all_told (pool ++ more) ts ≡ all_told pool ts
all_told-grow pool more [] h = refl
all_told-grow pool more (t ∷ ts) h = let e = told-grow pool more t h.0 in let f = all_told-grow pool more ts h.1 in cc

pub within-more : (m n : ℕ) (t : Token) → m ≤ n → IsWithin m t → IsWithin n t
within-more m n (kept.BrTable start len other) le h = omega (arith, h)
within-more m n t le h = h

all_within-more : (m n : ℕ) (ts : List Token) → m ≤ n → AllByRecursion (IsWithin m) ts → AllByRecursion (IsWithin n) ts
all_within-more m n [] le h = tt
all_within-more m n (t ∷ ts) le h = (within-more m n t le h.0, all_within-more m n ts le h.1)

pub more_labels : (old new : Scratch) (labels : List ℕ) → Good old → new.tokens.items ≡ old.tokens.items → new.labels.items ≡ old.labels.items ++ labels
    → new.blocks.items ≡ old.blocks.items → Labelled old new labels
more_labels old new labels good t l b =
    let same : toks_of new ≡ toks_of old = rw (t, l) (all_told-grow old.labels.items labels old.tokens.items good.built.within) in
    record {
      good = record {
        frames = good.frames;
        current = good.current;
        built = record {
          written = same ∙ good.built.written;
          places = b ∙ good.built.places;
          within = rw (t, l) (all_within-more (length old.labels.items) (length (old.labels.items ++ labels)) old.tokens.items
              (omega (arith, length-append old.labels.items labels)) good.built.within);
        };
      };
      toks = same;
      kinds = rw b refl;
      pool = l;
    }

no_labels : (b : Scratch) → Good b → Labelled b b []
no_labels b good = more_labels b b [] good refl (sym (append-nil b.labels.items)) refl

labels-then : (a b c : Scratch) (xs ys : List ℕ) → Labelled a b xs → Labelled b c ys → Labelled a c (xs ++ ys)
labels-then a b c xs ys p q =
    record {
      good = q.good;
      toks = q.toks ∙ p.toks;
      kinds = q.kinds ∙ p.kinds;
      pool =
          q.pool ∙ ap (λ (w : List ℕ). w ++ ys) p.pool ∙ append_assoc a.labels.items xs ys;
    }

-- ---- the loop over labels

abbrev pub with_front : List ℕ → Result (List ℕ × List ℕ) ReadFault → Result (List ℕ × List ℕ) ReadFault
with_front front read = read >>= λ x. Ok (front ++ x.0, x.1)

pub regroup : (front : List ℕ) (n : ℕ) (read : Result (List ℕ × List ℕ) ReadFault)
    → with_front front (read >>= λ x. Ok (n ∷ x.0, x.1)) ≡ with_front (front ++ n ∷ []) read
regroup front n (Ok x) = ap (λ (ns : List ℕ). Ok (ns, x.1)) (simp append_assoc)
regroup front n (Err f) = refl

pub front-nil : (read : Result (List ℕ × List ℕ) ReadFault) → with_front [] read ≡ read
front-nil (Ok x) = refl
front-nil (Err f) = refl

-- so many labels are left behind these, of those that `whole` reads from the cursor `from`
pub record LabelsLeft (labels : List ℕ) (left : ℕ) (from at : Span) (whole : Result (List ℕ × List ℕ) ReadFault) : Type 0 where
  pub reads : with_front labels (items_at u32_at left at.end at.rest) ≡ whole
  pub same_end : at.end ≡ from.end

pub labels_start : (labels : List ℕ) (count : ℕ) (from : Span) → labels ≡ []
    → LabelsLeft labels (count - 0) from from (items_at u32_at count from.end from.rest)
labels_start labels count from none = let k : count - 0 ≡ count = omega arith in
    record { reads = rw (k, none) (front-nil (items_at u32_at count from.end from.rest)); same_end = refl }

pub labels_more : (labels : List ℕ) (count i n : ℕ) (from at to : Span) (whole : Result (List ℕ × List ℕ) ReadFault) → i < count
    → (u32_at at.end at.rest ≡ Ok (n, to.rest)) × (to.end ≡ at.end)
    → LabelsLeft labels (count - i) from at whole → LabelsLeft (labels ++ n ∷ []) (count - (i + 1)) from to whole
labels_more labels count i n from at to whole lt e g =
    let k : count - i ≡ suc (count - (i + 1)) = omega arith in
    let one : with_front labels (items_at u32_at (count - i) at.end at.rest)
    ≡ with_front (labels ++ n ∷ []) (items_at u32_at (count - (i + 1)) at.end to.rest) =
    rw (k, e.0) (regroup labels n (items_at u32_at (count - (i + 1)) at.end to.rest)) in
    record {
      reads = ap (λ (end : ℕ). with_front (labels ++ n ∷ []) (items_at u32_at (count - (i + 1)) end to.rest)) e.1 ∙ sym one ∙ g.reads;
      same_end =
          e.1 ∙ g.same_end;
    }

pub labels_stop : (labels : List ℕ) (e : ReadFault) (count i : ℕ) (from at : Span) (whole : Result (List ℕ × List ℕ) ReadFault) → i < count
    → IsIntKind lastU 32 at.rest e.kind → u32_at at.end at.rest ≡ Err e → LabelsLeft labels (count - i) from at whole → FailsAs e e.kind whole
labels_stop labels e count i from at whole lt int h g =
    let k : count - i ≡ suc (count - (i + 1)) = omega arith in
    let one : with_front labels (items_at u32_at (count - i) at.end at.rest) ≡ Err e = rw (k, h) refl in
    fails_int lastU 32 at.rest e e.kind whole int (sym g.reads ∙ one)

pub labels_done : (labels : List ℕ) (count i : ℕ) (from at : Span) (whole : Result (List ℕ × List ℕ) ReadFault) → count ≤ i
    → LabelsLeft labels (count - i) from at whole → (whole ≡ Ok (labels, at.rest)) × (at.end ≡ from.end)
labels_done labels count i from at whole le g =
    let k : count - i ≡ 0 = omega arith in
    let one : with_front labels (items_at u32_at (count - i) at.end at.rest) ≡ Ok (labels, at.rest) =
    rw k (ap (λ (ns : List ℕ). Ok (ns, at.rest)) (append-nil labels)) in
    (sym g.reads ∙ one, g.same_end)

-- so many labels are left, and the others are in the pool
pub record InLabels (fn now : Scratch) (left : ℕ) (from at : Span) (whole : Result (List ℕ × List ℕ) ReadFault) : Type 0 where
  pub labels : List ℕ
  pub labelled : Labelled fn now labels
  pub ahead : LabelsLeft labels left from at whole
  pub size : length labels + length at.rest ≤ length from.rest

pub labels_begin : (b : Scratch) (count : ℕ) (from : Span) → Good b → InLabels b b (count - 0) from from (items_at u32_at count from.end from.rest)
labels_begin b count from good = record { labels = []; labelled = no_labels b good; ahead = labels_start [] count from refl; size = omega arith }

pub labels_go_on : (fn now next : Scratch) (count i n : ℕ) (from at to : Span) (whole : Result (List ℕ × List ℕ) ReadFault) → i < count
    → (u32_at at.end at.rest ≡ Ok (n, to.rest)) × (to.end ≡ at.end) → Labelled now next (n ∷ [])
    → InLabels fn now (count - i) from at whole → InLabels fn next (count - (i + 1)) from to whole
labels_go_on fn now next count i n from at to whole lt e l g = record {
  labels = g.labels ++ n ∷ [];
  labelled = labels-then fn now next g.labels (n ∷ []) g.labelled l;
  ahead = labels_more g.labels count i n from at to whole lt e g.ahead;
  size = omega (arith, g.size, u32_at-shorter at.end at.rest n to.rest e.0, length-append g.labels (n ∷ []));
}

pub labels_end : (fn now : Scratch) (count i : ℕ) (from at : Span) → count ≤ i
    → InLabels fn now (count - i) from at (items_at u32_at count from.end from.rest) → ReadsLabels (items_at u32_at count from.end from.rest) fn now from at
labels_end fn now count i from at le g =
    let done = labels_done g.labels count i from at _ le g.ahead in
    record { labels = g.labels; is = done.0; same_end = done.1; labelled = g.labelled; size = g.size }

-- ---- a token with labels

pub items_length : (n end : ℕ) (bytes : List ℕ) (x : List ℕ × List ℕ) → items_at u32_at n end bytes ≡ Ok x → length x.0 ≡ n
items_length zero end bytes x e = ap (λ (r : List ℕ × List ℕ). length r.0) (sym (ok_is ([], bytes) x e))
items_length (suc n) end bytes x e =
    let a = bind_ok (u32_at end bytes) _ x e in
    let b = bind_ok (items_at u32_at n end a.0.1) (λ xs. Ok (a.0.0 ∷ xs.0, xs.1)) x a.2 in
    sym (ap (λ (r : List ℕ × List ℕ). length r.0) (ok_is (a.0.0 ∷ b.0.0, b.0.1) x b.2)) ∙ ap suc (items_length n end a.0.1 b.0 b.1)

table_within : (old new : Scratch) (labels : List ℕ) (start count : ℕ) → start ≡ length old.labels.items → length labels ≡ count
    → Labelled old new labels → start + count ≤ length new.labels.items
table_within old new labels start count h n l = omega (arith, ap (length {A = ℕ}) l.pool, length-append old.labels.items labels)

table_told : (old new : Scratch) (labels : List ℕ) (start count other : ℕ) → start ≡ length old.labels.items → length labels ≡ count
    → Labelled old new labels → told new.labels.items (kept.BrTable start count other) ≡ Simple (BrTable labels other)
table_told old new labels start count other h n l =
    ap (λ (ls : List ℕ). Simple (BrTable ls other))
    (rw (l.pool, h, drop_at old.labels.items labels (length old.labels.items) refl) (take_all count labels (omega arith)))

pub table_fits : (old new : Scratch) (start count : ℕ) (from to : Span) → start ≡ length old.labels.items
    → ReadsLabels (items_at u32_at count from.end from.rest) old new from to → start + count ≤ length new.labels.items
table_fits old new start count from to h r = table_within old new r.labels start count h
    (items_length count from.end from.rest (r.labels, to.rest) r.is) r.labelled

pub labels_read : (from counted labelled to : Span) (labels : List ℕ) (count other : ℕ)
    → (u32_at from.end from.rest ≡ Ok (count, counted.rest)) × (counted.end ≡ from.end)
    → (items_at u32_at count counted.end counted.rest ≡ Ok (labels, labelled.rest)) × (labelled.end ≡ counted.end)
    → (u32_at labelled.end labelled.rest ≡ Ok (other, to.rest)) × (to.end ≡ labelled.end) → labels_at from.end from.rest ≡ Ok ((labels, other), to.rest)
unfolding labels_at vector_at
labels_read from counted labelled to labels count other e f g =
    let items : items_at u32_at count from.end counted.rest ≡ Ok (labels, labelled.rest) =
    ap (λ (end : ℕ). items_at u32_at count end counted.rest) (sym e.1) ∙ f.0 in
    let last : u32_at from.end labelled.rest ≡ Ok (other, to.rest) = ap (λ (end : ℕ). u32_at end labelled.rest) (sym (f.1 ∙ e.1)) ∙ g.0 in
    rw (e.0, items, last) refl

pub table_reads : (old mid new : Scratch) (start count other : ℕ) (from counted labelled to : Span) → start ≡ length old.labels.items
    → (u32_at from.end from.rest ≡ Ok (count, counted.rest)) × (counted.end ≡ from.end)
    → ReadsLabels (items_at u32_at count counted.end counted.rest) old mid counted labelled
    → (u32_at labelled.end labelled.rest ≡ Ok (other, to.rest)) × (to.end ≡ labelled.end)
    → Adds mid new (told mid.labels.items (kept.BrTable start count other)) → ReadsPlain (labels_at from.end from.rest) old new from to
table_reads old mid new start count other from counted labelled to h e r f a =
    let n = items_length count counted.end counted.rest (r.labels, labelled.rest) r.is in
    let same = table_told old mid r.labels start count other h n r.labelled in
    let end : labelled.end ≡ from.end = r.same_end ∙ e.1 in
    let sizes : size_of mid ≡ size_of old + length r.labels =
    omega (
      arith,
      ap (length {A = ℕ}) r.labelled.pool,
      length-append old.labels.items r.labels,
      sym (length-map mid.tokens.items (told mid.labels.items)) ∙ ap (length {A = Tok}) r.labelled.toks
          ∙ length-map old.tokens.items (told old.labels.items),
    ) in
    record {
      labels = r.labels;
      other = other;
      is = labels_read from counted labelled to r.labels count other e (r.is, r.same_end) f;
      same_end = f.1 ∙ end;
      step = record {
        good = a.good;
        parts = λ xs. a.parts xs ∙ ap (λ (t : Tok). over (toks_of mid) (before t xs)) same
            ∙ ap (λ (ts : List Tok). over ts (before (Simple (BrTable r.labels other)) xs)) r.labelled.toks;
        kinds = ap Some (sym r.labelled.kinds) ∙ ap (λ (t : Tok). after t (kinds_of mid)) (sym same) ∙ a.kinds;
        size = omega (
          arith,
          a.size,
          r.size,
          u32_at-shorter from.end from.rest count counted.rest e.0,
          u32_at-shorter labelled.end labelled.rest other to.rest f.0,
        );
      };
    }

-- ---- where it fails

pub table_count_fails : (from : Span) (e : ReadFault) → IsIntKind lastU 32 from.rest e.kind → u32_at from.end from.rest ≡ Err e
    → FailsAs e e.kind (labels_at from.end from.rest)
unfolding labels_at vector_at
table_count_fails from e int h = fails_int lastU 32 from.rest e e.kind (labels_at from.end from.rest) int (rw h refl)

pub table_labels_fail : (from counted : Span) (count : ℕ) (e : ReadFault)
    → (u32_at from.end from.rest ≡ Ok (count, counted.rest)) × (counted.end ≡ from.end)
    → FailsAs e e.kind (items_at u32_at count counted.end counted.rest) → FailsAs e e.kind (labels_at from.end from.rest)
unfolding labels_at vector_at
table_labels_fail from counted count e c =
    fails_on e e.kind (items_at u32_at count counted.end counted.rest) (labels_at from.end from.rest) (λ h.
    let items : items_at u32_at count from.end counted.rest ≡ Err e = ap (λ (end : ℕ). items_at u32_at count end counted.rest) (sym c.1) ∙ h in
    rw (c.0, items) refl)

pub table_other_fails : (old mid : Scratch) (from counted labelled : Span) (count : ℕ) (e : ReadFault)
    → (u32_at from.end from.rest ≡ Ok (count, counted.rest)) × (counted.end ≡ from.end)
    → ReadsLabels (items_at u32_at count counted.end counted.rest) old mid counted labelled → IsIntKind lastU 32 labelled.rest e.kind
    → u32_at labelled.end labelled.rest ≡ Err e → FailsAs e e.kind (labels_at from.end from.rest)
unfolding labels_at vector_at
table_other_fails old mid from counted labelled count e c r int h =
    let items : items_at u32_at count from.end counted.rest ≡ Ok (r.labels, labelled.rest) =
    ap (λ (end : ℕ). items_at u32_at count end counted.rest) (sym c.1) ∙ r.is in
    let last : u32_at from.end labelled.rest ≡ Err e = ap (λ (end : ℕ). u32_at end labelled.rest) (sym (r.same_end ∙ c.1)) ∙ h in
    fails_int lastU 32 labelled.rest e e.kind (labels_at from.end from.rest) int (rw (c.0, items, last) refl)
