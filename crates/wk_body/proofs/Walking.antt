-- Pieces of a code that are passed over: what stands there as it is written, and what is written anew.
use Rattle.std.proofs.Common.{◌≡◌, ℕ, ◌+◌, ◌-◌, ◌<◌, ◌≤◌, List, [], ◌∷◌, ◌++◌, length, Result, Ok, refl, sym, ap, subst, ◌∙◌}
use Rattle.std.proofs.Common.{append_assoc, length-append, arith}
use Rattle.std.specs.List.{flat_map}
use Rattle.std.proofs.lemmas.List.{append-nil}
use Rattle.std.proofs.lemmas.List.Concat.{flat_map-append}
use Rattle.wk_bytes.specs.declared.fault.ReadFault.{ReadFault}
use Rattle.byteorder.specs.Endian.{little_bytes}
use Rattle.wk_bytes.specs.LebLaws.{IsBytes}
use Rattle.wk_bytes.specs.Pieces.{SpellsWord}
use Rattle.wk_bytes.specs.Short.{short}
use Rattle.wk_bytes.specs.Span.{u32_at, word_at}
use Rattle.wk_body.specs.declared.reencoder.Reencoder.{Reencoder}
use Rattle.wk_body.specs.Vectors.{items_at, written_vector}
use Rattle.wk_body.specs.Reading.{labels_at}
use Rattle.wk_body.specs.Reencoding.{Holds, Adds, Passes, Keeps}
use Rattle.wk_body.proofs.Labels.{LabelsLeft, labels_start, labels_more, labels_done, labels_read, items_length}
use Rattle.wk_body.proofs.OnlyShort.{word_only}

-- the bytes in front of the cursor stay pending
pub stays : (bytes front out : List ℕ) (from to : Reencoder) → from.cursor.rest ≡ front ++ to.cursor.rest → to.pending.now ≡ from.pending.now
    → front ≡ bytes → Adds bytes out from out to
stays bytes front out from to parts same is = λ written h. (
  h.0 ++ front,
  same ∙ h.1 ∙ ap (λ (b : List ℕ). h.0 ++ b) parts ∙ sym (append_assoc h.0 front to.cursor.rest),
  ap (λ (b : List ℕ). b ++ bytes) h.2 ∙ append_assoc out h.0 bytes ∙ ap (λ (b : List ℕ). out ++ (h.0 ++ b)) (sym is),
)

-- the length of what was taken, by what is left
pub taken_len : (seen behind from front to : List ℕ) (n : ℕ) → seen ≡ from → behind ≡ to → from ≡ front ++ to → length seen - length behind ≡ n
    → length front ≡ n
taken_len seen behind from front to n is left parts e = omega (arith, e, ap length is, ap length left, ap length parts, length-append front to)

pub passed : {A : Type 0} (read : ℕ → List ℕ → Result (A × List ℕ) ReadFault) (x : A) (bytes front out : List ℕ) (from to : Reencoder)
    → (read from.cursor.end from.cursor.rest ≡ Ok (x, to.cursor.rest)) × (to.cursor.end ≡ from.cursor.end)
    → from.cursor.rest ≡ front ++ to.cursor.rest → to.pending.now ≡ from.pending.now → front ≡ bytes → Passes read x bytes out from out to
passed read x bytes front out from to e parts same is = record { is = e.0; same_end = e.1; adds = stays bytes front out from to parts same is }

-- a word stays as it stands: it has one spelling
pub word_kept : (size word : ℕ) (b : List ℕ) (from to : Reencoder) → IsBytes b → SpellsWord size b word
    → (word_at size from.cursor.end from.cursor.rest ≡ Ok (word, to.cursor.rest)) × (to.cursor.end ≡ from.cursor.end)
    → from.cursor.rest ≡ b ++ to.cursor.rest → to.pending.now ≡ from.pending.now → Keeps (word_at size) word (little_bytes size word) from to
word_kept size word b from to fits s read parts same = λ out. passed (word_at size) word (little_bytes size word) b out from to read parts same
    (word_only size word b fits s.0 s.1)

-- ---- one after the other

pub adds_none : (out : List ℕ) (w : Reencoder) → Adds [] out w out w
adds_none out w = λ written h. subst (Holds out w) (sym (append-nil written)) h

pub adds_then : (a b out after last : List ℕ) (from to end : Reencoder) → Adds a out from after to → Adds b after to last end → Adds (a ++ b) out from last end
adds_then a b out after last from to end f g = λ written h. subst (Holds last end) (append_assoc written a b) (g (written ++ a) (f written h))

-- ---- labels

-- so many of `count` labels are left
abbrev pub LabelsPassed : ℕ → ℕ → List ℕ → Reencoder → List ℕ → Reencoder → Type 0
LabelsPassed count left out from after to = (labels : List ℕ)
    × LabelsLeft labels left from.cursor to.cursor (items_at u32_at count from.cursor.end from.cursor.rest) × Adds (flat_map short labels) out from after to

pub labels_begin : (count : ℕ) (out : List ℕ) (from : Reencoder) → LabelsPassed count (count - 0) out from out from
labels_begin count out from = ([], labels_start [] count from.cursor refl, adds_none out from)

pub labels_one : (count i n : ℕ) (out after last : List ℕ) (from to end : Reencoder) → i < count → LabelsPassed count (count - i) out from after to
    → Passes u32_at n (short n) after to last end → LabelsPassed count (count - (i + 1)) out from last end
labels_one count i n out after last from to end lt h p =
    let all = flat_map-append short h.0 (n ∷ []) ∙ ap (λ (b : List ℕ). flat_map short h.0 ++ b) (append-nil (short n)) in (
      h.0 ++ n ∷ [],
      labels_more h.0 count i n from.cursor to.cursor end.cursor _ lt (p.is, p.same_end) h.1,
      subst (λ (b : List ℕ). Adds b out from last end) (sym all) (adds_then (flat_map short h.0) (short n) out after last from to end h.2 p.adds),
    )

pub labels_end : (count i : ℕ) (out after : List ℕ) (from to : Reencoder) → count ≤ i → LabelsPassed count (count - i) out from after to
    → (labels : List ℕ) × Passes (items_at u32_at count) labels (flat_map short labels) out from after to
labels_end count i out after from to le h =
    let d = labels_done h.0 count i from.cursor to.cursor _ le h.1 in
    (h.0, record { is = d.0; same_end = d.1; adds = h.2 })

-- a vector of labels and one more
pub table_passed : (count other : ℕ) (labels : List ℕ) (out counted labelled last : List ℕ) (from a b to : Reencoder)
    → Passes u32_at count (short count) out from counted a → Passes (items_at u32_at count) labels (flat_map short labels) counted a labelled b
    → Passes u32_at other (short other) labelled b last to → (t : List ℕ × ℕ) × Passes labels_at t (written_vector short t.0 ++ short t.1) out from last to
table_passed count other labels out counted labelled last from a b to p q r =
    let long : length labels ≡ count = items_length count a.cursor.end a.cursor.rest (labels, b.cursor.rest) q.is in
    let three = adds_then (short count ++ flat_map short labels) (short other) out labelled last from b to
    (adds_then (short count) (flat_map short labels) out counted labelled from a b p.adds q.adds) r.adds in (
      (labels, other),
      record {
        is = labels_read from.cursor a.cursor b.cursor to.cursor labels count other (p.is, p.same_end) (q.is, q.same_end) (r.is, r.same_end);
        same_end = r.same_end ∙ q.same_end ∙ p.same_end;
        adds = subst (λ (n : ℕ). Adds ((short n ++ flat_map short labels) ++ short other) out from last to) (sym long) three;
      },
    )
