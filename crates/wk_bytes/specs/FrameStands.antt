-- Each section lies in the input, and each fault of its header and frames stands in it.
use Rattle.std.proofs.Common.{◌≡◌, ℕ, zero, suc, ◌-◌, ◌<◌, ◌≤◌, max, Bool, true, false, cond, leb, ltb, ◌&&◌, ◌⊎◌, inl, inr, List, [], ◌∷◌, ◌++◌, length, take}
use Rattle.std.proofs.Common.{Result, Ok, Err, refl, sym, ap, subst, ◌∙◌, append_assoc, length-append, arith}
use Rattle.std.specs.Prelude.{All}
use Rattle.std.proofs.lemmas.List.Elements.{All-nil, All-cons}
use Rattle.std.proofs.lemmas.Bool.{ltb-false, ltb-true, false≢true}
use Rattle.std.proofs.lemmas.List.{take_at, append-nil}
use Rattle.std.proofs.lemmas.Slice.Eq.{bytes_eq-Decides}
use Rattle.std.specs.Str.{bytes_eq}
use Rattle.wk_bytes.specs.declared.fault.ReadKind.TheVariants.{BadMagic, BadVersion, UnexpectedEnd, UnknownSection, SectionOrder}
use Rattle.wk_bytes.specs.declared.fault.ReadFault.{ReadFault}
use Rattle.wk_bytes.specs.Fault.{long_input}
use Rattle.wk_bytes.specs.Leb.{◌>>=◌}
use Rattle.wk_bytes.specs.LebLaws.{bind_ok, chosen}
use Rattle.wk_bytes.specs.Span.{Span, fault, byte_at, u32_at, piece_at}
use Rattle.wk_bytes.specs.SpanLaws.{ok_is, err_is, piece_at-takes, u32_at-counts}
use Rattle.wk_bytes.specs.Frames.{Section, id_at, section_at, each_then, sections_within, sections_from, limit, magic, version, header_at, framing, sections_of}
use Rattle.wk_bytes.specs.FrameLaws.{first_then, second_then, steps_of, id_at-takes, header_at-takes}
use Rattle.wk_bytes.specs.Stands.{BeginsOtherwise, Counts, IsShort, LacksHeader, Stands, StandsIn, whole, LiesIn, ItemStands}
use Rattle.wk_bytes.specs.StandsLaws.{stands_as, Stands-later, ReadsFront, ReadsFront-then, ReadsPiece, ReadsFront-sized, ReadsFront-byte_at, piece_at-short}

-- ---- a section

both_true : (a b : Bool) → (a && b) ≡ true → (a ≡ true) × (b ≡ true)
both_true true b e = (refl, e)
both_true false b e = absurd cc

id_at-faults : (last end : ℕ) (bytes : List ℕ) (e : ReadFault) → id_at last end bytes ≡ Err e → length bytes ≤ end
    → Stands (record { rest = bytes; end = end }) e
unfolding id_at byte_at
id_at-faults last end [] e h fits = ReadsFront-byte_at.faults end [] e (cc) fits
id_at-faults last end (x ∷ bytes) e h fits =
    elim (chosen (ltb 11 x) (Err (fault UnknownSection end (x ∷ bytes)))
    (cond (ltb 0 x && leb x last) (Err (fault SectionOrder end (x ∷ bytes))) (Ok (x, bytes))) (Err e) h) [
      | inl p ↦ stands_as UnknownSection end (x ∷ bytes) e (err_is {A = ℕ × List ℕ} _ _ p.1) (ltb-true _ _ p.0)
      | inr p ↦
          elim (chosen (ltb 0 x && leb x last) (Err (fault SectionOrder end (x ∷ bytes))) (Ok (x, bytes)) (Err e) p.1) [
            | inl q ↦
                let tests = both_true (ltb 0 x) (leb x last) q.0 in
                let some : 0 < x = ltb-true _ _ tests.0 in
                stands_as SectionOrder end (x ∷ bytes) e (err_is {A = ℕ × List ℕ} _ _ q.1) (some, ltb-false _ _ p.0)
            | inr q ↦ absurd cc
          ]
    ]

ReadsFront-id_at : (last : ℕ) → ReadsFront (id_at last)
ReadsFront-id_at last = record { takes = λ end bytes id rest e. (id ∷ [], (id_at-takes last end bytes id rest e).0); faults = id_at-faults last }

-- a section with that piece as its contents, which stand in front of the bytes
abbrev section_with : ℕ → ℕ → List ℕ → List ℕ × List ℕ → Result (Section × List ℕ) ReadFault
section_with id end bytes piece = Ok (record { id = id; at = end - length bytes; contents = piece.0 }, piece.1)

-- the contents of a section, behind its size
abbrev contents_at : ℕ → ℕ → ℕ → List ℕ → Result (Section × List ℕ) ReadFault
contents_at id size end bytes = piece_at size end bytes >>= section_with id end bytes

contents_at-takes : (id size end : ℕ) (bytes : List ℕ) (s : Section) (rest : List ℕ) → contents_at id size end bytes ≡ Ok (s, rest)
    → (front : List ℕ) × (bytes ≡ front ++ rest)
contents_at-takes id size end bytes s rest e =
    let a = bind_ok (piece_at size end bytes) (section_with id end bytes) (s, rest) e in
    let t = piece_at-takes size end bytes a.0.0 a.0.1 a.1 in
    let made : Section × List ℕ = (record { id = id; at = end - length bytes; contents = a.0.0 }, a.0.1) in
    (a.0.0, t.0 ∙ ap (λ (y : Section × List ℕ). a.0.0 ++ y.1) (ok_is made (s, rest) a.2))

contents_at-faults : (id size end : ℕ) (bytes : List ℕ) (e : ReadFault) (r : Result (List ℕ × List ℕ) ReadFault) → piece_at size end bytes ≡ r
    → (r >>= section_with id end bytes) ≡ Err e → IsShort size (record { rest = bytes; end = end }) e
contents_at-faults id size end bytes e (Err d) is h = piece_at-short size end bytes e (is ∙ cc)
contents_at-faults id size end bytes e (Ok piece) is h = absurd cc

ReadsPiece-contents_at : (id size : ℕ) → ReadsPiece size (contents_at id size)
ReadsPiece-contents_at id size = record {
  takes = contents_at-takes id size;
  faults = λ end bytes e h fits. inr (contents_at-faults id size end bytes e (piece_at size end bytes) refl h);
}

pub ReadsFront-section_at : (last : ℕ) → ReadsFront (section_at last)
unfolding section_at
ReadsFront-section_at last =
    ReadsFront-then (id_at last) (λ id end bytes. u32_at end bytes >>= λ size. contents_at id size.0 end size.1) (ReadsFront-id_at last)
    (λ id. ReadsFront-sized (contents_at id) (ReadsPiece-contents_at id))

-- a section that was read lies in the input
section_at-lies : (last : ℕ) (input front bytes : List ℕ) (s : Section) (rest : List ℕ) → input ≡ front ++ bytes
    → section_at last (length input) bytes ≡ Ok (s, rest) → LiesIn input s
section_at-lies last input front bytes s rest parts e =
    let t = steps_of last (length input) bytes s rest e in
    let one = (id_at-takes last (length input) bytes s.id t.after_id t.ids).0 in
    let two = u32_at-counts (length input) t.after_id t.size t.after_size t.sizes in
    let cut = piece_at-takes t.size (length input) t.after_size s.contents rest t.pieces in
    let three = cut.0 in
    let head : List ℕ = s.id ∷ two.0 in
    let inner : bytes ≡ head ++ (s.contents ++ rest) = one ∙ ap (λ b. s.id ∷ b) (two.2 ∙ ap (λ b. two.0 ++ b) three) in
    let outer : input ≡ (front ++ head) ++ (s.contents ++ rest) = parts ∙ ap (λ b. front ++ b) inner ∙ sym (append_assoc front head (s.contents ++ rest)) in
    record {
      before = front ++ head;
      after = rest;
      parts = outer;
      place = omega (arith, t.place, ap length outer, length-append (front ++ head) (s.contents ++ rest), ap length three);
      sized = (front ++ s.id ∷ [], two.0, sym (append_assoc front (s.id ∷ []) two.0), subst (Counts two.0) (sym cut.1) two.3);
    }

-- ---- all of them

all_then : (k last : ℕ) (input front bytes : List ℕ) (r : Result (Section × List ℕ) ReadFault) → input ≡ front ++ bytes
    → section_at last (length input) bytes ≡ r
    → ((s : Section) (rest before : List ℕ) → input ≡ before ++ rest → All (ItemStands input) (sections_within k (max last s.id) (length input) rest))
    → All (ItemStands input) (each_then (λ s rest. sections_within k (max last s.id) (length input) rest) r)
all_then k last input front bytes (Ok y) parts is more =
    let t = (ReadsFront-section_at last).takes (length input) bytes y.0 y.1 is in
    let behind : input ≡ (front ++ t.0) ++ y.1 = parts ∙ ap (λ b. front ++ b) t.1 ∙ sym (append_assoc front t.0 y.1) in
    All-cons (ItemStands input) (Ok y.0) _ (section_at-lies last input front bytes y.0 y.1 parts is) (more y.0 y.1 (front ++ t.0) behind)
all_then k last input front bytes (Err e) parts is more =
    let fits : length bytes ≤ length input = omega (arith, ap length parts, length-append front bytes) in
    let stood = (ReadsFront-section_at last).faults (length input) bytes e is fits in
    All-cons (ItemStands input) (Err e) []
    (inr (inr (Stands-later front (whole input) (record { rest = bytes; end = length input }) e parts refl (omega arith) stood)))
    (All-nil (ItemStands input))

all_within : (k last : ℕ) (input front bytes : List ℕ) → input ≡ front ++ bytes → All (ItemStands input) (sections_within k last (length input) bytes)
all_within zero last input front bytes parts = All-nil (ItemStands input)
all_within (suc k) last input front [] parts = All-nil (ItemStands input)
all_within (suc k) last input front (x ∷ bytes) parts =
    all_then k last input front (x ∷ bytes) (section_at last (length input) (x ∷ bytes)) parts refl
    (λ s rest before behind. all_within k (max last s.id) input before rest behind)

pub sections_from-stand : (last : ℕ) (input front bytes : List ℕ) → input ≡ front ++ bytes → All (ItemStands input) (sections_from last (length input) bytes)
unfolding sections_from
sections_from-stand last input front bytes parts = all_within (length bytes) last input front bytes parts

-- ---- the header

-- a half that is another
half_differs : (half piece rest bytes : List ℕ) → bytes ≡ piece ++ rest → length piece ≡ length half → bytes_eq piece half ≡ false → BeginsOtherwise half bytes
half_differs half piece rest bytes parts long other = (
  omega (arith, ap length parts, length-append piece rest, long),
  λ e. false≢true (sym other ∙ (bytes_eq-Decides piece half).1 (sym (take_at piece rest (length half) long) ∙ ap (take (length half)) (sym parts) ∙ e)),
)

-- the header is cut short, or a half of it is another
abbrev Wrong : List ℕ → ReadFault → Type 0
Wrong input e = LacksHeader input e ⊎ Stands (whole input) e

second_faults : (input rest : List ℕ) (e : ReadFault) (r : Result (List ℕ × List ℕ) ReadFault) → input ≡ magic ++ rest
    → piece_at 4 (length input) rest ≡ r → (r >>= second_then (length input)) ≡ Err e → Wrong input e
second_faults input rest e (Err d) parts is h =
    let short = piece_at-short 4 (length input) rest e (is ∙ cc) in
    let place : fault UnexpectedEnd (length input) rest ≡ record { kind = UnexpectedEnd; at = 4 } =
    ap (λ (at : ℕ). record { kind = UnexpectedEnd; at = at }) (omega (arith, ap length parts, length-append magic rest)) in
    inl (inr (short.0 ∙ place, (rest, parts, short.1)))
second_faults input rest e (Ok second) parts is h =
    elim (chosen (bytes_eq second.0 version) (Ok (record { rest = second.1; end = length input })) (Err (record { kind = BadVersion; at = 4 })) (Err e) h) [
      | inl p ↦ absurd cc
      | inr p ↦
          let t = piece_at-takes 4 (length input) rest second.0 second.1 is in
          let stood : Stands (whole input) (record { kind = BadVersion; at = 4 }) = record {
            skipped = magic;
            from = rest;
            later = [];
            parts = parts ∙ ap (λ b. magic ++ b) (sym (append-nil rest));
            place = omega arith;
            ends = inl refl;
            stands = half_differs version second.0 second.1 rest t.0 t.1 p.0;
          } in
          inr (subst (Stands (whole input)) (err_is {A = Span} _ _ p.1) stood)
    ]

first_faults : (input : List ℕ) (e : ReadFault) (r : Result (List ℕ × List ℕ) ReadFault) → piece_at 4 (length input) input ≡ r
    → (r >>= first_then (length input)) ≡ Err e → Wrong input e
first_faults input e (Err d) is h =
    let short = piece_at-short 4 (length input) input e (is ∙ cc) in
    let place : fault UnexpectedEnd (length input) input ≡ record { kind = UnexpectedEnd; at = 0 } =
    ap (λ (at : ℕ). record { kind = UnexpectedEnd; at = at }) (omega arith) in
    inl (inl (short.0 ∙ place, short.1))
first_faults input e (Ok first) is h =
    let t = piece_at-takes 4 (length input) input first.0 first.1 is in
    elim (chosen (bytes_eq first.0 magic) (piece_at 4 (length input) first.1 >>= second_then (length input)) (Err (record { kind = BadMagic; at = 0 }))
    (Err e) h) [
      | inl p ↦
          let same : first.0 ≡ magic = (bytes_eq-Decides first.0 magic).0 p.0 in
          second_faults input first.1 e (piece_at 4 (length input) first.1) (t.0 ∙ ap (λ b. b ++ first.1) same) refl p.1
      | inr p ↦
          let stood : Stands (whole input) (record { kind = BadMagic; at = 0 }) = record {
            skipped = [];
            from = input;
            later = [];
            parts = sym (append-nil input);
            place = omega arith;
            ends = inl refl;
            stands = half_differs magic first.0 first.1 input t.0 t.1 p.0;
          } in
          inr (subst (Stands (whole input)) (err_is {A = Span} _ _ p.1) stood)
    ]

-- which is a fault that stands
wrong_stands : (input : List ℕ) (e : ReadFault) → Wrong input e → StandsIn input e
wrong_stands input e (inl lacks) = inr (inl (inr lacks))
wrong_stands input e (inr stood) = inr (inr stood)

pub header_at-stands : (input : List ℕ) (e : ReadFault) → header_at input ≡ Err e → StandsIn input e
unfolding header_at
header_at-stands input e h =
    elim (chosen (ltb limit (length input)) (Err long_input) (piece_at 4 (length input) input >>= first_then (length input)) (Err e) h) [
      | inl p ↦ inr (inl (inl (sym (err_is {A = Span} _ _ p.1), ltb-true _ _ p.0)))
      | inr p ↦ wrong_stands input e (first_faults input e (piece_at 4 (length input) input) refl p.1)
    ]

framing_stands : (input : List ℕ) (r : Result Span ReadFault) → header_at input ≡ r → All (ItemStands input) (framing r)
framing_stands input (Ok s) is =
    let h = header_at-takes input s is in
    subst (λ end. All (ItemStands input) (sections_from 0 end s.rest)) (sym h.2) (sections_from-stand 0 input (magic ++ version) s.rest h.0)
framing_stands input (Err e) is = All-cons (ItemStands input) (Err e) [] (header_at-stands input e is) (All-nil (ItemStands input))

-- each section lies in the input, and a fault stands in it
pub sections_of-stand : (input : List ℕ) → All (ItemStands input) (sections_of input)
sections_of-stand input = framing_stands input (header_at input) refl
