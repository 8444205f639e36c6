-- The section that is found by its id is the one that stands there, and the other way round.
use Rattle.std.proofs.Common.{◌≡◌, ◌≢◌, ℕ, zero, suc, ◌-◌, ◌<◌, ◌≤◌, max, eqb, inl, inr, List, [], ◌∷◌, ◌++◌, length}
use Rattle.std.proofs.Common.{Some, Result, Ok, Err, refl, sym, ap, subst, ◌∙◌, append_assoc, arith}
use Rattle.std.proofs.lemmas.Bool.{eqb-true, eq-eqb, ne_eqb}
use Rattle.wk_bytes.specs.declared.fault.ReadFault.{ReadFault}
use Rattle.wk_bytes.specs.Leb.{SpellsU}
use Rattle.wk_bytes.specs.LebLaws.{IsBytes, chosen, some_is, IsBytes-after}
use Rattle.wk_bytes.specs.Span.{Span}
use Rattle.wk_bytes.specs.SpanLaws.{piece_at-takes}
use Rattle.wk_bytes.specs.Frames.{Frame, Section, MayCome, SpellsFrame, SpellsFrames, frame_of, magic, version, section_at, each_then}
use Rattle.wk_bytes.specs.Frames.{sections_within, sections_from, header_at, framing, sections_of}
use Rattle.wk_bytes.specs.FrameLaws.{steps_of, section_at-takes, section_at-again, section_at-shorter, sections_from-ok, header_at-takes, header_at-again}
use Rattle.wk_module.specs.FirstFaults.{last_id}
use Rattle.wk_place.specs.Places.{IsSectionAt}
use Rattle.wk_place.specs.Seeking.{first_with}

-- behind ids up to `last`, the bytes are frames and then this section
record Reaches (last end : ℕ) (bytes : List ℕ) (s : Section) : Type 0 where
  frames : List Frame
  front : List ℕ
  size : List ℕ
  later : List ℕ
  parts : bytes ≡ front ++ (s.id ∷ (size ++ (s.contents ++ later)))
  framed : SpellsFrames last front frames
  may : MayCome (max last (last_id frames)) s.id
  counts : SpellsU 32 size (length s.contents)
  place : s.at ≡ end - length (s.contents ++ later)

max_zero : (n : ℕ) → n ≡ max n 0
max_zero n = omega arith

zero_max : (n : ℕ) → n ≡ max 0 n
zero_max n = omega arith

max_assoc : (a b c : ℕ) → max (max a b) c ≡ max a (max b c)
max_assoc a b c = omega arith

-- ---- what is found stands there

reached_here : (last end : ℕ) (bytes : List ℕ) (s : Section) (rest : List ℕ) → IsBytes bytes → section_at last end bytes ≡ Ok (s, rest)
    → Reaches last end bytes s
reached_here last end bytes s rest fits is =
    let t = steps_of last end bytes s rest is in
    let cut = piece_at-takes t.size end t.after_size s.contents rest t.pieces in
    let taken = section_at-takes last end bytes s rest fits is in
    let frame = taken.3 in
    record {
      frames = [];
      front = [];
      size = frame.size;
      later = rest;
      parts =
          taken.1 ∙ ap (λ (c : List ℕ). c ++ rest) frame.parts
          ∙ ap (λ (c : List ℕ). s.id ∷ c) (append_assoc frame.size s.contents rest);
      framed = refl;
      may = subst (λ (n : ℕ). MayCome n s.id) (max_zero last) taken.2;
      counts = frame.counts;
      place = t.place ∙ ap (λ (c : List ℕ). end - length c) cut.0;
    }

reached_later : (last end : ℕ) (bytes : List ℕ) (t s : Section) (rest : List ℕ) → IsBytes bytes → section_at last end bytes ≡ Ok (t, rest)
    → Reaches (max last t.id) end rest s → Reaches last end bytes s
reached_later last end bytes t s rest fits is h =
    let taken = section_at-takes last end bytes t rest fits is in
    record {
      frames = frame_of t ∷ h.frames;
      front = taken.0 ++ h.front;
      size = h.size;
      later = h.later;
      parts =
          taken.1 ∙ ap (λ (c : List ℕ). taken.0 ++ c) h.parts
          ∙ sym (append_assoc taken.0 h.front (s.id ∷ (h.size ++ (s.contents ++ h.later))));
      framed = (taken.0, h.front, refl, taken.2, taken.3, h.framed);
      may = subst (λ (n : ℕ). MayCome n s.id) (max_assoc last t.id (last_id h.frames)) h.may;
      counts = h.counts;
      place = h.place;
    }

-- what was reached, and its id
abbrev Finds : ℕ → ℕ → ℕ → List ℕ → Section → Type 0
Finds id last end bytes s = Reaches last end bytes s × (s.id ≡ id)

found_by : (k id last end : ℕ) (bytes : List ℕ) (s : Section) (r : Result (Section × List ℕ) ReadFault) → IsBytes bytes → section_at last end bytes ≡ r
    → ((t : Section) (rest : List ℕ) → length rest < length bytes → IsBytes rest → first_with id (sections_within k (max last t.id) end rest) ≡ Some s
    → Finds id (max last t.id) end rest s)
    → first_with id (each_then (λ t rest. sections_within k (max last t.id) end rest) r) ≡ Some s → Finds id last end bytes s
found_by k id last end bytes s (Err e) fits is more h = absurd cc
found_by k id last end bytes s (Ok y) fits is more h =
    elim (chosen (eqb y.0.id id) (Some y.0) (first_with id (sections_within k (max last y.0.id) end y.1)) (Some s) h) [
      | inl p ↦
          let same = some_is y.0 s p.1 in
          subst (Finds id last end bytes) same (reached_here last end bytes y.0 y.1 fits is, eqb-true y.0.id id p.0)
      | inr p ↦
          let taken = section_at-takes last end bytes y.0 y.1 fits is in
          let further = more y.0 y.1 (section_at-shorter last end bytes y.0 y.1 is) (IsBytes-after taken.0 y.1 bytes taken.1 fits) p.1 in
          (reached_later last end bytes y.0 s y.1 fits is further.0, further.1)
    ]

found_within : (k id last end : ℕ) (bytes : List ℕ) (s : Section) → length bytes ≤ k → IsBytes bytes
    → first_with id (sections_within k last end bytes) ≡ Some s → Finds id last end bytes s
found_within zero id last end bytes s le fits h = absurd cc
found_within (suc k) id last end [] s le fits h = absurd cc
found_within (suc k) id last end (x ∷ bytes) s le fits h =
    found_by k id last end (x ∷ bytes) s (section_at last end (x ∷ bytes)) fits refl
    (λ t rest less fits' h'. found_within k id (max last t.id) end rest s (omega arith) fits' h') h

found_from : (id last end : ℕ) (bytes : List ℕ) (s : Section) → IsBytes bytes → first_with id (sections_from last end bytes) ≡ Some s
    → Finds id last end bytes s
unfolding sections_from
found_from id last end bytes s fits h = found_within (length bytes) id last end bytes s (omega arith) fits h

found_in : (b : List ℕ) (id : ℕ) (s : Section) (r : Result Span ReadFault) → IsBytes b → header_at b ≡ r → first_with id (framing r) ≡ Some s
    → IsSectionAt b s × (s.id ≡ id)
found_in b id s (Err e) fits is h = absurd cc
found_in b id s (Ok from) fits is h =
    let head = header_at-takes b from is in
    let fits' = IsBytes-after (magic ++ version) from.rest b head.0 fits in
    let found = found_from id 0 from.end from.rest s fits' h in
    let r = found.0 in (
      record {
        frames = r.frames;
        front = r.front;
        size = r.size;
        later = r.later;
        fits = head.1;
        parts =
            head.0 ∙ ap (λ (c : List ℕ). (magic ++ version) ++ c) r.parts;
        framed = r.framed;
        may = subst (λ (n : ℕ). MayCome n s.id) (sym (zero_max (last_id r.frames))) r.may;
        counts = r.counts;
        place = r.place ∙ ap (λ (n : ℕ). n - length (s.contents ++ r.later)) head.2;
      },
      found.1,
    )

pub section_found : (b : List ℕ) (id : ℕ) (s : Section) → IsBytes b → first_with id (sections_of b) ≡ Some s → IsSectionAt b s × (s.id ≡ id)
section_found b id s fits h = found_in b id s (header_at b) fits refl h

-- ---- what stands there is found

-- a section that is read there is this one
same_section : (last end : ℕ) (bytes : List ℕ) (t s : Section) (later : List ℕ) → section_at last end bytes ≡ Ok (t, later) → frame_of t ≡ frame_of s
    → s.at ≡ end - length (s.contents ++ later) → t ≡ s
same_section last end bytes t s later is same place =
    let u = steps_of last end bytes t later is in
    let cut = piece_at-takes u.size end u.after_size t.contents later u.pieces in
    let id : t.id ≡ s.id = ap (λ (f : Frame). f.id) same in
    let contents : t.contents ≡ s.contents = ap (λ (f : Frame). f.contents) same in
    let at : t.at ≡ s.at =
    u.place ∙ ap (λ (c : List ℕ). end - length c) cut.0 ∙ ap (λ (c : List ℕ). end - length (c ++ later)) contents ∙ sym place in
    λ i. record { id = id i; at = at i; contents = contents i }

first_here : (id : ℕ) (s : Section) (items : List (Result Section ReadFault)) → s.id ≡ id → first_with id (Ok s ∷ items) ≡ Some s
first_here id s items is = rw (eq-eqb s.id id is) refl

first_later : (id : ℕ) (s : Section) (items : List (Result Section ReadFault)) → s.id ≢ id → first_with id (Ok s ∷ items) ≡ first_with id items
first_later id s items other = rw (ne_eqb s.id id other) refl

again_by : (last end : ℕ) (bytes : List ℕ) (s : Section) (frames : List Frame) (front size later : List ℕ) → 0 < s.id
    → bytes ≡ front ++ (s.id ∷ (size ++ (s.contents ++ later))) → SpellsFrames last front frames → MayCome (max last (last_id frames)) s.id
    → SpellsU 32 size (length s.contents) → s.at ≡ end - length (s.contents ++ later) → first_with s.id (sections_from last end bytes) ≡ Some s
again_by last end bytes s [] front size later some parts framed may counts place =
    let own = s.id ∷ (size ++ s.contents) in
    let whole : bytes ≡ own ++ later =
    parts ∙ ap (λ (c : List ℕ). c ++ (s.id ∷ (size ++ (s.contents ++ later)))) framed
    ∙ ap (λ (c : List ℕ). s.id ∷ c) (sym (append_assoc size s.contents later)) in
    let spelled : SpellsFrame own (frame_of s) = record { size = size; counts = counts; parts = refl } in
    let read = section_at-again last end own later (frame_of s) (subst (λ (n : ℕ). MayCome n s.id) (sym (max_zero last)) may) spelled in
    let t = read.0 in
    let same = same_section last end (own ++ later) t s later read.2 read.1 place in
    let id : t.id ≡ s.id = ap (λ (u : Section). u.id) same in
    ap (λ (c : List ℕ). first_with s.id (sections_from last end c)) whole
    ∙ ap (first_with s.id) (sections_from-ok last end (own ++ later) t later read.2)
    ∙ first_here s.id t (sections_from (max last t.id) end later) id ∙ ap (λ (u : Section). Some u) same
again_by last end bytes s (f ∷ fs) front size later some parts framed may counts place =
    let tail = s.id ∷ (size ++ (s.contents ++ later)) in
    let rest = framed.1 ++ tail in
    let whole : bytes ≡ framed.0 ++ rest = parts ∙ ap (λ (c : List ℕ). c ++ tail) framed.2 ∙ append_assoc framed.0 framed.1 tail in
    let read = section_at-again last end framed.0 rest f framed.3 framed.4 in
    let t = read.0 in
    let id : t.id ≡ f.id = ap (λ (g : Frame). g.id) read.1 in
    let last' : max last t.id ≡ max last f.id = ap (max last) id in
    let framed' : SpellsFrames (max last t.id) framed.1 fs = subst (λ (n : ℕ). SpellsFrames n framed.1 fs) (sym last') framed.5 in
    let may' : MayCome (max (max last t.id) (last_id fs)) s.id =
    subst (λ (n : ℕ). MayCome n s.id) (sym (ap (λ (n : ℕ). max n (last_id fs)) last' ∙ max_assoc last f.id (last_id fs))) may in
    let other : t.id ≢ s.id = differs last f.id (last_id fs) t.id s.id id some may in
    ap (λ (c : List ℕ). first_with s.id (sections_from last end c)) whole
    ∙ ap (first_with s.id) (sections_from-ok last end (framed.0 ++ rest) t rest read.2)
    ∙ first_later s.id t (sections_from (max last t.id) end rest) other
    ∙ again_by (max last t.id) end rest s fs framed.1 size later some refl framed' may' counts place
  where
    differs : (last f more t id : ℕ) → t ≡ f → 0 < id → MayCome (max last (max f more)) id → t ≢ id
    differs last f more t id same some (inl none) = λ e. absurd (omega (arith, some, none))
    differs last f more t id same some (inr p) = λ e. absurd (omega (arith, same, e, p.0))

pub section_again : (b : List ℕ) (s : Section) → 0 < s.id → IsSectionAt b s → first_with s.id (sections_of b) ≡ Some s
section_again b s some at =
    let rest = at.front ++ (s.id ∷ (at.size ++ (s.contents ++ at.later))) in
    let fits : length ((magic ++ version) ++ rest) ≤ 2147483647 = omega (arith, at.fits, ap length at.parts) in
    let read : header_at b ≡ Ok (record { rest = rest; end = length ((magic ++ version) ++ rest) }) = ap header_at at.parts ∙ header_at-again rest fits in
    let place : s.at ≡ length ((magic ++ version) ++ rest) - length (s.contents ++ at.later) =
    at.place ∙ ap (λ (c : List ℕ). length c - length (s.contents ++ at.later)) at.parts in
    ap (λ (r : Result Span ReadFault). first_with s.id (framing r)) read
    ∙ again_by 0 (length ((magic ++ version) ++ rest)) rest s at.frames at.front at.size at.later some refl at.framed
    (subst (λ (n : ℕ). MayCome n s.id) (zero_max (last_id at.frames)) at.may) at.counts place
