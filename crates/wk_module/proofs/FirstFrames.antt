-- What a fault of the header, or of a frame, says of the bytes.
use Rattle.std.proofs.Common.{◌≡◌, ◌≢◌, ◌⊎◌, ℕ, ◌-◌, ◌<◌, Bool, true, false, cond, leb, ltb, ◌&&◌, inl, inr, List, [], ◌∷◌, ◌++◌, length}
use Rattle.std.proofs.Common.{Result, Ok, Err, refl, sym, ap, subst, ◌∙◌, arith}
use Rattle.std.proofs.lemmas.Bool.{leb-true, ltb-true, ltb-false, false≢true}
use Rattle.std.proofs.lemmas.Slice.Eq.{bytes_eq-Decides}
use Rattle.std.specs.Str.{bytes_eq}
use Rattle.wk_bytes.specs.declared.fault.ReadKind.TheVariants.{BadMagic, BadVersion, UnknownSection, SectionOrder}
use Rattle.wk_bytes.specs.declared.fault.ReadFault.{ReadFault}
use Rattle.wk_bytes.specs.Fault.{long_input}
use Rattle.wk_bytes.specs.Leb.{◌>>=◌}
use Rattle.wk_bytes.specs.LebLaws.{IsBytes, chosen, IsBytes-after}
use Rattle.wk_bytes.specs.PieceLaws.{u32_at-found}
use Rattle.wk_bytes.specs.Span.{Span, fault, byte_at, u32_at, piece_at}
use Rattle.wk_bytes.specs.SpanLaws.{err_is, piece_at-takes}
use Rattle.wk_bytes.specs.Frames.{Section, MayCome, limit, magic, version, id_at, section_at}
use Rattle.wk_bytes.specs.Frames.{header_at}
use Rattle.wk_bytes.specs.FrameLaws.{id_at-takes, first_then, second_then}
use Rattle.wk_body.specs.declared.types.Profile.{Profile}
use Rattle.wk_module.specs.ContentsFaults.{IsSizeFault}
use Rattle.wk_module.specs.FirstFaults.{last_of, start_of, IsHeaderFault, IsIdFault, IsFirstFault}
use Rattle.wk_module.proofs.ContentsFaults.{at_place, given, piece_fails, u32_wrong}
use Rattle.wk_module.proofs.Standing.{failed_before}

-- ---- the header

other_half : (half piece : List ℕ) → bytes_eq piece half ≡ false → piece ≢ half
other_half half piece other e = false≢true (sym other ∙ (bytes_eq-Decides piece half).1 e)

second_wrong : (b rest : List ℕ) (e : ReadFault) (r : Result (List ℕ × List ℕ) ReadFault) → b ≡ magic ++ rest → piece_at 4 (length b) rest ≡ r
    → (r >>= second_then (length b)) ≡ Err e → IsHeaderFault b e
second_wrong b rest e (Err d) parts is h =
    let short = piece_fails 4 (length b) rest e (is ∙ cc) in
    inr (inr (inl (rest, parts, short.0, (short.1.0, short.1.1 ∙ omega (arith, ap length parts)))))
second_wrong b rest e (Ok second) parts is h =
    let t = piece_at-takes 4 (length b) rest second.0 second.1 is in
    elim (chosen (bytes_eq second.0 version) (Ok (record { rest = second.1; end = length b })) (Err (at_place BadVersion 4)) (Err e) h) [
      | inl p ↦ absurd cc
      | inr p ↦ inr (inr (inr (
        second.0,
        second.1,
        parts ∙ ap (λ (c : List ℕ). magic ++ c) t.0,
        t.1,
        other_half version second.0 p.0,
        given BadVersion 4 e (err_is {A = Span} _ _ p.1),
      )))
    ]

first_wrong : (b : List ℕ) (e : ReadFault) (r : Result (List ℕ × List ℕ) ReadFault) → piece_at 4 (length b) b ≡ r → (r >>= first_then (length b)) ≡ Err e
    → IsHeaderFault b e
first_wrong b e (Err d) is h =
    let short = piece_fails 4 (length b) b e (is ∙ cc) in
    inl (short.0, (short.1.0, short.1.1 ∙ omega arith))
first_wrong b e (Ok first) is h =
    let t = piece_at-takes 4 (length b) b first.0 first.1 is in
    elim (chosen (bytes_eq first.0 magic) (piece_at 4 (length b) first.1 >>= second_then (length b)) (Err (at_place BadMagic 0)) (Err e) h) [
      | inl p ↦
          let parts : b ≡ magic ++ first.1 = t.0 ∙ ap (λ (c : List ℕ). c ++ first.1) ((bytes_eq-Decides first.0 magic).0 p.0) in
          second_wrong b first.1 e (piece_at 4 (length b) first.1) parts refl p.1
      | inr p ↦ inr (inl (first.0, first.1, t.0, t.1, other_half magic first.0 p.0, given BadMagic 0 e (err_is {A = Span} _ _ p.1)))
    ]

pub header_wrong : (profile : Profile) (b : List ℕ) (e : ReadFault) → header_at b ≡ Err e → IsFirstFault profile b e
unfolding header_at
header_wrong profile b e h =
    elim (chosen (ltb limit (length b)) (Err long_input) (piece_at 4 (length b) b >>= first_then (length b)) (Err e) h) [
      | inl p ↦ inl (ltb-true _ _ p.0, sym (err_is {A = Span} _ _ p.1))
      | inr p ↦ inr (ltb-false _ _ p.0, inl (first_wrong b e (piece_at 4 (length b) b) refl p.1))
    ]

-- ---- a frame

both_true : (a b : Bool) → (a && b) ≡ true → (a ≡ true) × (b ≡ true)
both_true true b e = (refl, e)
both_true false b e = absurd cc

id_wrong : (last end id : ℕ) (after : List ℕ) (e : ReadFault) → id_at last end (id ∷ after) ≡ Err e → IsIdFault last id (end - length (id ∷ after)) e
unfolding id_at byte_at
id_wrong last end id after e h =
    elim (chosen (ltb 11 id) (Err (fault UnknownSection end (id ∷ after)))
    (cond (ltb 0 id && leb id last) (Err (fault SectionOrder end (id ∷ after))) (Ok (id, after))) (Err e) h) [
      | inl p ↦ inl (ltb-true _ _ p.0, given UnknownSection (end - length (id ∷ after)) e (err_is {A = ℕ × List ℕ} _ _ p.1))
      | inr p ↦
          elim (chosen (ltb 0 id && leb id last) (Err (fault SectionOrder end (id ∷ after))) (Ok (id, after)) (Err e) p.1) [
            | inl q ↦
                let tests = both_true (ltb 0 id) (leb id last) q.0 in
                let some : 0 < id = ltb-true _ _ tests.0 in
                inr (omega (arith, some), leb-true _ _ tests.1, given SectionOrder (end - length (id ∷ after)) e (err_is {A = ℕ × List ℕ} _ _ q.1))
            | inr q ↦ absurd cc
          ]
    ]

-- what is read after an id, and after a size
abbrev sized : ℕ → ℕ → ℕ × List ℕ → Result (Section × List ℕ) ReadFault
sized end id size = piece_at size.0 end size.1 >>= λ piece. Ok (record { id = id; at = end - length size.1; contents = piece.0 }, piece.1)

size_wrong : (b : List ℕ) (id : ℕ) (after : List ℕ) (e : ReadFault) (r : Result (ℕ × List ℕ) ReadFault) → IsBytes after → u32_at (length b) after ≡ r
    → (r >>= sized (length b) id) ≡ Err e → IsSizeFault (last_of b after) e
size_wrong b id after e (Err d) fits is h = inl (u32_wrong (length b) after e (is ∙ cc))
size_wrong b id after e (Ok n) fits is h =
    let size = u32_at-found (length b) after n.0 n.1 fits is in
    let short = piece_fails n.0 (length b) n.1 e (failed_before (piece_at n.0 (length b) n.1)
    (λ piece. let s : Section = record { id = id; at = length b - length n.1; contents = piece.0 } in (s, piece.1)) e h) in
    inr (record { size = size.0; after = n.1; n = n.0; parts = size.2; counts = size.1; fewer = short.0; there = short.1 })

frame_wrong_by : (last : ℕ) (b : List ℕ) (id : ℕ) (after : List ℕ) (e : ReadFault) (r : Result (ℕ × List ℕ) ReadFault) → IsBytes (id ∷ after)
    → id_at last (length b) (id ∷ after) ≡ r → (r >>= λ i. u32_at (length b) i.1 >>= sized (length b) i.0) ≡ Err e
    → IsIdFault last id (start_of b (id ∷ after)) e ⊎ (MayCome last id × IsSizeFault (last_of b after) e)
frame_wrong_by last b id after e (Err d) fits is h = inl (id_wrong last (length b) id after e (is ∙ cc))
frame_wrong_by last b id after e (Ok i) fits is h =
    let t = id_at-takes last (length b) (id ∷ after) i.0 i.1 is in
    let same_id : i.0 ≡ id = cc in
    let same : i.1 ≡ after = cc in
    let fits' : IsBytes i.1 = IsBytes-after (i.0 ∷ []) i.1 (id ∷ after) t.0 fits in
    inr (subst (MayCome last) same_id t.1, subst (λ (c : List ℕ). IsSizeFault (last_of b c) e) same (size_wrong b i.0 i.1 e (u32_at (length b) i.1) fits' refl h))

pub frame_wrong : (last : ℕ) (b : List ℕ) (id : ℕ) (after : List ℕ) (e : ReadFault) → IsBytes (id ∷ after) → section_at last (length b) (id ∷ after) ≡ Err e
    → IsIdFault last id (start_of b (id ∷ after)) e ⊎ (MayCome last id × IsSizeFault (last_of b after) e)
unfolding section_at
frame_wrong last b id after e fits h = frame_wrong_by last b id after e (id_at last (length b) (id ∷ after)) fits refl h
