-- Steps of writing a module: ids one after the other, and parts that are no longer than the whole.
use Rattle.std.proofs.Common.{◌≡◌, ℕ, zero, suc, ◌+◌, ◌<◌, ◌≤◌, List, [], ◌∷◌, ◌++◌, length, drop, get_or, Some, refl, sym, ap, ◌∙◌, arith, append_assoc}
use Rattle.std.proofs.Common.{length-append}
use Rattle.std.proofs.lemmas.Bool.{eq-eqb}
use Rattle.std.proofs.lemmas.List.{append-nil}
use Rattle.std.specs.List.{flat_map}
use Rattle.wk_bytes.specs.Frames.{limit, magic, version}
use Rattle.wk_body.specs.Lengths.{limited}
use Rattle.wk_body.specs.LengthsLaws.{limited_some}
use Rattle.wk_module.specs.declared.types.Parts.{Parts}
use Rattle.wk_module.specs.declared.types.Custom.{Custom}
use Rattle.wk_module.specs.Sections.{SectionLists, of_number}
use Rattle.wk_module.specs.Writing.{contents_by, section_by, section_of, customs_at, section_and_customs, ids, encoded, Fits}
use Rattle.wk_module.specs.WritingLaws.{at_place, written_frame, customs_at-cons, piece_le, id_is, drop-ids, section_none}

-- where a section has no contents, nothing is appended of it
pub left_out : (l : SectionLists) (id size : ℕ) (bytes : List ℕ) → Some size ≡ limited (length (contents_by l (of_number id))) → size ≡ 0
    → bytes ≡ bytes ++ section_by l (of_number id)
left_out l id size bytes is none =
    let len = limited_some size (length (contents_by l (of_number id))) is in
    rw (section_none l (of_number id) (omega (arith, len.0, none))) (sym (append-nil bytes))

-- a custom is no longer than all customs of its place
pub custom_le : (cs : List Custom) (i : ℕ) (c : Custom) → i < length cs → c ≡ get_or cs i c → length (written_frame c) ≤ length (customs_at c.place cs)
custom_le [] i c within is = absurd (omega arith)
custom_le (d ∷ cs) zero c within is =
    let first = ap (λ (e : Custom). length (at_place e.place (written_frame e) c.place)) is in
    let same : length (at_place c.place (written_frame c) c.place) ≡ length (written_frame c) = rw (eq-eqb c.place c.place refl) refl in
    omega (arith, first, same, ap length (customs_at-cons d cs c.place), length-append (at_place d.place (written_frame d) c.place) (customs_at c.place cs))
custom_le (d ∷ cs) (suc i) c within is =
    omega (
      arith,
      custom_le cs i c (omega arith) is,
      ap length (customs_at-cons d cs c.place),
      length-append (at_place d.place (written_frame d) c.place) (customs_at c.place cs),
    )

-- in a module that fits, a section and the customs behind it do
pub both_fit : (m : Parts) (id : ℕ) → id < 12 → Fits m → length (section_of m id) + length (customs_at id m.customs) ≤ limit
unfolding encoded
both_fit m id lt fits =
    let le = piece_le (section_and_customs m) ids id id (omega arith) (id_is id lt) in
    omega (arith, le, fits, length-append (section_of m id) (customs_at id m.customs), length-append (magic ++ version) (flat_map (section_and_customs m) ids))

-- one more section, and the customs behind it
pub one_more : (m : Parts) (id : ℕ) (before between after whole : List ℕ) → id < 12 → between ≡ before ++ section_of m id
    → after ≡ between ++ customs_at id m.customs → before ++ flat_map (section_and_customs m) (drop id ids) ≡ whole
    → after ++ flat_map (section_and_customs m) (drop (id + 1) ids) ≡ whole
one_more m id before between after whole lt section customs so_far =
    let later = flat_map (section_and_customs m) (drop (id + 1) ids) in
    let split : flat_map (section_and_customs m) (drop id ids) ≡ section_of m id ++ customs_at id m.customs ++ later =
    ap (flat_map (section_and_customs m)) (drop-ids id lt) in
    let regroup : ((before ++ section_of m id) ++ customs_at id m.customs) ++ later ≡ before ++ (section_of m id ++ customs_at id m.customs ++ later) =
    simp append_assoc in
    ap (λ (b : List ℕ). b ++ later) (customs ∙ ap (λ (b : List ℕ). b ++ customs_at id m.customs) section)
    ∙ regroup ∙ ap (λ (b : List ℕ). before ++ b) (sym split) ∙ so_far
