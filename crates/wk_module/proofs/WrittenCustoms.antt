-- The custom sections, in the frames of the written form.
use Rattle.std.proofs.Common.{◌≡◌, ◌≢◌, ℕ, zero, suc, ◌+◌, ◌^◌, ◌<◌, ◌≤◌, ◌==◌, Bool, false, inl, inr, List, [], ◌∷◌, ◌++◌, length, map, refl, sym, ap, subst}
use Rattle.std.proofs.Common.{◌∙◌, append-nil, append_assoc, length-append, arith}
use Rattle.std.specs.List.{filter, flat_map}
use Rattle.std.proofs.lemmas.Bool.{ne_eqb, eq-eqb, cases_eq}
use Rattle.std.proofs.lemmas.List.Elements.{filter-append}
use Rattle.std.specs.Str.{IsUtf8}
use Rattle.wk_bytes.specs.Short.{short}
use Rattle.wk_bytes.specs.ShortLaws.{short-spells, short-least}
use Rattle.wk_bytes.specs.Frames.{Frame}
use Rattle.wk_module.specs.declared.types.Custom.{Custom}
use Rattle.wk_module.specs.Customs.{SpellsCustom, SpellsCustoms, written_custom}
use Rattle.wk_module.specs.Shape.{lowered, settled_custom, IsInOrderFrom, AreNamed}
use Rattle.wk_module.specs.ShapeLaws.{lowered_le}
use Rattle.wk_module.proofs.Shaped.{AreSettled}
use Rattle.wk_module.proofs.WrittenFrames.{AreSmall, small_front, small_later, custom_frame, customs_frames, up_from, IsSectionAt, frames_at}

-- ---- one custom

custom_spells : (c : Custom) → IsUtf8 c.name → length (written_custom c) < 2 ^ 32 → SpellsCustom (written_custom c) c
custom_spells c text fits =
    let few : length c.name < 2 ^ 32 = omega (arith, length-append (short (length c.name)) (c.name ++ c.bytes), length-append c.name c.bytes) in
    record { size = short (length c.name); parts = refl; counts = short-spells 32 (length c.name) few; text = text }

pub custom_least : (b : List ℕ) (c : Custom) → SpellsCustom b c → length (written_custom c) ≤ length b
custom_least b c s = omega (
  arith,
  length-append (short (length c.name)) (c.name ++ c.bytes),
  ap length s.parts,
  length-append s.size (c.name ++ c.bytes),
  short-least 32 (length c.name) s.size s.counts,
)

-- ---- customs of one place

-- each stands at that place
abbrev pub AreAt : ℕ → List Custom → Type 0
AreAt place [] = Unit {0}
AreAt place (c ∷ cs) = (c.place ≡ place) × AreAt place cs

abbrev pub of_place : ℕ → List Custom → List Custom
of_place place cs = filter (λ c. c.place == place) cs

of_same : (place : ℕ) (cs : List Custom) → AreAt place cs → of_place place cs ≡ cs
of_same place [] at = refl
of_same place (c ∷ cs) at = rw (eq-eqb c.place place at.0, of_same place cs at.1) refl

of_other : (place other : ℕ) (cs : List Custom) → place ≢ other → AreAt place cs → of_place other cs ≡ []
of_other place other [] apart at = refl
of_other place other (c ∷ cs) apart at = let k : c.place ≢ other = omega arith in rw (ne_eqb c.place other k, of_other place other cs apart at.1) refl

of_above : (place least : ℕ) (cs : List Custom) → place < least → IsInOrderFrom least cs → of_place place cs ≡ []
of_above place least [] below order = refl
of_above place least (c ∷ cs) below order =
    let k : c.place ≢ place = omega arith in
    rw (ne_eqb c.place place k, of_above place c.place cs (omega arith) order.2) refl

-- customs in order from a place on are those of that place, and then those of later ones
record IsCut (place : ℕ) (cs front later : List Custom) : Type 0 where
  parts : cs ≡ front ++ later
  here : AreAt place front
  above : IsInOrderFrom (suc place) later

cut_at : (place : ℕ) (cs : List Custom) → IsInOrderFrom place cs → (front later : List Custom) × IsCut place cs front later
cut_at place [] order = ([], [], record { parts = refl; here = tt; above = tt })
cut_at place (c ∷ cs) order =
    elim (cases_eq c.place place) [
      | inl is ↦
          let rest = cut_at place cs (subst (λ (p : ℕ). IsInOrderFrom p cs) is order.2) in
          (c ∷ rest.0, rest.1, record { parts = ap (λ (ds : List Custom). c ∷ ds) rest.2.parts; here = (is, rest.2.here); above = rest.2.above })
      | inr other ↦ ([], c ∷ cs, record { parts = refl; here = tt; above = (omega arith, order.1, order.2) })
    ]

named_front : (front later : List Custom) → AreNamed (front ++ later) → AreNamed front
named_front [] later named = tt
named_front (c ∷ front) later named = (named.0, named_front front later named.1)

named_later : (front later : List Custom) → AreNamed (front ++ later) → AreNamed later
named_later [] later named = named
named_later (c ∷ front) later named = named_later front later named.1

-- customs of the place that comes, and then the others
customs_here : (place : ℕ) (front later : List Custom) (rest : List Frame) → AreAt place front → AreNamed front → AreSmall (map custom_frame front)
    → SpellsCustoms place rest later
    → SpellsCustoms place (map custom_frame front ++ rest) (front ++ later)
customs_here place [] later rest at named small spelled = spelled
customs_here place (c ∷ front) later rest at named small spelled =
    inl (refl, c, front ++ later, refl, at.0, custom_spells c named.0 small.0, customs_here place front later rest at.1 named.1 small.1 spelled)

-- ---- settled places

pub parts_settled : (passes : ℕ → Bool) (cs : List Custom) → map (settled_custom passes) cs ≡ cs → AreSettled passes cs
parts_settled passes [] e = tt
parts_settled passes (c ∷ cs) e =
    let first : settled_custom passes c ≡ c = cc in
    let others : map (settled_custom passes) cs ≡ cs = cc in
    (ap (λ (d : Custom). d.place) first, parts_settled passes cs others)

module _ (passes : ℕ → Bool) where
  settled_front : (front later : List Custom) → AreSettled passes (front ++ later) → AreSettled passes front
  settled_front [] later settled = tt
  settled_front (c ∷ front) later settled = (settled.0, settled_front front later settled.1)

  settled_later : (front later : List Custom) → AreSettled passes (front ++ later) → AreSettled passes later
  settled_later [] later settled = settled
  settled_later (c ∷ front) later settled = settled_later front later settled.1

  -- a settled place whose id doesn't pass is 0
  not_above : (p : ℕ) → passes p ≡ false → lowered passes p ≡ p → p ≡ 0
  not_above zero is settled = refl
  not_above (suc p) is settled = absurd (omega (arith, rw is at settled, lowered_le passes p))

  none_but_first : (place p : ℕ) (cs : List Custom) → passes p ≡ false → (p ≡ 0 → place ≡ 0) → AreAt p cs → AreSettled passes cs → AreAt place cs
  none_but_first place p [] is first at settled = tt
  none_but_first place p (c ∷ cs) is first at settled =
      let none : p ≡ 0 = not_above p is (subst (λ (q : ℕ). lowered passes q ≡ q) at.0 settled.0) in
      (at.0 ∙ none ∙ sym (first none), none_but_first place p cs is first at.1 settled.1)

-- ---- all places

-- what is known of the customs from a place on
pub record AreLeft (passes : ℕ → Bool) (all : List Custom) (p : ℕ) (cs : List Custom) : Type 0 where
  pub same : (q : ℕ) → p ≤ q → of_place q all ≡ of_place q cs
  pub order : IsInOrderFrom p cs
  pub names : AreNamed cs
  pub settled : AreSettled passes cs

module _ (passes : ℕ → Bool) (all : List Custom) where
  left_later : (p : ℕ) (cs front later : List Custom) → IsCut p cs front later → AreLeft passes all p cs → AreLeft passes all (suc p) later
  left_later p cs front later cut left =
      let settled : AreSettled passes (front ++ later) = subst (AreSettled passes) cut.parts left.settled in
      record {
        same = λ q above.
            let apart : p ≢ q = omega arith in
            left.same q (omega arith) ∙ ap (of_place q) cut.parts ∙ filter-append (λ c. c.place == q) front later
            ∙ ap (λ (ds : List Custom). ds ++ of_place q later) (of_other p q front apart cut.here);
        order = cut.above;
        names = named_later front later (subst AreNamed cut.parts left.names);
        settled = settled_later passes front later settled;
      }

  left_here : (p : ℕ) (cs front later : List Custom) → IsCut p cs front later → AreLeft passes all p cs → of_place p all ≡ front
  left_here p cs front later cut left =
      left.same p (omega arith) ∙ ap (of_place p) cut.parts ∙ filter-append (λ c. c.place == p) front later
      ∙ ap (λ (ds : List Custom). ds ++ of_place p later) (of_same p front cut.here)
      ∙ ap (λ (ds : List Custom). front ++ ds) (of_above p (suc p) later (omega arith) cut.above)
      ∙ append-nil front

  module _ (section : ℕ → List Frame) (each : (p : ℕ) → IsSectionAt passes p (section p)) where
    pub customs_spelled : (count p place : ℕ) (cs : List Custom) → p + count ≡ 12 → (p ≡ 0 → place ≡ 0) → AreLeft passes all p cs
        → AreSmall (flat_map (frames_at section all) (up_from p count))
        → SpellsCustoms place (flat_map (frames_at section all) (up_from p count)) cs
    customs_spelled zero p place [] fits first left small = refl
    customs_spelled zero p place (c ∷ cs) fits first left small = absurd (omega (arith, left.order.0, left.order.1))
    customs_spelled (suc count) p place cs fits first left small =
        let cut = cut_at p cs left.order in
        let front = cut.0 in
        let later = cut.1 in
        let rest = flat_map (frames_at section all) (up_from (suc p) count) in
        let named : AreNamed front = named_front front later (subst AreNamed cut.2.parts left.names) in
        let settled : AreSettled passes front = settled_front passes front later (subst (AreSettled passes) cut.2.parts left.settled) in
        let here : customs_frames p all ≡ map custom_frame front = ap (λ (ds : List Custom). map custom_frame ds) (left_here p cs front later cut.2 left) in
        let split : (section p ++ customs_frames p all) ++ rest ≡ section p ++ (map custom_frame front ++ rest) =
        append_assoc (section p) (customs_frames p all) rest ∙ ap (λ (fs : List Frame). section p ++ (fs ++ rest)) here in
        let after : AreSmall (map custom_frame front ++ rest) = small_later (section p) _ (subst AreSmall split small) in
        let small_here : AreSmall (map custom_frame front) = small_front (map custom_frame front) rest after in
        let more = λ (next : ℕ). customs_spelled count (suc p) next later (omega arith) (λ is. absurd (omega arith))
        (left_later p cs front later cut.2 left) (small_later (map custom_frame front) rest after) in
        rw (cut.2.parts, split) (elim (each p) [
          | inl s ↦ rw s.0 (customs_here place front later rest (none_but_first passes place p front s.1 first cut.2.here settled) named small_here
              (more place))
          | inr s ↦ rw s.1 (inr (λ is. omega arith, p, inr (s.4, sym s.2), customs_here p front later rest cut.2.here named small_here (more p)))
        ])
