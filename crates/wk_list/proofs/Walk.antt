-- The written form piece by piece: where each piece begins, and that all of them stay within the limit.
use Rattle.std.proofs.Common.{◌≡◌, ℕ, suc, ◌+◌, ◌<◌, ◌≤◌, ◌^◌, ◌==◌, false, Option, Some, None, List, ◌∷◌, ◌++◌, length, drop, get_or, refl, sym, ap, ◌∙◌}
use Rattle.std.proofs.Common.{arith, nat_le, add-one, drop-cons, length-append}
use Rattle.std.specs.Prelude.{unwrap_or}
use Rattle.std.proofs.lemmas.Bool.{cond-true, le-leb, eq-eqb}
use Rattle.std.specs.List.{flat_map}
use Rattle.wk_bytes.specs.Short.{short}
use Rattle.wk_bytes.specs.ShortLaws.{short-few}
use Rattle.wk_bytes.specs.Frames.{limit, magic, version}
use Rattle.wk_body.specs.Lengths.{limited}
use Rattle.wk_module.specs.declared.types.Parts.{Parts}
use Rattle.wk_module.specs.declared.types.Custom.{Custom}
use Rattle.wk_module.specs.Writing.{section_of, customs_at, section_and_customs, ids, encoded}
use Rattle.wk_module.specs.WritingLaws.{drop-ids}
use Rattle.wk_list.specs.Headers.{custom_frame, customs_of}

-- ---- lengths

pub few_bytes : (n : ℕ) → n < 2 ^ 32 → length (short n) ≤ 5
few_bytes n small = omega (arith, short-few 32 n (omega arith) small)

-- a length that is within the limit is told
pub told : (len : Option ℕ) (n : ℕ) → len ≡ limited n → n ≤ limit → unwrap_or len 0 ≡ n
told len n is within = ap (λ (l : Option ℕ). unwrap_or l 0) (is ∙ cond-true (nat_le n limit) (Some n) None (le-leb n limit within))

-- ---- ids one after the other

-- the pieces from one id on begin with its section and the custom sections behind that
pub length-ids : (m : Parts) (id : ℕ) → id < 12
    → length (flat_map (section_and_customs m) (drop id ids))
    ≡ length (section_of m id) + length (customs_at id m.customs) + length (flat_map (section_and_customs m) (drop (id + 1) ids))
length-ids m id lt =
    omega (
      arith,
      ap (λ (xs : List ℕ). length (flat_map (section_and_customs m) xs)) (drop-ids id lt),
      length-append (section_and_customs m id) (flat_map (section_and_customs m) (drop (id + 1) ids)),
      length-append (section_of m id) (customs_at id m.customs),
    )

pub length-all : (m : Parts) → 8 + length (flat_map (section_and_customs m) ids) ≡ length (encoded m)
unfolding encoded
length-all m = omega (arith, length-append (magic ++ version) (flat_map (section_and_customs m) ids))

-- ---- custom sections one after the other

-- the customs of a place from an index on, where the first of them is of that place, and where it is not
pub drop-of : (place i : ℕ) (c : Custom) (cs : List Custom) → i < length cs → c ≡ get_or cs i c → c.place ≡ place
    → customs_of place (drop i cs) ≡ c ∷ customs_of place (drop (i + 1) cs)
drop-of place i c cs within is same =
    let split : drop i cs ≡ c ∷ drop (i + 1) cs = rw (add-one i) (drop-cons cs i c within ∙ ap (λ (d : Custom). d ∷ drop (suc i) cs) (sym is)) in
    rw split (rw (eq-eqb c.place place same) refl)

pub drop-others : (place i : ℕ) (c : Custom) (cs : List Custom) → i < length cs → c ≡ get_or cs i c → (c.place == place) ≡ false
    → customs_of place (drop i cs) ≡ customs_of place (drop (i + 1) cs)
drop-others place i c cs within is other =
    let split : drop i cs ≡ c ∷ drop (i + 1) cs = rw (add-one i) (drop-cons cs i c within ∙ ap (λ (d : Custom). d ∷ drop (suc i) cs) (sym is)) in
    rw split (rw other refl)

-- the bytes that stand at the place, in the same two cases
pub length-of : (place i : ℕ) (c : Custom) (cs : List Custom) → i < length cs → c ≡ get_or cs i c → c.place ≡ place
    → length (customs_at place (drop i cs)) ≡ length (custom_frame c) + length (customs_at place (drop (i + 1) cs))
length-of place i c cs within is same =
    ap (λ (ds : List Custom). length (flat_map custom_frame ds)) (drop-of place i c cs within is same)
    ∙ length-append (custom_frame c) (customs_at place (drop (i + 1) cs))

pub length-others : (place i : ℕ) (c : Custom) (cs : List Custom) → i < length cs → c ≡ get_or cs i c → (c.place == place) ≡ false
    → length (customs_at place (drop i cs)) ≡ length (customs_at place (drop (i + 1) cs))
length-others place i c cs within is other =
    ap (λ (ds : List Custom). length (flat_map custom_frame ds)) (drop-others place i c cs within is other)
