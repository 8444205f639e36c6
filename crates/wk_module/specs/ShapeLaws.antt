-- Laws of settling, and what keeps a module shaped.
use Rattle.std.proofs.Common.{◌≡◌, ℕ, zero, suc, ◌^◌, ◌<◌, ◌≤◌, Bool, true, false, inl, inr, List, [], ◌∷◌, ◌++◌, length, map, filter, refl, sym, ap}
use Rattle.std.proofs.Common.{subst, ◌∙◌, arith}
use Rattle.std.proofs.lemmas.Bool.{cases_Bool, cases_lt, cond-true, cond-false, cond_both}
use Rattle.std.specs.Str.{IsUtf8}
use Rattle.wk_module.specs.declared.types.Parts.{Parts}
use Rattle.wk_module.specs.declared.types.Custom.{Custom}
use Rattle.wk_module.specs.declared.types.FuncType.{FuncType}
use Rattle.wk_body.specs.declared.types.Profile.{Profile}
use Rattle.wk_module.specs.Sections.{SectionId, TypeSection, StartSection, ContentsOf, SectionLists, contents, omitted, with_contents, AreValid}
use Rattle.wk_module.specs.SectionLaws.{same_or_other, contents-here, contents-elsewhere, contents-none}
use Rattle.wk_module.specs.Shape.{lists_of, lowered, settled_custom, settle, is_filled, IsInOrderFrom, AreNamed, IsFormed, IsShaped, nothing}

-- ---- the greatest id up to one that passes, or 0

pub lowered-here : (passes : ℕ → Bool) (p : ℕ) → passes p ≡ true → lowered passes p ≡ p
lowered-here passes zero t = refl
lowered-here passes (suc p) t = cond-true (passes (suc p)) (suc p) (lowered passes p) t

pub lowered-below : (passes : ℕ → Bool) (p : ℕ) → passes (suc p) ≡ false → lowered passes (suc p) ≡ lowered passes p
lowered-below passes p f = cond-false (passes (suc p)) (suc p) (lowered passes p) f

pub lowered_le : (passes : ℕ → Bool) (p : ℕ) → lowered passes p ≤ p
lowered_le passes zero = omega arith
lowered_le passes (suc p) =
    elim (cases_Bool (passes (suc p))) [
      | inl t ↦ omega (arith, lowered-here passes (suc p) t)
      | inr f ↦ omega (arith, lowered-below passes p f, lowered_le passes p)
    ]

pub lowered_rises : (passes : ℕ → Bool) (p q : ℕ) → p ≤ q → lowered passes p ≤ lowered passes q
lowered_rises passes p zero le = omega (arith, lowered_le passes p)
lowered_rises passes p (suc q) le =
    elim (cases_Bool (passes (suc q))) [
      | inl t ↦ omega (arith, lowered-here passes (suc q) t, lowered_le passes p)
      | inr f ↦ elim (cases_lt p (suc q)) [
        | inl lt ↦ omega (arith, lowered-below passes q f, lowered_rises passes p q (omega arith))
        | inr ge ↦ let same : p ≡ suc q = omega arith in omega (arith, ap (lowered passes) same)
      ]
    ]

pub lowered-lowered : (passes : ℕ → Bool) (p : ℕ) → lowered passes (lowered passes p) ≡ lowered passes p
lowered-lowered passes zero = refl
lowered-lowered passes (suc p) =
    elim (cases_Bool (passes (suc p))) [
      | inl t ↦ ap (lowered passes) (lowered-here passes (suc p) t)
      | inr f ↦ rw (lowered-below passes p f) (lowered-lowered passes p)
    ]

-- where more ids pass, an id that stays still stays
pub lowered_more : (passes more : ℕ → Bool) → ((id : ℕ) → passes id ≡ true → more id ≡ true) → (p : ℕ) → lowered passes p ≡ p → lowered more p ≡ p
lowered_more passes more h zero still = refl
lowered_more passes more h (suc p) still =
    elim (cases_Bool (passes (suc p))) [
      | inl t ↦ lowered-here more (suc p) (h (suc p) t)
      | inr f ↦ absurd (omega (arith, lowered-below passes p f, lowered_le passes p))
    ]

-- ---- customs

heads : {A : Type 0} (x y : A) (xs ys : List A) → x ∷ xs ≡ y ∷ ys → x ≡ y
heads x y xs ys e = cc

tails : {A : Type 0} (x y : A) (xs ys : List A) → x ∷ xs ≡ y ∷ ys → xs ≡ ys
tails x y xs ys e = cc

-- where more ids pass, customs that are settled still are
pub settled_more : (passes more : ℕ → Bool) → ((id : ℕ) → passes id ≡ true → more id ≡ true) → (cs : List Custom) → map (settled_custom passes) cs ≡ cs
    → map (settled_custom more) cs ≡ cs
settled_more passes more h [] e = refl
settled_more passes more h (c ∷ cs) e =
    let still = ap (λ (d : Custom). d.place) (heads (settled_custom passes c) c (map (settled_custom passes) cs) cs e) in
    let first = ap (λ p. record c { place = p }) (lowered_more passes more h c.place still) in
    let rest = settled_more passes more h cs (tails (settled_custom passes c) c (map (settled_custom passes) cs) cs e) in
    ap (λ (d : Custom). d ∷ map (settled_custom more) cs) first ∙ ap (λ (ds : List Custom). c ∷ ds) rest

-- customs settled once are settled
pub settled-settled : (passes : ℕ → Bool) (cs : List Custom) → map (settled_custom passes) (map (settled_custom passes) cs) ≡ map (settled_custom passes) cs
settled-settled passes [] = refl
settled-settled passes (c ∷ cs) =
    ap (λ p. record c { place = p } ∷ map (settled_custom passes) (map (settled_custom passes) cs)) (lowered-lowered passes c.place)
    ∙ ap (λ (ds : List Custom). settled_custom passes c ∷ ds) (settled-settled passes cs)

pub settled_in_order : (passes : ℕ → Bool) (least : ℕ) (cs : List Custom) → IsInOrderFrom least cs
    → IsInOrderFrom (lowered passes least) (map (settled_custom passes) cs)
settled_in_order passes least [] o = tt
settled_in_order passes least (c ∷ cs) o =
    (lowered_rises passes least c.place o.0, omega (arith, o.1, lowered_le passes c.place), settled_in_order passes c.place cs o.2)

pub settled_named : (passes : ℕ → Bool) (cs : List Custom) → AreNamed cs → AreNamed (map (settled_custom passes) cs)
settled_named passes [] n = tt
settled_named passes (c ∷ cs) n = (n.0, settled_named passes cs n.1)

-- from a lower one on they rise too
pub in_order_lower : (least lower : ℕ) (cs : List Custom) → lower ≤ least → IsInOrderFrom least cs → IsInOrderFrom lower cs
in_order_lower least lower [] le o = tt
in_order_lower least lower (c ∷ cs) le o = (omega (arith, o.0), o.1, o.2)

-- ---- some of the customs

in_order_filter : (keep : Custom → Bool) (least : ℕ) (cs : List Custom) → IsInOrderFrom least cs → IsInOrderFrom least (filter keep cs)
in_order_filter keep least [] o = tt
in_order_filter keep least (c ∷ cs) o =
    let rest = in_order_filter keep c.place cs o.2 in
    cond_both (keep c) (c ∷ filter keep cs) (filter keep cs) (IsInOrderFrom least) (λ t. (o.0, o.1, rest))
    (λ f. in_order_lower c.place least (filter keep cs) o.0 rest)

named_filter : (keep : Custom → Bool) (cs : List Custom) → AreNamed cs → AreNamed (filter keep cs)
named_filter keep [] n = tt
named_filter keep (c ∷ cs) n =
    let rest = named_filter keep cs n.1 in
    cond_both (keep c) (c ∷ filter keep cs) (filter keep cs) AreNamed (λ t. (n.0, rest)) (λ f. rest)

settled_filter : (passes : ℕ → Bool) (keep : Custom → Bool) (cs : List Custom) → map (settled_custom passes) cs ≡ cs
    → map (settled_custom passes) (filter keep cs) ≡ filter keep cs
settled_filter passes keep [] e = refl
settled_filter passes keep (c ∷ cs) e =
    let first = heads (settled_custom passes c) c (map (settled_custom passes) cs) cs e in
    let rest = settled_filter passes keep cs (tails (settled_custom passes c) c (map (settled_custom passes) cs) cs e) in
    let stays = ap (λ (d : Custom). d ∷ map (settled_custom passes) (filter keep cs)) first ∙ ap (λ (ds : List Custom). c ∷ ds) rest in
    cond_both (keep c) (c ∷ filter keep cs) (filter keep cs) (λ ds. map (settled_custom passes) ds ≡ ds) (λ t. stays) (λ f. rest)

-- ---- one more custom, behind all others

in_order_push : (d : Custom) (least : ℕ) (cs : List Custom) → least ≤ 11 → d.place ≡ 11 → IsInOrderFrom least cs → IsInOrderFrom least (cs ++ d ∷ [])
in_order_push d least [] le last o = (omega arith, omega arith, tt)
in_order_push d least (c ∷ cs) le last o = (o.0, o.1, in_order_push d c.place cs o.1 last o.2)

named_push : (d : Custom) (cs : List Custom) → IsUtf8 d.name → AreNamed cs → AreNamed (cs ++ d ∷ [])
named_push d [] text n = (text, tt)
named_push d (c ∷ cs) text n = (n.0, named_push d cs text n.1)

-- ---- modules

-- ---- other contents of one section

-- the contents of all sections are valid
abbrev pub AreAllValid : Profile → SectionLists → Type 0
AreAllValid profile l = (k : SectionId) → AreValid profile k (contents l k)

pub valid_with : (profile : Profile) (j : SectionId) (x : ContentsOf j) (l : SectionLists) → AreValid profile j x → AreAllValid profile l
    → AreAllValid profile (with_contents j x l)
valid_with profile j x l here all k =
    elim (same_or_other j k) [
      | inl same ↦ subst (λ (i : SectionId). AreValid profile i (contents (with_contents j x l) i)) same
          (subst (AreValid profile j) (sym (contents-here j x l)) here)
      | inr other ↦ subst (AreValid profile k) (sym (contents-elsewhere j k x l other)) (all k)
    ]

-- a module is formed with any types that are few
pub types_formed : (ts : List FuncType) (m : Parts) → length ts < 2 ^ 32 → IsFormed m → IsFormed (record m { types = ts })
types_formed ts m few f = record { valid = valid_with m.profile TypeSection ts (lists_of m) few f.valid; order = f.order; names = f.names }

-- what a section holds that is left out is valid
pub omitted_valid : (profile : Profile) (k : SectionId) → AreValid profile k (omitted k)
omitted_valid profile TypeSection = omega arith
omitted_valid profile StartSection = tt
omitted_valid profile k = (omega arith, tt)

nothing_valid : (profile : Profile) (k : SectionId) → AreValid profile k (contents (lists_of (nothing profile)) k)
nothing_valid profile k = subst (AreValid profile k) (sym (contents-none k)) (omitted_valid profile k)

-- a module with nothing is shaped
pub nothing_shaped : (profile : Profile) → IsShaped (nothing profile)
nothing_shaped profile = record { formed = record { valid = nothing_valid profile; order = tt; names = tt }; settled = refl }

-- settling twice settles once
pub settle-settle : (m : Parts) → settle (settle m) ≡ settle m
settle-settle m = ap (λ (cs : List Custom). record m { customs = cs }) (settled-settled (is_filled m) m.customs)

-- a formed module, settled, is shaped
pub settle_shaped : (m : Parts) → IsFormed m → IsShaped (settle m)
settle_shaped m f = record {
  formed = record {
    valid = f.valid;
    order = settled_in_order (is_filled m) 0 m.customs f.order;
    names = settled_named (is_filled m) m.customs f.names;
  };
  settled = settle-settle m;
}

-- a formed module is formed with other customs that rise and are named
pub customs_formed : (cs : List Custom) (m : Parts) → IsInOrderFrom 0 cs → AreNamed cs → IsFormed m → IsFormed (record m { customs = cs })
customs_formed cs m order names f = record { valid = f.valid; order = order; names = names }

-- with some of its own
pub filter_formed : (keep : Custom → Bool) (m : Parts) → IsFormed m → IsFormed (record m { customs = filter keep m.customs })
filter_formed keep m f =
    customs_formed (filter keep m.customs) m (in_order_filter keep 0 m.customs f.order) (named_filter keep m.customs f.names) f

-- a module with some of its customs is shaped
pub filter_shaped : (keep : Custom → Bool) (m : Parts) → IsShaped m → IsShaped (record m { customs = filter keep m.customs })
filter_shaped keep m s =
    let settled = ap (λ (n : Parts). n.customs) s.settled in
    record {
      formed = filter_formed keep m s.formed;
      settled = ap (λ (cs : List Custom). record m { customs = cs }) (settled_filter (is_filled m) keep m.customs settled);
    }

-- a module with one more custom of the greatest place is formed
pub push_formed : (c : Custom) (m : Parts) → c.place ≡ 11 → IsUtf8 c.name → IsFormed m → IsFormed (record m { customs = m.customs ++ c ∷ [] })
push_formed c m last text f =
    customs_formed (m.customs ++ c ∷ []) m (in_order_push c 0 m.customs (omega arith) last f.order) (named_push c m.customs text f.names) f
