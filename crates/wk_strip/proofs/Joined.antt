-- A module of which the codes and the other lists were read, and its written form.
use Rattle.std.proofs.Common.{◌≡◌, ℕ, ◌+◌, ◌≤◌, List, [], ◌++◌, length, Ok, sym, ap, subst, ◌∙◌}
use Rattle.wk_bytes.specs.Frames.{limit, magic, version}
use Rattle.wk_bytes.specs.Short.{short}
use Rattle.wk_body.specs.declared.types.Profile.{Profile}
use Rattle.wk_body.specs.Bodies.{BodyOf}
use Rattle.wk_module.specs.declared.types.Custom.{Custom}
use Rattle.wk_module.specs.declared.types.Parts.{Parts}
use Rattle.wk_module.specs.ListReading.{AreListsOfModule}
use Rattle.wk_module.specs.Reading.{module_at}
use Rattle.wk_module.specs.Sections.{SectionLists}
use Rattle.wk_module.specs.Shape.{lists_of}
use Rattle.wk_module.specs.Writing.{encoded, Fits}
use Rattle.wk_module.proofs.CodesApart.{HasLists, read_lists, with_codes, read_without_code}
use Rattle.wk_strip.specs.Apart.{IsReadWith}
use Rattle.wk_strip.specs.Written.{sections_from, code_front, IsTooLong}
use Rattle.wk_strip.proofs.Assembled.{bare, codes_bytes, front_short, behind_short, codes_short, whole_is, all_is, all_short}

-- with a code section, by the lists that are lent
module _ (profile : Profile) (b : List ℕ) (bodies : List BodyOf) (l w : SectionLists) (lent : w ≡ bare l) (is : IsReadWith profile b bodies l)
    (cs : List Custom)
    (fits : (m : Parts) → module_at profile b ≡ Ok m → Fits (record m { customs = cs })) where
  fitting : Fits (record is.whole { customs = cs })
  fitting = fits is.whole is.read

  pub front_fits : IsTooLong w 0 10 → ⊥
  front_fits = subst (λ (q : SectionLists). IsTooLong q 0 10 → ⊥) (sym lent) (front_short l cs bodies l.datas is.whole is.lists fitting)

  pub behind_fits : IsTooLong w 10 12 → ⊥
  behind_fits = subst (λ (q : SectionLists). IsTooLong q 10 12 → ⊥) (sym lent) (behind_short l cs bodies l.datas is.whole is.lists fitting)

  many : length bodies ≡ length w.funcs
  many = is.many ∙ ap (λ (q : SectionLists). length q.funcs) (sym lent)

  pub codes_fit : length (short (length w.funcs)) + length (codes_bytes bodies) ≤ limit
  codes_fit = subst (λ (n : ℕ). length (short n) + length (codes_bytes bodies) ≤ limit) many (codes_short l cs bodies l.datas is.whole is.lists fitting)

  -- the pieces are the written form
  pub assembled : (codes : List ℕ) (size : ℕ) (made : List ℕ) → codes ≡ codes_bytes bodies → size ≡ length (codes_bytes bodies)
      → made ≡ (((magic ++ version) ++ sections_from w cs 0 10) ++ code_front (length w.funcs) size) ++ (codes ++ sections_from w cs 10 2)
      → (n : Parts) × (module_at profile b ≡ Ok n) × (made ≡ encoded (record n { customs = cs }))
  assembled codes size made codes_is size_is made_is =
      let count : code_front (length w.funcs) size ≡ code_front (length bodies) size = ap (λ (n : ℕ). code_front n size) (sym many) in
      let whole = whole_is l cs bodies l.datas is.whole is.lists in (
        is.whole,
        is.read,
        made_is ∙ ap (λ (c : List ℕ). (((magic ++ version) ++ sections_from w cs 0 10) ++ c) ++ (codes ++ sections_from w cs 10 2))
            count ∙ rw (codes_is, size_is, lent) (sym whole),
      )

-- the same without a code section, by the lists that are lent
module _ (profile : Profile) (b : List ℕ) (lists : AreListsOfModule profile b) (l w : SectionLists) (none : l.codes ≡ []) (lent : w ≡ bare l)
    (no_funcs : w.funcs ≡ []) (read : read_lists profile b ≡ Ok l)
    (cs : List Custom) (fits : (m : Parts) → module_at profile b ≡ Ok m → Fits (record m { customs = cs })) where
  alone : HasLists (module_at profile b) l
  alone = read_without_code profile b lists l none (ap (λ (p : SectionLists). p.funcs) (sym lent) ∙ no_funcs) read

  lent_are : lists_of alone.module_is ≡ w
  lent_are = alone.lists_are ∙ ap (λ (codes : List BodyOf). with_codes codes l) none ∙ sym lent

  pub all_fit : IsTooLong w 0 12 → ⊥
  all_fit = all_short alone.module_is cs w lent_are (fits alone.module_is alone.read)

  pub written_alone : (made : List ℕ) → made ≡ (magic ++ version) ++ sections_from w cs 0 12
      → (n : Parts) × (module_at profile b ≡ Ok n) × (made ≡ encoded (record n { customs = cs }))
  written_alone made is = (alone.module_is, alone.read, is ∙ sym (all_is alone.module_is cs w lent_are))
