-- A module with the codes of another, which differs from it in bodies alone, has the written form of that other.
use Rattle.std.proofs.Common.{◌≡◌, ◌≢◌, Bool, ℕ, if◌then◌else◌, inl, inr, Option, Some, None, List, [], ◌∷◌, ◌++◌, length, map, refl, sym, ap, ◌∙◌}
use Rattle.std.proofs.lemmas.Bool.{cases_eq, eq-eqb, ne_eqb}
use Rattle.std.proofs.lemmas.List.{length-map}
use Rattle.std.specs.List.{flat_map}
use Rattle.wk_bytes.specs.Frames.{magic, version}
use Rattle.wk_bytes.specs.Short.{short}
use Rattle.wk_body.specs.Bodies.{BodyOf}
use Rattle.wk_module.specs.declared.types.Custom.{Custom}
use Rattle.wk_module.specs.declared.types.Func.{Func}
use Rattle.wk_module.specs.declared.types.Parts.{Parts}
use Rattle.wk_module.specs.Formats.{written_bytes}
use Rattle.wk_module.specs.Items.{written_code}
use Rattle.wk_module.specs.Sections.{SectionId}
use Rattle.wk_module.specs.Sections.{CodeSection, SectionLists, of_number}
use Rattle.wk_module.specs.SectionLaws.{number-of_number}
use Rattle.wk_module.specs.Shape.{lists_of}
use Rattle.wk_module.specs.Writing.{customs_at, encoded, framed, ids, section_and_customs, section_by, section_of, written_section}
use Rattle.wk_pieces.specs.Pieces.{code_of, code_section}
use Rattle.wk_pieces.specs.Recoded.{encoded_with, place_with, section_with}

-- ---- the code section by the codes

codes_same : (fs : List Func) → flat_map written_code (map (λ f. f.body) fs) ≡ flat_map written_bytes (map code_of fs)
codes_same [] = refl
codes_same (f ∷ fs) = ap (λ (b : List ℕ). written_code f.body ++ b) (codes_same fs)

codes_framed : (fs : List Func) → written_section CodeSection (map (λ f. f.body) fs) ≡ code_section (map code_of fs)
codes_framed [] = refl
codes_framed (f ∷ fs) =
    let all : List Func = f ∷ fs in
    let bodies = map (λ (g : Func). g.body) all in
    ap (λ (n : ℕ). framed 10 (short n ++ flat_map written_code bodies)) (length-map all (λ (g : Func). g.body) ∙ sym (length-map all code_of))
    ∙ ap (λ (b : List ℕ). framed 10 (short (length (map code_of all)) ++ b)) (codes_same all)

pub section_codes : (m : Parts) → section_of m 10 ≡ code_section (map code_of m.funcs)
section_codes m = codes_framed m.funcs

-- ---- any other section

by_codes : (l : SectionLists) (codes : List BodyOf) (k : Option SectionId) → (k ≡ Some CodeSection → ⊥)
    → section_by (record l { codes = codes }) k ≡ section_by l k
by_codes l codes None other = refl
by_codes l codes (Some CodeSection) other = absurd (other refl)
by_codes l codes (Some k) other = refl

module _ (m n : Parts) (is : n ≡ record m { funcs = n.funcs }) (types : map (λ f. f.ty) n.funcs ≡ map (λ f. f.ty) m.funcs) where
  other_section : (id : ℕ) → id ≢ 10 → section_of n id ≡ section_of m id
  other_section id other =
      let bodies = map (λ (f : Func). f.body) n.funcs in
      ap (λ (p : Parts). section_of p id) is
      ∙ ap (λ (ts : List ℕ). section_by (record (lists_of m) { funcs = ts; codes = bodies }) (of_number id)) types
      ∙ by_codes (lists_of m) bodies (of_number id) (λ same. other (number-of_number id CodeSection same))

  each_section : (id : ℕ) → section_with m (map code_of n.funcs) id ≡ section_of n id
  each_section id =
      let codes = code_section (map code_of n.funcs) in
      elim (cases_eq id 10) [
        | inl same ↦ ap (λ (b : Bool). if b then codes else section_of m id) (eq-eqb id 10 same) ∙ sym (ap (section_of n) same ∙ section_codes n)
        | inr other ↦ ap (λ (b : Bool). if b then codes else section_of m id) (ne_eqb id 10 other) ∙ sym (other_section id other)
      ]

  each_place : (places : List ℕ) → flat_map (place_with m (map code_of n.funcs)) places ≡ flat_map (section_and_customs n) places
  each_place [] = refl
  each_place (id ∷ later) =
      let codes = map code_of n.funcs in
      let customs : m.customs ≡ n.customs = sym (ap (λ (p : Parts). p.customs) is) in
      ap (λ (b : List ℕ). (b ++ customs_at id m.customs) ++ flat_map (place_with m codes) later) (each_section id)
      ∙ ap (λ (cs : List Custom). (section_of n id ++ customs_at id cs) ++ flat_map (place_with m codes) later) customs
      ∙ ap (λ (b : List ℕ). (section_of n id ++ customs_at id n.customs) ++ b) (each_place later)

-- with the codes of another module that has the same but for bodies
pub recoded : (m n : Parts) → n ≡ record m { funcs = n.funcs } → map (λ f. f.ty) n.funcs ≡ map (λ f. f.ty) m.funcs
    → encoded_with m (map code_of n.funcs) ≡ encoded n
unfolding encoded_with encoded
recoded m n is types = ap (λ (b : List ℕ). (magic ++ version) ++ b) (each_place m n is types ids)
