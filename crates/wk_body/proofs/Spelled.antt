-- What the grammar spells: shaped trees of the profile, each in one way.
use Rattle.std.proofs.Common.{◌≡◌, ℕ, List, [], ◌∷◌, ◌++◌, refl, ap, ◌∙◌, inl, inr, append_assoc}
use Rattle.std.specs.Prelude.{◌⊎◌}
use Rattle.wk_bytes.specs.LebLaws.{IsBytes, IsBytes-after, IsBytes-before}
use Rattle.wk_bytes.specs.PieceLaws.{read_prefix_free}
use Rattle.wk_body.specs.declared.types.Profile.{Profile}
use Rattle.wk_body.specs.declared.types.Profile.TheVariants.{Core, Extended}
use Rattle.wk_body.specs.Tree.{Instrs, Finish, One, Block, If}
use Rattle.wk_body.specs.Shape.{IsInRange, IsShaped, IsOf}
use Rattle.wk_body.specs.Spelling.{kind_byte, Spells, SpellsExpr, SpellsBody}
use Rattle.wk_body.specs.Meaning.{SpellOnce, SpellAlike}
use Rattle.wk_body.specs.Reading.{expr_at, body_at}
use Rattle.wk_body.proofs.PieceShape.{plain_in_range, type_in_range, plain_allowed, type_allowed, plain_alike, type_alike}
use Rattle.wk_body.proofs.Grammar.{expr_again, body_again}

-- ---- numbers are in their ranges

-- what stands between other bytes is bytes too
pub IsBytes-between : (front mid later bytes : List ℕ) → bytes ≡ front ++ (mid ++ later) → IsBytes bytes → IsBytes mid
IsBytes-between front mid later bytes e fits = IsBytes-before mid later (mid ++ later) refl (IsBytes-after front (mid ++ later) bytes e fits)

past_end : (a b e : List ℕ) → a ++ (b ++ 0x0B ∷ e) ≡ (a ++ (b ++ 0x0B ∷ [])) ++ e
past_end a b e = simp append_assoc

past_first : (a b c : List ℕ) → a ++ (b ++ c) ≡ (a ++ b) ++ c
past_first a b c = simp append_assoc

tree_in_range : (profile : Profile) (t : Instrs) (bytes : List ℕ) → IsBytes bytes → Spells profile t bytes → IsInRange t
tree_in_range profile Finish bytes fits s = tt
tree_in_range profile (One p rest) bytes fits s = (
  plain_in_range profile p s.0 (IsBytes-before s.0 s.1 bytes s.4 fits) s.2,
  tree_in_range profile rest s.1 (IsBytes-after s.0 s.1 bytes s.4 fits) s.3,
)
tree_in_range profile (Block kind ty inside rest) bytes fits s =
    let k = kind_byte kind in
    let last : bytes ≡ (k ∷ (s.0 ++ (s.1 ++ 0x0B ∷ []))) ++ s.2 = s.6 ∙ ap (λ (b : List ℕ). k ∷ b) (past_end s.0 s.1 s.2) in (
      type_in_range profile ty s.0 s.3,
      tree_in_range profile inside s.1 (IsBytes-between (k ∷ s.0) s.1 (0x0B ∷ s.2) bytes s.6 fits) s.4,
      tree_in_range profile rest s.2 (IsBytes-after (k ∷ (s.0 ++ (s.1 ++ 0x0B ∷ []))) s.2 bytes last fits) s.5,
    )
tree_in_range profile (If ty first second rest) bytes fits s =
    let parted : bytes ≡ (0x04 ∷ (s.0 ++ s.1)) ++ (s.2 ++ 0x0B ∷ s.3) = s.8 ∙ ap (λ (b : List ℕ). 0x04 ∷ b) (past_first s.0 s.1 (s.2 ++ 0x0B ∷ s.3)) in
    let last : bytes ≡ (0x04 ∷ ((s.0 ++ s.1) ++ (s.2 ++ 0x0B ∷ []))) ++ s.3 = parted ∙ ap (λ (b : List ℕ). 0x04 ∷ b) (past_end (s.0 ++ s.1) s.2 s.3) in
    let other : IsBytes s.2 = IsBytes-between (0x04 ∷ (s.0 ++ s.1)) s.2 (0x0B ∷ s.3) bytes parted fits in (
      type_in_range profile ty s.0 s.4,
      tree_in_range profile first s.1 (IsBytes-between (0x04 ∷ s.0) s.1 (s.2 ++ 0x0B ∷ s.3) bytes s.8 fits) s.5,
      elim s.6 as (λ _. IsInRange second) [
        | inl none ↦ rw none.0 tt
        | inr some ↦ tree_in_range profile second some.0 (IsBytes-after (0x05 ∷ []) some.0 s.2 some.2 other) some.1
      ],
      tree_in_range profile rest s.3 (IsBytes-after (0x04 ∷ ((s.0 ++ s.1) ++ (s.2 ++ 0x0B ∷ []))) s.3 bytes last fits) s.7,
    )

-- what bytes spell is shaped
pub expr_shaped : (profile : Profile) (t : Instrs) (bytes : List ℕ) → IsBytes bytes → SpellsExpr profile t bytes → IsShaped t
expr_shaped profile t bytes fits s = record {
  in_range = tree_in_range profile t s.front (IsBytes-before s.front (0x0B ∷ []) bytes s.whole fits) s.spelled;
  shallow = s.shallow;
}

-- ---- the tree is of the profile

tree_allowed : (profile : Profile) (t : Instrs) (bytes : List ℕ) → Spells profile t bytes → IsOf profile t
tree_allowed profile Finish bytes s = tt
tree_allowed profile (One p rest) bytes s = (plain_allowed profile p s.0 s.2, tree_allowed profile rest s.1 s.3)
tree_allowed profile (Block kind ty inside rest) bytes s =
    (type_allowed profile ty s.0 s.3, tree_allowed profile inside s.1 s.4, tree_allowed profile rest s.2 s.5)
tree_allowed profile (If ty first second rest) bytes s = (
  type_allowed profile ty s.0 s.4,
  tree_allowed profile first s.1 s.5,
  elim s.6 as (λ _. IsOf profile second) [
    | inl none ↦ rw none.0 tt
    | inr some ↦ tree_allowed profile second some.0 some.1
  ],
  tree_allowed profile rest s.3 s.7,
)

pub expr_allowed : (profile : Profile) (t : Instrs) (bytes : List ℕ) → SpellsExpr profile t bytes → IsOf profile t
expr_allowed profile t bytes s = tree_allowed profile t s.front s.spelled

-- ---- what 1.0 spells, the other profile spells so

-- an else branch, or none
abbrev Second : Profile → Instrs → List ℕ → Type 0
Second profile second d = ((second ≡ Finish) × (d ≡ [])) ⊎ ((f : List ℕ) × Spells profile second f × (d ≡ 0x05 ∷ f))

tree_alike : (t : Instrs) (bytes : List ℕ) → Spells Core t bytes → Spells Extended t bytes
tree_alike Finish bytes s = s
tree_alike (One p rest) bytes s = (s.0, s.1, plain_alike p s.0 s.2, tree_alike rest s.1 s.3, s.4)
tree_alike (Block kind ty inside rest) bytes s = (s.0, s.1, s.2, type_alike ty s.0 s.3, tree_alike inside s.1 s.4, tree_alike rest s.2 s.5, s.6)
tree_alike (If ty first second rest) bytes s =
    let other : Second Extended second s.2 = elim s.6 as (λ _. Second Extended second s.2) [
      | inl none ↦ inl none
      | inr some ↦ inr (some.0, tree_alike second some.0 some.1, some.2)
    ] in
    (s.0, s.1, s.2, s.3, type_alike ty s.0 s.4, tree_alike first s.1 s.5, other, tree_alike rest s.3 s.7, s.8)

pub expr_alike : SpellAlike SpellsExpr
expr_alike t bytes s = record { front = s.front; spelled = tree_alike t s.front s.spelled; whole = s.whole; shallow = s.shallow }

pub body_alike : SpellAlike SpellsBody
body_alike b bytes s = record {
  locals = s.locals;
  code = s.code;
  parts = s.parts;
  grouped = s.grouped;
  spelled =
      expr_alike b.instrs s.code s.spelled;
  groups = s.groups;
}

-- ---- each in one way

pub expr_once : (profile : Profile) → SpellOnce (SpellsExpr profile)
expr_once profile v w a b x y s t e =
    let one = read_prefix_free (λ c u. SpellsExpr profile u c) (expr_at profile) (λ end c u rest p. expr_again profile end u c rest p) a b x y v w s t e in
    (one.1, one.0)

pub body_once : (profile : Profile) → SpellOnce (SpellsBody profile)
body_once profile v w a b x y s t e =
    let one = read_prefix_free (λ c u. SpellsBody profile u c) (body_at profile) (λ end c u rest p. body_again profile end u c rest p) a b x y v w s t e in
    (one.1, one.0)
