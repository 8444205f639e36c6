-- A list of instructions has a type exactly where each of its two parts has one.
use Rattle.std.specs.Prelude.{ℕ, List, Option}
use Rattle.std.proofs.Common.{refl, sym, subst}
use Rattle.wk_body.specs.declared.types.ValType.{ValType}
use Rattle.wk_body.specs.declared.references.Ref.{Ref}
use Rattle.wk_body.specs.Tree.{Instrs, Finish, One, Block, If, append}
use Rattle.wk_typing.specs.Answers.{Found}
use Rattle.wk_typing.specs.Derives.{Derives}
use Rattle.wk_typing.specs.DerivesLaws.{HaveTypesPartByPart}

module _ (A : Ref → Found) (locals : ℕ → Option ValType) (final : List ValType) (labels : List (List ValType)) where
  joined : (a b : Instrs) (p m q : List ValType) → Derives A locals final labels a p m → Derives A locals final labels b m q
      → Derives A locals final labels (append a b) p q
  joined Finish b p m q d h = subst (λ r. Derives A locals final labels b r q) (sym d) h
  joined (One i rest) b p m q d h = (d.0, d.1, d.2, d.3, d.4, d.5, d.6, joined rest b _ m q d.7 h)
  joined (Block kind bt inside rest) b p m q d h = (d.0, d.1, d.2, d.3, joined rest b _ m q d.4 h)
  joined (If bt first second rest) b p m q d h = (d.0, d.1, d.2, d.3, d.4, joined rest b _ m q d.5 h)

  parted : (a b : Instrs) (p q : List ValType) → Derives A locals final labels (append a b) p q
      → (m : List ValType) × Derives A locals final labels a p m × Derives A locals final labels b m q
  parted Finish b p q d = (p, refl, d)
  parted (One i rest) b p q d =
      let r = parted rest b _ q d.7 in
      (r.0, (d.0, d.1, d.2, d.3, d.4, d.5, d.6, r.1), r.2)
  parted (Block kind bt inside rest) b p q d =
      let r = parted rest b _ q d.4 in
      (r.0, (d.0, d.1, d.2, d.3, r.1), r.2)
  parted (If bt first second rest) b p q d =
      let r = parted rest b _ q d.5 in
      (r.0, (d.0, d.1, d.2, d.3, d.4, r.1), r.2)

pub part_by_part : HaveTypesPartByPart
part_by_part A locals final labels a b p q = (parted A locals final labels a b p q, λ h. joined A locals final labels a b p h.0 q h.1 h.2)
