use Rattle.std.proofs.Common.{inl, inr}
use Rattle.wk_body.proofs.references.add_named.Goals as goal

pub returns-in-GlobalGet : goal.returns-in-GlobalGet
returns-in-GlobalGet c = elim c.in-GlobalGet.is [ inl e ↦ rw e c.add-in-GlobalGet.ensures | inr e ↦ rw e c.add-in-GlobalGet.ensures ]

pub returns-in-Block : goal.returns-in-Block
returns-in-Block c = elim c.in-Block.is [
  | inl e ↦ rw e.1 c.add_type.ensures
  | inr rest ↦ elim rest [ inl e ↦ rw e.1 c.add_type.ensures | inr e ↦ rw e.1 c.add_type.ensures ]
]
