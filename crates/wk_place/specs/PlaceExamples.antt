-- Some places of a small module, computed, and which tokens are counted.
use Rattle.std.specs.Prelude.{◌≡◌, [], ◌∷◌}
use Rattle.std.proofs.Common.{refl}
use Rattle.wk_body.specs.declared.types.BlockType.TheVariants.{Empty}
use Rattle.wk_body.specs.Instructions.{Nop}
use Rattle.wk_body.specs.Tree.{Simple, OpenIf, Otherwise, Close}
use Rattle.wk_place.specs.Places.{counted}

-- `if`, `nop`, `else`, `end`: the branch of the `else` is empty, so it is not counted
empty_branch : counted (OpenIf Empty 0 ∷ Simple Nop ∷ Otherwise 0 ∷ Close ∷ Close ∷ []) ≡ OpenIf Empty 0 ∷ Simple Nop ∷ Close ∷ Close ∷ []
empty_branch = refl

-- with a `nop` in it, it is
full_branch : counted (OpenIf Empty 0 ∷ Otherwise 0 ∷ Simple Nop ∷ Close ∷ Close ∷ []) ≡ OpenIf Empty 0 ∷ Otherwise 0 ∷ Simple Nop ∷ Close ∷ Close ∷ []
full_branch = refl
