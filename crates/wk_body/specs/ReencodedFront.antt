-- An expression of which a front is read and written again, token by token.
use Rattle.std.specs.Prelude.{◌≡◌, ℕ, suc, ◌<◌, List, [], ◌++◌, length, Bool, Ok}
use Rattle.wk_bytes.specs.Span.{Span}
use Rattle.wk_body.specs.declared.types.Profile.{Profile}
use Rattle.wk_body.specs.Reading.{With, parts_at}
use Rattle.wk_body.specs.ToWrite.{to_write}

-- Of what stands at the cursor `from`, all in front of the cursor `at` is read, these blocks are open there, and this is written: with
-- what is to be written behind, it is the written form.
pub record IsReencoded (profile : Profile) (from : Span) (ks : List Bool) (at : Span) (written : List ℕ) : Type 0 where
  pub same_end : at.end ≡ from.end
  pub steps : ℕ
  pub enough : length at.rest < steps
  pub gives : (x : With) → parts_at profile steps ks from.end at.rest ≡ Ok x
      → (y : With) × (parts_at profile (suc (length from.rest)) [] from.end from.rest ≡ Ok y)
      × (y.1 ≡ x.1) × (to_write [] y.0 ≡ written ++ to_write ks x.0)
