-- What is read of code is written in no more bytes.
use Rattle.std.proofs.Common.{◌≡◌, ℕ, ◌≤◌, nat_le, List, length, Result, Ok, Err, inl, inr, sym, ◌∙◌}
use Rattle.std.proofs.lemmas.Bool.{cases_Bool, cond-true, cond-false}
use Rattle.wk_bytes.specs.declared.fault.ReadFault.{ReadFault}
use Rattle.wk_bytes.specs.Fault.{long_input}
use Rattle.wk_bytes.specs.LebLaws.{IsBytes}
use Rattle.wk_body.specs.declared.types.Profile.{Profile}
use Rattle.wk_body.specs.Bodies.{BodyOf}
use Rattle.wk_body.specs.Meaning.{IsAllReadAs}
use Rattle.wk_body.specs.Reading.{all_body_at, all_expr_at, whole_at}
use Rattle.wk_body.specs.Spelling.{SpellsBody, SpellsExpr}
use Rattle.wk_body.specs.Tree.{Instrs}
use Rattle.wk_body.specs.Written.{written_body, written_expr}

-- What two calls of `wk_body` say: `body` and `expr` are the clauses `body` and `all_expr` of `reading_of_code`, and the other two have
-- their names in `written_form_of_code`.
pub record CodeIsLeast : Type 0 where
  pub body : (profile : Profile) → IsAllReadAs (SpellsBody profile) (all_body_at profile)
  pub expr : (profile : Profile) → IsAllReadAs (SpellsExpr profile) (all_expr_at profile)
  pub least_body : (profile : Profile) (b : BodyOf) (bytes : List ℕ) → SpellsBody profile b bytes → length (written_body b) ≤ length bytes
  pub least_expr : (profile : Profile) (t : Instrs) (bytes : List ℕ) → SpellsExpr profile t bytes → length (written_expr t) ≤ length bytes

-- what a whole input gives is read of all its bytes
whole_read : {V : Type 0} (read : ℕ → List ℕ → Result V ReadFault) (bytes : List ℕ) (v : V) → whole_at read bytes ≡ Ok v → read (length bytes) bytes ≡ Ok v
unfolding whole_at
whole_read read bytes v is =
    let fits = nat_le (length bytes) 2147483647 in
    elim (cases_Bool fits) [
      | inl t ↦ sym (cond-true fits (read (length bytes) bytes) (Err long_input) t) ∙ is
      | inr f ↦ absurd (let no : Err long_input ≡ Ok v = sym (cond-false fits (read (length bytes) bytes) (Err long_input) f) ∙ is in cc)
    ]

module _ (laws : CodeIsLeast) (profile : Profile) (code : List ℕ) (bytes : IsBytes code) where
  pub written_within : (b : BodyOf) → whole_at (all_body_at profile) code ≡ Ok b → length (written_body b) ≤ length code
  written_within b is =
      laws.least_body profile b code ((laws.body profile).takes (length code) code b bytes (whole_read (all_body_at profile) code b is))

  pub written_expr_within : (t : Instrs) → whole_at (all_expr_at profile) code ≡ Ok t → length (written_expr t) ≤ length code
  written_expr_within t is =
      laws.least_expr profile t code ((laws.expr profile).takes (length code) code t bytes (whole_read (all_expr_at profile) code t is))
