-- What holds of each module that an edit may make of one holds of the module that it makes, whatever it may be refused for.
use Rattle.std.proofs.Common.{◌≡◌, ℕ, nat_le, Bool, true, false, cond, Option, Some, None, List, length, Result, Ok, Err, refl}
use Rattle.wk_bytes.specs.declared.fault.ReadFault.{ReadFault}
use Rattle.wk_bytes.specs.Frames.{limit}
use Rattle.wk_bytes.specs.Leb.{◌>>=◌}
use Rattle.wk_body.specs.Bodies.{BodyOf}
use Rattle.wk_body.specs.Reading.{all_body_at, whole_at}
use Rattle.wk_module.specs.declared.types.Export.{Export}
use Rattle.wk_module.specs.declared.types.Parts.{Parts}
use Rattle.wk_module.specs.Changes.{with_body}
use Rattle.wk_module.specs.Shape.{settle}
use Rattle.wk_module.specs.Writing.{encoded}
use Rattle.wk_typing.specs.declared.fault.Verdict.{Verdict}
use Rattle.wk_typing.specs.declared.fault.Verdict.TheVariants.{Valid, Invalid}
use Rattle.wk_check.specs.Verdict.{module_verdict}
use Rattle.wk_session.specs.declared.edit.EditFault.{EditFault}
use Rattle.wk_session.specs.declared.edit.EditFault.TheVariants.{NoSuchCustom, IndexOverflow, TooLarge}
use Rattle.wk_session.specs.Edits.{fitting, from_bytes, body_put, with_exports, unbroken, lasting}

-- of the module that is made, if one is
unfoldable pub Gives : (Parts → Type 0) → Result Parts EditFault → Type 0
Gives P (Ok n) = P n
Gives P (Err f) = Unit {0}

module _ (P : Parts → Type 0) where
  lasting_gives : (keep : Bool) (n : Parts) → P n → Gives P (lasting keep n)
  unfolding Gives
  lasting_gives false n is = is
  lasting_gives true n is = by (module_verdict n)
    where
      by : (v : Verdict) → Gives P (unbroken n v)
      by Valid = is
      by (Invalid g) = tt

  pub then_lasting : (keep : Bool) (r : Result Parts EditFault) → Gives P r → Gives P (r >>= lasting keep)
  unfolding Gives
  then_lasting keep (Ok n) is = lasting_gives keep n is
  then_lasting keep (Err f) is = tt

  pub fitting_gives : (n : Parts) → P n → Gives P (fitting n)
  unfolding Gives
  fitting_gives n is = by (nat_le (length (encoded n)) limit)
    where
      by : (b : Bool) → Gives P (cond b (Ok n) (Err TooLarge))
      by true = is
      by false = tt

  pub bytes_gives : {V : Type 0} (r : Result V ReadFault) (next : V → Parts) → ((v : V) → P (next v)) → Gives P (from_bytes r >>= λ v. fitting (next v))
  unfolding Gives
  bytes_gives (Ok v) next is = fitting_gives (next v) (is v)
  bytes_gives (Err e) next is = tt

  pub body_gives : (entry : Option ℕ) (code : List ℕ) (m : Parts) → ((i : ℕ) → entry ≡ Some i → (b : BodyOf) → P (settle (with_body i b m)))
      → Gives P (body_put entry code m)
  unfolding Gives
  body_gives None code m is = tt
  body_gives (Some i) code m is = bytes_gives (whole_at (all_body_at m.profile) code) (λ b. settle (with_body i b m)) (is i refl)

  pub import_gives : (b : Bool) (n : Parts) → P n → Gives P (cond b (Err IndexOverflow) (fitting n))
  unfolding Gives
  import_gives true n is = tt
  import_gives false n is = fitting_gives n is

  pub exports_gives : (es : Option (List Export)) (m : Parts) → ((es : List Export) → P (settle (record m { exports = es }))) → Gives P (with_exports es m)
  unfolding Gives
  exports_gives None m is = tt
  exports_gives (Some es) m is = is es

  pub customs_gives : (b : Bool) (n : Parts) → P n → Gives P (cond b (Ok n) (Err NoSuchCustom))
  unfolding Gives
  customs_gives true n is = is
  customs_gives false n is = tt
