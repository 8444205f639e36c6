-- What an edit leads to, told of the module with its customs settled.
use Rattle.std.proofs.Common.{◌≡◌, Bool, false, Result, Ok, Err, refl, sym, ap, subst, ◌∙◌}
use Rattle.std.specs.Prelude.{IfErr, OnErr}
use Rattle.wk_module.specs.declared.types.Parts.{Parts}
use Rattle.wk_module.specs.Shape.{IsShaped, settle}
use Rattle.wk_session.specs.declared.edit.Edit.{Edit}
use Rattle.wk_session.specs.declared.edit.Edit.TheVariants as edits
use Rattle.wk_session.specs.declared.edit.EditFault.{EditFault}
use Rattle.wk_session.specs.declared.edit.EditFault.TheVariants.{Memory}
use Rattle.wk_session.specs.declared.edit.Work.{Work}
use Rattle.wk_session.specs.declared.cache.Cache.{Cache}
use Rattle.wk_session.specs.Edits.{is_decided}
use Rattle.wk_session.specs.Kept.{IsKept, Leads}
use Rattle.wk_session.specs.MadeLaws.{Gives}
use Rattle.wk_session.specs.Making.{Makes, IsMade, HasBytes}
use Rattle.wk_session.specs.MakingLaws.{made_makes}
use Rattle.wk_session.specs.Runs.{is_memory, reply_of}
use Rattle.wk_session.specs.ToldLaws.{ReadsCode}
use Rattle.wk_session.proofs.Keeping.{kept_settled}
use Rattle.wk_session.proofs.Outcomes.{reply_refused, reply_accepted}

module _ (keep : Bool) (e : Edit) (m n : Parts) (k : Cache) where
  pub kept_after : (r : Result Work EditFault) → IsShaped m → Leads keep e m r n k → IsKept (settle n) k
  kept_after (Ok w) shaped leads = kept_settled n k leads.2 leads.3
  kept_after (Err f) shaped leads = subst (λ (p : Parts). IsKept (settle p) k) (sym leads.2) (subst (λ (p : Parts). IsKept p k) (sym shaped.settled) leads.3)

  pub reply_after : (r : Result Work EditFault) → Leads keep e m r n k → r ≡ reply_of keep e (is_memory r) m
  reply_after (Ok w) leads = ap (λ (v : Work). Ok v) leads.1 ∙ reply_accepted keep e m (settle n) leads.0
  reply_after (Err f) leads = reply_refused keep e m f leads.0

  pub made_after : ReadsCode → HasBytes e → (r : Result Work EditFault) → IsShaped m → Leads keep e m r n k → IsMade e r m (settle n)
  unfolding Gives
  made_after reads are (Ok w) shaped leads = subst (Gives (Makes e m)) leads.0 (made_makes reads m keep e are)
  made_after reads are (Err f) shaped leads = ap settle leads.2 ∙ shaped.settled

-- stripping all customs of any module is never refused
pub strip_always : (m : Parts) (r : Result Work EditFault) → r ≡ reply_of false edits.StripAll (is_memory r) m
    → IfErr r (λ f. f ≡ Memory → is_decided edits.StripAll m ≡ false) → OnErr r ⊥
strip_always m (Ok w) reply decided = tt
strip_always m (Err Memory) reply decided = let never = decided refl in absurd cc
strip_always m (Err f) reply decided = absurd cc
