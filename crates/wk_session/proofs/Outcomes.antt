-- What the outcome of an edit makes of its reply and of the module.
use Rattle.std.proofs.Common.{◌≡◌, ◌≢◌, ℕ, Bool, true, false, cond, leb, length, Some, None, Result, Ok, Err, refl, sym, ap}
use Rattle.wk_bytes.specs.Frames.{limit}
use Rattle.wk_module.specs.declared.types.Parts.{Parts}
use Rattle.wk_body.specs.Lengths.{limited}
use Rattle.wk_body.specs.LengthsLaws.{limited_some}
use Rattle.wk_module.specs.Writing.{encoded, Fits}
use Rattle.wk_session.specs.declared.edit.Edit.{Edit}
use Rattle.wk_session.specs.declared.edit.Work.{Work}
use Rattle.wk_session.specs.declared.edit.EditFault.{EditFault}
use Rattle.wk_session.specs.declared.edit.EditFault.TheVariants.{TooLarge}
use Rattle.wk_session.specs.declared.edit.EditFault.TheVariants.{Memory}
use Rattle.wk_session.specs.Dependents.{work_of}
use Rattle.wk_session.specs.Edits.{fitting, made}
use Rattle.wk_session.specs.Runs.{is_memory, reply_to, reply_of}

-- ---- refusals

abbrev pub refusal : EditFault → Result Work EditFault
refusal f = Err f

-- the fault of an edit, unless it is want of memory
abbrev pub Refuses : Bool → Edit → Parts → EditFault → Type 0
Refuses keep e m f = f ≢ Memory → made keep e m ≡ Err f

pub reply_refused : (keep : Bool) (e : Edit) (m : Parts) (f : EditFault) → Refuses keep e m f → refusal f ≡ reply_of keep e (is_memory (refusal f)) m
reply_refused keep e m Memory h = refl
reply_refused keep e m _ h = sym (ap (reply_to e m) (h (λ q. absurd cc)))

-- ---- acceptances

abbrev pub acceptance : Work → Result Work EditFault
acceptance w = Ok w

pub reply_accepted : (keep : Bool) (e : Edit) (m n : Parts) → made keep e m ≡ Ok n → acceptance (work_of e m n) ≡ reply_to e m (made keep e m)
reply_accepted keep e m n h = sym (ap (reply_to e m) h)

-- ---- lengths

-- a module whose length is told is not too large
pub told_fits : (m : Parts) (len : ℕ) → limited (length (encoded m)) ≡ Some len → Fits m
told_fits m len h = (limited_some len (length (encoded m)) (sym h)).1

pub fitting-kept : (m : Parts) (len : ℕ) → limited (length (encoded m)) ≡ Some len → fitting m ≡ Ok m
fitting-kept m len h = fits (leb (length (encoded m)) limit) h
  where
    fits : (b : Bool) → cond b (Some (length (encoded m))) None ≡ Some len → cond b (Ok m) (Err TooLarge) ≡ Ok m
    fits true h = refl
    fits false h = absurd cc

-- one that has no length up to the limit is
pub fitting-none : (m : Parts) → limited (length (encoded m)) ≡ None → fitting m ≡ Err TooLarge
fitting-none m h = large (leb (length (encoded m)) limit) h
  where
    large : (b : Bool) → cond b (Some (length (encoded m))) None ≡ None → cond b (Ok m) (Err TooLarge) ≡ Err TooLarge
    large true h = absurd cc
    large false h = refl
