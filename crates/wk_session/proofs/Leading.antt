-- What an edit leaves, by how judging the module that it makes was answered.
use Rattle.std.proofs.Common.{◌≡◌, ◌≢◌, ℕ, Bool, true, false, Option, Some, None, Result, Ok, Err, length, map, refl, sym, ap, subst, ◌∙◌}
use Rattle.std.specs.Option.{is_some}
use Rattle.wk_bytes.specs.Leb.{◌>>=◌}
use Rattle.wk_body.specs.Lengths.{limited}
use Rattle.wk_module.specs.declared.types.Parts.{Parts}
use Rattle.wk_module.specs.Shape.{settle, IsFormed, IsInOrderFrom}
use Rattle.wk_module.specs.Writing.{encoded}
use Rattle.wk_module.specs.WritingLaws.{length-encoded_settle}
use Rattle.wk_session.specs.declared.edit.Edit.{Edit}
use Rattle.wk_session.specs.declared.edit.EditFault.{EditFault}
use Rattle.wk_session.specs.declared.edit.EditFault.TheVariants.{TooLarge, Memory}
use Rattle.wk_session.specs.declared.edit.Work.{Work}
use Rattle.wk_session.specs.declared.cache.Cache.{Cache}
use Rattle.wk_session.specs.Dependents.{work_of}
use Rattle.wk_session.specs.Edits.{fitting, lasting, made, is_decided}
use Rattle.wk_session.specs.Judged.{IsUnchanged}
use Rattle.wk_session.specs.Kept.{IsKept, IsAppraised, Leads, standing}
use Rattle.wk_session.proofs.Outcomes.{fitting-kept, fitting-none}

-- ---- a refusal that an edit passes on

-- the fault that the exit of a `?` returns
abbrev pub Returns : {A : Type 0} → Result A EditFault → EditFault → Type 0
Returns r f = (y : EditFault) × (r ≡ Err y) × (y ≡ f)

pub returned : {A : Type 0} (r : Result A EditFault) (f : EditFault) → Returns r f → r ≡ Err f
returned {A = A} r f p = p.1 ∙ ap (λ (y : EditFault). let r : Result A EditFault = Err y in r) p.2

module _ (keep : Bool) (e : Edit) (m : Parts) (k : Cache) (kept : IsKept m k) where
  pub wants_memory : (r : Result Work EditFault) → Returns r Memory → is_decided e m ≡ false → Leads keep e m r m k
  wants_memory r p decided =
      let at : Leads keep e m (Err Memory) m k = ((λ other. absurd (other refl)), (λ same. decided), refl, kept) in
      subst (λ (q : Result Work EditFault). Leads keep e m q m k) (sym (returned r Memory p)) at

  pub refused_for : (p : Parts) (f : EditFault) (r : Result Work EditFault) → Returns r f → (f ≢ Memory → made keep e m ≡ Err f)
      → (f ≡ Memory → is_decided e m ≡ false) → p ≡ m → Leads keep e m r p k
  refused_for p f r returns due decided same =
      let at : Leads keep e m (Err f) p k = (due, decided, same, kept) in
      subst (λ (q : Result Work EditFault). Leads keep e m q p k) (sym (returned r f returns)) at

  -- where the edit makes n, if that may stay
  pub refused : (n p : Parts) (f : EditFault) (r : Result Work EditFault) → Returns r f → made keep e m ≡ standing keep n → IsAppraised keep n (Err f)
      → (f ≡ Memory → is_decided e m ≡ false) → p ≡ m → Leads keep e m r p k
  refused n p f r returns makes judged decided same =
      refused_for p f r returns (λ other. makes ∙ judged other) decided same

-- ---- a module that gets too large, or does not

pub too_large : (keep : Bool) (n : Parts) → IsInOrderFrom 0 n.customs → None ≡ limited (length (encoded n)) → standing keep n ≡ Err TooLarge
too_large keep n order none =
    ap (λ (r : Result Parts EditFault). r >>= lasting keep) (fitting-none (settle n) (ap limited (length-encoded_settle n order) ∙ sym none))

pub fits_settled : (n : Parts) (len : ℕ) → IsInOrderFrom 0 n.customs → limited (length (encoded n)) ≡ Some len → fitting (settle n) ≡ Ok (settle n)
fits_settled n len order is = fitting-kept (settle n) len (ap limited (length-encoded_settle n order) ∙ is)

pub not_large : (n : Parts) (o : Option ℕ) → IsInOrderFrom 0 n.customs → o ≡ limited (length (encoded n)) → is_some o ≡ true
    → fitting (settle n) ≡ Ok (settle n)
not_large n None order is some = absurd cc
not_large n (Some len) order is some = fits_settled n len order (sym is)

pub is_none_at : (o : Option ℕ) → is_some o ≡ false → o ≡ None
is_none_at None h = refl
is_none_at (Some len) h = absurd cc

-- ---- what is kept of the same module

pub kept_again : (m : Parts) (k new : Cache) → IsUnchanged k new → IsKept m k → IsKept m new
kept_again m k new same kept = record {
  verdict = ap (λ (x : Cache). x.verdict) same.others ∙ kept.verdict;
  len = kept.len ∙ ap (λ (x : Cache). Some x.len) (sym same.others);
  types = ap (λ (x : Cache). x.types.items) same.others ∙ kept.types;
  verdicts = ap (λ (x : Cache). x.verdicts.items) same.others ∙ kept.verdicts;
  refs = ap (λ (x : Cache). map (λ s. s.keys) x.refs.items) same.others ∙ kept.refs;
  pieces = record {
    sections = same.sections ∙ kept.pieces.sections;
    codes = ap (λ (x : Cache). x.pieces.codes.items) same.others ∙ kept.pieces.codes;
    codes_len = ap (λ (x : Cache). x.pieces.codes_len) same.others ∙ kept.pieces.codes_len;
    customs_len = ap (λ (x : Cache). x.pieces.customs_len) same.others ∙ kept.pieces.customs_len;
  };
}

-- ---- an acceptance

pub accepted : (keep : Bool) (e : Edit) (m n p : Parts) (k new : Cache) (w : Work) → p ≡ n → made keep e m ≡ standing keep n
    → standing keep n ≡ Ok (settle n) → w ≡ work_of e m (settle n) → IsFormed n → IsKept n new → Leads keep e m (Ok w) p new
accepted keep e m n p k new w same makes stands works formed kept =
    let at : Leads keep e m (Ok w) n new = (makes ∙ stands, works, formed, kept) in
    subst (λ (q : Parts). Leads keep e m (Ok w) q new) (sym same) at
