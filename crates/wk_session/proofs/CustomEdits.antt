-- Custom sections changed, and what is kept then.
use Rattle.std.proofs.Common.{◌≡◌, ◌≢◌, ◌+◌, ◌-◌, ◌≤◌, ℕ, Bool, true, false, if◌then◌else◌, List, [], ◌∷◌, filter, length, Some, Result, Ok, Err}
use Rattle.std.proofs.Common.{refl, sym, ap, subst, ◌∙◌, arith}
use Rattle.std.specs.List.{list_any}
use Rattle.wk_bytes.specs.Frames.{limit}
use Rattle.wk_bytes.specs.Leb.{◌>>=◌}
use Rattle.wk_body.specs.Lengths.{limited}
use Rattle.wk_body.specs.LengthsLaws.{limited_some}
use Rattle.wk_module.specs.declared.types.Custom.{Custom}
use Rattle.wk_module.specs.declared.types.Parts.{Parts}
use Rattle.wk_module.specs.Shape.{IsFormed, IsInOrderFrom, settle}
use Rattle.wk_module.specs.Writing.{encoded, Fits}
use Rattle.wk_module.specs.WritingLaws.{length-encoded_filter}
use Rattle.wk_pieces.specs.Pieces.{customs_size}
use Rattle.wk_pieces.proofs.Piecing.{customs_within, limited_within}
use Rattle.wk_session.specs.declared.edit.Edit.{Edit}
use Rattle.wk_session.specs.declared.edit.Edit.TheVariants as edits
use Rattle.wk_session.specs.declared.edit.EditFault.{EditFault}
use Rattle.wk_session.specs.declared.edit.EditFault.TheVariants.{NoSuchCustom, Memory}
use Rattle.wk_session.specs.declared.edit.Work.{Work}
use Rattle.wk_session.specs.declared.cache.Cache.{Cache}
use Rattle.wk_session.specs.Customs.{IsPut, with_customs_len}
use Rattle.wk_session.specs.Dependents.{work_of}
use Rattle.wk_session.specs.Edits.{fitting, is_named, without_customs, lasting, made}
use Rattle.wk_session.specs.Kept.{IsAppraised, IsKept, Leads, standing}
use Rattle.wk_session.proofs.CustomPuts.{length_customs}
use Rattle.wk_session.proofs.Keeping.{kept_with_customs}
use Rattle.wk_session.proofs.Leading.{Returns, returned}

pub filtered_fits : (keep : Custom → Bool) (m n : Parts) → n ≡ record m { customs = filter keep m.customs } → Fits m → Fits n
filtered_fits keep m n is fits = omega (arith, fits, length-encoded_filter keep m, ap (λ (p : Parts). length (encoded p)) is)

none_kept : (cs : List Custom) → filter (λ c. false) cs ≡ []
none_kept [] = refl
none_kept (c ∷ cs) = none_kept cs

pub bare_fits : (m : Parts) → Fits m → Fits (record m { customs = [] })
bare_fits m fits = filtered_fits (λ c. false) m (record m { customs = [] })
    (ap (λ (cs : List Custom). let p : Parts = record m { customs = cs } in p) (sym (none_kept m.customs))) fits

-- ---- what is kept, with other customs

module _ (m : Parts) (cs : List Custom) (k : Cache) (order : IsInOrderFrom 0 m.customs) (kept : IsKept m k) where
  pub customs_before : k.pieces.customs_len ≤ k.len
  customs_before = omega (arith, customs_within m order, kept.pieces.customs_len, limited_some k.len (length (encoded m)) (sym kept.len))

  pub customs_length : IsInOrderFrom 0 cs → k.len - k.pieces.customs_len + customs_size cs ≡ length (encoded (record m { customs = cs }))
  customs_length new =
      omega (arith, customs_within m order, kept.pieces.customs_len, limited_some k.len (length (encoded m)) (sym kept.len), length_customs m cs order new)

  pub customs_after : IsInOrderFrom 0 cs → (len : ℕ) → limited (length (encoded (record m { customs = cs }))) ≡ Some len → k.len - k.pieces.customs_len ≤ len
  customs_after new len is = omega (arith, customs_length new, limited_some len (length (encoded (record m { customs = cs }))) (sym is))

  -- all stays but for the length, and how much of it the customs are
  pub customs_kept : IsInOrderFrom 0 cs → (len : ℕ) → limited (length (encoded (record m { customs = cs }))) ≡ Some len
      → IsKept (record m { customs = cs }) (with_customs_len len k)
  customs_kept new len is =
      let all = limited_some len (length (encoded (record m { customs = cs }))) (sym is) in
      kept_with_customs m cs k len (len - (k.len - k.pieces.customs_len)) kept is (omega (arith, customs_length new, all, customs_before))

  -- by a module that is the one with them, which is not too large
  module _ (p : Parts) (same : p ≡ record m { customs = cs }) (formed : IsFormed (record m { customs = cs })) (fits : Fits (record m { customs = cs })) where
    size_is : k.len - k.pieces.customs_len + customs_size p.customs ≡ length (encoded (record m { customs = cs }))
    size_is = ap (λ (q : Parts). k.len - k.pieces.customs_len + customs_size q.customs) same ∙ customs_length formed.order

    pub size_fits : k.len - k.pieces.customs_len + customs_size p.customs ≤ limit
    size_fits = omega (arith, fits, size_is)

    -- an edit leads to it
    pub customs_lead : (keep : Bool) (e : Edit) (new : Cache) (w : Work) → let n : Parts = record m { customs = cs } in made keep e m ≡ Ok (settle n)
        → w ≡ work_of e m (settle n) → new ≡ with_customs_len (k.len - k.pieces.customs_len + customs_size p.customs) k → Leads keep e m (Ok w) p new
    customs_lead keep e new w makes works is =
        let n : Parts = record m { customs = cs } in
        let long = sym (limited_within (length (encoded n)) fits) ∙ ap Some (sym size_is) in
        let kept_new = subst (IsKept n) (sym is) (customs_kept formed.order _ long) in
        let leads : Leads keep e m (Ok w) n new = (makes, works, formed, kept_new) in
        subst (λ (q : Parts). Leads keep e m (Ok w) q new) (sym same) leads

module _ {A : Type 0} (keep : Bool) (m n p : Parts) (k : Cache) (same : p ≡ m) where
  put_refused : (r : Result A EditFault) (f : EditFault) → Returns r f → (f ≢ Memory → standing keep n ≡ Err f)
      → (f ≡ Memory → fitting (settle n) ≡ Ok (settle n)) → IsPut keep m n k r p k
  put_refused r f returns due fits =
      let refused : Result A EditFault = Err f in
      let at : IsPut keep m n k refused p k = (due, fits, same, refl) in
      subst (λ (q : Result A EditFault). IsPut keep m n k q p k) (sym (returned r f returns)) at

  pub put_unfit : (r : Result A EditFault) (f : EditFault) → Returns r f → f ≢ Memory → IsAppraised keep n (Err f) → IsPut keep m n k r p k
  put_unfit r f returns other due = put_refused r f returns due (λ wanted. absurd (other wanted))

  pub put_wanting : (r : Result A EditFault) → Returns r Memory → fitting (settle n) ≡ Ok (settle n) → IsPut keep m n k r p k
  put_wanting r returns fits = put_refused r Memory returns (λ other. absurd (other refl)) (λ wanted. fits)

-- ---- what an edit of customs makes

-- customs of a name that are there are stripped
pub stripped_made : (keep : Bool) (name : List ℕ) (m : Parts) → list_any (is_named name) m.customs ≡ true
    → made keep (edits.StripCustom name) m ≡ lasting keep (settle (without_customs name m))
stripped_made keep name m is = ap (λ (b : Bool). (if b then Ok (settle (without_customs name m)) else Err NoSuchCustom) >>= lasting keep) is
