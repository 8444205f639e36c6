-- Another body for a function: what references find stays, and so do the verdicts of the others.
use Rattle.std.proofs.Common.{◌≡◌, ◌≢◌, ℕ, zero, suc, ◌+◌, ◌<◌, ◌≤◌, Bool, false, Option, Some, List, [], ◌∷◌, length, map, set, get_or, count_by}
use Rattle.std.proofs.Common.{Result, Ok, Err, refl, sym, ap, ◌∙◌, arith}
use Rattle.std.specs.Prelude.{slice_get, slice_set, option_map}
use Rattle.std.proofs.lemmas.List.{map-set, length-set, get_or-set_same}
use Rattle.std.proofs.lemmas.List.Sums.{get_or-le-sum_by, sum_by-set}
use Rattle.wk_bytes.specs.Leb.{◌>>=◌}
use Rattle.wk_body.specs.declared.fault.EncodeFault.{EncodeFault}
use Rattle.wk_body.specs.Bodies.{BodyOf}
use Rattle.wk_body.specs.Written.{written_body}
use Rattle.wk_body.specs.declared.references.Ref.{Ref}
use Rattle.wk_module.specs.declared.types.Func.{Func}
use Rattle.wk_module.specs.declared.types.Parts.{Parts}
use Rattle.wk_module.specs.Changes.{with_body}
use Rattle.wk_module.specs.ChangeLaws.{funcs_given, types_given}
use Rattle.wk_module.specs.Listed.{listed_with}
use Rattle.wk_module.specs.Sections.{SectionLists}
use Rattle.wk_module.specs.Shape.{IsInOrderFrom, settle}
use Rattle.wk_module.specs.Sizes.{entry_size}
use Rattle.wk_typing.specs.declared.fault.BodyVerdict.{BodyVerdict}
use Rattle.wk_typing.specs.Answers.{Found}
use Rattle.wk_check.specs.Spaces.{answer_in, spaces_of}
use Rattle.wk_check.specs.SpacesLaws.{answers_of}
use Rattle.wk_check.specs.Verdict.{func_verdict}
use Rattle.wk_pieces.specs.Pieces.{IsOverlong, code_of, codes_size, contents_of, entries_size, section_pieces}
use Rattle.wk_pieces.proofs.Piecing.{entries_codes}
use Rattle.wk_session.specs.declared.edit.Edit.TheVariants as edits
use Rattle.wk_session.specs.declared.edit.EditFault.{EditFault}
use Rattle.wk_session.specs.declared.edit.EditFault.TheVariants.{Memory}
use Rattle.wk_session.specs.declared.edit.Work.{Work}
use Rattle.wk_session.specs.declared.edits.code_entry.Entry.{Entry}
use Rattle.wk_session.specs.declared.cache.Cache.{Cache}
use Rattle.wk_session.specs.Dependents.{all_but, is_retyped_in, work_of}
use Rattle.wk_session.specs.Edits.{entry_of, fitting, lasting, made, body_put}
use Rattle.wk_session.specs.Functions.{IsPlanned, body_spelled}
use Rattle.wk_session.specs.Kept.{IsKept, Leads, uses_of, standing}
use Rattle.wk_session.specs.Refusals.{encode_refusal}
use Rattle.wk_session.proofs.EntryEdits.{unencoded}
use Rattle.wk_session.proofs.Lent.{lent, lent_is}
use Rattle.wk_session.proofs.Leading.{accepted}
use Rattle.wk_session.proofs.Works.{count_zero, none_retyped, work_is}

-- ---- one item of a list

-- the type of the function at an index
abbrev pub HasType : List Func → ℕ → ℕ → Type 0
HasType fs i t = Some t ≡ option_map (λ f. f.ty) (slice_get fs i)

-- another body for one function is another function in its place
pub given_set : (entry : ℕ) (b : BodyOf) (fs : List Func) (t : ℕ) → HasType fs entry t
    → funcs_given entry b fs ≡ slice_set fs entry (record { ty = t; body = b })
given_set zero b [] t is = absurd cc
given_set zero b (f ∷ fs) t is =
    let same : f.ty ≡ t = cc in
    ap (λ (x : ℕ). record { ty = x; body = b } ∷ fs) same
given_set (suc entry) b [] t is = absurd cc
given_set (suc entry) b (f ∷ fs) t is = ap (λ (gs : List Func). f ∷ gs) (given_set entry b fs t is)

-- what is told of each function, where it is told of that one anew
pub told_given : {C : Type 0} (g : Func → C) (entry : ℕ) (b : BodyOf) (fs : List Func) (t : ℕ) (old new : List C) (y : C)
    → HasType fs entry t → new ≡ slice_set old entry y → old ≡ map g fs → y ≡ g (record { ty = t; body = b }) → new ≡ map g (funcs_given entry b fs)
told_given {C = C} g entry b fs t old new y has is told same =
    is ∙ (ap (λ (ys : List C). slice_set ys entry y) told
    ∙ (ap (slice_set (map g fs) entry) same ∙ (sym (map-set g fs entry (record { ty = t; body = b })) ∙ ap (map g) (sym (given_set entry b fs t has)))))

pub length-given : (entry : ℕ) (b : BodyOf) (fs : List Func) (t : ℕ) → HasType fs entry t → length (funcs_given entry b fs) ≡ length fs
length-given entry b fs t has = ap length (given_set entry b fs t has) ∙ length-set fs entry (record { ty = t; body = b })

pub at_given : (entry : ℕ) (b : BodyOf) (fs : List Func) (t : ℕ) (d : Func) → HasType fs entry t → entry < length fs
    → record { ty = t; body = b } ≡ get_or (funcs_given entry b fs) entry d
at_given entry b fs t d has within =
    sym (get_or-set_same fs entry (record { ty = t; body = b }) d within) ∙ ap (λ (gs : List Func). get_or gs entry d) (sym (given_set entry b fs t has))

-- ---- what is found and lent stays

pub answers_stay : (entry : ℕ) (b : BodyOf) (m : Parts) → answers_of (with_body entry b m) ≡ answers_of m
answers_stay entry b m = ap (λ (ts : List ℕ). answer_in (spaces_of (listed_with ts m))) (types_given entry b m.funcs)

pub lent_given : (entry : ℕ) (b : BodyOf) (m : Parts) (types : List ℕ) (w : SectionLists) → w ≡ listed_with types m → types ≡ map (λ f. f.ty) m.funcs
    → w ≡ lent (with_body entry b m)
lent_given entry b m types w is told = lent_is (with_body entry b m) types w is (told ∙ sym (types_given entry b m.funcs))

-- what is kept of the verdicts
pub others_stay : (entry : ℕ) (b : BodyOf) (m : Parts) (vs : List BodyVerdict) → vs ≡ map (func_verdict (answers_of m)) m.funcs
    → vs ≡ map (func_verdict (answers_of (with_body entry b m))) m.funcs
others_stay entry b m vs is =
    is ∙ ap (λ (A : Ref → Found). map (func_verdict A) m.funcs) (sym (answers_stay entry b m))

-- ---- sections and codes

-- the sections stay
pub body_sections : (entry : ℕ) (b : BodyOf) (m : Parts) (pieces : List (List ℕ)) → pieces ≡ section_pieces m → pieces ≡ section_pieces (with_body entry b m)
body_sections entry b m pieces is =
    is ∙ ap (λ (ts : List ℕ). contents_of (listed_with ts m)) (sym (types_given entry b m.funcs))

-- how long codes are where one is another
pub entries_set : (codes : List (List ℕ)) (i : ℕ) (old new : List ℕ) → i < length codes → old ≡ get_or codes i old
    → entries_size (set codes i new) + entry_size (length old) ≡ entries_size codes + entry_size (length new)
entries_set codes i old new within is =
    let size : List ℕ → ℕ = λ code. entry_size (length code) in
    ap (λ (code : List ℕ). entries_size (set codes i new) + size code) is ∙ sum_by-set size codes i new old within

pub entry_within : (codes : List (List ℕ)) (i : ℕ) (code : List ℕ) → i < length codes → code ≡ get_or codes i code
    → entry_size (length code) ≤ entries_size codes
entry_within codes i code within is =
    let size : List ℕ → ℕ = λ c. entry_size (length c) in
    omega (arith, get_or-le-sum_by size codes i code within, ap size is)

-- how long those of the module are
pub codes_given : (entry : ℕ) (b : BodyOf) (fs : List Func) (t : ℕ) (codes : List (List ℕ)) → HasType fs entry t → codes ≡ map code_of fs
    → entries_size (set codes entry (written_body b)) ≡ codes_size (funcs_given entry b fs)
codes_given entry b fs t codes has is =
    ap entries_size (told_given code_of entry b fs t codes (set codes entry (written_body b)) (written_body b) has refl is refl)
    ∙ entries_codes (funcs_given entry b fs)

pub body_unencoded : (keep : Bool) (entry : ℕ) (b : BodyOf) (m : Parts) (t : ℕ) (e : EncodeFault) → IsInOrderFrom 0 m.customs → HasType m.funcs entry t
    → entry < length m.funcs → IsOverlong (written_body b) e
    → encode_refusal e ≢ Memory → standing keep (with_body entry b m) ≡ Err (encode_refusal e)
body_unencoded keep entry b m t e order has within over =
    let f : Func = record { ty = t; body = b } in
    unencoded keep (with_body entry b m) entry f e order (omega (arith, within, length-given entry b m.funcs t has))
    (at_given entry b m.funcs t f has within) over

-- ---- what the edit comes to

pub made_body : (keep : Bool) (x : ℕ) (code : List ℕ) (m : Parts) (entry : ℕ) (b : BodyOf) → entry_of x m ≡ Some entry → body_spelled m.profile code ≡ Ok b
    → made keep (edits.Body x code) m ≡ standing keep (with_body entry b m)
made_body keep x code m entry b is read =
    ap (λ (o : Option ℕ). body_put o code m >>= lasting keep) is
    ∙ ap (λ (r : Result BodyOf EditFault). (r >>= λ (body : BodyOf). fitting (settle (with_body entry body m))) >>= lasting keep) read

pub body_work : (x : ℕ) (code : List ℕ) (m : Parts) (entry : ℕ) (b : BodyOf) (typed encoded sections : ℕ) → typed ≡ 1 → encoded ≡ 1 → sections ≡ 0
    → record { typed = typed; encoded = encoded; sections = sections } ≡ work_of (edits.Body x code) m (settle (with_body entry b m))
body_work x code m entry b typed encoded sections once one none_made =
    let others = all_but (entry_of x m) m.funcs in
    let found : (Ref → Found) → ℕ = λ B. 1 + count_by (is_retyped_in (answers_of m) B) others in
    work_is typed encoded sections (work_of (edits.Body x code) m (settle (with_body entry b m)))
    (omega (arith, once, none_retyped (answers_of m) (answers_of m) (λ r. refl) others) ∙ ap found (sym (answers_stay entry b m)))
    (omega (arith, one, count_zero (λ f. false) (λ f. refl) others)) none_made

-- what is told of each item, where that one is another
told_set : {A B C : Type 0} (f : A → C) (g : B → C) (xs : List A) (ys : List B) (i : ℕ) (x : A) (y : B) → map f xs ≡ map g ys → f x ≡ g y
    → map f (slice_set xs i x) ≡ map g (slice_set ys i y)
told_set {C = C} f g xs ys i x y told same =
    map-set f xs i x ∙ (ap (λ (zs : List C). slice_set zs i (f x)) told ∙ (ap (slice_set (map g ys) i) same ∙ sym (map-set g ys i y)))

-- what is kept of the module with another body
module _ (keep : Bool) (entry : ℕ) (t : ℕ) (b : BodyOf) (m : Parts) (p : Entry) (k new : Cache) where
  pub body_kept : HasType m.funcs entry t → IsPlanned keep t b (with_body entry b m) m.funcs k.verdicts.items 0 p → IsKept m k
      → new.verdict ≡ p.appraisal.verdict → new.len ≡ p.appraisal.len
      → new.types ≡ k.types → new.verdicts.items ≡ map (func_verdict (answers_of (with_body entry b m))) (with_body entry b m).funcs
      → new.refs.items ≡ slice_set k.refs.items entry p.uses
      → new.pieces.sections.items ≡ k.pieces.sections.items → new.pieces.codes.items ≡ slice_set k.pieces.codes.items entry p.code
      → new.pieces.codes_len ≡ p.codes_len → new.pieces.customs_len ≡ k.pieces.customs_len → IsKept (with_body entry b m) new
  body_kept has plan kept verdict len types verdicts refs sections codes codes_len customs_len =
      let f : Func = record { ty = t; body = b } in
      record {
        verdict = verdict ∙ plan.appraised.1;
        len = plan.appraised.2 ∙ ap Some (sym len);
        types = ap (λ v. v.items) types ∙ (kept.types ∙ sym (types_given entry b m.funcs));
        verdicts = verdicts;
        refs =
            ap (map (λ s. s.keys)) refs
            ∙ (told_set (λ s. s.keys) uses_of k.refs.items m.funcs entry p.uses f kept.refs plan.uses
            ∙ ap (map uses_of) (sym (given_set entry b m.funcs t has)));
        pieces = record {
          sections = sections ∙ body_sections entry b m k.pieces.sections.items kept.pieces.sections;
          codes = told_given code_of entry b m.funcs t k.pieces.codes.items new.pieces.codes.items p.code has codes kept.pieces.codes plan.code;
          codes_len = codes_len ∙ plan.codes_len;
          customs_len = customs_len ∙ kept.pieces.customs_len;
        };
      }

  pub body_leads : (x : ℕ) (code : List ℕ) (fs : List Func) (typed encoded sections : ℕ) → entry_of x m ≡ Some entry
      → body_spelled m.profile code ≡ Ok b → HasType m.funcs entry t
      → fs ≡ slice_set m.funcs entry (record { ty = t; body = b }) → IsPlanned keep t b (with_body entry b m) m.funcs k.verdicts.items 0 p
      → IsKept (with_body entry b m) new
      → typed ≡ 1 → encoded ≡ p.encoded → sections ≡ p.sections
      → Leads keep (edits.Body x code) m (Ok (record { typed = typed; encoded = encoded; sections = sections })) (record m { funcs = fs }) new
  body_leads x code fs typed encoded sections is read has replaced plan kept once bodies made =
      let n = with_body entry b m in
      let w : Work = record { typed = typed; encoded = encoded; sections = sections } in
      let same : record m { funcs = fs } ≡ n = ap (λ (gs : List Func). record m { funcs = gs }) (replaced ∙ sym (given_set entry b m.funcs t has)) in
      accepted keep (edits.Body x code) m n (record m { funcs = fs }) k new w same (made_body keep x code m entry b is read) plan.appraised.0
      (body_work x code m entry b typed encoded sections once (bodies ∙ plan.encoded) (made ∙ plan.made)) plan.formed kept

pub other_at : {A : Type 0} (old same : List A) (i : ℕ) (x y : A) → same ≡ old → y ≡ x → slice_set same i y ≡ slice_set old i x
other_at {A = A} old same i x y told is = ap (λ (xs : List A). slice_set xs i y) told ∙ ap (slice_set old i) is
