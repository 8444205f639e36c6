-- Edits that give or replace a code entry: what the module that they make is judged by, and what is kept of it.
use Rattle.std.proofs.Common.{◌≡◌, ◌≢◌, ℕ, ◌+◌, ◌<◌, ◌≤◌, ◌^◌, Bool, false, Option, Some, None, List, [], ◌∷◌, ◌++◌, length, map, take, get_or, count_by}
use Rattle.std.proofs.Common.{Result, Ok, Err, refl, sym, ap, ◌∙◌, arith, length-append}
use Rattle.std.proofs.Math.Seq.{take-append_seam}
use Rattle.std.proofs.lemmas.List.{length-map, map_push}
use Rattle.std.proofs.lemmas.List.Sums.{count_by-le-length, sum_by_push}
use Rattle.wk_bytes.specs.Frames.{limit}
use Rattle.wk_bytes.specs.Leb.{◌>>=◌}
use Rattle.wk_bytes.specs.Short.{short}
use Rattle.wk_body.specs.declared.fault.EncodeFault.{EncodeFault}
use Rattle.wk_body.specs.declared.fault.EncodeFault.TheVariants as encoding
use Rattle.wk_body.specs.Bodies.{BodyOf}
use Rattle.wk_body.specs.Lengths.{limited}
use Rattle.wk_body.specs.LengthsLaws.{limited_none, limited_some}
use Rattle.wk_body.specs.Written.{written_body}
use Rattle.wk_body.specs.declared.references.Ref.{Ref}
use Rattle.wk_module.specs.declared.types.Func.{Func}
use Rattle.wk_module.specs.declared.types.Parts.{Parts}
use Rattle.wk_module.specs.Changes.{with_func}
use Rattle.wk_module.specs.ChangeLaws.{func_formed}
use Rattle.wk_module.specs.Items.{IsCode}
use Rattle.wk_module.specs.Sections.{SectionLists}
use Rattle.wk_module.specs.Shape.{IsFormed, IsInOrderFrom, settle}
use Rattle.wk_module.specs.Sizes.{entry_size}
use Rattle.wk_module.specs.Writing.{encoded, Fits}
use Rattle.wk_module.specs.WritingLaws.{code_within, room_for_func}
use Rattle.wk_typing.specs.declared.fault.BodyVerdict.{BodyVerdict}
use Rattle.wk_typing.specs.Answers.{Found}
use Rattle.wk_check.specs.SpacesLaws.{answers_of}
use Rattle.wk_check.specs.Verdict.{func_verdict}
use Rattle.wk_pieces.specs.declared.pieces.EncodedSections.{EncodedSections}
use Rattle.wk_pieces.specs.Pieces.{ArePieces, IsOverlong, code_of, codes_size, entries_size, section_pieces}
use Rattle.wk_pieces.proofs.Piecing.{codes_within, entries_codes, limited_within, past_limit}
use Rattle.wk_session.specs.declared.edit.Edit.TheVariants as edits
use Rattle.wk_session.specs.declared.edit.EditFault.{EditFault}
use Rattle.wk_session.specs.declared.edit.EditFault.TheVariants.{TooLarge, Memory}
use Rattle.wk_session.specs.declared.edit.Work.{Work}
use Rattle.wk_session.specs.declared.edits.code_entry.Entry.{Entry}
use Rattle.wk_session.specs.declared.cache.Cache.{Cache}
use Rattle.wk_session.specs.Dependents.{is_retyped_in, work_of}
use Rattle.wk_session.specs.Edits.{fitting, lasting, made}
use Rattle.wk_session.specs.Functions.{IsKeptWithType, IsPlanned, body_spelled}
use Rattle.wk_session.specs.Kept.{IsKept, Leads, uses_of, standing}
use Rattle.wk_session.specs.Refusals.{encode_refusal}
use Rattle.wk_session.proofs.Keeping.{kept_fits}
use Rattle.wk_session.proofs.Outcomes.{told_fits}
use Rattle.wk_session.proofs.Leading.{accepted, too_large}
use Rattle.wk_session.proofs.Lent.{answers_in, answers_lent, lent}
use Rattle.wk_session.proofs.Works.{count_zero, work_is}

-- ---- one more item

pub mapped_more : {A B : Type 0} (f : A → B) (xs : List A) (x : A) (old new : List B) (y : B) → new ≡ old ++ y ∷ [] → old ≡ map f xs → y ≡ f x
    → new ≡ map f (xs ++ x ∷ [])
mapped_more {B = B} f xs x old new y pushed told same =
    pushed ∙ (ap (λ (ys : List B). ys ++ y ∷ []) told ∙ (ap (λ (z : B). map f xs ++ z ∷ []) same ∙ sym (map_push f xs x)))

pub at_end : {A : Type 0} (xs : List A) (x d : A) → x ≡ get_or (xs ++ x ∷ []) (length xs) d
at_end [] x d = refl
at_end (y ∷ xs) x d = at_end xs x d

-- ---- lengths

-- a module whose codes are too long together
pub codes_large : (keep : Bool) (n : Parts) → IsInOrderFrom 0 n.customs → None ≡ limited (codes_size n.funcs) → standing keep n ≡ Err TooLarge
codes_large keep n order none =
    too_large keep n order (past_limit (length (encoded n)) (omega (arith, limited_none (codes_size n.funcs) none, codes_within n)))

-- one of whose codes is too long
code_large : (keep : Bool) (n : Parts) (i : ℕ) (f : Func) → IsInOrderFrom 0 n.customs → i < length n.funcs → f ≡ get_or n.funcs i f
    → limit < length (code_of f) → standing keep n ≡ Err TooLarge
code_large keep n i f order within is large =
    too_large keep n order (past_limit (length (encoded n))
    (omega (arith, large, code_within n i f within is, length-append (short (length (code_of f))) (code_of f))))

-- so is one of which a code can't be made, unless memory was wanted
pub unencoded : (keep : Bool) (n : Parts) (i : ℕ) (f : Func) (e : EncodeFault) → IsInOrderFrom 0 n.customs → i < length n.funcs → f ≡ get_or n.funcs i f
    → IsOverlong (code_of f) e
    → encode_refusal e ≢ Memory → standing keep n ≡ Err (encode_refusal e)
unencoded keep n i f encoding.TooLarge order within is over other = code_large keep n i f order within is (over (λ same. absurd cc))
unencoded keep n i f encoding.Memory order within is over other = absurd (other refl)

-- the length of codes, as it is kept
pub codes_kept : (m : Parts) (k : EncodedSections) → Fits m → ArePieces m k → Some k.codes_len ≡ limited (codes_size m.funcs)
codes_kept m k fits kept =
    let less : codes_size m.funcs ≤ limit = omega (arith, codes_within m, fits) in
    ap Some kept.codes_len ∙ limited_within (codes_size m.funcs) less

-- it is that, where all codes together are not too long
pub codes_len_is : (n : Parts) (codes : Option ℕ) (len : ℕ) → codes ≡ Some len → codes ≡ limited (codes_size n.funcs) → len ≡ codes_size n.funcs
codes_len_is n codes len is told = (limited_some len (codes_size n.funcs) (sym is ∙ told)).0

-- with one code more
pub codes_more : (fs : List Func) (f : Func) → codes_size (fs ++ f ∷ []) ≡ codes_size fs + entry_size (length (code_of f))
codes_more fs f =
    let size : List ℕ → ℕ = λ code. entry_size (length code) in
    sym (entries_codes (fs ++ f ∷ []))
    ∙ ap entries_size (map_push code_of fs f)
    ∙ sum_by_push size (map code_of fs) (code_of f)
    ∙ ap (λ (n : ℕ). n + size (code_of f)) (entries_codes fs)

-- ---- verdicts and counts

-- one more verdict, where the functions before have theirs
pub verdicts_more : (n : Parts) (w : SectionLists) (fs : List Func) (f : Func) (old new : List BodyVerdict) (v : BodyVerdict) → w ≡ lent n
    → new ≡ old ++ v ∷ [] → old ≡ map (func_verdict (answers_in w)) fs → v ≡ func_verdict (answers_in w) f
    → new ≡ map (func_verdict (answers_of n)) (fs ++ f ∷ [])
verdicts_more n w fs f old new v is pushed told same =
    mapped_more (func_verdict (answers_in w)) fs f old new v pushed told same
    ∙ ap (λ (A : Ref → Found). map (func_verdict A) (fs ++ f ∷ [])) (answers_lent n w is)

pub typed_once : (at_first before once count counted : ℕ) → at_first ≡ 0 → before ≡ at_first + count → once ≡ before + 1 → count ≡ counted → once ≡ 1 + counted
typed_once at_first before once count counted fresh more own same = omega arith

-- ---- a function more

pub formed_with_func : (t : ℕ) (b : BodyOf) (m : Parts) (k : Cache) → IsKeptWithType t m k → t < 2 ^ 32 → IsCode m.profile b → IsFormed m
    → IsFormed (with_func t b m)
formed_with_func t b m k kept small valid formed = func_formed t b m (room_for_func m (told_fits m k.len kept.len)) small valid formed

-- the types of the functions before, where that of one more stands behind them
pub types_before : (m : Parts) (t n : ℕ) (types : List ℕ) → types ≡ map (λ f. f.ty) m.funcs ++ t ∷ [] → n ≡ length m.funcs
    → take n types ≡ map (λ f. f.ty) m.funcs
types_before m t n types is count =
    let before : List ℕ = map (λ (f : Func). f.ty) m.funcs in
    ap (take n) is ∙ ap (λ (k : ℕ). take k (before ++ t ∷ [])) (count ∙ sym (length-map m.funcs (λ (f : Func). f.ty))) ∙ take-append_seam before (t ∷ [])

-- and those of all
pub types_with : (t : ℕ) (b : BodyOf) (m : Parts) (types : List ℕ) → types ≡ map (λ f. f.ty) m.funcs ++ t ∷ [] → types ≡ map (λ f. f.ty) (with_func t b m).funcs
types_with t b m types is = is ∙ sym (map_push (λ (f : Func). f.ty) m.funcs (record { ty = t; body = b }))

pub func_unencoded : (keep : Bool) (t : ℕ) (b : BodyOf) (m : Parts) (e : EncodeFault) → IsInOrderFrom 0 m.customs → IsOverlong (written_body b) e
    → encode_refusal e ≢ Memory
    → standing keep (with_func t b m) ≡ Err (encode_refusal e)
func_unencoded keep t b m e order over =
    let f : Func = record { ty = t; body = b } in
    unencoded keep (with_func t b m) (length m.funcs) f e order (omega (arith, length-append m.funcs (f ∷ []))) (at_end m.funcs f f) over

-- ---- what the edits come to

pub made_func : (keep : Bool) (t : ℕ) (code : List ℕ) (m : Parts) (b : BodyOf) → body_spelled m.profile code ≡ Ok b
    → made keep (edits.Func t code) m ≡ standing keep (with_func t b m)
made_func keep t code m b read =
    ap (λ (r : Result BodyOf EditFault). (r >>= λ (body : BodyOf). fitting (settle (with_func t body m))) >>= lasting keep) read

pub func_work : (t : ℕ) (code : List ℕ) (m n : Parts) (typed encoded sections : ℕ)
    → typed ≡ 1 + count_by (is_retyped_in (answers_of m) (answers_of n)) m.funcs → encoded ≡ 1 → sections ≡ 1
    → record { typed = typed; encoded = encoded; sections = sections } ≡ work_of (edits.Func t code) m (settle n)
func_work t code m n typed encoded sections counted once one =
    work_is typed encoded sections (work_of (edits.Func t code) m (settle n)) counted
    (omega (arith, once, count_zero (λ f. false) (λ f. refl) m.funcs)) one

pub told_more : {A B C : Type 0} (f : A → C) (g : B → C) (xs : List A) (ys : List B) (x : A) (y : B) → map f xs ≡ map g ys → f x ≡ g y
    → map f (xs ++ x ∷ []) ≡ map g (ys ++ y ∷ [])
told_more {C = C} f g xs ys x y told same =
    map_push f xs x ∙ (ap (λ (zs : List C). zs ++ f x ∷ []) told ∙ (ap (λ (z : C). map g ys ++ z ∷ []) same ∙ sym (map_push g ys y)))

-- what is kept of the module with a function more
module _ (keep : Bool) (t : ℕ) (b : BodyOf) (m : Parts) (p : Entry) (k new : Cache) where
  pub func_kept : IsPlanned keep t b (with_func t b m) m.funcs k.verdicts.items 1 p → IsKept m k → new.verdict ≡ p.appraisal.verdict → new.len ≡ p.appraisal.len
      → new.types.items ≡ k.types.items ++ t ∷ [] → new.verdicts.items ≡ map (func_verdict (answers_of (with_func t b m))) (with_func t b m).funcs
      → new.refs.items ≡ k.refs.items ++ p.uses ∷ []
      → new.pieces.sections.items ≡ section_pieces (with_func t b m) → new.pieces.codes.items ≡ k.pieces.codes.items ++ p.code ∷ []
      → new.pieces.codes_len ≡ p.codes_len → new.pieces.customs_len ≡ k.pieces.customs_len → IsKept (with_func t b m) new
  func_kept plan kept verdict len types verdicts refs sections codes codes_len customs_len =
      let f : Func = record { ty = t; body = b } in
      record {
        verdict = verdict ∙ plan.appraised.1;
        len = plan.appraised.2 ∙ ap Some (sym len);
        types = mapped_more (λ g. g.ty) m.funcs f k.types.items new.types.items t types kept.types refl;
        verdicts = verdicts;
        refs = ap (map (λ s. s.keys)) refs ∙ told_more (λ s. s.keys) uses_of k.refs.items m.funcs p.uses f kept.refs plan.uses;
        pieces = record {
          sections = sections;
          codes = mapped_more code_of m.funcs f k.pieces.codes.items new.pieces.codes.items p.code codes kept.pieces.codes plan.code;
          codes_len = codes_len ∙ plan.codes_len;
          customs_len = customs_len ∙ kept.pieces.customs_len;
        };
      }

  pub func_leads : (code : List ℕ) (after : Parts) (typed encoded sections : ℕ) → body_spelled m.profile code ≡ Ok b → after ≡ with_func t b m
      → IsPlanned keep t b (with_func t b m) m.funcs k.verdicts.items 1 p → IsKept (with_func t b m) new
      → typed ≡ 1 + count_by (is_retyped_in (answers_of m) (answers_of (with_func t b m))) m.funcs → encoded ≡ p.encoded → sections ≡ p.sections
      → Leads keep (edits.Func t code) m (Ok (record { typed = typed; encoded = encoded; sections = sections })) after new
  func_leads code after typed encoded sections read pushed plan kept counted bodies made =
      let w : Work = record { typed = typed; encoded = encoded; sections = sections } in
      accepted keep (edits.Func t code) m (with_func t b m) after k new w pushed (made_func keep t code m b read) plan.appraised.0
      (func_work t code m (with_func t b m) typed encoded sections counted (bodies ∙ plan.encoded) (made ∙ plan.made)) plan.formed kept

pub few_typed : (m : Parts) (k : Cache) (p : Func → Bool) (typed : ℕ) → IsKept m k → typed ≡ 1 + count_by p m.funcs → typed < 2 ^ 32
few_typed m k p typed kept counted = omega (arith, counted, count_by-le-length p m.funcs, room_for_func m (kept_fits m k kept))

pub one_more : {A : Type 0} (old same new : List A) (x y : A) → new ≡ same ++ y ∷ [] → same ≡ old → y ≡ x → new ≡ old ++ x ∷ []
one_more old same new x y pushed is told = cc
