-- The last line of a report is the verdict's, and it is `valid` exactly where the verdict is.
use Rattle.std.proofs.Common.{◌≡◌, ◌<◌, ◌+◌, ◌/◌, ◌%◌, ◌==◌, ℕ, zero, suc, Bool, true, false, cond, Option, Some, None, List, [], ◌∷◌, ◌++◌, Result, Ok, Err}
use Rattle.std.proofs.Common.{refl, sym, ap, subst, ◌∙◌, inl, inr, append_assoc, arith}
use Rattle.std.specs.Prelude.{◌↔◌, codes, decimal}
use Rattle.std.specs.Fmt.{digits, digits_onto, digit_glyph}
use Rattle.std.proofs.lemmas.Bool.{lt-ltb}
use Rattle.std.proofs.lemmas.List.{append-nil, append_cancel_right, same_from_push}
use Rattle.wk_typing.specs.declared.fault.Fault.{Fault}
use Rattle.wk_typing.specs.declared.fault.Verdict.{Verdict}
use Rattle.wk_typing.specs.declared.fault.Verdict.TheVariants.{Valid, Invalid}
use Rattle.wk_typing.specs.VerdictText.{fault_kind_text, token_text, place_text, fault_text, verdict_text}
use Rattle.wk_session.specs.declared.edit.EditFault.{EditFault}
use Rattle.wk_session.specs.declared.edit.Work.{Work}
use Rattle.wk_session.specs.EditText.{edit_fault_text}
use Rattle.wk_edit.specs.ReportText.{reply_line, report_text}
use Rattle.wk_edit.specs.Theorem.{HasLastLine}

-- ---- the verdict's line is the last

abbrev EndsLine : List ℕ → Type 0
EndsLine text = (before : List ℕ) × (text ≡ before ++ codes "\n")

ends_more : (front text : List ℕ) → EndsLine text → EndsLine (front ++ text)
ends_more front text ends = (front ++ ends.0, ap (λ t. front ++ t) ends.1 ∙ sym (append_assoc front ends.0 (codes "\n")))

reply_ends : (number : ℕ) (reply : Result Work EditFault) → EndsLine (reply_line number reply)
reply_ends number (Ok work) = ends_more (decimal number) (codes " ok\n") (codes " ok", refl)
reply_ends number (Err fault) =
    ends_more (decimal number) (codes " refused " ++ (edit_fault_text fault ++ codes "\n"))
    (ends_more (codes " refused ") (edit_fault_text fault ++ codes "\n") (edit_fault_text fault, refl))

pub last_line : (number : ℕ) (replies : List (Result Work EditFault)) (v : Verdict) → HasLastLine (report_text number replies v) (verdict_text v)
unfolding report_text
last_line number [] v = record { front = []; parts = refl; whole = inl refl }
last_line number (reply ∷ replies) v =
    let rest = last_line (number + 1) replies v in
    let line = reply_line number reply in
    record {
      front = line ++ rest.front;
      parts = ap (λ t. line ++ t) rest.parts ∙ sym (append_assoc line rest.front (verdict_text v ++ codes "\n"));
      whole = inr (elim rest.whole [
        | inl none ↦ subst EndsLine (sym (append-nil line) ∙ ap (λ t. line ++ t) (sym none)) (reply_ends number reply)
        | inr ends ↦ ends_more line rest.front ends
      ]);
    }

-- ---- the text of a fault ends in a digit, and `valid` does not

record EndsInDigit (text : List ℕ) : Type 0 where
  before : List ℕ
  digit : ℕ
  parts : text ≡ before ++ digit ∷ []
  small : digit < 58

digit_behind : (front text : List ℕ) → EndsInDigit text → EndsInDigit (front ++ text)
digit_behind front text ends = record {
  before = front ++ ends.before;
  digit = ends.digit;
  parts = ap (λ t. front ++ t) ends.parts ∙ sym (append_assoc front ends.before (ends.digit ∷ []));
  small = ends.small;
}

either : (b : Bool) (x y : List ℕ) → EndsInDigit x → EndsInDigit y → EndsInDigit (cond b x y)
either true x y one other = one
either false x y one other = other

-- digits in front of some others leave the last of these
onto_ends : (k n : ℕ) (acc : List ℕ) → EndsInDigit acc → EndsInDigit (digits_onto k 10 false n acc)
onto_ends zero n acc ends = ends
onto_ends (suc k) n acc ends =
    let next = digit_glyph false (n % 10) ∷ acc in
    let longer = digit_behind (digit_glyph false (n % 10) ∷ []) acc ends in
    either (n / 10 == 0) next (digits_onto k 10 false (n / 10) next) longer (onto_ends k (n / 10) next longer)

first_ends : (k n : ℕ) → EndsInDigit (digits_onto (suc k) 10 false n [])
first_ends k n =
    let last = digit_glyph false (n % 10) in
    let least : n % 10 < 10 = omega arith in
    let small : last < 58 = rw (lt-ltb (n % 10) 10 least) (omega arith) in
    let one : EndsInDigit (last ∷ []) = record { before = []; digit = last; parts = refl; small = small } in
    either (n / 10 == 0) (last ∷ []) (digits_onto k 10 false (n / 10) (last ∷ [])) one (onto_ends k (n / 10) (last ∷ []) one)

decimal_ends : (n : ℕ) → EndsInDigit (decimal n)
unfolding digits
decimal_ends n = first_ends 63 n

token_ends : (item : ℕ) (token : Option ℕ) → EndsInDigit (decimal item ++ token_text token)
token_ends item None = subst EndsInDigit (sym (append-nil (decimal item))) (decimal_ends item)
token_ends item (Some token) = digit_behind (decimal item) (token_text (Some token)) (digit_behind (codes " token ") (decimal token) (decimal_ends token))

fault_ends : (f : Fault) → EndsInDigit (verdict_text (Invalid f))
fault_ends f =
    let p = f.place in
    let item = decimal p.item ++ token_text p.token in
    digit_behind (codes "invalid ") (fault_text f)
    (digit_behind (fault_kind_text f.kind) (codes " at " ++ place_text p)
    (digit_behind (codes " at ") (place_text p)
    (digit_behind (codes "section ") (decimal p.section ++ (codes " item " ++ item))
    (digit_behind (decimal p.section) (codes " item " ++ item)
    (digit_behind (codes " item ") item (token_ends p.item p.token))))))

-- a text that ends in a digit is not the last line where `valid` is
never_both : (text line : List ℕ) → EndsInDigit line → HasLastLine text line → HasLastLine text (codes "valid") → ⊥
never_both text line ends last valid =
    let lf = codes "\n" in
    let same : (valid.front ++ codes "valid") ++ lf ≡ (last.front ++ line) ++ lf =
    append_assoc valid.front (codes "valid") lf ∙ (sym valid.parts ∙ (last.parts ∙ sym (append_assoc last.front line lf))) in
    let cut : valid.front ++ codes "valid" ≡ last.front ++ line = append_cancel_right (valid.front ++ codes "valid") (last.front ++ line) lf same in
    let d = same_from_push (valid.front ++ codes "vali") (last.front ++ ends.before) 100 ends.digit
    (append_assoc valid.front (codes "vali") (100 ∷ []) ∙ (cut ∙ (ap (λ t. last.front ++ t) ends.parts
    ∙ sym (append_assoc last.front ends.before (ends.digit ∷ []))))) in
    absurd (omega (arith, d.1, ends.small))

-- the line says `valid` exactly where the verdict does
pub valid_line : (number : ℕ) (replies : List (Result Work EditFault)) (v : Verdict)
    → HasLastLine (report_text number replies v) (codes "valid") ↔ v ≡ Valid
valid_line number replies Valid = (λ line. refl, λ is. last_line number replies Valid)
valid_line number replies (Invalid f) =
    (λ line. absurd (never_both _ (verdict_text (Invalid f)) (fault_ends f) (last_line number replies (Invalid f)) line), λ is. absurd cc)
