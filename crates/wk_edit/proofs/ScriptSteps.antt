-- Steps of the loops over the pieces of a script.
use Rattle.std.proofs.Common.{◌≡◌, ◌≤◌, ◌+◌, ◌==◌, ℕ, suc, List, [], ◌∷◌, ◌++◌, length, Option, Some, None, Result, Ok, Err, refl, sym, ap, ◌∙◌, append_assoc}
use Rattle.std.proofs.Common.{append-nil, arith}
use Rattle.std.proofs.lemmas.List.Splits.{length-slice_split}
use Rattle.std.proofs.lemmas.List.Sums.{count_by-le-length}
use Rattle.wk_body.specs.declared.types.ValType.{ValType}
use Rattle.wk_session.specs.declared.edit.Edit.{Edit}
use Rattle.wk_edit.specs.declared.fault.ScriptFault.{ScriptFault}
use Rattle.wk_edit.specs.Words.{◌>>=◌, type_named, all_named}
use Rattle.wk_edit.specs.Script.{line_edit, lines_from, then_more}
use Rattle.wk_edit.specs.Pieces.{pieces}

-- types in front of those, if they are any
abbrev pub onto : List ValType → Option (List ValType) → Option (List ValType)
onto types None = None
onto types (Some more) = Some (types ++ more)

-- edits in front of those, if they are any
abbrev pub with_edits : List Edit → Result (List Edit) ScriptFault → Result (List Edit) ScriptFault
with_edits edits (Ok more) = Ok (edits ++ more)
with_edits edits (Err e) = Err e

-- one type in front, as the `do` of all_named has it
one : (t : ValType) (more : Option (List ValType)) → (more >>= λ types. Some (t ∷ types)) ≡ onto (t ∷ []) more
one t None = refl
one t (Some ys) = refl

onto_onto : (xs : List ValType) (t : ValType) (more : Option (List ValType)) → onto xs (onto (t ∷ []) more) ≡ onto (xs ++ t ∷ []) more
onto_onto xs t None = refl
onto_onto xs t (Some ys) = ap Some (sym (append_assoc xs (t ∷ []) ys))

pub type_more : (xs : List ValType) (w : List ℕ) (ws : List (List ℕ)) (t : ValType) (r : Option (List ValType)) → type_named w ≡ Some t
    → onto xs (all_named (w ∷ ws)) ≡ r → onto (xs ++ t ∷ []) (all_named ws) ≡ r
unfolding all_named
type_more xs w ws t r named e = sym (onto_onto xs t (all_named ws)) ∙ ap (onto xs) (sym (one t (all_named ws))) ∙ (rw named at e)

pub type_stops : (xs : List ValType) (w : List ℕ) (ws : List (List ℕ)) (r : Option (List ValType)) → type_named w ≡ None
    → onto xs (all_named (w ∷ ws)) ≡ r → r ≡ None
unfolding all_named
type_stops xs w ws r named e = sym e ∙ rw named refl

pub types_done : (xs : List ValType) (r : Option (List ValType)) → onto xs (all_named []) ≡ r → r ≡ Some xs
unfolding all_named
types_done xs r e = sym e ∙ ap Some (append-nil xs)

with_with : (es : List Edit) (d : Edit) (more : Result (List Edit) ScriptFault) → with_edits es (with_edits (d ∷ []) more) ≡ with_edits (es ++ d ∷ []) more
with_with es d (Ok more) = ap Ok (sym (append_assoc es (d ∷ []) more))
with_with es d (Err e) = refl

one_edit : (d : Edit) (more : Result (List Edit) ScriptFault) → then_more (Ok (Some d)) more ≡ with_edits (d ∷ []) more
one_edit d (Ok more) = refl
one_edit d (Err e) = refl

-- a line with an edit
pub edit_more : (es : List Edit) (n : ℕ) (l : List ℕ) (ls : List (List ℕ)) (d : Edit) (r : Result (List Edit) ScriptFault)
    → line_edit (n + 1) l ≡ Ok (Some d) → with_edits es (lines_from (n + 1) (l ∷ ls)) ≡ r → with_edits (es ++ d ∷ []) (lines_from (n + 1 + 1) ls) ≡ r
unfolding lines_from
edit_more es n l ls d r line e =
    sym (with_with es d (lines_from (n + 1 + 1) ls)) ∙ ap (with_edits es) (sym (one_edit d (lines_from (n + 1 + 1) ls))) ∙ (rw line at e)

pub line_without : (es : List Edit) (n : ℕ) (l : List ℕ) (ls : List (List ℕ)) (r : Result (List Edit) ScriptFault) → line_edit (n + 1) l ≡ Ok None
    → with_edits es (lines_from (n + 1) (l ∷ ls)) ≡ r → with_edits es (lines_from (n + 1 + 1) ls) ≡ r
unfolding lines_from
line_without es n l ls r line e = rw line at e

pub line_stops : (es : List Edit) (n : ℕ) (l : List ℕ) (ls : List (List ℕ)) (f : ScriptFault) (r : Result (List Edit) ScriptFault)
    → line_edit (n + 1) l ≡ Err f → with_edits es (lines_from (n + 1) (l ∷ ls)) ≡ r → r ≡ Err f
unfolding lines_from
line_stops es n l ls f r line e = sym (rw line at e)

pub edits_done : (es : List Edit) (n : ℕ) (r : Result (List Edit) ScriptFault) → with_edits es (lines_from n []) ≡ r → r ≡ Ok es
unfolding lines_from
edits_done es n r e = sym e ∙ ap Ok (append-nil es)

-- no more pieces than bytes and one
pub pieces_few : (c : ℕ) (bytes : List ℕ) → length (pieces c bytes) ≤ length bytes + 1
pieces_few c bytes = rw (length-slice_split (λ b. b == c) bytes) (omega (arith, count_by-le-length (λ b. b == c) bytes))

-- a turn of the loop over lines, whose line has an edit
pub edit_step : (es new : List Edit) (n : ℕ) (l : List ℕ) (ls it : List (List ℕ)) (o : Option Edit) (d : Edit) (r : Result (List Edit) ScriptFault)
    → it ≡ l ∷ ls → line_edit (n + 1) l ≡ Ok o → o ≡ Some d → new ≡ es ++ d ∷ [] → with_edits es (lines_from (n + 1) it) ≡ r
    → with_edits new (lines_from (n + 1 + 1) ls) ≡ r
edit_step es new n l ls it o d r items line some pushed said =
    rw pushed (edit_more es n l ls d r (line ∙ ap Ok some) (rw items at said))

pub count_step : (n m : ℕ) (l : List ℕ) (ls it : List (List ℕ)) → it ≡ l ∷ ls → n + length it ≡ m → n + 1 + length ls ≡ m
count_step n m l ls it items count =
    let one_less : length it ≡ suc (length ls) = ap length items in
    omega (arith, one_less, count)

-- what the loops over the types of a word and over the lines of a script take
pub ruleset type_steps = (type_more, type_stops, types_done)

pub ruleset line_steps = (edit_more, line_without, line_stops, edits_done, pieces_few)
