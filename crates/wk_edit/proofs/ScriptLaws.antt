-- A script that is read is one, and one that is refused is none.
use Rattle.std.proofs.Common.{◌≡◌, ◌==◌, ℕ, ◌+◌, ◌<◌, ◌≤◌, Bool, true, false, cond, inl, inr, ◌⊎◌, List, [], ◌∷◌, ◌++◌, length, Option, Some, None, Result, Ok}
use Rattle.std.proofs.Common.{Err, refl, sym, ap, subst, ◌∙◌, arith}
use Rattle.std.specs.Prelude.{All, ◌≢◌, IfOk, IfErr}
use Rattle.std.specs.List.{join_with_byte, list_any}
use Rattle.std.proofs.lemmas.List.{nil_from_length, length-append}
use Rattle.std.proofs.lemmas.List.Elements.{All-nil, All-cons}
use Rattle.std.proofs.lemmas.List.Folds.{list_any_none}
use Rattle.std.proofs.lemmas.List.Splits.{join_with_byte-slice_split}
use Rattle.wk_bytes.specs.LebLaws.{some_is}
use Rattle.wk_session.specs.declared.edit.Edit.{Edit}
use Rattle.wk_edit.specs.declared.fault.ScriptFault.{ScriptFault}
use Rattle.wk_edit.specs.declared.fault.ScriptFault.TheVariants.{BadWord, NotAscii, Memory}
use Rattle.wk_edit.specs.Pieces.{pieces}
use Rattle.wk_edit.specs.Words.{is_graphic}
use Rattle.wk_edit.specs.Script.{Reads, edit_of, or_bad_word, is_high, line_edit, then_more, lines_from, script_of}
use Rattle.wk_edit.specs.ScriptGrammar.{SpellsLine, SpellsLines, IsScript, IsOnlyScript, IsNoScript, IsFineLine, IsFirstWrong, IsFaultOf}
use Rattle.wk_edit.proofs.EditLaws.{edit_told, edit_said, words_told}
use Rattle.wk_edit.proofs.Joining.{IsWithout, pieces-join, All-join}

-- ---- lines

graphic_below : (x : ℕ) → is_graphic x ≡ true → is_high x ≡ false
graphic_below x e = grind (arith, e)

graphic_but : (c x : ℕ) → c < 33 → is_graphic x ≡ true → (x == c) ≡ false
graphic_but c x less e = grind (arith, less, e)

-- a line that spells an edit is clean
record IsClean (line : List ℕ) : Type 0 where
  low : list_any is_high line ≡ false
  one : IsWithout 10 line
  some : 0 < length line

length_join : (w : List ℕ) (ws : List (List ℕ)) → length w ≤ length (join_with_byte 32 (w ∷ ws))
length_join w [] = omega arith
length_join w (v ∷ ws) = omega (arith, length-append w (32 ∷ join_with_byte 32 (v ∷ ws)))

clean : (line : List ℕ) (e : Edit) → SpellsLine line e → IsClean line
clean line e s =
    let a = words_told s.0 e s.2 in
    subst IsClean (sym s.1) (record {
      low = list_any_none is_high (join_with_byte 32 s.0)
          (All-join (λ x. is_high x ≡ false) 32 s.0 refl (λ k d within j c inside. graphic_below _ (a.graphic k d within j c inside)));
      one = All-join (λ x. (x == 10) ≡ false) 32 s.0 refl (λ k d within j c inside. graphic_but 10 _ (omega arith) (a.graphic k d within j c inside));
      some = rw a.parts (omega (arith, length_join a.first a.more, a.some));
    })

-- a line that spells an edit is cut into its words
words_cut : (line : List ℕ) (e : Edit) → (s : SpellsLine line e) → pieces 32 line ≡ s.0
words_cut line e s =
    let a = words_told s.0 e s.2 in
    let free : All (IsWithout 32) s.0 = λ k d within j c inside. graphic_but 32 _ (omega arith) (a.graphic k d within j c inside) in
    ap (pieces 32) (s.1 ∙ ap (join_with_byte 32) a.parts) ∙ pieces-join 32 a.first a.more (subst (All (IsWithout 32)) a.parts free) ∙ sym a.parts

-- a line that spells an edit is read as that
line_said : (n : ℕ) (line : List ℕ) (e : Edit) → SpellsLine line e → line_edit n line ≡ Ok (Some e)
line_said n line e s =
    let c = clean line e s in
    let filled : (length line == 0) ≡ false = grind (arith, c.some) in
    rw (filled, c.low, words_cut line e s, edit_said s.0 e s.2) refl

-- how a line was read
line_told : (n : ℕ) (line : List ℕ) (o : Option Edit) → line_edit n line ≡ Ok o → ((line ≡ []) × (o ≡ None)) ⊎ ((e : Edit) × (o ≡ Some e) × SpellsLine line e)
line_told n line o h = by (length line == 0) (list_any is_high line) (edit_of (pieces 32 line)) refl refl h
  where
    by : (b c : Bool) (q : Option Edit) → (length line == 0) ≡ b → edit_of (pieces 32 line) ≡ q
        → cond b (Ok None) (cond c (Err (NotAscii n)) (or_bad_word n q)) ≡ Ok o
        → ((line ≡ []) × (o ≡ None)) ⊎ ((e : Edit) × (o ≡ Some e) × SpellsLine line e)
    by true c q empty words e = let none : length line ≡ 0 = grind (arith, empty) in inl (nil_from_length line none, cc)
    by false false (Some d) empty words e = inr (d, cc, (pieces 32 line, sym (join_with_byte-slice_split 32 line), edit_told (pieces 32 line) d words))
    by false _ _ empty words e = absurd cc

-- ---- all lines

-- what comes first, and what is left
first_told : (r : Result (Option Edit) ScriptFault) (m : Result (List Edit) ScriptFault) (es : List Edit) → then_more r m ≡ Ok es
    → ((r ≡ Ok None) × (m ≡ Ok es)) ⊎ ((e : Edit) × (later : List Edit) × (es ≡ e ∷ later) × (r ≡ Ok (Some e)) × (m ≡ Ok later))
first_told (Ok None) m es h = inl (refl, h)
first_told (Ok (Some e)) (Ok later) es h = inr (e, later, cc, refl, refl)
first_told _ _ es h = absurd cc

lines_told : (n : ℕ) (ls : List (List ℕ)) (es : List Edit) → lines_from n ls ≡ Ok es → SpellsLines ls es
unfolding lines_from
lines_told n [] es h = cc
lines_told n (l ∷ ls) es h = elim (first_told (line_edit n l) (lines_from (n + 1) ls) es h) [
  | inl p ↦ elim (line_told n l None p.0) [
    | inl q ↦ inl (q.0, lines_told (n + 1) ls es p.1)
    | inr q ↦ absurd cc
  ]
  | inr p ↦ elim (line_told n l (Some p.0) p.3) [
    | inl q ↦ absurd cc
    | inr q ↦ inr (p.0, p.1, p.2, subst (SpellsLine l) (sym (some_is p.0 q.0 q.1)) q.2, lines_told (n + 1) ls p.1 p.4)
  ]
]

lines_said : (n : ℕ) (ls : List (List ℕ)) (es : List Edit) → SpellsLines ls es → lines_from n ls ≡ Ok es
unfolding lines_from
lines_said n [] es h = ap Ok (sym h)
lines_said n (l ∷ ls) es (inl p) = rw p.0 (lines_said (n + 1) ls es p.1)
lines_said n (l ∷ ls) es (inr p) = rw (line_said n l p.0 p.3, lines_said (n + 1) ls p.1 p.4, p.2) refl

one_line_each : (ls : List (List ℕ)) (es : List Edit) → SpellsLines ls es → All (IsWithout 10) ls
one_line_each [] es h = All-nil (IsWithout 10)
one_line_each (l ∷ ls) es (inl p) = All-cons (IsWithout 10) l ls (subst (IsWithout 10) (sym p.0) (All-nil (λ x. (x == 10) ≡ false))) (one_line_each ls es p.1)
one_line_each (l ∷ ls) es (inr p) = All-cons (IsWithout 10) l ls (clean l p.0 p.3).one (one_line_each ls p.1 p.4)

-- ---- scripts

-- what is read is a script
script_told : (bytes : List ℕ) (es : List Edit) → script_of bytes ≡ Ok es → IsScript bytes es
script_told bytes es h = (pieces 10 bytes, sym (join_with_byte-slice_split 10 bytes), lines_told 1 (pieces 10 bytes) es h)

joined_said : (ls : List (List ℕ)) (es : List Edit) → SpellsLines ls es → script_of (join_with_byte 10 ls) ≡ Ok es
joined_said [] es h = lines_said 1 ([] ∷ []) es (inl (refl, h))
joined_said (l ∷ ls) es h = ap (lines_from 1) (pieces-join 10 l ls (one_line_each (l ∷ ls) es h)) ∙ lines_said 1 (l ∷ ls) es h

-- a script is read
pub script_said : (bytes : List ℕ) (es : List Edit) → IsScript bytes es → script_of bytes ≡ Ok es
script_said bytes es h = ap script_of h.1 ∙ joined_said h.0 es h.2

-- ---- refusals

not_fine : (n : ℕ) (line : List ℕ) (f : ScriptFault) → line_edit n line ≡ Err f → ¬ (IsFineLine line)
not_fine n line f h (inl empty) = let none : line_edit n line ≡ Ok None = rw empty refl in absurd cc
not_fine n line f h (inr s) = let some = line_said n line s.0 s.1 in absurd cc

-- the first wrong one of lines that count from n
record IsWrongFrom (n : ℕ) (ls : List (List ℕ)) (number : ℕ) (high : Bool) : Type 0 where
  before : List (List ℕ)
  line : List ℕ
  after : List (List ℕ)
  cut : ls ≡ before ++ line ∷ after
  count : number ≡ n + length before
  fine : All IsFineLine before
  wrong : ¬ (IsFineLine line)
  told : list_any is_high line ≡ high

abbrev IsFaultFrom : ℕ → List (List ℕ) → ScriptFault → Type 0
IsFaultFrom n ls (BadWord number) = IsWrongFrom n ls number false
IsFaultFrom n ls (NotAscii number) = IsWrongFrom n ls number true
IsFaultFrom n ls Memory = ⊥

here : (n : ℕ) (l : List ℕ) (ls : List (List ℕ)) (high : Bool) → list_any is_high l ≡ high → ¬ (IsFineLine l) → IsWrongFrom n (l ∷ ls) n high
here n l ls high told wrong =
    record { before = []; line = l; after = ls; cut = refl; count = omega arith; fine = All-nil IsFineLine; wrong = wrong; told = told }

here_told : (n : ℕ) (l : List ℕ) (ls : List (List ℕ)) (f : ScriptFault) → line_edit n l ≡ Err f → IsFaultFrom n (l ∷ ls) f
here_told n l ls f h = by (length l == 0) (list_any is_high l) (edit_of (pieces 32 l)) refl h
  where
    by : (b c : Bool) (q : Option Edit) → list_any is_high l ≡ c → cond b (Ok None) (cond c (Err (NotAscii n)) (or_bad_word n q)) ≡ Err f
        → IsFaultFrom n (l ∷ ls) f
    by false true q high e = let is : NotAscii n ≡ f = cc in subst (IsFaultFrom n (l ∷ ls)) is (here n l ls true high (not_fine n l f h))
    by false false None high e = let is : BadWord n ≡ f = cc in subst (IsFaultFrom n (l ∷ ls)) is (here n l ls false high (not_fine n l f h))
    by _ _ _ high e = absurd cc

later : (n : ℕ) (l : List ℕ) (ls : List (List ℕ)) (number : ℕ) (high : Bool) → IsFineLine l → IsWrongFrom (n + 1) ls number high
    → IsWrongFrom n (l ∷ ls) number high
later n l ls number high fine w = record {
  before = l ∷ w.before;
  line = w.line;
  after = w.after;
  cut = ap (λ (rest : List (List ℕ)). l ∷ rest) w.cut;
  count = omega (arith, w.count);
  fine = All-cons IsFineLine l w.before fine w.fine;
  wrong = w.wrong;
  told = w.told;
}

later_told : (n : ℕ) (l : List ℕ) (ls : List (List ℕ)) (f : ScriptFault) → IsFineLine l → IsFaultFrom (n + 1) ls f → IsFaultFrom n (l ∷ ls) f
later_told n l ls (BadWord number) fine w = later n l ls number false fine w
later_told n l ls (NotAscii number) fine w = later n l ls number true fine w
later_told n l ls Memory fine w = w

first_refused : (r : Result (Option Edit) ScriptFault) (m : Result (List Edit) ScriptFault) (f : ScriptFault) → then_more r m ≡ Err f
    → (r ≡ Err f) ⊎ ((o : Option Edit) × (r ≡ Ok o) × (m ≡ Err f))
first_refused (Err g) m f h = inl cc
first_refused (Ok None) m f h = inr (None, refl, h)
first_refused (Ok (Some e)) (Ok es) f h = absurd cc
first_refused (Ok (Some e)) (Err g) f h = inr (Some e, refl, cc)

lines_refused : (n : ℕ) (ls : List (List ℕ)) (f : ScriptFault) → lines_from n ls ≡ Err f → IsFaultFrom n ls f
unfolding lines_from
lines_refused n [] f h = absurd cc
lines_refused n (l ∷ ls) f h = elim (first_refused (line_edit n l) (lines_from (n + 1) ls) f h) [
  | inl p ↦ here_told n l ls f p
  | inr p ↦ later_told n l ls f
      (elim (line_told n l p.0 p.1) [ inl q ↦ inl q.0 | inr q ↦ inr (q.0, q.2) ])
      (lines_refused (n + 1) ls f p.2)
]

whole : (bytes : List ℕ) (number : ℕ) (high : Bool) → IsWrongFrom 1 (pieces 10 bytes) number high → IsFirstWrong bytes number high
whole bytes number high w =
    record { before = w.before; line = w.line; after = w.after; cut = w.cut; count = omega (arith, w.count); fine = w.fine; wrong = w.wrong; told = w.told }

whole_told : (bytes : List ℕ) (f : ScriptFault) → IsFaultFrom 1 (pieces 10 bytes) f → IsFaultOf bytes f
whole_told bytes (BadWord number) w = whole bytes number false w
whole_told bytes (NotAscii number) w = whole bytes number true w
whole_told bytes Memory w = w

-- what is refused has a first wrong line
script_refused : (bytes : List ℕ) (f : ScriptFault) → script_of bytes ≡ Err f → IsFaultOf bytes f
script_refused bytes f h = whole_told bytes f (lines_refused 1 (pieces 10 bytes) f h)

-- ---- what was read, and what was refused

module _ {X : Type 0} (view : X → List Edit) where
  pub found : (r : Result X ScriptFault) (bytes : List ℕ) → Reads view r (script_of bytes) → IfOk r (λ x. IsScript bytes (view x))
  found (Ok x) bytes h = script_told bytes (view x) h
  found (Err e) bytes h = tt

  pub only : (r : Result X ScriptFault) (bytes : List ℕ) → Reads view r (script_of bytes) → IfOk r (λ x. IsOnlyScript bytes (view x))
  only (Ok x) bytes h = λ others is. let same = script_said bytes others is in cc
  only (Err e) bytes h = tt

  pub refused : (r : Result X ScriptFault) (bytes : List ℕ) → Reads view r (script_of bytes) → IfErr r (λ e. e ≢ Memory → IsNoScript bytes)
  refused (Ok x) bytes h = tt
  refused (Err e) bytes h = λ other edits is. let read = script_said bytes edits is in let not = h other in absurd cc

  pub fault_of : (r : Result X ScriptFault) (bytes : List ℕ) → Reads view r (script_of bytes) → IfErr r (λ e. e ≢ Memory → IsFaultOf bytes e)
  fault_of (Ok x) bytes h = tt
  fault_of (Err e) bytes h = λ other. script_refused bytes e (h other)
