-- What each command's arguments answer.
use Rattle.std.proofs.Common.{◌≡◌, ◌⊎◌, ◌∙◌, ◌==◌, ◌||◌, ℕ, ◌≤◌, Bool, true, false, not, Some, None, List, [], ◌∷◌, length, refl, sym, inl, inr, arith, codes}
use Rattle.std.specs.Prelude.{if◌then◌else◌}
use Rattle.std.specs.Str.{bytes_eq}
use Rattle.std.proofs.lemmas.Slice.Eq.{bytes_eq-Decides}
use Rattle.clap.specs.Walk.{Rule, Text, arg_by_long, arg_by_short}
use Rattle.clap.specs.Simple.{Shape, built_leaf, inherited, marked_built, with_leaf_noted}
use Rattle.wk_command_line.specs.CommandLine.{Form, IsIn, edit, objdump, sections, strip, validate}
use Rattle.wk_command_line.specs.Syntax.{shape_of_form, wasmkit_top}
use Rattle.wk_command_line.proofs.WordSteps.{built_help}
use Rattle.wk_command_line.proofs.Refusals.{help_requests, HasNoShort, Requests}
use Rattle.wk_command_line.proofs.Walks.{Answers}
use Rattle.wk_command_line.proofs.LineEnds.{not_in}
use Rattle.clap.specs.Takes.{is_given}
use Rattle.clap.specs.declared.error.kind.ErrorKind.TheVariants as kind
use Rattle.wk_command_line.proofs.Levels.{lacks, Asks}
use Rattle.wk_command_line.proofs.ManyLines.{AnswersMany}

abbrev pub built_shape : Form → Shape
built_shape f = built_leaf (inherited (with_leaf_noted (marked_built wasmkit_top)) (shape_of_form f))

shorts : (c : List Rule) → ((x : ℕ) → arg_by_short c x ≡ (if (104 == x) || false then Some built_help else None)) → HasNoShort c
shorts c h x = go ((104 == x) || false) refl
  where
    go : (b : Bool) → ((104 == x) || false) ≡ b → (arg_by_short c x ≡ None) ⊎ ((a : Rule) × (arg_by_short c x ≡ Some a) × Requests a)
    go true e = inr (built_help, h x ∙ rw e refl, help_requests)
    go false e = inl (h x ∙ rw e refl)

one : (words : List Text) → length words ≤ 1 → lacks (codes "FILE" ∷ []) words ≡ false → length words ≡ 1
one [] short h = cc
one (a ∷ []) short h = refl
one (a ∷ b ∷ words) short h = absurd (omega arith)

one_full : (words : List Text) → length words ≡ 1 → lacks (codes "FILE" ∷ []) words ≡ false
one_full [] h = absurd (omega arith)
one_full (a ∷ words) h = refl

two : (words : List Text) → length words ≤ 2 → lacks (codes "FILE" ∷ codes "OUT" ∷ []) words ≡ false → length words ≡ 2
two [] short h = cc
two (a ∷ []) short h = cc
two (a ∷ b ∷ []) short h = refl
two (a ∷ b ∷ c ∷ words) short h = absurd (omega arith)

two_full : (words : List Text) → length words ≡ 2 → lacks (codes "FILE" ∷ codes "OUT" ∷ []) words ≡ false
two_full [] h = absurd (omega arith)
two_full (a ∷ []) h = absurd (omega arith)
two_full (a ∷ b ∷ words) h = refl

three : (words : List Text) → length words ≤ 3 → lacks (codes "FILE" ∷ codes "SCRIPT" ∷ codes "OUT" ∷ []) words ≡ false → length words ≡ 3
three [] short h = cc
three (a ∷ []) short h = cc
three (a ∷ b ∷ []) short h = cc
three (a ∷ b ∷ c ∷ []) short h = refl
three (a ∷ b ∷ c ∷ d ∷ words) short h = absurd (omega arith)

three_full : (words : List Text) → length words ≡ 3 → lacks (codes "FILE" ∷ codes "SCRIPT" ∷ codes "OUT" ∷ []) words ≡ false
three_full [] h = absurd (omega arith)
three_full (a ∷ []) h = absurd (omega arith)
three_full (a ∷ b ∷ []) h = absurd (omega arith)
three_full (a ∷ b ∷ c ∷ words) h = refl

-- an option is one of the command's, or not known, or asks for help
abbrev Sorts : Form → Text → Type 0
Sorts f n = IsIn n f.flags ⊎ (IsIn n f.settings ⊎ ((arg_by_long (built_shape f).rules n ≡ None) ⊎ (arg_by_long (built_shape f).rules n ≡ Some built_help)))

same : (x y : Text) → bytes_eq x y ≡ true → y ≡ x
same x y e = sym ((bytes_eq-Decides x y).0 e)

edit_sorts : (n : Text) → Sorts edit n
edit_sorts n = go (bytes_eq (codes "keep-valid") n) (bytes_eq (codes "extended") n) (bytes_eq (codes "help") n) refl refl refl
  where
    go : (b0 b1 b2 : Bool) → bytes_eq (codes "keep-valid") n ≡ b0 → bytes_eq (codes "extended") n ≡ b1 → bytes_eq (codes "help") n ≡ b2 → Sorts edit n
    go true b1 b2 e0 e1 e2 = inl (inl (same (codes "keep-valid") n e0))
    go false true b2 e0 e1 e2 = inl (inr (inl (same (codes "extended") n e1)))
    go false false true e0 e1 e2 = inr (inr (inr (rw (e0, e1, e2) refl)))
    go false false false e0 e1 e2 = inr (inr (inl (rw (e0, e1, e2) refl)))

pub edit_answers : Answers edit (built_shape edit)
edit_answers = record {
  again = refl;
  leaf = refl;
  flags = λ n i. elim i [ inl e ↦ rw e refl | inr (inl e) ↦ rw e refl | inr (inr j) ↦ absurd j ];
  settings = λ n i. absurd i;
  others = edit_sorts;
  shorts = shorts (built_shape edit).rules (λ x. refl);
  operands = (refl, refl, (refl, refl, (refl, refl, refl)));
  names = λ n i. elim i [ inl j ↦ elim j [ inl e ↦ (rw e refl, rw e refl) | inr (inl e) ↦ (rw e refl, rw e refl) | inr (inr j) ↦ absurd j ] | inr j ↦ absurd j ];
  values = λ n v i. absurd i;
}

pub edit_asks : Asks edit (built_shape edit)
edit_asks = record {
  apart = refl;
  sorts = refl;
  distinct = (not_in (codes "FILE") (codes "SCRIPT" ∷ codes "OUT" ∷ []) refl, (not_in (codes "SCRIPT") (codes "OUT" ∷ []) refl, (not_in (codes "OUT") ([]) refl, tt)));
  fine = refl;
  wants = λ rows. refl;
  flags = λ n i. elim i [ inl e ↦ rw e refl | inr (inl e) ↦ rw e refl | inr (inr j) ↦ absurd j ];
  others = λ n i. elim i [ inl j ↦ absurd j | inr j ↦ elim j [ inl e ↦ rw e refl | inr (inl e) ↦ rw e refl | inr (inr (inl e)) ↦ rw e refl | inr (inr (inr j)) ↦ absurd j ] ];
  counts = three;
  fills = three_full;
}

objdump_sorts : (n : Text) → Sorts objdump n
objdump_sorts n = go (bytes_eq (codes "headers") n) (bytes_eq (codes "details") n) (bytes_eq (codes "code") n) (bytes_eq (codes "uses") n) (bytes_eq (codes "extended") n) (bytes_eq (codes "help") n) refl refl refl refl refl refl
  where
    go : (b0 b1 b2 b3 b4 b5 : Bool) → bytes_eq (codes "headers") n ≡ b0 → bytes_eq (codes "details") n ≡ b1 → bytes_eq (codes "code") n ≡ b2 → bytes_eq (codes "uses") n ≡ b3 → bytes_eq (codes "extended") n ≡ b4 → bytes_eq (codes "help") n ≡ b5 → Sorts objdump n
    go true b1 b2 b3 b4 b5 e0 e1 e2 e3 e4 e5 = inl (inl (same (codes "headers") n e0))
    go false true b2 b3 b4 b5 e0 e1 e2 e3 e4 e5 = inl (inr (inl (same (codes "details") n e1)))
    go false false true b3 b4 b5 e0 e1 e2 e3 e4 e5 = inl (inr (inr (inl (same (codes "code") n e2))))
    go false false false true b4 b5 e0 e1 e2 e3 e4 e5 = inl (inr (inr (inr (inl (same (codes "uses") n e3)))))
    go false false false false true b5 e0 e1 e2 e3 e4 e5 = inl (inr (inr (inr (inr (inl (same (codes "extended") n e4))))))
    go false false false false false true e0 e1 e2 e3 e4 e5 = inr (inr (inr (rw (e0, e1, e2, e3, e4, e5) refl)))
    go false false false false false false e0 e1 e2 e3 e4 e5 = inr (inr (inl (rw (e0, e1, e2, e3, e4, e5) refl)))

pub objdump_answers : Answers objdump (built_shape objdump)
objdump_answers = record {
  again = refl;
  leaf = refl;
  flags = λ n i. elim i [ inl e ↦ rw e refl | inr (inl e) ↦ rw e refl | inr (inr (inl e)) ↦ rw e refl | inr (inr (inr (inl e))) ↦ rw e refl | inr (inr (inr (inr (inl e)))) ↦ rw e refl | inr (inr (inr (inr (inr j)))) ↦ absurd j ];
  settings = λ n i. absurd i;
  others = objdump_sorts;
  shorts = shorts (built_shape objdump).rules (λ x. refl);
  operands = (refl, refl, refl);
  names = λ n i. elim i [ inl j ↦ elim j [ inl e ↦ (rw e refl, rw e refl) | inr (inl e) ↦ (rw e refl, rw e refl) | inr (inr (inl e)) ↦ (rw e refl, rw e refl) | inr (inr (inr (inl e))) ↦ (rw e refl, rw e refl) | inr (inr (inr (inr (inl e)))) ↦ (rw e refl, rw e refl) | inr (inr (inr (inr (inr j)))) ↦ absurd j ] | inr j ↦ absurd j ];
  values = λ n v i. absurd i;
}

pub objdump_asks : Asks objdump (built_shape objdump)
objdump_asks = record {
  apart = refl;
  sorts = refl;
  distinct = (not_in (codes "FILE") ([]) refl, tt);
  fine = refl;
  wants = λ rows. refl;
  flags = λ n i. elim i [ inl e ↦ rw e refl | inr (inl e) ↦ rw e refl | inr (inr (inl e)) ↦ rw e refl | inr (inr (inr (inl e))) ↦ rw e refl | inr (inr (inr (inr (inl e)))) ↦ rw e refl | inr (inr (inr (inr (inr j)))) ↦ absurd j ];
  others = λ n i. elim i [ inl j ↦ absurd j | inr j ↦ elim j [ inl e ↦ rw e refl | inr j ↦ absurd j ] ];
  counts = one;
  fills = one_full;
}

sections_sorts : (n : Text) → Sorts sections n
sections_sorts n = go (bytes_eq (codes "help") n) refl
  where
    go : (b0 : Bool) → bytes_eq (codes "help") n ≡ b0 → Sorts sections n
    go true e0 = inr (inr (inr (rw e0 refl)))
    go false e0 = inr (inr (inl (rw e0 refl)))

pub sections_answers : Answers sections (built_shape sections)
sections_answers = record {
  again = refl;
  leaf = refl;
  flags = λ n i. absurd i;
  settings = λ n i. absurd i;
  others = sections_sorts;
  shorts = shorts (built_shape sections).rules (λ x. refl);
  operands = (refl, refl, refl);
  names = λ n i. elim i [ inl j ↦ absurd j | inr j ↦ absurd j ];
  values = λ n v i. absurd i;
}

pub sections_asks : Asks sections (built_shape sections)
sections_asks = record {
  apart = refl;
  sorts = refl;
  distinct = (not_in (codes "FILE") ([]) refl, tt);
  fine = refl;
  wants = λ rows. refl;
  flags = λ n i. absurd i;
  others = λ n i. elim i [ inl j ↦ absurd j | inr j ↦ elim j [ inl e ↦ rw e refl | inr j ↦ absurd j ] ];
  counts = one;
  fills = one_full;
}

strip_sorts : (n : Text) → Sorts strip n
strip_sorts n = go (bytes_eq (codes "keep") n) (bytes_eq (codes "extended") n) (bytes_eq (codes "help") n) refl refl refl
  where
    go : (b0 b1 b2 : Bool) → bytes_eq (codes "keep") n ≡ b0 → bytes_eq (codes "extended") n ≡ b1 → bytes_eq (codes "help") n ≡ b2 → Sorts strip n
    go true b1 b2 e0 e1 e2 = inr (inl (inl (same (codes "keep") n e0)))
    go false true b2 e0 e1 e2 = inl (inl (same (codes "extended") n e1))
    go false false true e0 e1 e2 = inr (inr (inr (rw (e0, e1, e2) refl)))
    go false false false e0 e1 e2 = inr (inr (inl (rw (e0, e1, e2) refl)))

pub strip_answers : Answers strip (built_shape strip)
strip_answers = record {
  again = refl;
  leaf = refl;
  flags = λ n i. elim i [ inl e ↦ rw e refl | inr j ↦ absurd j ];
  settings = λ n i. elim i [ inl e ↦ (rw e refl, rw e refl) | inr j ↦ absurd j ];
  others = strip_sorts;
  shorts = shorts (built_shape strip).rules (λ x. refl);
  operands = (refl, refl, (refl, refl, refl));
  names = λ n i. elim i [ inl j ↦ elim j [ inl e ↦ (rw e refl, rw e refl) | inr j ↦ absurd j ] | inr j ↦ elim j [ inl e ↦ (rw e refl, rw e refl) | inr j ↦ absurd j ] ];
  values = λ n v i. elim i [ inl e ↦ (rw e refl, rw e refl) | inr j ↦ absurd j ];
}

pub strip_asks : Asks strip (built_shape strip)
strip_asks = record {
  apart = refl;
  sorts = refl;
  distinct = (not_in (codes "FILE") (codes "OUT" ∷ []) refl, (not_in (codes "OUT") ([]) refl, tt));
  fine = refl;
  wants = λ rows. refl;
  flags = λ n i. elim i [ inl e ↦ rw e refl | inr j ↦ absurd j ];
  others = λ n i. elim i [ inl j ↦ elim j [ inl e ↦ rw e refl | inr j ↦ absurd j ] | inr j ↦ elim j [ inl e ↦ rw e refl | inr (inl e) ↦ rw e refl | inr (inr j) ↦ absurd j ] ];
  counts = two;
  fills = two_full;
}

validate_sorts : (n : Text) → IsIn n validate.flags ⊎ ((arg_by_long (built_shape validate).rules n ≡ None) ⊎ (arg_by_long (built_shape validate).rules n ≡ Some built_help))
validate_sorts n = go (bytes_eq (codes "each") n) (bytes_eq (codes "extended") n) (bytes_eq (codes "explain") n) (bytes_eq (codes "help") n) refl refl refl refl
  where
    go : (b0 b1 b2 b3 : Bool) → bytes_eq (codes "each") n ≡ b0 → bytes_eq (codes "extended") n ≡ b1 → bytes_eq (codes "explain") n ≡ b2 → bytes_eq (codes "help") n ≡ b3
        → IsIn n validate.flags ⊎ ((arg_by_long (built_shape validate).rules n ≡ None) ⊎ (arg_by_long (built_shape validate).rules n ≡ Some built_help))
    go true b1 b2 b3 e0 e1 e2 e3 = inl (inl (same (codes "each") n e0))
    go false true b2 b3 e0 e1 e2 e3 = inl (inr (inl (same (codes "extended") n e1)))
    go false false true b3 e0 e1 e2 e3 = inl (inr (inr (inl (same (codes "explain") n e2))))
    go false false false true e0 e1 e2 e3 = inr (inr (rw (e0, e1, e2, e3) refl))
    go false false false false e0 e1 e2 e3 = inr (inl (rw (e0, e1, e2, e3) refl))

pub validate_answers : AnswersMany validate (codes "FILE") (built_shape validate)
validate_answers = record {
  again = refl;
  flags = λ n i. elim i [ inl e ↦ rw e refl | inr (inl e) ↦ rw e refl | inr (inr (inl e)) ↦ rw e refl | inr (inr (inr j)) ↦ absurd j ];
  settings = λ n i. i;
  others = validate_sorts;
  shorts = shorts (built_shape validate).rules (λ x. refl);
  named = refl;
  placed = refl;
  names = λ n i. elim i [ inl e ↦ (rw e refl, rw e refl) | inr (inl e) ↦ (rw e refl, rw e refl) | inr (inr (inl e)) ↦ (rw e refl, rw e refl) | inr (inr (inr j)) ↦ absurd j ];
  apart = λ n i. elim i [ inl e ↦ rw e refl | inr (inl e) ↦ rw e refl | inr (inr (inl e)) ↦ rw e refl | inr (inr (inr j)) ↦ absurd j ];
  fine = refl;
  wants = λ rows. wants (is_given (codes "FILE") rows);
  flag_defaults = λ n i. elim i [ inl e ↦ rw e refl | inr (inl e) ↦ rw e refl | inr (inr (inl e)) ↦ rw e refl | inr (inr (inr j)) ↦ absurd j ];
  no_default = refl;
}
  where
    wants : (b : Bool) → (if not b || false then kind.MissingRequiredArgument ∷ [] else []) ≡ (if not b then kind.MissingRequiredArgument ∷ [] else [])
    wants true = refl
    wants false = refl
