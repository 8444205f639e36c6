-- The result of code from the run of its tokens.
use Rattle.std.proofs.Common.{◌≡◌, ℕ, suc, ◌+◌, List, [], ◌∷◌, ◌++◌, length, Result, Ok, Err, Option, refl, sym, ap, ◌∙◌, arith, length-append}
use Rattle.std.proofs.lemmas.List.{length-map}
use Rattle.wk_bytes.specs.Leb.{◌>>=◌}
use Rattle.wk_body.specs.declared.types.ValType.{ValType}
use Rattle.wk_body.specs.declared.types.BlockType.{BlockType}
use Rattle.wk_body.specs.declared.references.Ref.{Ref}
use Rattle.wk_body.specs.declared.token.Token.{Token}
use Rattle.wk_body.specs.Tree.{Instrs, Finish, One, Block, If, Tok, Close, flatten, else_part, tokens_of}
use Rattle.wk_body.specs.Kept.{told, all_told}
use Rattle.wk_typing.specs.declared.fault.FaultKind.{FaultKind}
use Rattle.wk_typing.specs.Answers.{Found}
use Rattle.wk_typing.specs.Own.{TokenFault, at_token, fresh, ended}
use Rattle.wk_typing.specs.Effects.{results_of}
use Rattle.wk_typing.specs.Typing.{is_finish, else_count, count, typed, code_result}
use Rattle.wk_typing.specs.Levels.{Blocks, with_top, run}
use Rattle.wk_typing.specs.Moves.{body_of}
use Rattle.wk_typing.proofs.Binds.{bind_assoc}
use Rattle.wk_typing.proofs.Runs.{runs}

-- ---- numbers of tokens

length_else : (second : Instrs) → count second ≡ length (flatten second) → else_count (is_finish second) + count second ≡ length (else_part (flatten second))
length_else Finish e = refl
length_else (One p rest) e = omega (arith, e)
length_else (Block kind bt inside rest) e = omega (arith, e)
length_else (If bt first second rest) e = omega (arith, e)

pub length_flatten : (is : Instrs) → count is ≡ length (flatten is)
length_flatten Finish = refl
length_flatten (One p rest) = ap suc (length_flatten rest)
length_flatten (Block kind bt inside rest) =
    omega (arith, length_flatten inside, length_flatten rest, length-append (flatten inside) (Close ∷ flatten rest))
length_flatten (If bt first second rest) =
    let other = else_part (flatten second) in
    omega (
      arith,
      length_flatten first,
      length_else second (length_flatten second),
      length_flatten rest,
      length-append (flatten first) other,
      length-append (flatten first ++ other) (Close ∷ flatten rest),
    )

-- the last token is the end
pub length_kept : (pool : List ℕ) (ts : List Token) (is : Instrs) → all_told pool ts ≡ tokens_of is → length ts ≡ count is + 1
length_kept pool ts is e =
    omega (arith, length-map ts (told pool), ap length e, length-append (flatten is) (Close ∷ []), length_flatten is)

-- ---- code

module _ (A : Ref → Found) (locals : ℕ → Option ValType) (bt : BlockType) (is : Instrs) where
  -- the last end leaves the outermost block as it is
  code_runs : run A locals (results_of A bt) 0 (tokens_of is) (body_of bt)
      ≡ (typed A locals (results_of A bt) (results_of A bt ∷ []) 0 is fresh >>= λ s. Ok (with_top s (body_of bt)))
  code_runs =
      let b = body_of bt in runs A locals (results_of A bt) is 0 (count is) (Close ∷ []) b.inner [] (omega arith)

  -- the same of what the code has found
  module _ (final : List ValType) (ts : List Tok) (start : Blocks) (ef : final ≡ results_of A bt) (et : ts ≡ tokens_of is) (es : start ≡ body_of bt) where
    same_run : run A locals final 0 ts start ≡ run A locals (results_of A bt) 0 (tokens_of is) (body_of bt)
    same_run =
        ap (λ xs. run A locals xs 0 ts start) ef
        ∙ ap (λ xs. run A locals (results_of A bt) 0 xs start) et
        ∙ ap (λ b. run A locals (results_of A bt) 0 (tokens_of is) b) es

    code_by_run : (r : Result Blocks TokenFault) → run A locals final 0 ts start ≡ r
        → code_result A locals final is ≡ (r >>= λ b. at_token (count is) (ended final b.inner.own))
    code_by_run r h =
        let end : Blocks → Result (Unit {0}) TokenFault = λ b. at_token (count is) (ended (results_of A bt) b.inner.own) in
        ap (λ xs. code_result A locals xs is) ef
        ∙ sym (bind_assoc (typed A locals (results_of A bt) (results_of A bt ∷ []) 0 is fresh) (λ s. Ok (with_top s (body_of bt))) end)
        ∙ ap (λ m. m >>= end) (sym code_runs ∙ sym same_run ∙ h)
        ∙ ap (λ xs. r >>= λ b. at_token (count is) (ended xs b.inner.own)) (sym ef)

    pub code_fault : (kind : FaultKind) (k : ℕ) → run A locals final 0 ts start ≡ Err (record { kind = kind; token = k })
        → code_result A locals final is ≡ Err (record { kind = kind; token = k })
    code_fault kind k h = code_by_run (Err (record { kind = kind; token = k })) h

    pub code_valid : (b : Blocks) → run A locals final 0 ts start ≡ Ok b → ended final b.inner.own ≡ Ok tt → code_result A locals final is ≡ Ok tt
    code_valid b h e = code_by_run (Ok b) h ∙ ap (at_token (count is)) e

    pub code_ended : (b : Blocks) (kind : FaultKind) (k : ℕ) → run A locals final 0 ts start ≡ Ok b → ended final b.inner.own ≡ Err kind → k ≡ count is
        → code_result A locals final is ≡ Err (record { kind = kind; token = k })
    code_ended b kind k h e n =
        code_by_run (Ok b) h ∙ ap (at_token (count is)) e ∙ ap (λ m. Err (record { kind = kind; token = m })) (sym n)
