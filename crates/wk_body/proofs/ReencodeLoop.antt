-- The loop that reads an expression token by token and writes it again.
use Rattle.std.proofs.Common.{◌≡◌, ◌≢◌, ℕ, zero, suc, Bool, true, false, List, [], ◌∷◌, ◌++◌, length, Some, Ok, refl, sym, ap, ◌∙◌, arith, append_assoc}
use Rattle.wk_bytes.specs.Span.{Span}
use Rattle.wk_body.specs.declared.types.Profile.{Profile}
use Rattle.wk_body.specs.Tree.{Instrs, Finish, Tok, Otherwise, Close, Part, before, first_part}
use Rattle.wk_body.specs.Written.{tok_bytes, written_expr}
use Rattle.wk_body.specs.Reading.{after, token_at, With, in_front, parts_at, expr_at}
use Rattle.wk_body.specs.TokenReadingLaws.{token_shorter}
use Rattle.wk_body.specs.ToWrite.{to_write, IsNoElse, Parted}
use Rattle.wk_body.specs.ReencodedFront.{IsReencoded}
use Rattle.wk_body.proofs.Loop.{one_more, one_last, moved_end}
use Rattle.wk_body.proofs.WrittenSteps.{token_step, else_step, else_gone}
use Rattle.wk_body.proofs.WrittenParts.{parts_len}

pub begins : (profile : Profile) (from : Span) → IsReencoded profile from [] from []
begins profile from = record { same_end = refl; steps = suc (length from.rest); enough = omega arith; gives = λ x e. (x, e, refl, refl) }

-- a step that adds these bytes, where they are what the token adds before the parts that are read behind it
step : (profile : Profile) (from at to : Span) (ks next : List Bool) (t : Tok) (w add : List ℕ) → to.end ≡ at.end
    → token_at profile ks at.end at.rest ≡ Ok (t, to.rest) → after t ks ≡ Some next
    → ((n : ℕ) (x : With) → parts_at profile n next from.end to.rest ≡ Ok x → to_write ks (before t x.0) ≡ add ++ to_write next x.0)
    → (u : IsReencoded profile from ks at w) → (n : ℕ) → n ≡ u.steps → IsReencoded profile from next to (w ++ add)
step profile from at to ks next t w add same is a adds u zero s = absurd (omega (arith, u.enough, s))
step profile from at to ks next t w add same is a adds u (suc n) s =
    let here : token_at profile ks from.end at.rest ≡ Ok (t, to.rest) = moved_end profile ks at.rest at.end from.end (Ok (t, to.rest)) u.same_end is in
    let whole : parts_at profile u.steps ks from.end at.rest ≡ in_front t (parts_at profile n next from.end to.rest) =
    ap (λ (k : ℕ). parts_at profile k ks from.end at.rest) (sym s) ∙ one_more profile n from.end ks next at.rest to.rest t here a in
    record {
      same_end = same ∙ u.same_end;
      steps = n;
      enough = omega (arith, u.enough, s, token_shorter profile ks at.end at.rest (t, to.rest) is);
      gives = λ x e.
          let y = u.gives (before t x.0, x.1) (whole ∙ ap (in_front t) e) in
          (y.0, y.1, y.2, y.3 ∙ ap (λ (b : List ℕ). w ++ b) (adds n x e) ∙ sym (append_assoc w add (to_write next x.0)));
    }

-- a token that is no else
pub goes_on : (profile : Profile) (from at to : Span) (ks next : List Bool) (t : Tok) (w : List ℕ) → IsNoElse t → to.end ≡ at.end
    → token_at profile ks at.end at.rest ≡ Ok (t, to.rest) → after t ks ≡ Some next → IsReencoded profile from ks at w
    → IsReencoded profile from next to (w ++ tok_bytes t)
goes_on profile from at to ks next t w that same is a u =
    step profile from at to ks next t w (tok_bytes t) same is a
    (λ n x e. token_step t ks next x.0 that a (parts_len profile n next from.end to.rest x e)) u u.steps refl

one_part : (skip : ℕ) (ks : List Bool) (xs : List Part) → Parted (false ∷ ks) xs → first_part xs ≢ Finish
    → to_write (true ∷ ks) (before (Otherwise skip) xs) ≡ (0x05 ∷ []) ++ to_write (false ∷ ks) xs
one_part skip ks [] parted not = absurd (omega (arith, parted))
one_part skip ks (x ∷ xs) parted not = else_step skip ks x xs not

no_part : (skip : ℕ) (ks : List Bool) (xs : List Part) → Parted (false ∷ ks) xs → first_part xs ≡ Finish
    → to_write (true ∷ ks) (before (Otherwise skip) xs) ≡ [] ++ to_write (false ∷ ks) xs
no_part skip ks [] parted is = absurd (omega (arith, parted))
no_part skip ks (x ∷ xs) parted is = else_gone skip ks x xs is

-- an else whose branch holds something, and one whose branch holds nothing
pub goes_else : (profile : Profile) (from at to : Span) (ks : List Bool) (skip : ℕ) (w : List ℕ) → to.end ≡ at.end
    → token_at profile (true ∷ ks) at.end at.rest ≡ Ok (Otherwise skip, to.rest)
    → ((n : ℕ) (x : With) → parts_at profile n (false ∷ ks) from.end to.rest ≡ Ok x → first_part x.0 ≢ Finish)
    → IsReencoded profile from (true ∷ ks) at w → IsReencoded profile from (false ∷ ks) to (w ++ 0x05 ∷ [])
goes_else profile from at to ks skip w same is holds u =
    step profile from at to (true ∷ ks) (false ∷ ks) (Otherwise skip) w (0x05 ∷ []) same is refl
    (λ n x e. one_part skip ks x.0 (parts_len profile n (false ∷ ks) from.end to.rest x e) (holds n x e)) u u.steps refl

pub drops_else : (profile : Profile) (from at to : Span) (ks : List Bool) (skip : ℕ) (w : List ℕ) → to.end ≡ at.end
    → token_at profile (true ∷ ks) at.end at.rest ≡ Ok (Otherwise skip, to.rest)
    → ((n : ℕ) (x : With) → parts_at profile n (false ∷ ks) from.end to.rest ≡ Ok x → first_part x.0 ≡ Finish)
    → IsReencoded profile from (true ∷ ks) at w → IsReencoded profile from (false ∷ ks) to (w ++ [])
drops_else profile from at to ks skip w same is holds u =
    step profile from at to (true ∷ ks) (false ∷ ks) (Otherwise skip) w [] same is refl
    (λ n x e. no_part skip ks x.0 (parts_len profile n (false ∷ ks) from.end to.rest x e) (holds n x e)) u u.steps refl

-- the end that closes no block
last_written : (xs : List Part) (w : List ℕ) → Parted [] xs → to_write [] xs ≡ w ++ 0x0B ∷ [] → written_expr (first_part xs) ≡ w ++ 0x0B ∷ []
last_written [] w parted e = absurd (omega (arith, parted))
last_written (x ∷ xs) w parted e = e

ending : (profile : Profile) (from at to : Span) (w : List ℕ) → token_at profile [] at.end at.rest ≡ Ok (Close, to.rest)
    → (u : IsReencoded profile from [] at w) → (n : ℕ) → n ≡ u.steps
    → (t : Instrs) × (expr_at profile from.end from.rest ≡ Ok (t, to.rest)) × (written_expr t ≡ w ++ 0x0B ∷ [])
unfolding expr_at
ending profile from at to w is u zero s = absurd (omega (arith, u.enough, s))
ending profile from at to w is u (suc n) s =
    let here : token_at profile [] from.end at.rest ≡ Ok (Close, to.rest) = moved_end profile [] at.rest at.end from.end (Ok (Close, to.rest)) u.same_end is in
    let whole : parts_at profile u.steps [] from.end at.rest ≡ Ok (before Close [], to.rest) =
    ap (λ (k : ℕ). parts_at profile k [] from.end at.rest) (sym s) ∙ one_last profile n from.end at.rest to.rest here in
    let y = u.gives (before Close [], to.rest) whole in
    let read : expr_at profile from.end from.rest ≡ Ok (first_part y.0.0, y.0.1) = rw y.1 refl in (
      first_part y.0.0,
      read ∙ ap (λ (r : List ℕ). Ok (first_part y.0.0, r)) y.2,
      last_written y.0.0 w (parts_len profile (suc (length from.rest)) [] from.end from.rest y.0 y.1) y.3,
    )

pub ends : (profile : Profile) (from at to : Span) (w : List ℕ) → token_at profile [] at.end at.rest ≡ Ok (Close, to.rest)
    → IsReencoded profile from [] at w → (t : Instrs) × (expr_at profile from.end from.rest ≡ Ok (t, to.rest)) × (written_expr t ≡ w ++ 0x0B ∷ [])
ends profile from at to w is u = ending profile from at to w is u u.steps refl
