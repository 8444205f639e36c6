-- Tokens whose references move spell the tree whose references move, and it stays one that bytes can spell.
use Rattle.std.proofs.Common.{◌≡◌, ℕ, zero, suc, ◌+◌, ◌<◌, ◌≤◌, true, false, List, [], ◌∷◌, ◌++◌, length, map, take, drop, get_or, refl, sym, ap}
use Rattle.std.proofs.Common.{subst, ◌∙◌, arith, Result, Ok, Err, MatchResult, IfOk}
use Rattle.std.specs.Prelude.{◌||◌}
use Rattle.std.specs.List.{flat_map, AllByRecursion}
use Rattle.std.proofs.lemmas.Bool.{or_parts}
use Rattle.std.proofs.lemmas.List.{map-append, length-map, length-take-le, drop_more, get_or_at}
use Rattle.wk_body.specs.declared.references.Ref.{Ref}
use Rattle.wk_body.specs.declared.types.Profile.{Profile}
use Rattle.wk_body.specs.declared.renumber.Moving.{Moving}
use Rattle.wk_body.specs.declared.renumber.Moving.TheVariants as moving
use Rattle.wk_body.specs.declared.token.Token.{Token}
use Rattle.wk_body.specs.declared.token.Token.TheVariants as kept
use Rattle.wk_body.specs.declared.renumber.ShiftFault.{ShiftFault}
use Rattle.wk_body.specs.Instructions.{Plain, Call, GlobalGet, GlobalSet, immediates, Allows}
use Rattle.wk_body.specs.Tree.{Instrs, Finish, One, Block, If, Tok, Simple, Open, OpenIf, Otherwise, Close, else_part, flatten, tokens_of, tree_of}
use Rattle.wk_body.specs.TreeLaws.{tree_of-flatten}
use Rattle.wk_body.specs.References.{plain_refs, type_refs, refs_of, tok_refs, map_plain, map_tok, moved_plain, shift_instrs, is_stuck_at, is_stuck}
use Rattle.wk_body.specs.References.{any_stuck, IsRefused}
use Rattle.wk_body.specs.Moved.{moved_kept, IsMoved, AreMoved}
use Rattle.wk_body.specs.MovedLaws.{moved_small}
use Rattle.wk_body.specs.Kept.{told, all_told, IsWithin, IsKept, tree_kept}
use Rattle.wk_body.specs.Shape.{deep, AreInRange, IsInRange, IsShaped, IsOf, depth_limit}
use Rattle.wk_body.proofs.TreeRefs.{kept_refs}

-- ---- instructions that are changed one by one

else_map : (f : Plain → Plain) (ts : List Tok) → else_part (map (map_tok f) ts) ≡ map (map_tok f) (else_part ts)
else_map f [] = refl
else_map f (t ∷ ts) = ap (λ (n : ℕ). Otherwise (suc n) ∷ map_tok f t ∷ map (map_tok f) ts) (length-map ts (map_tok f))

pub flatten_map : (f : Plain → Plain) (t : Instrs) → flatten (map_plain f t) ≡ map (map_tok f) (flatten t)
flatten_map f Finish = refl
flatten_map f (One p rest) = ap (λ (ts : List Tok). Simple (f p) ∷ ts) (flatten_map f rest)
flatten_map f (Block kind ty inside rest) =
    rw (flatten_map f inside, flatten_map f rest, length-map (flatten inside) (map_tok f))
    (ap (λ (ts : List Tok). Open kind ty (length (flatten inside)) ∷ ts) (sym (map-append (map_tok f) (flatten inside) (Close ∷ flatten rest))))
flatten_map f (If ty first second rest) =
    let inside = flatten first ++ else_part (flatten second) in
    let e : flatten (map_plain f first) ++ else_part (flatten (map_plain f second)) ≡ map (map_tok f) inside =
    rw (flatten_map f first, flatten_map f second, else_map f (flatten second)) (sym (map-append (map_tok f) (flatten first) (else_part (flatten second)))) in
    rw (e, flatten_map f rest, length-map inside (map_tok f))
    (ap (λ (ts : List Tok). OpenIf ty (length inside) ∷ ts) (sym (map-append (map_tok f) inside (Close ∷ flatten rest))))

pub tokens_map : (f : Plain → Plain) (t : Instrs) → tokens_of (map_plain f t) ≡ map (map_tok f) (tokens_of t)
tokens_map f t = rw (flatten_map f t) (sym (map-append (map_tok f) (flatten t) (Close ∷ [])))

pub deep_map : (f : Plain → Plain) (t : Instrs) → deep (map_plain f t) ≡ deep t
deep_map f Finish = refl
deep_map f (One p rest) = deep_map f rest
deep_map f (Block kind ty inside rest) = rw (deep_map f inside, deep_map f rest) refl
deep_map f (If ty first second rest) = rw (deep_map f first, deep_map f second, deep_map f rest) refl

-- a change of each instruction that keeps a profile's opcodes keeps the profile
pub map_of : (profile : Profile) (f : Plain → Plain) → ((p : Plain) → Allows profile p → Allows profile (f p)) → (t : Instrs) → IsOf profile t
    → IsOf profile (map_plain f t)
map_of profile f keeps Finish h = h
map_of profile f keeps (One p rest) h = (keeps p h.0, map_of profile f keeps rest h.1)
map_of profile f keeps (Block kind ty inside rest) h = (h.0, map_of profile f keeps inside h.1, map_of profile f keeps rest h.2)
map_of profile f keeps (If ty first second rest) h = (h.0, map_of profile f keeps first h.1, map_of profile f keeps second h.2, map_of profile f keeps rest h.3)

moved_allowed : (profile : Profile) (kind : Moving) (from : ℕ) (p : Plain) → Allows profile p → Allows profile (moved_plain kind from p)
moved_allowed profile moving.Func from (Call x) h = h
moved_allowed profile moving.Global from (GlobalGet x) h = h
moved_allowed profile moving.Global from (GlobalSet x) h = h
moved_allowed profile kind from p h = h

pub moved_of : (profile : Profile) (kind : Moving) (from : ℕ) (t : Instrs) → IsOf profile t → IsOf profile (shift_instrs kind from t)
moved_of profile kind from t h = map_of profile (moved_plain kind from) (moved_allowed profile kind from) t h

-- what is answered, by what it is
pub answer_of : (kind : Moving) (from : ℕ) (t : Instrs) (r : Result Instrs ShiftFault)
    → MatchResult r (λ s. (any_stuck kind from (refs_of t) ≡ false) × (s ≡ shift_instrs kind from t)) (λ e. IsRefused e (any_stuck kind from (refs_of t)))
    → IfOk r (λ s. (profile : Profile) → IsOf profile t → IsOf profile s)
answer_of kind from t (Ok s) h = λ profile k. subst (IsOf profile) (sym h.1) (moved_of profile kind from t k)
answer_of kind from t (Err e) h = tt

-- ---- references that can move

pub any_stuck_append : (kind : Moving) (from : ℕ) (a b : List Ref) → any_stuck kind from (a ++ b) ≡ (any_stuck kind from a || any_stuck kind from b)
any_stuck_append kind from [] b = refl
any_stuck_append kind from (r ∷ rs) b = elim (is_stuck kind from r)
    as (λ c. (c || any_stuck kind from (rs ++ b)) ≡ ((c || any_stuck kind from rs) || any_stuck kind from b)) [
      | true ↦ refl
      | false ↦ any_stuck_append kind from rs b
    ]

-- none of two lists is stuck where none of both is
free_parts : (kind : Moving) (from : ℕ) (a b : List Ref) → any_stuck kind from (a ++ b) ≡ false
    → (any_stuck kind from a ≡ false) × (any_stuck kind from b ≡ false)
free_parts kind from a b h = or_parts (any_stuck kind from a) (any_stuck kind from b) (sym (any_stuck_append kind from a b) ∙ h)

moved_in_range : (kind : Moving) (from : ℕ) (p : Plain) → any_stuck kind from (plain_refs p) ≡ false → AreInRange (immediates p)
    → AreInRange (immediates (moved_plain kind from p))
moved_in_range moving.Func from (Call x) free h = moved_small from x (or_parts (is_stuck_at from x) false free).0 h
moved_in_range moving.Global from (GlobalGet x) free h = moved_small from x (or_parts (is_stuck_at from x) false free).0 h
moved_in_range moving.Global from (GlobalSet x) free h = moved_small from x (or_parts (is_stuck_at from x) false free).0 h
moved_in_range kind from p free h = h

shift_in_range : (kind : Moving) (from : ℕ) (t : Instrs) → any_stuck kind from (refs_of t) ≡ false → IsInRange t → IsInRange (shift_instrs kind from t)
shift_in_range kind from Finish free h = h
shift_in_range kind from (One p rest) free h =
    let f = free_parts kind from (plain_refs p) (refs_of rest) free in
    (moved_in_range kind from p f.0 h.0, shift_in_range kind from rest f.1 h.1)
shift_in_range kind from (Block k ty inside rest) free h =
    let f = free_parts kind from (type_refs ty) (refs_of inside ++ refs_of rest) free in
    let g = free_parts kind from (refs_of inside) (refs_of rest) f.1 in
    (h.0, shift_in_range kind from inside g.0 h.1, shift_in_range kind from rest g.1 h.2)
shift_in_range kind from (If ty first second rest) free h =
    let f = free_parts kind from (type_refs ty) (refs_of first ++ (refs_of second ++ refs_of rest)) free in
    let g = free_parts kind from (refs_of first) (refs_of second ++ refs_of rest) f.1 in
    let i = free_parts kind from (refs_of second) (refs_of rest) g.1 in
    (h.0, shift_in_range kind from first g.0 h.1, shift_in_range kind from second i.0 h.2, shift_in_range kind from rest i.1 h.3)

pub shift_shaped : (kind : Moving) (from : ℕ) (t : Instrs) → any_stuck kind from (refs_of t) ≡ false → IsShaped t → IsShaped (shift_instrs kind from t)
shift_shaped kind from t free h =
    record {
      in_range = shift_in_range kind from t free h.in_range;
      shallow =
          subst (λ (n : ℕ). n ≤ depth_limit) (sym (deep_map (moved_plain kind from) t)) h.shallow;
    }

-- ---- kept tokens

pub kept_moved : (kind : Moving) (from : ℕ) (pool : List ℕ) (ts ms : List Token) (t : Instrs) → all_told pool ts ≡ tokens_of t
    → AllByRecursion (IsWithin (length pool)) ts → length ts ≤ 2147483647 → IsShaped t → AreMoved kind from ts ms
    → IsKept pool ms × (tree_kept pool ms ≡ shift_instrs kind from t) × (any_stuck kind from (refs_of t) ≡ false)
kept_moved kind from pool ts ms t written within few shaped m =
    let w : all_told pool ms ≡ tokens_of (shift_instrs kind from t) =
    m.told_moved pool ∙ ap (map (map_tok (moved_plain kind from))) written ∙ sym (tokens_map (moved_plain kind from) t) in
    let e : tree_kept pool ms ≡ shift_instrs kind from t = ap tree_of w ∙ tree_of-flatten (shift_instrs kind from t) in
    let free : any_stuck kind from (refs_of t) ≡ false = ap (any_stuck kind from) (sym (kept_refs pool ts t written)) ∙ m.fits in
    let long : length ms ≡ length ts = sym (length-map ms (told pool)) ∙ ap (length {A = Tok}) (m.told_moved pool)
    ∙ length-map (all_told pool ts) (map_tok (moved_plain kind from)) ∙ length-map ts (told pool) in (
      record {
        written = w ∙ ap tokens_of (sym e);
        within = m.within (length pool) within;
        few = omega (arith, few, long);
        shaped = subst IsShaped (sym e) (shift_shaped kind from t free shaped);
      },
      e,
      free,
    )

-- ---- tokens that move where they stand

pub kept_token : (kind : Moving) (from : ℕ) (t : Token) → any_stuck kind from (tok_refs (told [] t)) ≡ false → IsMoved kind from t (moved_kept kind from t)
kept_token moving.Func from (kept.Call x) free = record { fits = free; told_moved = λ pool. refl; within = λ len h. h }
kept_token moving.Global from (kept.GlobalGet x) free = record { fits = free; told_moved = λ pool. refl; within = λ len h. h }
kept_token moving.Global from (kept.GlobalSet x) free = record { fits = free; told_moved = λ pool. refl; within = λ len h. h }
kept_token kind from t free = record { fits = free; told_moved = λ pool. refl; within = λ len h. h }

pub kept_tokens : (kind : Moving) (from : ℕ) (ts : List Token) → any_stuck kind from (flat_map tok_refs (all_told [] ts)) ≡ false
    → AreMoved kind from ts (map (moved_kept kind from) ts)
kept_tokens kind from [] free = record { fits = free; told_moved = λ pool. refl; within = λ len h. h }
kept_tokens kind from (t ∷ ts) free =
    let parts = free_parts kind from (tok_refs (told [] t)) (flat_map tok_refs (all_told [] ts)) free in
    let first = kept_token kind from t parts.0 in
    let rest = kept_tokens kind from ts parts.1 in
    record {
      fits = free;
      told_moved = λ pool. rw (first.told_moved pool, rest.told_moved pool) refl;
      within = λ len h. (first.within len h.0, rest.within len h.1);
    }

-- none of them is stuck where none of all is
pub free_at : (kind : Moving) (from : ℕ) (ts : List Token) (i : ℕ) (d : Token) → i < length ts
    → any_stuck kind from (flat_map tok_refs (all_told [] ts)) ≡ false → any_stuck kind from (tok_refs (told [] (get_or ts i d))) ≡ false
free_at kind from [] i d lt free = absurd (omega arith)
free_at kind from (t ∷ ts) zero d lt free = (free_parts kind from (tok_refs (told [] t)) (flat_map tok_refs (all_told [] ts)) free).0
free_at kind from (t ∷ ts) (suc i) d lt free = free_at kind from ts i d (omega arith)
    (free_parts kind from (tok_refs (told [] t)) (flat_map tok_refs (all_told [] ts)) free).1

-- the place that a loop over them comes to is as it was
pub next_place : (f : Token → Token) (ts : List Token) (i : ℕ) (d : Token) → i < length ts → get_or (map f (take i ts) ++ drop i ts) i d ≡ get_or ts i d
next_place f ts i d lt =
    rw (drop_more ts i d lt)
    (get_or_at (map f (take i ts)) (get_or ts i d) (drop (i + 1) ts) d i (length-map (take i ts) f ∙ length-take-le i ts (omega (arith, lt))))
