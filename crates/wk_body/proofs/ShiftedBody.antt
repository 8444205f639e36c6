-- A body whose written form is copied with its references moved: the walk begins at its tokens.
use Rattle.std.proofs.Common.{refl, Bool, true, false, cond, nat_le, ◌≡◌, ℕ, ◌+◌, ◌-◌, ◌*◌, List, [], ◌∷◌, ◌++◌, length, map, take, drop, sym, ap, subst, ◌∙◌}
use Rattle.std.proofs.Common.{arith, append_assoc}
use Rattle.std.specs.List.{flat_map}
use Rattle.std.proofs.Math.Seq.{take-append_seam, drop-append_seam}
use Rattle.wk_bytes.specs.Short.{short}
use Rattle.wk_body.specs.declared.renumber.Moving.{Moving}
use Rattle.wk_body.specs.declared.shifts.Shifts.{Shifts}
use Rattle.wk_body.specs.Bodies.{BodyOf}
use Rattle.wk_body.specs.Instructions.{Plain, Call, GlobalGet, GlobalSet}
use Rattle.wk_body.specs.Tree.{Instrs, Finish, One, Block, If, Tok, Close, else_part, flatten, tokens_of}
use Rattle.wk_body.specs.Shape.{IsInRange}
use Rattle.wk_body.specs.References.{map_plain, moved_plain, shift_instrs}
use Rattle.wk_body.specs.Vectors.{written_vector}
use Rattle.wk_body.specs.Written.{tok_bytes, written_expr, written_group, written_body}
use Rattle.wk_body.specs.Shifts.{shifted, shifted_plain, shifted_body}
use Rattle.wk_body.specs.ShiftSteps.{AreIntegers, shifted_tok, AreToksInRange, Shifting}
use Rattle.wk_body.proofs.Encoding.{tokens_written}
use Rattle.wk_body.proofs.Integers.{groups_integers}
use Rattle.wk_body.proofs.MovedTrees.{tokens_map}
use Rattle.wk_body.proofs.Shifting.{behind_bytes}

-- ---- the numbers of all tokens are in their ranges

both_in_range : (a b : List Tok) → AreToksInRange a → AreToksInRange b → AreToksInRange (a ++ b)
both_in_range [] b h k = k
both_in_range (t ∷ ts) b h k = (h.0, both_in_range ts b h.1 k)

else_in_range : (ts : List Tok) → AreToksInRange ts → AreToksInRange (else_part ts)
else_in_range [] h = h
else_in_range (t ∷ ts) h = (tt, h)

flatten_in_range : (t : Instrs) → IsInRange t → AreToksInRange (flatten t)
flatten_in_range Finish h = tt
flatten_in_range (One p rest) h = (h.0, flatten_in_range rest h.1)
flatten_in_range (Block kind ty inside rest) h =
    (h.0, both_in_range (flatten inside) (Close ∷ flatten rest) (flatten_in_range inside h.1) (tt, flatten_in_range rest h.2))
flatten_in_range (If ty first second rest) h =
    let inside = both_in_range (flatten first) (else_part (flatten second)) (flatten_in_range first h.1)
    (else_in_range (flatten second) (flatten_in_range second h.2)) in
    (h.0, both_in_range (flatten first ++ else_part (flatten second)) (Close ∷ flatten rest) inside (tt, flatten_in_range rest h.3))

pub tokens_in_range : (t : Instrs) → IsInRange t → AreToksInRange (tokens_of t)
tokens_in_range t h = both_in_range (flatten t) (Close ∷ []) (flatten_in_range t h) (tt, tt)

-- ---- the front of a body

module _ (b : BodyOf) (code : List ℕ) (is : code ≡ written_body b) where
  abbrev behind_count : List ℕ
  behind_count = flat_map written_group b.groups ++ written_expr b.instrs

  pub count_ahead : drop 0 code ≡ short (length b.groups) ++ behind_count
  count_ahead = is ∙ append_assoc (short (length b.groups)) (flat_map written_group b.groups) (written_expr b.instrs)

  pub groups_ahead : (first : ℕ) → first ≡ 0 + length (short (length b.groups)) → drop first code ≡ behind_count
  groups_ahead first at = ap (λ (n : ℕ). drop n code) at ∙ behind_bytes 0 code (short (length b.groups)) behind_count count_ahead

  pub groups_are : (count : ℕ) → count ≡ length b.groups → AreIntegers (2 * count) (flat_map written_group b.groups)
  groups_are count many = subst (λ (n : ℕ). AreIntegers (2 * n) (flat_map written_group b.groups)) (sym many) (groups_integers b.groups)

  module _ (s : Shifts) (out : List ℕ) (head : ℕ) (at : head ≡ length (written_vector written_group b.groups)) where
    abbrev front : List ℕ
    front = written_vector written_group b.groups

    front_there : take (head - 0) (drop 0 code) ≡ front
    front_there =
        let long : head - 0 ≡ length front = omega (arith, at) in
        ap (λ (n : ℕ). take n code) long ∙ ap (take (length front)) is ∙ take-append_seam front (written_expr b.instrs)

    pub body_begins : IsInRange b.instrs → Shifting s (tokens_of b.instrs) (out ++ written_body (shifted_body s b)) code out 0 head
    body_begins in_range =
        let moved = map_plain (shifted_plain s) b.instrs in
        let tokens : flat_map tok_bytes (map (shifted_tok s) (tokens_of b.instrs)) ≡ written_expr moved =
        ap (flat_map tok_bytes) (sym (tokens_map (shifted_plain s) b.instrs)) ∙ tokens_written moved in
        record {
          left = tokens_of b.instrs;
          in_range = tokens_in_range b.instrs in_range;
          fits = λ f. f;
          ahead = ap (λ (n : ℕ). drop n code) at ∙ ap (drop (length front)) is ∙ drop-append_seam front (written_expr b.instrs) ∙ sym (tokens_written b.instrs);
          written =
              ap (λ (bytes : List ℕ). (out ++ bytes) ++ flat_map tok_bytes (map (shifted_tok s) (tokens_of b.instrs))) front_there
              ∙ ap (λ (bytes : List ℕ). (out ++ front) ++ bytes) tokens
              ∙ append_assoc out front (written_expr moved);
        }

-- what has moved is in range, where the body is
pub moved_in_range : (s : Shifts) (t : Instrs) → IsInRange (map_plain (shifted_plain s) t) → AreToksInRange (map (shifted_tok s) (tokens_of t))
moved_in_range s t h = subst AreToksInRange (tokens_map (shifted_plain s) t) (tokens_in_range (map_plain (shifted_plain s) t) h)

-- ---- where none came, all stays

index_same : (from by x : ℕ) → by ≡ 0 → shifted from by x ≡ x
index_same from by x none = elim (nat_le from x) as (λ (b : Bool). cond b (x + by) x ≡ x) [ true ↦ omega (arith, none) | false ↦ refl ]

module _ (s : Shifts) (no_func : s.funcs_by ≡ 0) (no_global : s.globals_by ≡ 0) where
  plain_same : (p : Plain) → shifted_plain s p ≡ p
  plain_same (Call x) = ap Call (index_same s.funcs_from s.funcs_by x no_func)
  plain_same (GlobalGet x) = ap GlobalGet (index_same s.globals_from s.globals_by x no_global)
  plain_same (GlobalSet x) = ap GlobalSet (index_same s.globals_from s.globals_by x no_global)
  plain_same p = refl

  tree_same : (t : Instrs) → map_plain (shifted_plain s) t ≡ t
  tree_same Finish = refl
  tree_same (One p rest) = rw (plain_same p, tree_same rest) refl
  tree_same (Block kind ty inside rest) = rw (tree_same inside, tree_same rest) refl
  tree_same (If ty first second rest) = rw (tree_same first, tree_same second, tree_same rest) refl

  pub body_same : (b : BodyOf) → written_body b ≡ written_body (shifted_body s b)
  body_same b = ap (λ (t : Instrs). written_vector written_group b.groups ++ written_expr t) (sym (tree_same b.instrs))

-- ---- where one came, what it moves moves

pub one_moves : (s : Shifts) (kind : Moving) (from : ℕ) → ((p : Plain) → shifted_plain s p ≡ moved_plain kind from p) → (t : Instrs)
    → map_plain (shifted_plain s) t ≡ shift_instrs kind from t
one_moves s kind from same Finish = refl
one_moves s kind from same (One p rest) = rw (same p, one_moves s kind from same rest) refl
one_moves s kind from same (Block k ty inside rest) = rw (one_moves s kind from same inside, one_moves s kind from same rest) refl
one_moves s kind from same (If ty first second rest) =
    rw (one_moves s kind from same first, one_moves s kind from same second, one_moves s kind from same rest) refl
