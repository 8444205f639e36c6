-- What is in the grammar is read, whatever follows it; and what is read of a body is in the grammar.
use Rattle.std.proofs.Common.{◌≡◌, ℕ, zero, suc, ◌+◌, ◌<◌, ◌≤◌, Bool, true, false, List, [], ◌∷◌, ◌++◌, length, Some, Result, Ok, Err, refl, sym, ap, subst}
use Rattle.std.proofs.Common.{◌∙◌, append_assoc, arith, inl, inr, length-append}
use Rattle.wk_bytes.specs.declared.fault.ReadFault.{ReadFault}
use Rattle.wk_bytes.specs.Leb.{◌>>=◌, SpellsU}
use Rattle.wk_bytes.specs.LebLaws.{IsBytes, bind_ok, SpellsU-below, IsBytes-after}
use Rattle.wk_bytes.specs.Span.{u32_at}
use Rattle.wk_bytes.specs.SpanLaws.{ok_is, good}
use Rattle.wk_bytes.specs.PieceLaws.{u32_at-found, u32_at-again}
use Rattle.wk_body.specs.declared.types.Profile.{Profile}
use Rattle.wk_body.specs.declared.types.BlockType.{BlockType}
use Rattle.wk_body.specs.declared.types.BlockKind.{BlockKind}
use Rattle.wk_body.specs.declared.types.LocalGroup.{LocalGroup}
use Rattle.wk_body.specs.Instructions.{Plain}
use Rattle.wk_body.specs.Tree.{Instrs, Finish, One, Block, If, Tok, Simple, Open, OpenIf, Otherwise, Close, Part, before, onto, append}
use Rattle.wk_body.specs.TreeLaws.{append-Finish}
use Rattle.wk_body.specs.Shape.{deep, depth_limit}
use Rattle.wk_body.specs.Bodies.{BodyOf, AreGroups}
use Rattle.wk_body.specs.Spelling.{kind_byte, Spells, SpellsExpr, SpellsGroup, SpellsGroups, SpellsBody}
use Rattle.wk_body.specs.Vectors.{SpellsItems}
use Rattle.wk_body.specs.Reading.{behind_at, after, With, parts_at, expr_at, groups_at, body_at}
use Rattle.wk_body.specs.TokenReading.{local_groups_at}
use Rattle.wk_body.proofs.Pieces.{Took, plain_headed, groups_take, groups_again}
use Rattle.wk_body.proofs.GrammarTokens.{SpellsTok, MayCome, token_again}
use Rattle.wk_body.proofs.GrammarParts.{expr_takes}

-- ---- what a tree puts in front of what is read behind it

-- what is read, with its parts changed
abbrev pub changed : (List Part → List Part) → Result With ReadFault → Result With ReadFault
changed f read = read >>= λ x. Ok (f x.0, x.1)

onto_nothing : (xs : List Part) → onto Finish xs ≡ xs
onto_nothing [] = refl
onto_nothing (x ∷ xs) = refl

changed-Finish : (read : Result With ReadFault) → changed (onto Finish) read ≡ read
changed-Finish (Ok x) = ap (λ (xs : List Part). good (xs, x.1)) (onto_nothing x.0)
changed-Finish (Err e) = refl

joins_plain : (p : Plain) (rest : Instrs) (xs : List Part) → before (Simple p) (onto rest xs) ≡ onto (One p rest) xs
joins_plain p rest [] = refl
joins_plain p rest (x ∷ xs) = refl

joins_block : (kind : BlockKind) (ty : BlockType) (inside rest : Instrs) (xs : List Part)
    → before (Open kind ty 0) (onto inside (before Close (onto rest xs))) ≡ onto (Block kind ty inside rest) xs
joins_block kind ty inside rest [] = refl
joins_block kind ty inside rest (x ∷ xs) = ap (λ (y : Instrs). record { rest = Block kind ty y (append rest x.rest); other = x.other } ∷ xs)
    (append-Finish inside)

joins_if : (ty : BlockType) (first rest : Instrs) (xs : List Part)
    → before (OpenIf ty 0) (onto first (before Close (onto rest xs))) ≡ onto (If ty first Finish rest) xs
joins_if ty first rest [] = refl
joins_if ty first rest (x ∷ xs) = ap (λ (y : Instrs). record { rest = If ty y Finish (append rest x.rest); other = x.other } ∷ xs) (append-Finish first)

joins_both : (ty : BlockType) (first second rest : Instrs) (xs : List Part)
    → before (OpenIf ty 0) (onto first (before (Otherwise 0) (onto second (before Close (onto rest xs))))) ≡ onto (If ty first second rest) xs
joins_both ty first second rest [] = refl
joins_both ty first second rest (x ∷ xs) =
    ap (λ (y : Instrs). record { rest = If ty y (append second Finish) (append rest x.rest); other = x.other } ∷ xs) (append-Finish first)
    ∙ ap (λ (y : Instrs). record { rest = If ty first y (append rest x.rest); other = x.other } ∷ xs) (append-Finish second)

pub changed-changed : (f g : List Part → List Part) (read : Result With ReadFault) → changed f (changed g read) ≡ changed (λ xs. f (g xs)) read
changed-changed f g (Ok x) = refl
changed-changed f g (Err e) = refl

pub same_changed : (f g : List Part → List Part) (read : Result With ReadFault) → ((xs : List Part) → f xs ≡ g xs) → changed f read ≡ changed g read
same_changed f g (Ok x) h = ap (λ (xs : List Part). good (xs, x.1)) (h x.0)
same_changed f g (Err e) h = refl

-- ---- the reader comes to the rest

-- The reader comes to the rest, with the tree in front of what it reads there.
pub record Reaches (profile : Profile) (end : ℕ) (ks : List Bool) (rest : List ℕ) (f : List Part → List Part) (read : Result With ReadFault) : Type 0 where
  pub steps : ℕ
  pub enough : length rest < steps
  pub is : read ≡ changed f (parts_at profile steps ks end rest)

longer : (profile : Profile) (t : Tok) (front : List ℕ) → SpellsTok profile t front → 0 < length front
longer profile (Simple p) front s = let h = plain_headed profile p front s in omega (arith, ap (length {A = ℕ}) h.parts)
longer profile (Open kind ty skip) front s = omega (arith, ap (length {A = ℕ}) s.3)
longer profile (OpenIf ty skip) front s = omega (arith, ap (length {A = ℕ}) s.3)
longer profile (Otherwise skip) front s = omega (arith, ap (length {A = ℕ}) s.1)
longer profile Close front s = omega (arith, ap (length {A = ℕ}) s)

module _ (profile : Profile) (end : ℕ) where
  one_step : (t : Tok) (ks next : List Bool) (front rest : List ℕ) (n : ℕ) → SpellsTok profile t front → MayCome ks t → after t ks ≡ Some next
      → length (front ++ rest) < n → Reaches profile end next rest (before t) (parts_at profile n ks end (front ++ rest))
  unfolding parts_at
  one_step t ks next front rest zero s may e lt = absurd (omega arith)
  one_step t ks next front rest (suc n) s may e lt = record {
    steps = n;
    enough = let h = longer profile t front s in omega (arith, length-append front rest);
    is = rw (token_again profile ks end t front rest s may, e) refl;
  }

  and_on : (ks next : List Bool) (mid rest : List ℕ) (f g : List Part → List Part) (read : Result With ReadFault)
      (a : Reaches profile end ks mid f read) → Reaches profile end next rest g (parts_at profile a.steps ks end mid)
      → Reaches profile end next rest (λ xs. f (g xs)) read
  and_on ks next mid rest f g read a b =
      record { steps = b.steps; enough = b.enough; is = a.is ∙ ap (changed f) b.is ∙ changed-changed f g (parts_at profile b.steps next end rest) }

  alike : (ks : List Bool) (rest : List ℕ) (f g : List Part → List Part) (read : Result With ReadFault) → ((xs : List Part) → f xs ≡ g xs)
      → Reaches profile end ks rest f read → Reaches profile end ks rest g read
  alike ks rest f g read h a = record { steps = a.steps; enough = a.enough; is = a.is ∙ same_changed f g (parts_at profile a.steps ks end rest) h }

split_end : (a b e rest : List ℕ) → (a ++ (b ++ 0x0B ∷ e)) ++ rest ≡ a ++ (b ++ 0x0B ∷ (e ++ rest))
split_end a b e rest = simp append_assoc

split_none : (a b d e rest : List ℕ) → d ≡ [] → (a ++ (b ++ (d ++ 0x0B ∷ e))) ++ rest ≡ a ++ (b ++ 0x0B ∷ (e ++ rest))
split_none a b d e rest h = ap (λ (w : List ℕ). (a ++ (b ++ (w ++ 0x0B ∷ e))) ++ rest) h ∙ split_end a b e rest

split_else : (a b f e rest : List ℕ) → (a ++ (b ++ 0x05 ∷ (f ++ 0x0B ∷ e))) ++ rest ≡ a ++ (b ++ 0x05 ∷ (f ++ 0x0B ∷ (e ++ rest)))
split_else a b f e rest = simp append_assoc

split_some : (a b d f e rest : List ℕ) → d ≡ 0x05 ∷ f → (a ++ (b ++ (d ++ 0x0B ∷ e))) ++ rest ≡ a ++ (b ++ 0x05 ∷ (f ++ 0x0B ∷ (e ++ rest)))
split_some a b d f e rest h = ap (λ (w : List ℕ). (a ++ (b ++ (w ++ 0x0B ∷ e))) ++ rest) h ∙ split_else a b f e rest

-- the reader passes the bytes of a tree
module _ (profile : Profile) (end : ℕ) where
  reads_on : (t : Instrs) (ks : List Bool) (bytes rest : List ℕ) (n : ℕ) → Spells profile t bytes → length ks + deep t ≤ depth_limit
      → length (bytes ++ rest) < n → Reaches profile end ks rest (onto t) (parts_at profile n ks end (bytes ++ rest))
  reads_on Finish ks bytes rest n s few lt =
      record {
        steps = n;
        enough = omega (arith, length-append bytes rest);
        is =
            ap (λ (b : List ℕ). parts_at profile n ks end (b ++ rest)) s ∙ sym (changed-Finish (parts_at profile n ks end rest));
      }
  reads_on (One p more) ks bytes rest n s few lt =
      let mid = s.1 ++ rest in
      let regrouped : bytes ++ rest ≡ s.0 ++ mid = ap (λ (b : List ℕ). b ++ rest) s.4 ∙ append_assoc s.0 s.1 rest in
      let a = one_step profile end (Simple p) ks ks s.0 mid n s.2 tt refl (omega (arith, ap (length {A = ℕ}) regrouped)) in
      let b = reads_on more ks s.1 rest a.steps s.3 few a.enough in
      subst (λ (w : List ℕ). Reaches profile end ks rest (onto (One p more)) (parts_at profile n ks end w)) (sym regrouped)
      (alike profile end ks rest (λ xs. before (Simple p) (onto more xs)) (onto (One p more)) (parts_at profile n ks end (s.0 ++ mid))
      (joins_plain p more) (and_on profile end ks ks mid rest (before (Simple p)) (onto more) (parts_at profile n ks end (s.0 ++ mid)) a b))
  reads_on (Block kind ty inside more) ks bytes rest n s few lt =
      let last = s.2 ++ rest in
      let mid = s.1 ++ ((0x0B ∷ []) ++ last) in
      let regrouped : bytes ++ rest ≡ (kind_byte kind ∷ s.0) ++ mid =
      ap (λ (b : List ℕ). b ++ rest) s.6 ∙ ap (λ (r : List ℕ). kind_byte kind ∷ r) (split_end s.0 s.1 s.2 rest) in
      let a = one_step profile end (Open kind ty 0) ks (false ∷ ks) (kind_byte kind ∷ s.0) mid n (refl, s.0, s.3, refl) (omega (arith, few)) refl
      (omega (arith, ap (length {A = ℕ}) regrouped)) in
      let b = reads_on inside (false ∷ ks) s.1 ((0x0B ∷ []) ++ last) a.steps s.4 (omega (arith, few)) a.enough in
      let c = one_step profile end Close (false ∷ ks) ks (0x0B ∷ []) last b.steps refl tt refl b.enough in
      let d = reads_on more ks s.2 rest c.steps s.5 (omega (arith, few)) c.enough in
      subst (λ (w : List ℕ). Reaches profile end ks rest (onto (Block kind ty inside more)) (parts_at profile n ks end w)) (sym regrouped)
      (alike profile end ks rest (λ xs. before (Open kind ty 0) (onto inside (before Close (onto more xs)))) (onto (Block kind ty inside more))
      (parts_at profile n ks end ((kind_byte kind ∷ s.0) ++ mid)) (joins_block kind ty inside more)
      (and_on profile end (false ∷ ks) ks mid rest (before (Open kind ty 0)) (λ xs. onto inside (before Close (onto more xs)))
      (parts_at profile n ks end ((kind_byte kind ∷ s.0) ++ mid)) a
      (and_on profile end (false ∷ ks) ks ((0x0B ∷ []) ++ last) rest (onto inside) (λ xs. before Close (onto more xs))
      (parts_at profile a.steps (false ∷ ks) end mid) b
      (and_on profile end ks ks last rest (before Close) (onto more) (parts_at profile b.steps (false ∷ ks) end ((0x0B ∷ []) ++ last)) c d))))
  reads_on (If ty first second more) ks bytes rest n s few lt =
      elim s.6 [
        | inl none ↦
            let last = s.3 ++ rest in
            let mid = s.1 ++ ((0x0B ∷ []) ++ last) in
            let regrouped : bytes ++ rest ≡ (0x04 ∷ s.0) ++ mid =
            ap (λ (b : List ℕ). b ++ rest) s.8 ∙ ap (λ (r : List ℕ). 0x04 ∷ r) (split_none s.0 s.1 s.2 s.3 rest none.1) in
            let a = one_step profile end (OpenIf ty 0) ks (true ∷ ks) (0x04 ∷ s.0) mid n (refl, s.0, s.4, refl) (omega (arith, few)) refl
            (omega (arith, ap (length {A = ℕ}) regrouped)) in
            let b = reads_on first (true ∷ ks) s.1 ((0x0B ∷ []) ++ last) a.steps s.5 (omega (arith, few)) a.enough in
            let c = one_step profile end Close (true ∷ ks) ks (0x0B ∷ []) last b.steps refl tt refl b.enough in
            let d = reads_on more ks s.3 rest c.steps s.7 (omega (arith, few)) c.enough in
            subst (λ (e : Instrs). Reaches profile end ks rest (onto (If ty first e more)) (parts_at profile n ks end (bytes ++ rest))) (sym none.0)
            (subst (λ (w : List ℕ). Reaches profile end ks rest (onto (If ty first Finish more)) (parts_at profile n ks end w)) (sym regrouped)
            (alike profile end ks rest (λ xs. before (OpenIf ty 0) (onto first (before Close (onto more xs)))) (onto (If ty first Finish more))
            (parts_at profile n ks end ((0x04 ∷ s.0) ++ mid)) (joins_if ty first more)
            (and_on profile end (true ∷ ks) ks mid rest (before (OpenIf ty 0)) (λ xs. onto first (before Close (onto more xs)))
            (parts_at profile n ks end ((0x04 ∷ s.0) ++ mid)) a
            (and_on profile end (true ∷ ks) ks ((0x0B ∷ []) ++ last) rest (onto first) (λ xs. before Close (onto more xs))
            (parts_at profile a.steps (true ∷ ks) end mid) b
            (and_on profile end ks ks last rest (before Close) (onto more) (parts_at profile b.steps (true ∷ ks) end ((0x0B ∷ []) ++ last)) c d)))))
        | inr some ↦
            let last = s.3 ++ rest in
            let alt = some.0 ++ ((0x0B ∷ []) ++ last) in
            let mid = s.1 ++ ((0x05 ∷ []) ++ alt) in
            let regrouped : bytes ++ rest ≡ (0x04 ∷ s.0) ++ mid =
            ap (λ (b : List ℕ). b ++ rest) s.8 ∙ ap (λ (r : List ℕ). 0x04 ∷ r) (split_some s.0 s.1 s.2 some.0 s.3 rest some.2) in
            let a = one_step profile end (OpenIf ty 0) ks (true ∷ ks) (0x04 ∷ s.0) mid n (refl, s.0, s.4, refl) (omega (arith, few)) refl
            (omega (arith, ap (length {A = ℕ}) regrouped)) in
            let b = reads_on first (true ∷ ks) s.1 ((0x05 ∷ []) ++ alt) a.steps s.5 (omega (arith, few)) a.enough in
            let o = one_step profile end (Otherwise 0) (true ∷ ks) (false ∷ ks) (0x05 ∷ []) alt b.steps (refl, refl) refl refl b.enough in
            let p = reads_on second (false ∷ ks) some.0 ((0x0B ∷ []) ++ last) o.steps some.1 (omega (arith, few)) o.enough in
            let c = one_step profile end Close (false ∷ ks) ks (0x0B ∷ []) last p.steps refl tt refl p.enough in
            let d = reads_on more ks s.3 rest c.steps s.7 (omega (arith, few)) c.enough in
            subst (λ (w : List ℕ). Reaches profile end ks rest (onto (If ty first second more)) (parts_at profile n ks end w)) (sym regrouped)
            (alike profile end ks rest (λ xs. before (OpenIf ty 0) (onto first (before (Otherwise 0) (onto second (before Close (onto more xs))))))
            (onto (If ty first second more)) (parts_at profile n ks end ((0x04 ∷ s.0) ++ mid)) (joins_both ty first second more)
            (and_on profile end (true ∷ ks) ks mid rest (before (OpenIf ty 0))
            (λ xs. onto first (before (Otherwise 0) (onto second (before Close (onto more xs))))) (parts_at profile n ks end ((0x04 ∷ s.0) ++ mid)) a
            (and_on profile end (true ∷ ks) ks ((0x05 ∷ []) ++ alt) rest (onto first)
            (λ xs. before (Otherwise 0) (onto second (before Close (onto more xs)))) (parts_at profile a.steps (true ∷ ks) end mid) b
            (and_on profile end (false ∷ ks) ks alt rest (before (Otherwise 0)) (λ xs. onto second (before Close (onto more xs)))
            (parts_at profile b.steps (true ∷ ks) end ((0x05 ∷ []) ++ alt)) o
            (and_on profile end (false ∷ ks) ks ((0x0B ∷ []) ++ last) rest (onto second) (λ xs. before Close (onto more xs))
            (parts_at profile o.steps (false ∷ ks) end alt) p
            (and_on profile end ks ks last rest (before Close) (onto more) (parts_at profile p.steps (false ∷ ks) end ((0x0B ∷ []) ++ last)) c d))))))
      ]

  no_part : Part
  no_part = record { rest = Finish; other = Finish }

  at_end : (n : ℕ) (rest : List ℕ) → length (0x0B ∷ rest) < n → parts_at profile n [] end (0x0B ∷ rest) ≡ Ok (no_part ∷ [], rest)
  unfolding parts_at behind_at no_part
  at_end zero rest lt = absurd (omega arith)
  at_end (suc n) rest lt = refl

-- what is in the grammar is read, whatever follows it
pub expr_again : (profile : Profile) (end : ℕ) (t : Instrs) (bytes rest : List ℕ) → SpellsExpr profile t bytes
    → expr_at profile end (bytes ++ rest) ≡ Ok (t, rest)
unfolding expr_at no_part
expr_again profile end t bytes rest s =
    let regrouped : bytes ++ rest ≡ s.front ++ (0x0B ∷ rest) = ap (λ (b : List ℕ). b ++ rest) s.whole ∙ append_assoc s.front (0x0B ∷ []) rest in
    let a = reads_on profile end t [] s.front (0x0B ∷ rest) (suc (length (s.front ++ (0x0B ∷ rest)))) s.spelled (omega (arith, s.shallow)) (omega arith) in
    ap (expr_at profile end) regrouped ∙ rw (a.is, at_end profile end a.steps rest a.enough) (ap (λ (y : Instrs). good (y, rest)) (append-Finish t))

-- ---- bodies

-- a body that is made of groups and instructions
abbrev body_with : List LocalGroup → Instrs × List ℕ → Result (BodyOf × List ℕ) ReadFault
body_with gs instrs = Ok (record { groups = gs; instrs = instrs.0 }, instrs.1)

regroup : (a b c d : List ℕ) → a ++ (b ++ (c ++ d)) ≡ ((a ++ b) ++ c) ++ d
regroup a b c d = simp append_assoc

-- a body is made of a count, groups and an expression
one_body : (profile : Profile) (groups : List LocalGroup) (t : Instrs) (count items code bytes behind_count behind_groups rest : List ℕ)
    → SpellsU 32 count (length groups) → SpellsItems SpellsGroup items groups → SpellsExpr profile t code → AreGroups groups
    → bytes ≡ count ++ behind_count → behind_count ≡ items ++ behind_groups → behind_groups ≡ code ++ rest → IsBytes rest
    → Took (SpellsBody profile) bytes (record { groups = groups; instrs = t }, rest)
one_body profile groups t count items code bytes behind_count behind_groups rest counts grouped coded are first second third fits = record {
  front = (count ++ items) ++ code;
  spelled = record {
    locals = count ++ items;
    code = code;
    parts = refl;
    grouped = record { count = count; items = items; parts = refl; counts = counts; spelled = grouped };
    spelled = coded;
    groups = are;
  };
  parts = rw (first, second, third) (regroup count items code rest);
  rest_fits = fits;
}

-- the local groups alone
pub local_groups_take : (end : ℕ) (bytes : List ℕ) (x : List LocalGroup × List ℕ) → IsBytes bytes → local_groups_at end bytes ≡ Ok x → Took SpellsGroups bytes x
unfolding local_groups_at
local_groups_take end bytes x fits e =
    let n = bind_ok (u32_at end bytes) (λ m. groups_at m.0 0 end m.1) x e in
    let counted = u32_at-found end bytes n.0.0 n.0.1 fits n.1 in
    let grouped = groups_take n.0.0 0 end n.0.1 x (IsBytes-after counted.0 n.0.1 bytes counted.2 fits) n.2 in
    let below = SpellsU-below 32 counted.0 n.0.0 counted.1 in
    let few = grouped.5 (omega arith) in
    record {
      front = counted.0 ++ grouped.0;
      spelled = record {
        grouped = record {
          count = counted.0;
          items = grouped.0;
          parts = refl;
          counts =
              subst (SpellsU 32 counted.0) (sym grouped.4) counted.1;
          spelled = grouped.1;
        };
        are_groups = record { counted = omega (arith, grouped.4, below); few = omega (arith, few) };
      };
      parts = counted.2 ∙ ap (λ (c : List ℕ). counted.0 ++ c) grouped.2 ∙ sym (append_assoc counted.0 grouped.0 x.1);
      rest_fits = grouped.3;
    }

pub local_groups_again : (end : ℕ) (gs : List LocalGroup) (bytes rest : List ℕ) → SpellsGroups gs bytes → local_groups_at end (bytes ++ rest) ≡ Ok (gs, rest)
unfolding local_groups_at
local_groups_again end gs bytes rest s =
    let g = s.grouped in
    let parts : bytes ++ rest ≡ g.count ++ (g.items ++ rest) = ap (λ (c : List ℕ). c ++ rest) g.parts ∙ append_assoc g.count g.items rest in
    ap (local_groups_at end) parts
    ∙ rw (
      u32_at-again end g.count (length gs) (g.items ++ rest) g.counts,
      groups_again gs 0 end g.items rest g.spelled (omega (arith, s.are_groups.few)),
    ) refl

pub body_takes : (profile : Profile) (end : ℕ) (bytes : List ℕ) (x : BodyOf × List ℕ) → IsBytes bytes → body_at profile end bytes ≡ Ok x
    → Took (SpellsBody profile) bytes x
unfolding body_at
body_takes profile end bytes x fits e =
    let n = bind_ok (u32_at end bytes) (λ m. groups_at m.0 0 end m.1 >>= λ gs. expr_at profile end gs.1 >>= body_with gs.0) x e in
    let gs = bind_ok (groups_at n.0.0 0 end n.0.1) (λ g. expr_at profile end g.1 >>= body_with g.0) x n.2 in
    let t = bind_ok (expr_at profile end gs.0.1) (body_with gs.0.0) x gs.2 in
    let counted = u32_at-found end bytes n.0.0 n.0.1 fits n.1 in
    let grouped = groups_take n.0.0 0 end n.0.1 gs.0 (IsBytes-after counted.0 n.0.1 bytes counted.2 fits) gs.1 in
    let coded = expr_takes profile end gs.0.1 t.0 grouped.3 t.1 in
    let below = SpellsU-below 32 counted.0 n.0.0 counted.1 in
    let few = grouped.5 (omega arith) in
    let made : BodyOf × List ℕ = (record { groups = gs.0.0; instrs = t.0.0 }, t.0.1) in
    let is : made ≡ x = ok_is made x t.2 in
    subst (Took (SpellsBody profile) bytes) {x = made} is
    (one_body profile gs.0.0 t.0.0 counted.0 grouped.0 coded.front bytes n.0.1 gs.0.1 t.0.1
    (subst (SpellsU 32 counted.0) (sym grouped.4) counted.1) grouped.1 coded.spelled
    (record { counted = omega (arith, grouped.4, below); few = omega (arith, few) }) counted.2 grouped.2 coded.parts coded.rest_fits)

pub body_again : (profile : Profile) (end : ℕ) (b : BodyOf) (bytes rest : List ℕ) → SpellsBody profile b bytes
    → body_at profile end (bytes ++ rest) ≡ Ok (b, rest)
unfolding body_at
body_again profile end b bytes rest s =
    let g = s.grouped in
    let regrouped : bytes ++ rest ≡ g.count ++ (g.items ++ (s.code ++ rest)) =
    ap (λ (c : List ℕ). c ++ rest) s.parts ∙ ap (λ (c : List ℕ). (c ++ s.code) ++ rest) g.parts ∙ sym (regroup g.count g.items s.code rest) in
    ap (body_at profile end) regrouped
    ∙ rw (
      u32_at-again end g.count (length b.groups) (g.items ++ (s.code ++ rest)) g.counts,
      groups_again b.groups 0 end g.items (s.code ++ rest) g.spelled (omega (arith, s.groups.few)),
      expr_again profile end b.instrs s.code rest s.spelled,
    ) refl
