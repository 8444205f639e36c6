-- The stacks follow the tree.
use Rattle.std.proofs.Common.{◌≡◌, ℕ, ◌+◌, true, false, List, [], ◌∷◌, ◌++◌, length, Option, Result, Ok, Err, refl, ap, ◌∙◌, append_assoc, arith}
use Rattle.wk_bytes.specs.Leb.{◌>>=◌}
use Rattle.wk_body.specs.declared.types.ValType.{ValType}
use Rattle.wk_body.specs.declared.types.BlockType.{BlockType}
use Rattle.wk_body.specs.declared.types.BlockKind.{BlockKind}
use Rattle.wk_body.specs.declared.types.BlockKind.TheVariants as kinds
use Rattle.wk_body.specs.declared.references.Ref.{Ref}
use Rattle.wk_body.specs.Tree.{Instrs, Finish, One, Block, If, Tok, Open, OpenIf, Otherwise, Close, flatten, else_part}
use Rattle.wk_typing.specs.declared.stacks.FrameKind.{FrameKind}
use Rattle.wk_typing.specs.declared.stacks.FrameKind.TheVariants as frame_kinds
use Rattle.wk_typing.specs.Answers.{Found}
use Rattle.wk_typing.specs.Own.{Own, at_token, pushed, ended}
use Rattle.wk_typing.specs.Effects.{results_of, effect_of}
use Rattle.wk_typing.specs.Typing.{after_effect, is_finish, else_count, count, entered, begun, label_types, typed}
use Rattle.wk_typing.specs.Levels.{Level, Blocks, blocks, with_own, opened, frame_kind_of, level_label, labels_of, end_block, end_inner, run}
use Rattle.wk_typing.proofs.Binds.{bind_ext, at_bind, at_bind2}

-- the same after a part that both have
bind_under : {A B C E : Type 0} (m : Result A E) (h : A → Result C E) (f : A → Result B E) (g : B → Result C E) → ((x : A) → h x ≡ (f x >>= g))
    → (m >>= h) ≡ ((m >>= f) >>= g)
bind_under (Ok x) h f g e = e x
bind_under (Err x) h f g e = refl

module _ (A : Ref → Found) (locals : ℕ → Option ValType) (final : List ValType) where
  -- these instructions take the stacks from one own stack of the innermost block to the next
  abbrev Follows : Instrs → Type 0
  Follows is = (k n : ℕ) (after : List Tok) (l : Level) (ls : List Level) → k + count is ≡ n
      → run A locals final k (flatten is ++ after) (blocks l ls)
      ≡ (typed A locals final (labels_of A (blocks l ls)) k is l.own >>= λ s. run A locals final n after (blocks (with_own l s) ls))

  -- a block after its head: the instructions in it, its end, and what comes after it
  abbrev NestedFollows : FrameKind → List ValType → BlockType → Instrs → Instrs → Type 0
  NestedFollows o label bt inside rest = (k n : ℕ) (after : List Tok) (l : Level) (s : Own) (ls : List Level) → k + 2 + count inside + count rest ≡ n
      → run A locals final (k + 1) (flatten inside ++ (Close ∷ (flatten rest ++ after))) (blocks (opened A o bt) (with_own l s ∷ ls))
      ≡ ((typed A locals final (label ∷ labels_of A (blocks l ls)) (k + 1) inside (begun A bt) >>= λ s2. at_token (k + 1 + count inside)
      (ended (results_of A bt) s2) >>= λ u. typed A locals final (labels_of A (blocks l ls)) (k + 1 + count inside + 1) rest
      (pushed (results_of A bt) s)) >>= λ s'. run A locals final n after (blocks (with_own l s') ls))

  nested_runs : (o : FrameKind) (bt : BlockType) (inside rest : Instrs) → ((b : Blocks) → end_block A o b ≡ end_inner A b.inner b.outer)
      → Follows inside → Follows rest → NestedFollows o (level_label A o bt) bt inside rest
  nested_runs o bt inside rest he hi hr k n after l s ls e =
      let behind = flatten rest ++ after in
      let kb = k + 1 + count inside in
      let ts = results_of A bt in
      let t = typed A locals final (level_label A o bt ∷ labels_of A (blocks l ls)) (k + 1) inside (begun A bt) in
      hi (k + 1) kb (Close ∷ behind) (opened A o bt) (with_own l s ∷ ls) refl
      ∙ bind_under t _ _ _ (λ s2.
      ap (λ r. at_token kb r >>= run A locals final (kb + 1) behind) (he (blocks (with_own (opened A o bt) s2) (with_own l s ∷ ls)))
      ∙ at_bind kb (ended ts s2) (λ u. blocks (with_own l (pushed ts s)) ls) (run A locals final (kb + 1) behind)
      ∙ bind_under (at_token kb (ended ts s2)) _ _ _ (λ u. hr (kb + 1) n after (with_own l (pushed ts s)) ls (omega arith)))

  kind_runs : (kind : BlockKind) (bt : BlockType) (inside rest : Instrs) → Follows inside → Follows rest
      → NestedFollows (frame_kind_of kind) (label_types A kind bt) bt inside rest
  kind_runs kinds.Block bt inside rest hi hr = nested_runs frame_kinds.Block bt inside rest (λ b. refl) hi hr
  kind_runs kinds.Loop bt inside rest hi hr = nested_runs frame_kinds.Loop bt inside rest (λ b. refl) hi hr

  -- the end of an if's then branch, the else branch with its end, and what comes after it
  abbrev ElseFollows : List Tok → ℕ → Instrs → Type 0
  ElseFollows other n second = (bt : BlockType) (k : ℕ) (after : List Tok) (s2 : Own) (m : Level) (ls : List Level)
      → run A locals final k (other ++ (Close ∷ after)) (blocks (with_own (opened A frame_kinds.If bt) s2) (m ∷ ls))
      ≡ (at_token k (ended (results_of A bt) s2) >>= λ u. typed A locals final (results_of A bt ∷ labels_of A (blocks m ls)) (k + n) second
      (begun A bt) >>= λ s3. at_token (k + n + count second) (ended (results_of A bt) s3) >>= λ v. run A locals final (k + n + count second + 1) after
      (blocks (with_own m (pushed (results_of A bt) m.own)) ls))

  written_else : (skip : ℕ) (second : Instrs) → Follows second → ElseFollows (Otherwise skip ∷ flatten second) 1 second
  written_else skip second hs bt k after s2 m ls =
      let ts = results_of A bt in
      let kb = k + 1 + count second in
      at_bind k (ended ts s2) (λ u. blocks (opened A frame_kinds.Else bt) (m ∷ ls)) (run A locals final (k + 1) (flatten second ++ (Close ∷ after)))
      ∙ bind_ext (at_token k (ended ts s2)) _ _ (λ u.
      hs (k + 1) kb (Close ∷ after) (opened A frame_kinds.Else bt) (m ∷ ls) refl
      ∙ bind_ext (typed A locals final (ts ∷ labels_of A (blocks m ls)) (k + 1) second (begun A bt)) _ _
      (λ s3. at_bind kb (ended ts s3) (λ v. blocks (with_own m (pushed ts m.own)) ls) (run A locals final (kb + 1) after)))

  -- an else branch without instructions is not written
  no_else : ElseFollows [] 0 Finish
  no_else bt k after s2 m ls =
      let ts = results_of A bt in
      let e : k ≡ k + 0 + 0 = omega arith in
      let b = blocks (opened A frame_kinds.Else bt) (m ∷ ls) in
      at_bind2 k (ended ts s2) b (λ z. end_inner A z.inner z.outer) (run A locals final (k + 1) after)
      ∙ bind_ext (at_token k (ended ts s2)) _ _
      (λ u. at_bind k (ended ts (begun A bt)) (λ v. blocks (with_own m (pushed ts m.own)) ls) (run A locals final (k + 1) after))
      ∙ ap (λ n. at_token k (ended ts s2) >>= λ u. at_token n (ended ts (begun A bt)) >>= λ v. run A locals final (n + 1) after
      (blocks (with_own m (pushed ts m.own)) ls)) e

  else_runs : (second : Instrs) → Follows second → ElseFollows (else_part (flatten second)) (else_count (is_finish second)) second
  else_runs Finish hs = no_else
  else_runs (One p rest) hs = written_else (length (flatten (One p rest))) (One p rest) hs
  else_runs (Block kind bt inside rest) hs = written_else (length (flatten (Block kind bt inside rest))) (Block kind bt inside rest) hs
  else_runs (If bt first second rest) hs = written_else (length (flatten (If bt first second rest))) (If bt first second rest) hs

  if_runs : (bt : BlockType) (first second rest : Instrs) → Follows first → Follows second → Follows rest → Follows (If bt first second rest)
  if_runs bt first second rest hf hs hr k n after l ls e =
      let m = entered A true bt l.own in
      let behind = flatten rest ++ after in
      let other = else_part (flatten second) in
      let ka = k + 1 + count first in
      let kb = ka + else_count (is_finish second) in
      let kc = kb + count second in
      let ts = results_of A bt in
      let labels = ts ∷ labels_of A (blocks l ls) in
      let split : (((flatten first ++ other) ++ (Close ∷ flatten rest)) ++ after) ≡ (flatten first ++ (other ++ (Close ∷ behind))) =
      append_assoc (flatten first ++ other) (Close ∷ flatten rest) after ∙ append_assoc (flatten first) other (Close ∷ behind) in
      ap (λ ts. run A locals final k (OpenIf bt (length (flatten first ++ other)) ∷ ts) (blocks l ls)) split
      ∙ at_bind k m (λ s. blocks (opened A frame_kinds.If bt) (with_own l s ∷ ls)) (run A locals final (k + 1) (flatten first ++ (other ++ (Close ∷ behind))))
      ∙ bind_under (at_token k m) _ _ _ (λ s1.
      hf (k + 1) ka (other ++ (Close ∷ behind)) (opened A frame_kinds.If bt) (with_own l s1 ∷ ls) refl
      ∙ bind_under (typed A locals final labels (k + 1) first (begun A bt)) _ _ _ (λ s2.
      else_runs second hs bt ka behind s2 (with_own l s1) ls
      ∙ bind_under (at_token ka (ended ts s2)) _ _ _ (λ u.
      bind_under (typed A locals final labels kb second (begun A bt)) _ _ _ (λ s3.
      bind_under (at_token kc (ended ts s3)) _ _ _ (λ v. hr (kc + 1) n after (with_own l (pushed ts s1)) ls (omega (arith, e)))))))

  -- the instructions of a tree take the stacks from one own stack of the innermost block to the next
  pub runs : (is : Instrs) → Follows is
  runs Finish k n after l ls e =
      let e' : k ≡ n = omega arith in ap (λ m. run A locals final m after (blocks l ls)) e'
  runs (One p rest) k n after l ls e =
      let m = effect_of A locals final (labels_of A (blocks l ls)) p >>= λ e. after_effect e l.own in
      at_bind k m (λ s. blocks (with_own l s) ls) (run A locals final (k + 1) (flatten rest ++ after))
      ∙ bind_under (at_token k m) _ _ _ (λ s. runs rest (k + 1) n after (with_own l s) ls (omega arith))
  runs (Block kind bt inside rest) k n after l ls e =
      let m = entered A false bt l.own in
      ap (λ ts. run A locals final k (Open kind bt (length (flatten inside)) ∷ ts) (blocks l ls)) (append_assoc (flatten inside) (Close ∷ flatten rest) after)
      ∙ at_bind k m (λ s. blocks (opened A (frame_kind_of kind) bt) (with_own l s ∷ ls))
      (run A locals final (k + 1) (flatten inside ++ (Close ∷ (flatten rest ++ after))))
      ∙ bind_under (at_token k m) _ _ _ (λ s. kind_runs kind bt inside rest (runs inside) (runs rest) k n after l s ls (omega arith))
  runs (If bt first second rest) k n after l ls e =
      if_runs bt first second rest (runs first) (runs second) (runs rest) k n after l ls e
