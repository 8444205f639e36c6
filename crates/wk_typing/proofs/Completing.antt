-- The algorithm over tokens that come one after the other, and the tree that they spell: where the algorithm finds no fault, the
-- tree is typed without one.
use Rattle.std.proofs.Common.{◌≡◌, ℕ, ◌+◌, Bool, true, false, List, [], ◌∷◌, Option, Some, Ok, refl, sym, subst}
use Rattle.wk_bytes.specs.Leb.{◌>>=◌}
use Rattle.wk_bytes.specs.LebLaws.{bind_ok, some_is, ok_is}
use Rattle.wk_body.specs.declared.types.ValType.{ValType}
use Rattle.wk_body.specs.declared.types.BlockType.{BlockType}
use Rattle.wk_body.specs.declared.types.BlockKind.{BlockKind}
use Rattle.wk_body.specs.declared.types.BlockKind.TheVariants as kinds
use Rattle.wk_body.specs.declared.references.Ref.{Ref}
use Rattle.wk_body.specs.Tree.{Instrs, Finish, One, Block, If, Tok, Simple, Open, OpenIf, Otherwise, Close, Part, before, first_part}
use Rattle.wk_body.specs.Instructions.{Plain}
use Rattle.wk_body.specs.Reading.{after}
use Rattle.wk_body.specs.TokenReading.{MayStand}
use Rattle.wk_typing.specs.declared.fault.FaultKind.{FaultKind}
use Rattle.wk_typing.specs.declared.stacks.FrameKind.{FrameKind}
use Rattle.wk_typing.specs.declared.stacks.FrameKind.TheVariants as frame_kinds
use Rattle.wk_typing.specs.Answers.{Found}
use Rattle.wk_typing.specs.Own.{Own, pushed, fresh, ended}
use Rattle.wk_typing.specs.Effects.{results_of, effect_of}
use Rattle.wk_typing.specs.Typing.{after_effect, is_finish, else_count, count, entered, begun, label_types, typed, code_result}
use Rattle.wk_typing.specs.Levels.{Level, Blocks, blocks, with_own, with_top, opened, frame_kind_of, labels_of, enter_block, end_then, end_inner, end_block}
use Rattle.wk_typing.specs.Levels.{step}
use Rattle.wk_typing.specs.Moves.{body_of}

module _ (A : Ref → Found) (locals : ℕ → Option ValType) (final : List ValType) where
  -- instructions lead without a fault from one own stack to another, whatever the numbers of their tokens
  abbrev pub Leads : List (List ValType) → Instrs → Own → Own → Type 0
  Leads labels Finish s t = s ≡ t
  Leads labels (One p rest) s t =
      (s1 : Own) × ((effect_of A locals final labels p >>= λ e. after_effect e s) ≡ Ok s1) × Leads labels rest s1 t
  Leads labels (Block kind bt inside rest) s t =
      (s1 : Own) × (s2 : Own) × (entered A false bt s ≡ Ok s1) × Leads (label_types A kind bt ∷ labels) inside (begun A bt) s2
      × (ended (results_of A bt) s2 ≡ Ok tt) × Leads labels rest (pushed (results_of A bt) s1) t
  Leads labels (If bt first second rest) s t =
      (s1 : Own) × (s2 : Own) × (s3 : Own) × (entered A true bt s ≡ Ok s1) × Leads (results_of A bt ∷ labels) first (begun A bt) s2
      × (ended (results_of A bt) s2 ≡ Ok tt) × Leads (results_of A bt ∷ labels) second (begun A bt) s3 × (ended (results_of A bt) s3 ≡ Ok tt)
      × Leads labels rest (pushed (results_of A bt) s1) t

  -- instructions that lead from one own stack to another are typed
  pub leads_typed : (is : Instrs) (labels : List (List ValType)) (k : ℕ) (s t : Own) → Leads labels is s t → typed A locals final labels k is s ≡ Ok t
  leads_typed Finish labels k s t h = rw h refl
  leads_typed (One p rest) labels k s t h = rw h.1 (leads_typed rest labels (k + 1) h.0 t h.2)
  leads_typed (Block kind bt inside rest) labels k s t h =
      let kb = k + 1 + count inside in
      let inner = leads_typed inside (label_types A kind bt ∷ labels) (k + 1) (begun A bt) h.1 h.3 in
      let behind = leads_typed rest labels (kb + 1) (pushed (results_of A bt) h.0) t h.5 in
      rw (h.2, inner, h.4) behind
  leads_typed (If bt first second rest) labels k s t h =
      let ka = k + 1 + count first in
      let kb = ka + else_count (is_finish second) in
      let kc = kb + count second in
      let one = leads_typed first (results_of A bt ∷ labels) (k + 1) (begun A bt) h.1 h.4 in
      let two = leads_typed second (results_of A bt ∷ labels) kb (begun A bt) h.2 h.6 in
      let behind = leads_typed rest labels (kc + 1) (pushed (results_of A bt) h.0) t h.8 in
      rw (h.3, one, h.5, two, h.7) behind

  -- instructions lead from the beginning of a branch of this type to its end
  abbrev pub IsBranch : List (List ValType) → BlockType → Instrs → Type 0
  IsBranch labels bt is =
      (s : Own) × Leads (results_of A bt ∷ labels) is (begun A bt) s × (ended (results_of A bt) s ≡ Ok tt)

  -- what stands behind the else of a block that so began: only an if has one
  abbrev pub Second : List (List ValType) → FrameKind → BlockType → Instrs → Type 0
  Second labels frame_kinds.If bt other = IsBranch labels bt other
  Second labels _ bt other = Unit {0}

  -- what is left to do in the open blocks, the innermost first, has no fault
  abbrev pub Completes : List Part → Level → List Level → Type 0
  Completes [] l ls = ⊥
  Completes (x ∷ []) l [] =
      (s : Own) × Leads (labels_of A (blocks l [])) x.rest l.own s × (ended final s ≡ Ok tt)
  Completes (x ∷ []) l (m ∷ ls) = ⊥
  Completes (x ∷ y ∷ ys) l [] = ⊥
  Completes (x ∷ y ∷ ys) l (m ∷ ls) =
      (s : Own) × Leads (labels_of A (blocks l (m ∷ ls))) x.rest l.own s × (ended (results_of A l.block) s ≡ Ok tt)
      × Second (labels_of A (blocks m ls)) l.kind l.block x.other × Completes (y ∷ ys) (with_own m (pushed (results_of A l.block) m.own)) ls

  -- as many blocks are open for the reader as stand in the outermost one, which is the body
  abbrev pub Matches : List Bool → Level → List Level → Type 0
  Matches [] l [] = l.kind ≡ frame_kinds.Body
  Matches [] l (m ∷ ls) = ⊥
  Matches (k ∷ ks) l [] = ⊥
  Matches (k ∷ ks) l (m ∷ ls) = Matches ks m ls

  -- ---- the open blocks

  -- the own stack of the innermost block does not matter
  matches_own : (ks : List Bool) (l : Level) (ls : List Level) (s : Own) → Matches ks l ls → Matches ks (with_own l s) ls
  matches_own [] l [] s h = h
  matches_own [] l (m ∷ ls) s h = h
  matches_own (k ∷ ks) l [] s h = h
  matches_own (k ∷ ks) l (m ∷ ls) s h = h

  -- the algorithm leaves a block: those around it stay the reader's
  matches_inner : (ks : List Bool) (l m : Level) (ls : List Level) (new : Blocks)
      → end_inner A l (m ∷ ls) ≡ Ok new → Matches ks m ls → Matches ks new.inner new.outer
  matches_inner ks l m ls new e h =
      let a = bind_ok (ended (results_of A l.block) l.own) (λ u. Ok (blocks (with_own m (pushed (results_of A l.block) m.own)) ls)) new e in
      let is = ok_is {E = FaultKind} _ _ a.2 in
      subst (λ (b : Blocks). Matches ks b.inner b.outer) is (matches_own ks m ls _ h)

  -- the algorithm goes from a branch to the next one: the block stays open for both
  matches_then : (k : Bool) (ks : List Bool) (l m : Level) (ls : List Level) (new : Blocks) → end_then A (blocks l (m ∷ ls)) ≡ Ok new → Matches ks m ls
      → Matches (k ∷ ks) new.inner new.outer
  matches_then k ks l m ls new e h =
      let a = bind_ok (ended (results_of A l.block) l.own) (λ u. Ok (blocks (opened A frame_kinds.Else l.block) (m ∷ ls))) new e in
      let is = ok_is {E = FaultKind} _ _ a.2 in
      subst (λ (b : Blocks). Matches (k ∷ ks) b.inner b.outer) is h

  -- a new block is open for both
  matches_enter : (k : Bool) (ks : List Bool) (test : Bool) (o : FrameKind) (bt : BlockType) (b new : Blocks) → enter_block A test o bt b ≡ Ok new
      → Matches ks b.inner b.outer → Matches (k ∷ ks) new.inner new.outer
  matches_enter k ks test o bt b new e h =
      let a = bind_ok (entered A test bt b.inner.own) (λ s. Ok (blocks (opened A o bt) (with_own b.inner s ∷ b.outer))) new e in
      let is = ok_is {E = FaultKind} _ _ a.2 in
      subst (λ (c : Blocks). Matches (k ∷ ks) c.inner c.outer) is (matches_own ks b.inner b.outer a.0 h)

  -- a block is closed for both
  matches_end : (o : FrameKind) (ks : List Bool) (l m : Level) (ls : List Level) (new : Blocks) → end_block A o (blocks l (m ∷ ls)) ≡ Ok new
      → Matches ks m ls → Matches ks new.inner new.outer
  matches_end frame_kinds.Body ks l m ls new e h = matches_inner ks l m ls new e h
  matches_end frame_kinds.Block ks l m ls new e h = matches_inner ks l m ls new e h
  matches_end frame_kinds.Loop ks l m ls new e h = matches_inner ks l m ls new e h
  matches_end frame_kinds.Else ks l m ls new e h = matches_inner ks l m ls new e h
  matches_end frame_kinds.If ks l m ls new e h =
      let a = bind_ok (end_then A (blocks l (m ∷ ls))) (λ b. end_inner A b.inner b.outer) new e in
      let c = bind_ok (ended (results_of A l.block) l.own) (λ u. Ok (blocks (opened A frame_kinds.Else l.block) (m ∷ ls))) a.0 a.1 in
      let is = ok_is {E = FaultKind} _ _ c.2 in
      let e2 : end_inner A (opened A frame_kinds.Else l.block) (m ∷ ls) ≡ Ok new = subst (λ (b : Blocks). end_inner A b.inner b.outer ≡ Ok new) (sym is) a.2 in
      matches_inner ks (opened A frame_kinds.Else l.block) m ls new e2 h

  -- one token, with the algorithm's blocks taken apart
  matches_after : (ks next : List Bool) (t : Tok) (l : Level) (ls : List Level) (new : Blocks) → Matches ks l ls → after t ks ≡ Some next
      → MayStand t ks → step A locals final t (blocks l ls) ≡ Ok new → Matches next new.inner new.outer
  matches_after ks next (Simple p) l ls new h e may r =
      let a = bind_ok (effect_of A locals final (labels_of A (blocks l ls)) p >>= λ f. after_effect f l.own) (λ s. Ok (with_top s (blocks l ls))) new r in
      let is = ok_is {E = FaultKind} _ _ a.2 in
      let same = subst (λ (b : Blocks). Matches ks b.inner b.outer) is (matches_own ks l ls a.0 h) in
      subst (λ (z : List Bool). Matches z new.inner new.outer) (some_is _ _ e) same
  matches_after ks next (Open kind bt skip) l ls new h e may r =
      subst (λ (z : List Bool). Matches z new.inner new.outer) (some_is _ _ e) (matches_enter false ks false (frame_kind_of kind) bt (blocks l ls) new r h)
  matches_after ks next (OpenIf bt skip) l ls new h e may r =
      subst (λ (z : List Bool). Matches z new.inner new.outer) (some_is _ _ e) (matches_enter true ks true frame_kinds.If bt (blocks l ls) new r h)
  matches_after [] next (Otherwise skip) l ls new h e may r = absurd may
  matches_after (k ∷ ks) next (Otherwise skip) l [] new h e may r = absurd h
  matches_after (k ∷ ks) next (Otherwise skip) l (m ∷ ls) new h e may r =
      subst (λ (z : List Bool). Matches z new.inner new.outer) (some_is _ _ e) (matches_then false ks l m ls new r h)
  matches_after [] next Close l ls new h e may r = absurd cc
  matches_after (k ∷ ks) next Close l [] new h e may r = absurd h
  matches_after (k ∷ ks) next Close l (m ∷ ls) new h e may r =
      subst (λ (z : List Bool). Matches z new.inner new.outer) (some_is _ _ e) (matches_end l.kind ks l m ls new r h)

  -- a token that the algorithm goes over keeps the reader's open blocks and the algorithm's the same
  pub step_matches : (ks next : List Bool) (t : Tok) (b new : Blocks) → Matches ks b.inner b.outer → after t ks ≡ Some next → MayStand t ks
      → step A locals final t b ≡ Ok new → Matches next new.inner new.outer
  step_matches ks next t b new h e may r = matches_after ks next t b.inner b.outer new h e may r

  -- ---- what is left to do

  -- more instructions in front of those that are left in the innermost block
  lead_on : (y : Part) (ys : List Part) (l : Level) (ls : List Level) (s : Own) (is : Instrs)
      → ((t : Own) → Leads (labels_of A (blocks l ls)) y.rest s t → Leads (labels_of A (blocks l ls)) is l.own t) → Completes (y ∷ ys) (with_own l s) ls
      → Completes (record { rest = is; other = y.other } ∷ ys) l ls
  lead_on y [] l [] s is f c = (c.0, f c.0 c.1, c.2)
  lead_on y [] l (m ∷ ls) s is f c = absurd c
  lead_on y (z ∷ ys) l [] s is f c = absurd c
  lead_on y (z ∷ ys) l (m ∷ ls) s is f c = (c.0, f c.0 c.1, c.2, c.3, c.4)

  -- an instruction that holds no others, in front
  one_back : (p : Plain) (l : Level) (ls : List Level) (new : Blocks) → step A locals final (Simple p) (blocks l ls) ≡ Ok new → (xs : List Part)
      → Completes xs new.inner new.outer → Completes (before (Simple p) xs) l ls
  one_back p l ls new r [] c = absurd c
  one_back p l ls new r (x ∷ xs) c =
      let a = bind_ok (effect_of A locals final (labels_of A (blocks l ls)) p >>= λ f. after_effect f l.own) (λ s. Ok (with_top s (blocks l ls))) new r in
      let is = ok_is {E = FaultKind} _ _ a.2 in
      let d : Completes (x ∷ xs) (with_own l a.0) ls = subst (λ (b : Blocks). Completes (x ∷ xs) b.inner b.outer) (sym is) c in
      lead_on x xs l ls a.0 (One p x.rest) (λ t h. (a.0, a.1, h)) d

  -- a block in front of those that are left: what is left to do in it, and behind it
  nested_back : (test : Bool) (o : FrameKind) (bt : BlockType) (l : Level) (ls : List Level) (new : Blocks)
      → enter_block A test o bt (blocks l ls) ≡ Ok new → (xs : List Part) → Completes xs new.inner new.outer
      → (s : Own) × (entered A test bt l.own ≡ Ok s) × Completes xs (opened A o bt) (with_own l s ∷ ls)
  nested_back test o bt l ls new r xs c =
      let a = bind_ok (entered A test bt l.own) (λ s. Ok (blocks (opened A o bt) (with_own l s ∷ ls))) new r in
      let is = ok_is {E = FaultKind} _ _ a.2 in
      (a.0, a.1, subst (λ (b : Blocks). Completes xs b.inner b.outer) (sym is) c)

  -- a block or a loop in front
  block_back : (kind : BlockKind) (bt : BlockType) (skip : ℕ) (l : Level) (ls : List Level) (new : Blocks)
      → step A locals final (Open kind bt skip) (blocks l ls) ≡ Ok new → (xs : List Part) → Completes xs new.inner new.outer
      → Completes (before (Open kind bt skip) xs) l ls
  block_back kind bt skip l ls new r [] c = absurd c
  block_back kind bt skip l ls new r (x ∷ []) c = absurd (nested_back false (frame_kind_of kind) bt l ls new r (x ∷ []) c).2
  block_back kinds.Block bt skip l ls new r (x ∷ y ∷ ys) c =
      let n = nested_back false frame_kinds.Block bt l ls new r (x ∷ y ∷ ys) c in
      lead_on y ys l ls (pushed (results_of A bt) n.0) (Block kinds.Block bt x.rest y.rest) (λ t h. (n.0, n.2.0, n.1, n.2.1, n.2.2, h)) n.2.4
  block_back kinds.Loop bt skip l ls new r (x ∷ y ∷ ys) c =
      let n = nested_back false frame_kinds.Loop bt l ls new r (x ∷ y ∷ ys) c in
      lead_on y ys l ls (pushed (results_of A bt) n.0) (Block kinds.Loop bt x.rest y.rest) (λ t h. (n.0, n.2.0, n.1, n.2.1, n.2.2, h)) n.2.4

  -- an if in front
  if_back : (bt : BlockType) (skip : ℕ) (l : Level) (ls : List Level) (new : Blocks) → step A locals final (OpenIf bt skip) (blocks l ls) ≡ Ok new
      → (xs : List Part) → Completes xs new.inner new.outer → Completes (before (OpenIf bt skip) xs) l ls
  if_back bt skip l ls new r [] c = absurd c
  if_back bt skip l ls new r (x ∷ []) c = absurd (nested_back true frame_kinds.If bt l ls new r (x ∷ []) c).2
  if_back bt skip l ls new r (x ∷ y ∷ ys) c =
      let n = nested_back true frame_kinds.If bt l ls new r (x ∷ y ∷ ys) c in
      let d = n.2.3 in
      lead_on y ys l ls (pushed (results_of A bt) n.0) (If bt x.rest x.other y.rest) (λ t h. (n.0, n.2.0, d.0, n.1, n.2.1, n.2.2, d.1, d.2, h)) n.2.4

  -- a branch will do for the else of any block
  second_of : (labels : List (List ValType)) (o : FrameKind) (bt : BlockType) (other : Instrs) → IsBranch labels bt other → Second labels o bt other
  second_of labels frame_kinds.If bt other h = h
  second_of labels frame_kinds.Body bt other h = tt
  second_of labels frame_kinds.Block bt other h = tt
  second_of labels frame_kinds.Loop bt other h = tt
  second_of labels frame_kinds.Else bt other h = tt

  -- what is left to do at the end of a branch, where an else branch is still to come
  branch_back : (l m : Level) (ls : List Level) (x : Part) (xs : List Part) → ended (results_of A l.block) l.own ≡ Ok tt
      → Completes (x ∷ xs) (opened A frame_kinds.Else l.block) (m ∷ ls) → Completes (record { rest = Finish; other = x.rest } ∷ xs) l (m ∷ ls)
  branch_back l m ls x [] e c = absurd c
  branch_back l m ls x (y ∷ ys) e c =
      (l.own, refl, e, second_of (labels_of A (blocks m ls)) l.kind l.block x.rest (c.0, c.1, c.2), c.4)

  -- an else in front
  else_back : (skip : ℕ) (l m : Level) (ls : List Level) (new : Blocks) → end_then A (blocks l (m ∷ ls)) ≡ Ok new → (xs : List Part)
      → Completes xs new.inner new.outer → Completes (before (Otherwise skip) xs) l (m ∷ ls)
  else_back skip l m ls new r [] c = absurd c
  else_back skip l m ls new r (x ∷ xs) c =
      let a = bind_ok (ended (results_of A l.block) l.own) (λ u. Ok (blocks (opened A frame_kinds.Else l.block) (m ∷ ls))) new r in
      let is = ok_is {E = FaultKind} _ _ a.2 in
      branch_back l m ls x xs a.1 (subst (λ (b : Blocks). Completes (x ∷ xs) b.inner b.outer) (sym is) c)

  -- an end in front, of a block that needs no else branch
  inner_back : (l m : Level) (ls : List Level) (new : Blocks) → end_inner A l (m ∷ ls) ≡ Ok new
      → Second (labels_of A (blocks m ls)) l.kind l.block Finish → (xs : List Part) → Completes xs new.inner new.outer → Completes (before Close xs) l (m ∷ ls)
  inner_back l m ls new r other [] c = absurd c
  inner_back l m ls new r other (y ∷ ys) c =
      let a = bind_ok (ended (results_of A l.block) l.own) (λ u. Ok (blocks (with_own m (pushed (results_of A l.block) m.own)) ls)) new r in
      let is = ok_is {E = FaultKind} _ _ a.2 in
      (l.own, refl, a.1, other, subst (λ (b : Blocks). Completes (y ∷ ys) b.inner b.outer) (sym is) c)

  -- an end in front, of a block that so began
  end_of_back : (o : FrameKind) (bt : BlockType) (s : Own) (m : Level) (ls : List Level) (new : Blocks)
      → end_block A o (blocks (record { kind = o; block = bt; own = s }) (m ∷ ls)) ≡ Ok new → (xs : List Part) → Completes xs new.inner new.outer
      → Completes (before Close xs) (record { kind = o; block = bt; own = s }) (m ∷ ls)
  end_of_back frame_kinds.Body bt s m ls new r xs c = inner_back (record { kind = frame_kinds.Body; block = bt; own = s }) m ls new r tt xs c
  end_of_back frame_kinds.Block bt s m ls new r xs c = inner_back (record { kind = frame_kinds.Block; block = bt; own = s }) m ls new r tt xs c
  end_of_back frame_kinds.Loop bt s m ls new r xs c = inner_back (record { kind = frame_kinds.Loop; block = bt; own = s }) m ls new r tt xs c
  end_of_back frame_kinds.Else bt s m ls new r xs c = inner_back (record { kind = frame_kinds.Else; block = bt; own = s }) m ls new r tt xs c
  end_of_back frame_kinds.If bt s m ls new r xs c =
      let l : Level = record { kind = frame_kinds.If; block = bt; own = s } in
      let a = bind_ok (end_then A (blocks l (m ∷ ls))) (λ b. end_inner A b.inner b.outer) new r in
      let d = bind_ok (ended (results_of A bt) s) (λ u. Ok (blocks (opened A frame_kinds.Else bt) (m ∷ ls))) a.0 a.1 in
      let is = ok_is {E = FaultKind} _ _ d.2 in
      let e : end_inner A (opened A frame_kinds.Else bt) (m ∷ ls) ≡ Ok new = subst (λ (b : Blocks). end_inner A b.inner b.outer ≡ Ok new) (sym is) a.2 in
      branch_back l m ls (record { rest = Finish; other = Finish }) xs d.1 (inner_back (opened A frame_kinds.Else bt) m ls new e tt xs c)

  -- one token in front, with the algorithm's blocks taken apart
  back : (ks next : List Bool) (t : Tok) (l : Level) (ls : List Level) (new : Blocks) → Matches ks l ls → after t ks ≡ Some next → MayStand t ks
      → step A locals final t (blocks l ls) ≡ Ok new → (xs : List Part) → Completes xs new.inner new.outer → Completes (before t xs) l ls
  back ks next (Simple p) l ls new h e may r xs c = one_back p l ls new r xs c
  back ks next (Open kind bt skip) l ls new h e may r xs c = block_back kind bt skip l ls new r xs c
  back ks next (OpenIf bt skip) l ls new h e may r xs c = if_back bt skip l ls new r xs c
  back [] next (Otherwise skip) l ls new h e may r xs c = absurd may
  back (k ∷ ks) next (Otherwise skip) l [] new h e may r xs c = absurd h
  back (k ∷ ks) next (Otherwise skip) l (m ∷ ls) new h e may r xs c = else_back skip l m ls new r xs c
  back [] next Close l ls new h e may r xs c = absurd cc
  back (k ∷ ks) next Close l [] new h e may r xs c = absurd h
  back (k ∷ ks) next Close l (m ∷ ls) new h e may r xs c = end_of_back l.kind l.block l.own m ls new r xs c

  -- where the algorithm goes over a token, and what is left behind the token has no fault, what is left in front of it has none
  pub step_back : (ks next : List Bool) (t : Tok) (b new : Blocks) → Matches ks b.inner b.outer → after t ks ≡ Some next → MayStand t ks
      → step A locals final t b ≡ Ok new → (xs : List Part) → Completes xs new.inner new.outer → Completes (before t xs) b.inner b.outer
  step_back ks next t b new h e may r xs c = back ks next t b.inner b.outer new h e may r xs c

  -- ---- the end and the beginning

  -- nothing is left in front of the last end
  pub end_back : (l : Level) (outer : List Level) → Matches [] l outer → ended final l.own ≡ Ok tt → Completes (before Close []) l outer
  end_back l [] h e = (l.own, refl, e)
  end_back l (m ∷ ls) h e = absurd h

  -- at the beginning no block is open
  pub begins_matches : (bt : BlockType) → Matches [] (body_of bt).inner (body_of bt).outer
  begins_matches bt = refl

  -- where nothing that is left at the beginning has a fault, the instructions are typed without one
  pub begins_back : (bt : BlockType) → final ≡ results_of A bt → (xs : List Part) → Completes xs (body_of bt).inner (body_of bt).outer
      → code_result A locals final (first_part xs) ≡ Ok tt
  begins_back bt is [] c = absurd c
  begins_back bt is (x ∷ []) c =
      let leads : Leads (final ∷ []) x.rest fresh c.0 = subst (λ (ts : List ValType). Leads (ts ∷ []) x.rest fresh c.0) (sym is) c.1 in
      let e = leads_typed x.rest (final ∷ []) 0 fresh c.0 leads in
      rw (e, c.2) refl
  begins_back bt is (x ∷ y ∷ ys) c = absurd c
