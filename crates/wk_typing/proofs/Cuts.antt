-- How the moves of the stacks cut the operand stack.
use Rattle.std.proofs.Common.{◌≡◌, ℕ, zero, suc, ◌+◌, ◌-◌, ◌<◌, ◌≤◌, true, false, List, [], ◌∷◌, ◌++◌, length, take, drop, reverse, get_or, Ok, Err, Option}
use Rattle.std.proofs.Common.{Some, None, IsTrue, nat_eq, refl, sym, ap, ◌∙◌, subst, arith, length-append}
use Rattle.std.specs.Prelude.{slice_get, set, Result}
use Rattle.wk_bytes.specs.Leb.{◌>>=◌}
use Rattle.wk_bytes.specs.LebLaws.{ok_is}
use Rattle.wk_typing.specs.declared.fault.FaultKind.{FaultKind}
use Rattle.std.proofs.lemmas.List.{reverse-append, length-reverse, take-append-drop, drop_at, length-take, length-drop, length-set, take_all, take_more}
use Rattle.std.proofs.lemmas.List.{take_more_set, get_or-take, get_or-reverse}
use Rattle.std.proofs.lemmas.Option.{slice_get_past, slice_get-get_or}
use Rattle.wk_typing.specs.Slots.{Slot, AnyType, fits}
use Rattle.wk_typing.specs.declared.fault.FaultKind.TheVariants.{StackUnderflow}
use Rattle.wk_typing.specs.declared.stacks.FrameKind.{FrameKind}
use Rattle.wk_body.specs.declared.types.BlockType.{BlockType}
use Rattle.wk_typing.specs.declared.stacks.Frame.{Frame}
use Rattle.wk_typing.specs.Own.{Own, stopped, is_empty, popped_any, checked, top_of}
use Rattle.std.proofs.lemmas.Bool.Decides.{nat_tests}
use Rattle.wk_typing.specs.Levels.{Blocks, blocks, with_top}
use Rattle.wk_typing.specs.Cuts.{level_of, levels_of, blocks_of, Cuts}
use Rattle.wk_typing.specs.Moves.{pushed_on, ctrl_popped, unreachable_on, Pops, popped_on, popped_by, unop_on, binop_on, own_is_empty, head_in, head_at}

pub reverse_push : {A : Type 0} (xs : List A) (x : A) → reverse (xs ++ x ∷ []) ≡ x ∷ reverse xs
reverse_push xs x = reverse-append xs (x ∷ [])

gap_pushed : (n h : ℕ) → h ≤ n → suc n - h ≡ suc (n - h)
gap_pushed n h le = omega arith

drop_pushed : (h : ℕ) (x : Slot) (xs : List Slot) → h ≤ length xs → drop (length (x ∷ xs) - h) (x ∷ xs) ≡ drop (length xs - h) xs
drop_pushed h x xs le = ap (λ n. drop n (x ∷ xs)) (gap_pushed (length xs) h le)

take_pushed : (h : ℕ) (x : Slot) (xs : List Slot) → h ≤ length xs → take (length (x ∷ xs) - h) (x ∷ xs) ≡ x ∷ take (length xs - h) xs
take_pushed h x xs le = ap (λ n. take n (x ∷ xs)) (gap_pushed (length xs) h le)

levels_pushed : (f : Frame) (fs : List Frame) (xs : List Slot) (x : Slot) → f.height ≤ length xs → blocks_of f fs (x ∷ xs) ≡ pushed_on x (blocks_of f fs xs)
levels_pushed f fs xs x le =
    ap (λ ys. blocks (level_of f ys) (levels_of fs (drop (length (x ∷ xs) - f.height) (x ∷ xs)))) (take_pushed f.height x xs le)
    ∙ ap (λ ys. blocks (level_of f (x ∷ take (length xs - f.height) xs)) (levels_of fs ys)) (drop_pushed f.height x xs le)

module _ (f : Frame) (fs : List Frame) (xs ys : List Slot) (x : Slot) (st : Blocks) (is : blocks_of f fs (reverse xs) ≡ st)
    (cuts : Cuts (f ∷ fs) (reverse xs)) where
  -- a push
  pub push_cuts : ys ≡ xs ++ x ∷ [] → Cuts (f ∷ fs) (reverse ys)
  push_cuts e =
      subst (Cuts (f ∷ fs)) (sym (ap reverse e ∙ reverse_push xs x))
      (omega (arith, cuts.0), subst (Cuts fs) (sym (drop_pushed f.height x (reverse xs) cuts.0)) cuts.1)

  pub push_levels : ys ≡ xs ++ x ∷ [] → blocks_of f fs (reverse ys) ≡ pushed_on x st
  push_levels e =
      ap (blocks_of f fs) (ap reverse e ∙ reverse_push xs x) ∙ levels_pushed f fs (reverse xs) x cuts.0 ∙ ap (pushed_on x) is

  -- a pop
  pop_height : xs ≡ ys ++ x ∷ [] → f.height < length xs → f.height ≤ length (reverse ys)
  pop_height e lt = omega (arith, length-reverse ys, ap length e, length-append ys (x ∷ []))

  pub pop_cuts : xs ≡ ys ++ x ∷ [] → f.height < length xs → Cuts (f ∷ fs) (reverse ys)
  pop_cuts e lt =
      let c = subst (Cuts (f ∷ fs)) (ap reverse e ∙ reverse_push ys x) cuts in
      (pop_height e lt, subst (Cuts fs) (drop_pushed f.height x (reverse ys) (pop_height e lt)) c.1)

  pub pop_levels : xs ≡ ys ++ x ∷ [] → f.height < length xs → Pops (popped_on popped_any st) (Ok x) (blocks_of f fs (reverse ys))
  pop_levels e lt =
      let new = blocks_of f fs (reverse ys) in
      let was : pushed_on x new ≡ st =
      sym (ap (blocks_of f fs) (ap reverse e ∙ reverse_push ys x) ∙ levels_pushed f fs (reverse ys) x (pop_height e lt)) ∙ is in
      let P : Blocks → Type 0 = λ s. Pops (popped_on popped_any s) (Ok x) new in
      subst P was refl

-- what is popped, where it fits what is wanted
popped_fits : (want x : Slot) (st mid : Blocks) (m : Result (Slot × Own) FaultKind) → popped_by m st ≡ Ok (x, mid) → fits want x ≡ true
    → popped_by (m >>= λ p. checked (fits want p.0) p) st ≡ Ok (x, mid)
popped_fits want x st mid (Ok p) e fit =
    let top : p.0 ≡ x = ap (λ (q : Slot × Blocks). q.0) (ok_is {E = FaultKind} _ _ e) in
    rw (ap (fits want) top ∙ fit) e
popped_fits want x st mid (Err k) e fit = absurd cc

-- another operand in the place of the last one
module _ (f : Frame) (fs : List Frame) (xs zs : List Slot) (n : ℕ) (x g : Slot) (st : Blocks)
    (is : blocks_of f fs (reverse xs) ≡ st) (cuts : Cuts (f ∷ fs) (reverse xs))
    (lt : f.height < length xs) (last : n + 1 ≡ length xs) (at : x ≡ get_or xs n x) (put : zs ≡ set xs n g) where
  abbrev beneath : List Slot
  beneath = take n xs

  was : xs ≡ beneath ++ x ∷ []
  was = sym (take_all (n + 1) xs (omega (arith, last))) ∙ take_more xs n x (omega (arith, last)) ∙ ap (λ y. beneath ++ y ∷ []) (sym at)

  becomes : zs ≡ beneath ++ g ∷ []
  becomes = put ∙ sym (take_all (n + 1) (set xs n g) (omega (arith, last, length-set xs n g))) ∙ take_more_set xs n g (omega (arith, last))

  beneath_cuts : Cuts (f ∷ fs) (reverse beneath)
  beneath_cuts = pop_cuts f fs xs beneath x st is cuts was lt

  pub unop_cuts : Cuts (f ∷ fs) (reverse zs)
  unop_cuts = push_cuts f fs beneath zs g (blocks_of f fs (reverse beneath)) refl beneath_cuts becomes

  -- which fits
  pub unop_levels : (want : Slot) → fits want x ≡ true → unop_on want g st ≡ Ok (blocks_of f fs (reverse zs))
  unop_levels want fit =
      let mid = blocks_of f fs (reverse beneath) in
      ap (λ r. r >>= λ p. Ok (pushed_on g (p.1))) (popped_fits want x st mid (popped_any st.inner.own) (pop_levels f fs xs beneath x st is cuts was lt) fit)
      ∙ ap Ok (sym (push_levels f fs beneath zs g mid refl beneath_cuts becomes))

-- another operand in the place of the last two
module _ (f : Frame) (fs : List Frame) (xs ys zs : List Slot) (n : ℕ) (x y g : Slot) (st : Blocks)
    (is : blocks_of f fs (reverse xs) ≡ st) (cuts : Cuts (f ∷ fs) (reverse xs))
    (le : f.height + 2 ≤ length xs) (last : n + 2 ≡ length xs) (at : x ≡ get_or xs (n + 1) x) (below : y ≡ get_or xs n y)
    (cut : ys ≡ take (n + 1) xs) (put : zs ≡ set ys n g) where
  parted : xs ≡ ys ++ x ∷ []
  parted =
      sym (take_all (n + 1 + 1) xs (omega (arith, last))) ∙ take_more xs (n + 1) x (omega (arith, last))
      ∙ ap (λ z. take (n + 1) xs ++ z ∷ []) (sym at)
      ∙ ap (λ w. w ++ x ∷ []) (sym cut)

  one_less : n + 1 ≡ length ys
  one_less = omega (arith, last, ap length cut, length-take (n + 1) xs)

  still : y ≡ get_or ys n y
  still = below ∙ sym (get_or-take (n + 1) xs n y (omega arith)) ∙ ap (λ w. get_or w n y) (sym cut)

  shorter_cuts : Cuts (f ∷ fs) (reverse ys)
  shorter_cuts = pop_cuts f fs xs ys x st is cuts parted (omega (arith, le))

  higher : f.height < length ys
  higher = omega (arith, le, last, one_less)

  pub binop_cuts : Cuts (f ∷ fs) (reverse zs)
  binop_cuts = unop_cuts f fs ys zs n y g (blocks_of f fs (reverse ys)) refl shorter_cuts higher one_less still put

  pub binop_levels : (want : Slot) → fits want x ≡ true → fits want y ≡ true → binop_on want g st ≡ Ok (blocks_of f fs (reverse zs))
  binop_levels want fit fit' =
      let mid = blocks_of f fs (reverse ys) in
      let popped = pop_levels f fs xs ys x st is cuts parted (omega (arith, le)) in
      ap (λ r. r >>= λ p. unop_on want g (p.1)) (popped_fits want x st mid (popped_any st.inner.own) popped fit)
      ∙ unop_levels f fs ys zs n y g mid refl shorter_cuts higher one_less still put want fit'

module _ (f : Frame) (fs : List Frame) (xs : List Slot) (st : Blocks) (is : blocks_of f fs (reverse xs) ≡ st) (le : length xs ≤ f.height) where
  no_gap_left : length (reverse xs) - f.height ≡ 0
  no_gap_left = omega (arith, length-reverse xs)

  own_items : take (length (reverse xs) - f.height) (reverse xs) ≡ []
  own_items = ap (λ n. take n (reverse xs)) no_gap_left

  pub pop_unreachable : f.unreachable ≡ true → Pops (popped_on popped_any st) (Ok AnyType) st
  pop_unreachable e =
      let b = blocks_of f fs (reverse xs) in
      let top : popped_any b.inner.own ≡ Ok (AnyType, stopped) = ap (λ ys. top_of f.unreachable ys) own_items ∙ ap (λ d. top_of d []) e in
      let same : b ≡ with_top stopped b = ap (λ ys. with_top (record { items = ys; dead = f.unreachable }) b) own_items
      ∙ ap (λ d. with_top (record { items = []; dead = d }) b) e in
      let P : Blocks → Type 0 = λ s. Pops (popped_on popped_any s) (Ok AnyType) s in
      subst P is (ap (λ r. popped_by r b) top ∙ ap (λ z. Ok (AnyType, z)) (sym same))

  pub pop_reachable : f.unreachable ≡ false → Pops (popped_on popped_any st) (Err StackUnderflow) st
  pop_reachable e =
      let b = blocks_of f fs (reverse xs) in
      let top : popped_any b.inner.own ≡ Err StackUnderflow = ap (λ ys. top_of f.unreachable ys) own_items ∙ ap (λ d. top_of d []) e in
      let P : Blocks → Type 0 = λ s. Pops (popped_on popped_any s) (Err StackUnderflow) s in
      subst P is (ap (λ r. popped_by r b) top)

-- the operands below a height
reverse_take : (xs : List Slot) (h : ℕ) → h ≤ length xs → reverse (take h xs) ≡ drop (length (reverse xs) - h) (reverse xs)
reverse_take xs h le =
    let e : reverse xs ≡ reverse (drop h xs) ++ reverse (take h xs) = ap reverse (sym (take-append-drop h xs)) ∙ reverse-append (take h xs) (drop h xs) in
    let n : length (reverse (drop h xs)) ≡ length (reverse xs) - h = omega (arith, length-reverse (drop h xs), length-reverse xs, length-drop h xs) in
    sym (ap (drop (length (reverse xs) - h)) e ∙ drop_at (reverse (drop h xs)) (reverse (take h xs)) (length (reverse xs) - h) n)

none_above : (xs : List Slot) (h : ℕ) → h ≤ length xs → length (reverse (take h xs)) - h ≡ 0
none_above xs h le = omega (arith, length-reverse (take h xs), length-take h xs)

module _ (f : Frame) (fs : List Frame) (xs : List Slot) (st : Blocks) (is : blocks_of f fs (reverse xs) ≡ st) (cuts : Cuts (f ∷ fs) (reverse xs)) where
  -- becoming unreachable
  height_le : f.height ≤ length xs
  height_le = omega (arith, cuts.0, length-reverse xs)

  abbrev pub unreachable_frame : Frame
  unreachable_frame = record { kind = f.kind; block = f.block; unreachable = true; height = f.height }

  pub unreachable_cuts : (ys : List Slot) → ys ≡ take f.height xs → Cuts (unreachable_frame ∷ fs) (reverse ys)
  unreachable_cuts ys e =
      let t = take f.height xs in
      let none = none_above xs f.height height_le in
      let same : drop (length (reverse t) - f.height) (reverse t) ≡ drop (length (reverse xs) - f.height) (reverse xs) =
      ap (λ n. drop n (reverse t)) none ∙ reverse_take xs f.height height_le in
      let P : List Slot → Type 0 = λ z. Cuts (unreachable_frame ∷ fs) (reverse z) in
      subst P (sym e) (omega (arith, length-reverse t, length-take f.height xs, height_le), subst (Cuts fs) (sym same) cuts.1)

  pub unreachable_levels : (ys : List Slot) → ys ≡ take f.height xs → blocks_of unreachable_frame fs (reverse ys) ≡ unreachable_on st
  unreachable_levels ys e =
      let t = take f.height xs in
      let none = none_above xs f.height height_le in
      let same : drop (length (reverse t) - f.height) (reverse t) ≡ drop (length (reverse xs) - f.height) (reverse xs) =
      ap (λ n. drop n (reverse t)) none ∙ reverse_take xs f.height height_le in
      ap (λ z. blocks_of unreachable_frame fs (reverse z)) e
      ∙ ap (λ n. blocks (level_of unreachable_frame (take n (reverse t))) (levels_of fs (drop (length (reverse t) - f.height) (reverse t)))) none
      ∙ ap (λ z. blocks (level_of unreachable_frame []) (levels_of fs z)) same
      ∙ ap unreachable_on is

  -- closing
  pub pop_ctrl_levels : (gs : List Frame) (g : Frame) → fs ≡ g ∷ gs → IsTrue (own_is_empty st) → blocks_of g gs (reverse xs) ≡ ctrl_popped st
  pop_ctrl_levels gs g e clear =
      let clear' = subst (λ s. IsTrue (own_is_empty s)) (sym is) clear in
      let zero_gap = no_gap (reverse xs) (length (reverse xs) - f.height) (omega arith) clear' in
      ap (λ n. blocks_of g gs (drop n (reverse xs))) (sym zero_gap)
      ∙ ap (λ hs. ctrl_popped (blocks_of f hs (reverse xs))) (sym e)
      ∙ ap ctrl_popped is
    where
      no_gap : (zs : List Slot) (n : ℕ) → n ≤ length zs → IsTrue (is_empty (take n zs)) → n ≡ 0
      no_gap zs zero le h = refl
      no_gap [] (suc n) le h = absurd (omega arith)
      no_gap (z ∷ zs) (suc n) le h = absurd (cc)

-- looking at frames
abbrev head_of : Option Frame → Option (FrameKind × BlockType)
head_of None = None
head_of (Some f) = Some (f.kind, f.block)

head_levels : (fs : List Frame) (xs : List Slot) (n : ℕ) → head_in (levels_of fs xs) n ≡ head_of (slice_get fs n)
head_levels [] xs n = refl
head_levels (f ∷ fs) xs zero = refl
head_levels (f ∷ fs) xs (suc n) = head_levels fs (drop (length xs - f.height) xs) n

module _ (f : Frame) (os : List Frame) (xs : List Slot) (st : Blocks) (is : blocks_of f (reverse os) (reverse xs) ≡ st) where
  pub head_none : (n : ℕ) → length os < n → None ≡ head_at st n
  head_none zero lt = absurd (omega arith)
  head_none (suc n) lt =
      sym (ap (λ s. head_at s (suc n)) (sym is) ∙ head_levels (f ∷ reverse os) (reverse xs) (suc n)
      ∙ ap head_of (slice_get_past (reverse os) n (omega (arith, length-reverse os))))

  pub head_some : (n : ℕ) (g : Frame) → n ≤ length os → 0 < n → g ≡ get_or os (length os - n) g → Some (g.kind, g.block) ≡ head_at st n
  head_some zero g le pos e = absurd (omega arith)
  head_some (suc n) g le pos e =
      let place : length os - 1 - n ≡ length os - suc n = omega arith in
      let lt : n < length os = omega arith in
      let at : slice_get (reverse os) n ≡ Some g = slice_get-get_or (reverse os) n g (omega (arith, length-reverse os))
      ∙ ap Some (get_or-reverse os n g lt ∙ ap (λ k. get_or os k g) place ∙ sym e) in
      sym (ap (λ s. head_at s (suc n)) (sym is) ∙ head_levels (f ∷ reverse os) (reverse xs) (suc n) ∙ ap head_of at)

no_levels : (fs : List Frame) (xs : List Slot) → is_empty (levels_of fs xs) ≡ nat_eq (length fs) 0
no_levels [] xs = refl
no_levels (f ∷ fs) xs = grind (arith, nat_tests)

pub outermost : (f : Frame) (os : List Frame) (xs : List Slot) (st : Blocks) → blocks_of f (reverse os) xs ≡ st → nat_eq (length os) 0 ≡ is_empty st.outer
outermost f os xs st is =
    ap (λ n. nat_eq n 0) (sym (length-reverse os)) ∙ sym (no_levels (reverse os) (drop (length xs - f.height) xs)) ∙ ap (λ s. is_empty s.outer) is
