-- A scratch whose innermost block ends.
use Rattle.std.proofs.Common.{◌≡◌, ℕ, zero, suc, ◌+◌, ◌-◌, ◌<◌, ◌≤◌, true, false, cond, eqb, List, [], ◌∷◌, ◌++◌, length, take, set, get_or, refl, sym, ap, ◌∙◌}
use Rattle.std.proofs.Common.{append_assoc, arith, length-append, ◌⊎◌, inl, inr, subst}
use Rattle.std.specs.List.{AllByRecursion}
use Rattle.std.proofs.Math.Seq.{set-append_seam, get_or-append_seam, take-append_seam}
use Rattle.std.proofs.Math.ListN.{get_or-map}
use Rattle.std.proofs.lemmas.Bool.{eq-eqb, ne_eqb}
use Rattle.std.proofs.lemmas.List.{map-set, take-map, length-map, length-set, length-take, append-nil}
use Rattle.std.proofs.lemmas.List.Elements.{All-set, All-take, All-from_recursion, recursion_from_All}
use Rattle.wk_body.specs.declared.token.Token.{Token}
use Rattle.wk_body.specs.declared.token.Token.TheVariants as kept
use Rattle.wk_body.specs.declared.scratch.Opened.{Opened}
use Rattle.wk_body.specs.declared.scratch.Opened.TheVariants as opened
use Rattle.wk_body.specs.declared.scratch.Scratch.{Scratch}
use Rattle.wk_body.specs.Tree.{Instrs, Finish, Block, If, Tok, Simple, Open, OpenIf, Otherwise, Close, Part, else_part, flatten, tokens_of, append, before}
use Rattle.wk_body.specs.Tree.{over, tree_of}
use Rattle.wk_body.specs.TreeLaws.{over-append, tree_of-flatten}
use Rattle.wk_body.specs.Kept.{told, all_told, IsWithin, skipping, ended, else_ended}
use Rattle.wk_body.specs.Building.{Frame, InBlock, InThen, InElse, written_frame, written_frames, place_of, opened_of, toks_of, Built, Good, GoodWith, Adds}
use Rattle.wk_body.specs.Building.{AddsEnd, Ends}
use Rattle.wk_body.proofs.Built.{flatten-append, all-push, told-push, over-push, kinds-push}

-- ---- tokens that are changed in place

pub re_skip : Tok → ℕ → Tok
re_skip (Simple p) n = Simple p
re_skip (Open kind ty skip) n = Open kind ty n
re_skip (OpenIf ty skip) n = OpenIf ty n
re_skip (Otherwise skip) n = Otherwise n
re_skip Close n = Close

told-skipping : (pool : List ℕ) (t : Token) (n : ℕ) → told pool (skipping t n) ≡ re_skip (told pool t) n
unfolding re_skip
told-skipping pool (kept.Block ty skip) n = refl
told-skipping pool t n = refl

within-skipping : (len : ℕ) (t : Token) (n : ℕ) → IsWithin len t → IsWithin len (skipping t n)
within-skipping len (kept.Block ty skip) n h = h
within-skipping len t n h = h

get-all : {X : Type 0} (P : X → Type 0) (xs : List X) (i : ℕ) (d : X) → AllByRecursion P xs → P d → P (get_or xs i d)
get-all P [] i d h p = p
get-all P (x ∷ xs) zero d h p = h.0
get-all P (x ∷ xs) (suc i) d h p = get-all P xs i d h.1 p

set-all : {X : Type 0} (P : X → Type 0) (xs : List X) (i : ℕ) (y : X) → AllByRecursion P xs → P y → AllByRecursion P (set xs i y)
set-all P xs i y h p = recursion_from_All P (set xs i y) (All-set P xs i y p (All-from_recursion P xs h))

take-all : {X : Type 0} (P : X → Type 0) (n : ℕ) (xs : List X) → AllByRecursion P xs → AllByRecursion P (take n xs)
take-all P n xs h = recursion_from_All P (take n xs) (All-take P n xs (All-from_recursion P xs h))

told_set : (pool : List ℕ) (ts : List Token) (place n : ℕ) → all_told pool (set ts place (skipping (get_or ts place kept.End) n))
    ≡ set (all_told pool ts) place (re_skip (get_or (all_told pool ts) place Close) n)
told_set pool ts place n = map-set (told pool) ts place (skipping (get_or ts place kept.End) n)
    ∙ ap (set (all_told pool ts) place)
    (told-skipping pool (get_or ts place kept.End) n ∙ ap (λ (t : Tok). re_skip t n) (sym (get_or-map (told pool) ts place kept.End)))

at_seam : (whole a b : List Tok) (t : Tok) (place n : ℕ) → whole ≡ a ++ t ∷ b → length a ≡ place
    → set whole place (re_skip (get_or whole place Close) n) ≡ a ++ re_skip t n ∷ b
at_seam whole a b t place n e h = rw (e, ← h, get_or-append_seam a t b Close) (set-append_seam a t b (re_skip t n))

pub ended_told : (pool : List ℕ) (ts : List Token) (place : ℕ) (a b : List Tok) (t : Tok) → all_told pool ts ≡ a ++ t ∷ b → length a ≡ place
    → all_told pool (ended ts place) ≡ a ++ re_skip t (length b) ∷ (b ++ Close ∷ [])
ended_told pool ts place a b t e h =
    let long : length ts ≡ length a + suc (length b) = sym (length-map ts (told pool)) ∙ ap (length {A = Tok}) e ∙ length-append a (t ∷ b) in
    let n : length ts - place - 1 ≡ length b = omega arith in
    told-push pool (set ts place (skipping (get_or ts place kept.End) (length ts - place - 1))) kept.End
    ∙ ap (λ (w : List Tok). w ++ Close ∷ [])
    (told_set pool ts place (length ts - place - 1) ∙ at_seam (all_told pool ts) a b t place (length ts - place - 1) e h)
    ∙ ap (λ (k : ℕ). (a ++ re_skip t k ∷ b) ++ Close ∷ []) n ∙ append_assoc a (re_skip t (length b) ∷ b) (Close ∷ [])

pub ended_within : (len : ℕ) (ts : List Token) (place : ℕ) → AllByRecursion (IsWithin len) ts → AllByRecursion (IsWithin len) (ended ts place)
ended_within len ts place h = all-push (IsWithin len) _ kept.End
    (set-all (IsWithin len) ts place _ h
    (within-skipping len (get_or ts place kept.End) (length ts - place - 1) (get-all (IsWithin len) ts place kept.End h tt))) tt

pub ended_length : (ts : List Token) (place : ℕ) → length (ended ts place) ≡ length ts + 1
ended_length ts place = omega (
  arith,
  length-append (set ts place (skipping (get_or ts place kept.End) (length ts - place - 1))) (kept.End ∷ []),
  length-set ts place (skipping (get_or ts place kept.End) (length ts - place - 1)),
)

pub else_told : (pool : List ℕ) (ts : List Token) (place : ℕ) (a b : List Tok) → all_told pool ts ≡ a ++ Otherwise 0 ∷ b → length a ≡ place
    → all_told pool (else_ended ts place) ≡ a ++ else_part b
unfolding re_skip
else_told pool ts place a [] e h =
    let long : length ts ≡ length a + 1 = sym (length-map ts (told pool)) ∙ ap (length {A = Tok}) e ∙ length-append a (Otherwise 0 ∷ []) in
    let test : eqb (length ts - place - 1) 0 ≡ true = eq-eqb (length ts - place - 1) 0 (omega arith) in
    rw test (sym (take-map (told pool) place ts) ∙ rw (e, ← h) (take-append_seam a (Otherwise 0 ∷ []) ∙ sym (append-nil a)))
else_told pool ts place a (t ∷ b) e h =
    let long : length ts ≡ length a + suc (suc (length b)) =
    sym (length-map ts (told pool)) ∙ ap (length {A = Tok}) e ∙ length-append a (Otherwise 0 ∷ t ∷ b) in
    let n : length ts - place - 1 ≡ suc (length b) = omega arith in
    let test : eqb (length ts - place - 1) 0 ≡ false = ne_eqb (length ts - place - 1) 0 (λ z. omega arith) in
    rw test (told_set pool ts place (length ts - place - 1) ∙ at_seam (all_told pool ts) a (t ∷ b) (Otherwise 0) place (length ts - place - 1) e h
    ∙ ap (λ (k : ℕ). a ++ Otherwise k ∷ t ∷ b) n)

pub else_within : (len : ℕ) (ts : List Token) (place : ℕ) → AllByRecursion (IsWithin len) ts → AllByRecursion (IsWithin len) (else_ended ts place)
else_within len ts place h =
    elim (eqb (length ts - place - 1) 0)
    as (λ b. AllByRecursion (IsWithin len) (cond b (take place ts) (set ts place (skipping (get_or ts place kept.End) (length ts - place - 1))))) [
      | true ↦ take-all (IsWithin len) place ts h
      | false ↦ set-all (IsWithin len) ts place _ h
          (within-skipping len (get_or ts place kept.End) (length ts - place - 1) (get-all (IsWithin len) ts place kept.End h tt))
    ]

-- ---- the innermost frame

snoc_eq : {A : Type 0} (xs ys : List A) (x y : A) → xs ++ x ∷ [] ≡ ys ++ y ∷ [] → (xs ≡ ys) × (x ≡ y)
snoc_eq [] [] x y e = (refl, cc)
snoc_eq [] (b ∷ []) x y e = absurd cc
snoc_eq [] (b ∷ c ∷ ys) x y e = absurd cc
snoc_eq (a ∷ []) [] x y e = absurd cc
snoc_eq (a ∷ d ∷ xs) [] x y e = absurd cc
snoc_eq {A} (a ∷ xs) (b ∷ ys) x y e =
    let t : xs ++ x ∷ [] ≡ ys ++ y ∷ [] = cc in
    let same : a ≡ b = cc in
    let r = snoc_eq xs ys x y t in
    let k : (a ∷ xs) ≡ (b ∷ ys) = let q : xs ≡ ys = r.0 in cc in
    (k, r.1)

-- what the frames are where a block is open
pub record Innermost (pool : List ℕ) (tokens : List Token) (blocks : List Opened) (o : Opened) (current : Instrs) : Type 0 where
  pub frame : Frame
  pub outer : List Frame
  pub written : all_told pool tokens ≡ (written_frames outer ++ written_frame frame) ++ flatten current
  pub blocks_are : blocks ≡ opened_of outer
  pub place : place_of (length (written_frames outer)) frame ≡ o

pub innermost : (pool : List ℕ) (tokens : List Token) (blocks : List Opened) (o : Opened) (frames : List Frame) (current : Instrs)
    → Built pool tokens (blocks ++ o ∷ []) frames current → Innermost pool tokens blocks o current
innermost pool tokens blocks o [] current b = absurd (omega (arith, ap (length {A = Opened}) b.places, length-append blocks (o ∷ [])))
innermost pool tokens blocks o (f ∷ fs) current b =
    let s = snoc_eq blocks (opened_of fs) o (place_of (length (written_frames fs)) f) b.places in
    record { frame = f; outer = fs; written = b.written; blocks_are = s.0; place = sym s.1 }

-- ---- an end

before-skip : (t : Tok) (n : ℕ) (ys : List Part) → before (re_skip t n) ys ≡ before t ys
unfolding re_skip
before-skip (Open kind ty skip) n (x ∷ y ∷ ys) = refl
before-skip (OpenIf ty skip) n (x ∷ y ∷ ys) = refl
before-skip (Otherwise skip) n (x ∷ xs) = refl
before-skip t n ys = refl

over_ended : (a b : List Tok) (t : Tok) (n : ℕ) (xs : List Part) → over (a ++ re_skip t n ∷ (b ++ Close ∷ [])) xs ≡ over (a ++ t ∷ b) (before Close xs)
over_ended a b t n xs =
    over-append a (re_skip t n ∷ (b ++ Close ∷ [])) xs
    ∙ ap (over a) (before-skip t n (over (b ++ Close ∷ []) xs) ∙ ap (before t) (over-append b (Close ∷ []) xs))
    ∙ sym (over-append a (t ∷ b) (before Close xs))

over_else : (a c : List Tok) (xs : List Part) → over (a ++ else_part c) (before Close xs) ≡ over (a ++ Otherwise 0 ∷ c) (before Close xs)
unfolding re_skip
over_else a [] xs = over-append a [] (before Close xs) ∙ sym (over-append a (Otherwise 0 ∷ []) (before Close xs))
over_else a (t ∷ c) xs = over-append a (Otherwise (suc (length c)) ∷ t ∷ c) (before Close xs)
    ∙ ap (over a) (before-skip (Otherwise 0) (suc (length c)) (over (t ∷ c) (before Close xs))) ∙ sym (over-append a (Otherwise 0 ∷ t ∷ c) (before Close xs))

-- tokens whose innermost block has ended
pub record Closed (pool : List ℕ) (tokens after_end : List Token) (outer : List Frame) (place : ℕ) : Type 0 where
  pub tree : Instrs
  pub inside : place < length tokens
  pub written : all_told pool after_end ≡ written_frames outer ++ flatten tree
  pub parts : (xs : List Part) → over (all_told pool after_end) xs ≡ over (all_told pool tokens) (before Close xs)

regroup : (w f c : List Tok) (t : Tok) → (w ++ (f ++ t ∷ [])) ++ c ≡ (w ++ f) ++ t ∷ c
regroup w f c t = simp append_assoc

-- a block or an if without an else, whose first token is t
one_closed : (pool : List ℕ) (tokens : List Token) (outer : List Frame) (place : ℕ) (front whole : Instrs) (t : Tok) (current : List Tok)
    → all_told pool tokens ≡ (written_frames outer ++ (flatten front ++ t ∷ [])) ++ current → place ≡ length (written_frames outer) + length (flatten front)
    → flatten whole ≡ re_skip t (length current) ∷ (current ++ Close ∷ []) → Closed pool tokens (ended tokens place) outer place
one_closed pool tokens outer place front whole t current e h w =
    let a = written_frames outer ++ flatten front in
    let at : length a ≡ place = omega (arith, length-append (written_frames outer) (flatten front)) in
    let e2 : all_told pool tokens ≡ a ++ t ∷ current = e ∙ regroup (written_frames outer) (flatten front) current t in
    let f : all_told pool (ended tokens place) ≡ a ++ re_skip t (length current) ∷ (current ++ Close ∷ []) = ended_told pool tokens place a current t e2 at in
    record {
      tree = append front whole;
      inside = omega (arith, sym (length-map tokens (told pool)) ∙ ap (length {A = Tok}) e2 ∙ length-append a (t ∷ current));
      written = f ∙ append_assoc (written_frames outer) (flatten front) (re_skip t (length current) ∷ (current ++ Close ∷ []))
          ∙ ap (λ (r : List Tok). written_frames outer ++ r) (ap (λ (r : List Tok). flatten front ++ r) (sym w) ∙ sym (flatten-append front whole));
      parts = λ xs. rw (f, e2) (over_ended a current t (length current) xs);
    }

-- what is open at a place is a block, or an if that has no else yet
abbrev pub IsPlainAt : ℕ → Opened → Type 0
IsPlainAt place o = (o ≡ opened.Block place) ⊎ (o ≡ opened.Then place)

plain_closed : (pool : List ℕ) (tokens : List Token) (outer : List Frame) (current : Instrs) (place : ℕ) (frame : Frame)
    → all_told pool tokens ≡ (written_frames outer ++ written_frame frame) ++ flatten current
    → IsPlainAt place (place_of (length (written_frames outer)) frame) → Closed pool tokens (ended tokens place) outer place
unfolding re_skip
plain_closed pool tokens outer current place (InBlock kind ty front) e (inl h) =
    one_closed pool tokens outer place front (Block kind ty current Finish) (Open kind ty 0) (flatten current) e (cc) refl
plain_closed pool tokens outer current place (InThen ty front) e (inr h) =
    one_closed pool tokens outer place front (If ty current Finish Finish) (OpenIf ty 0) (flatten current) e (cc)
    (ap (λ (r : List Tok). OpenIf ty (length r) ∷ (r ++ Close ∷ [])) (append-nil (flatten current)))
plain_closed pool tokens outer current place (InBlock kind ty front) e (inr h) = absurd cc
plain_closed pool tokens outer current place (InThen ty front) e (inl h) = absurd cc
plain_closed pool tokens outer current place (InElse ty front first) e (inl h) = absurd cc
plain_closed pool tokens outer current place (InElse ty front first) e (inr h) = absurd cc

regroup_else : (w f g : List Tok) (s t : Tok) (c : List Tok) → (w ++ (f ++ s ∷ (g ++ t ∷ []))) ++ c ≡ ((w ++ f) ++ s ∷ g) ++ t ∷ c
regroup_else w f g s t c = simp append_assoc

pub record ElseClosed (pool : List ℕ) (tokens : List Token) (outer : List Frame) (place other : ℕ) : Type 0 where
  pub inside : other < length tokens
  pub closed : Closed pool (else_ended tokens other) (ended (else_ended tokens other) place) outer place
  pub parts : (xs : List Part) → over (all_told pool (else_ended tokens other)) (before Close xs) ≡ over (all_told pool tokens) (before Close xs)

pub else_closed : (pool : List ℕ) (tokens : List Token) (outer : List Frame) (current : Instrs) (place other : ℕ) (frame : Frame)
    → all_told pool tokens ≡ (written_frames outer ++ written_frame frame) ++ flatten current
    → place_of (length (written_frames outer)) frame ≡ opened.Else place other → ElseClosed pool tokens outer place other
unfolding re_skip
else_closed pool tokens outer current place other (InBlock kind ty front) e h = absurd cc
else_closed pool tokens outer current place other (InThen ty front) e h = absurd cc
else_closed pool tokens outer current place other (InElse ty front first) e h =
    let w = written_frames outer in
    let p : length w + length (flatten front) ≡ place = cc in
    let o : length w + length (flatten front) + 1 + length (flatten first) ≡ other = cc in
    let a = (w ++ flatten front) ++ OpenIf ty 0 ∷ flatten first in
    let at : length a ≡ other = omega (arith, length-append (w ++ flatten front) (OpenIf ty 0 ∷ flatten first), length-append w (flatten front)) in
    let e2 : all_told pool tokens ≡ a ++ Otherwise 0 ∷ flatten current =
    e ∙ regroup_else w (flatten front) (flatten first) (OpenIf ty 0) (Otherwise 0) (flatten current) in
    let f : all_told pool (else_ended tokens other) ≡ a ++ else_part (flatten current) = else_told pool tokens other a (flatten current) e2 at in
    let g : all_told pool (else_ended tokens other) ≡ (w ++ (flatten front ++ OpenIf ty 0 ∷ [])) ++ (flatten first ++ else_part (flatten current)) =
    f ∙ append_assoc (w ++ flatten front) (OpenIf ty 0 ∷ flatten first) (else_part (flatten current))
    ∙ sym (regroup w (flatten front) (flatten first ++ else_part (flatten current)) (OpenIf ty 0)) in
    record {
      inside = omega (arith, sym (length-map tokens (told pool)) ∙ ap (length {A = Tok}) e2 ∙ length-append a (Otherwise 0 ∷ flatten current));
      closed = one_closed pool (else_ended tokens other) outer place front (If ty first current Finish) (OpenIf ty 0)
          (flatten first ++ else_part (flatten current)) g (sym p) refl;
      parts = λ xs. rw (f, e2) (over_else a (flatten current) xs);
    }

else_length : (ts : List Token) (other : ℕ) → length (else_ended ts other) ≤ length ts
else_length ts other =
    elim (eqb (length ts - other - 1) 0)
    as (λ b. length (cond b (take other ts) (set ts other (skipping (get_or ts other kept.End) (length ts - other - 1)))) ≤ length ts) [
      | true ↦ omega (arith, length-take other ts)
      | false ↦ omega (arith, length-set ts other (skipping (get_or ts other kept.End) (length ts - other - 1)))
    ]

-- the scratch's part is the same for each of them
adds_end : (old new : Scratch) (outer : List Frame) (t : Instrs) → new.labels.items ≡ old.labels.items → new.blocks.items ≡ old.blocks.items
    → old.blocks.items ≡ opened_of outer → all_told old.labels.items new.tokens.items ≡ written_frames outer ++ flatten t
    → AllByRecursion (IsWithin (length old.labels.items)) new.tokens.items → length new.tokens.items ≤ length old.tokens.items + 1
    → ((xs : List Part) → over (all_told old.labels.items new.tokens.items) xs ≡ over (toks_of old) (before Close xs)) → AddsEnd old new
adds_end old new outer t l b p w i n parts = record {
  good = record { frames = outer; current = t; built = record { written = rw l w; places = b ∙ p; within = rw l i } };
  parts = rw l parts;
  blocks = b;
  size = rw l (omega arith);
}

pub ends_plain : (old new : Scratch) (o : Opened) (place : ℕ) → IsPlainAt place o → GoodWith old o → new.labels.items ≡ old.labels.items
    → new.blocks.items ≡ old.blocks.items → new.tokens.items ≡ ended old.tokens.items place → AddsEnd old new
ends_plain old new o place is good l b e =
    let i = innermost old.labels.items old.tokens.items old.blocks.items o good.frames good.current good.built in
    let c = plain_closed old.labels.items old.tokens.items i.outer good.current place i.frame i.written (subst (IsPlainAt place) (sym i.place) is) in
    adds_end old new i.outer c.tree l b i.blocks_are (rw e c.written)
    (rw e (ended_within (length old.labels.items) old.tokens.items place good.built.within))
    (rw e (omega (arith, ended_length old.tokens.items place))) (rw e c.parts)

pub ends_else : (old new : Scratch) (place other : ℕ) → GoodWith old (opened.Else place other) → new.labels.items ≡ old.labels.items
    → new.blocks.items ≡ old.blocks.items → new.tokens.items ≡ ended (else_ended old.tokens.items other) place → AddsEnd old new
ends_else old new place other good l b e =
    let i = innermost old.labels.items old.tokens.items old.blocks.items (opened.Else place other) good.frames good.current good.built in
    let c = else_closed old.labels.items old.tokens.items i.outer good.current place other i.frame i.written i.place in
    adds_end old new i.outer c.closed.tree l b i.blocks_are (rw e c.closed.written)
    (rw e (ended_within (length old.labels.items) (else_ended old.tokens.items other) place
    (else_within (length old.labels.items) old.tokens.items other good.built.within)))
    (rw e (omega (arith, ended_length (else_ended old.tokens.items other) place, else_length old.tokens.items other)))
    (λ xs. rw e (c.closed.parts xs ∙ c.parts xs))

-- where the open block's tokens stand
pub plain_inside : (b : Scratch) (o : Opened) (place : ℕ) → IsPlainAt place o → GoodWith b o → place < length b.tokens.items
plain_inside b o place is good =
    let i = innermost b.labels.items b.tokens.items b.blocks.items o good.frames good.current good.built in
    (plain_closed b.labels.items b.tokens.items i.outer good.current place i.frame i.written (subst (IsPlainAt place) (sym i.place) is)).inside

pub else_inside : (b : Scratch) (place other : ℕ) → GoodWith b (opened.Else place other)
    → (other < length b.tokens.items) × (place < length (else_ended b.tokens.items other))
else_inside b place other good =
    let i = innermost b.labels.items b.tokens.items b.blocks.items (opened.Else place other) good.frames good.current good.built in
    let c = else_closed b.labels.items b.tokens.items i.outer good.current place other i.frame i.written i.place in
    (c.inside, c.closed.inside)

no_frames : (fs : List Frame) → opened_of fs ≡ [] → fs ≡ []
no_frames [] e = refl
no_frames (f ∷ fs) e = absurd (omega (arith, ap (length {A = Opened}) e, length-append (opened_of fs) (place_of (length (written_frames fs)) f ∷ [])))

-- the end that closes no block
pub ends_all : (old new : Scratch) → Good old → new.labels.items ≡ old.labels.items → old.blocks.items ≡ []
    → new.tokens.items ≡ old.tokens.items ++ kept.End ∷ [] → Ends old new
ends_all old new good l none e =
    let f = no_frames good.frames (sym good.built.places ∙ none) in
    let pool = old.labels.items in
    let w : all_told pool new.tokens.items ≡ flatten good.current ++ Close ∷ [] =
    rw e (told-push pool old.tokens.items kept.End ∙ ap (λ (r : List Tok). r ++ Close ∷ [])
    (good.built.written ∙ ap (λ (fs : List Frame). written_frames fs ++ flatten good.current) f)) in
    record {
      none = rw none refl;
      written = rw l (w ∙ ap tokens_of (sym (ap tree_of w ∙ tree_of-flatten good.current)));
      within = rw (l, e) (all-push (IsWithin (length pool)) old.tokens.items kept.End good.built.within tt);
      parts = rw (l, e, told-push pool old.tokens.items kept.End) (over-push (all_told pool old.tokens.items) Close []);
      size = omega (arith, ap (length {A = Token}) e, ap (length {A = ℕ}) l, length-append old.tokens.items (kept.End ∷ []));
    }

-- ---- an else

regroup_started : (w f g : List Tok) (s t : Tok) → (((w ++ (f ++ s ∷ [])) ++ g) ++ t ∷ []) ≡ (w ++ (f ++ s ∷ (g ++ t ∷ []))) ++ []
regroup_started w f g s t = simp append_assoc

then_frame : (pool : List ℕ) (tokens : List Token) (outer : List Frame) (current : Instrs) (place : ℕ) (frame : Frame)
    → all_told pool tokens ≡ (written_frames outer ++ written_frame frame) ++ flatten current
    → place_of (length (written_frames outer)) frame ≡ opened.Then place
    → (next : Frame) × (place_of (length (written_frames outer)) next ≡ opened.Else place (length tokens))
    × (all_told pool (tokens ++ kept.Else 0 ∷ []) ≡ (written_frames outer ++ written_frame next) ++ [])
then_frame pool tokens outer current place (InBlock kind ty front) e h = absurd cc
then_frame pool tokens outer current place (InThen ty front) e h =
    let w = written_frames outer in
    let p : length w + length (flatten front) ≡ place = cc in
    let long : length tokens ≡ length w + length (flatten front) + 1 + length (flatten current) =
    omega (
      arith,
      sym (length-map tokens (told pool)) ∙ ap (length {A = Tok}) e,
      length-append (w ++ (flatten front ++ OpenIf ty 0 ∷ [])) (flatten current),
      length-append w (flatten front ++ OpenIf ty 0 ∷ []),
      length-append (flatten front) (OpenIf ty 0 ∷ []),
    ) in
    let far : length tokens ≡ place + 1 + length (flatten current) = omega (arith, long, p) in (
      InElse ty front current,
      rw p (ap (λ (n : ℕ). opened.Else place n) (sym far)),
      told-push pool tokens (kept.Else 0)
          ∙ ap (λ (r : List Tok). r ++ Otherwise 0 ∷ []) e ∙ regroup_started w (flatten front) (flatten current) (OpenIf ty 0) (Otherwise 0),
    )
then_frame pool tokens outer current place (InElse ty front first) e h = absurd cc

pub else_adds : (old new : Scratch) (blocks : List Opened) (place : ℕ) → Good old → old.blocks.items ≡ blocks ++ opened.Then place ∷ []
    → new.labels.items ≡ old.labels.items → new.tokens.items ≡ old.tokens.items ++ kept.Else 0 ∷ []
    → new.blocks.items ≡ blocks ++ opened.Else place (length old.tokens.items) ∷ [] → Adds old new (Otherwise 0)
else_adds old new blocks place good b l e n =
    let pool = old.labels.items in
    let built : Built pool old.tokens.items (blocks ++ opened.Then place ∷ []) good.frames good.current =
    record { written = good.built.written; places = sym b ∙ good.built.places; within = good.built.within } in
    let i = innermost pool old.tokens.items blocks (opened.Then place) good.frames good.current built in
    let f = then_frame pool old.tokens.items i.outer good.current place i.frame i.written i.place in
    record {
      good = record {
        frames = f.0 ∷ i.outer;
        current = Finish;
        built = record {
          written = rw (l, e) f.2;
          places = n
              ∙ ap (λ (bs : List Opened). bs ++ opened.Else place (length old.tokens.items) ∷ []) i.blocks_are
              ∙ ap (λ (o : Opened). opened_of i.outer ++ o ∷ []) (sym f.1);
          within =
              rw (l, e) (all-push (IsWithin (length pool)) old.tokens.items (kept.Else 0) good.built.within tt);
        };
      };
      parts = λ xs. rw (l, e, told-push pool old.tokens.items (kept.Else 0)) (over-push (all_told pool old.tokens.items) (Otherwise 0) xs);
      kinds = rw (b, n, kinds-push blocks (opened.Then place), kinds-push blocks (opened.Else place (length old.tokens.items))) refl;
      size = rw (l, e) (omega (arith, length-append old.tokens.items (kept.Else 0 ∷ [])));
    }
