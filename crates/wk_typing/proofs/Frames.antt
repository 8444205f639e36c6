-- Only what a body's references find matters.
use Rattle.std.proofs.Common.{◌≡◌, ℕ, suc, ◌+◌, Bool, true, false, List, [], ◌∷◌, ◌++◌, Result, Option, refl, sym, ap, ◌∙◌, arith}
use Rattle.std.specs.List.{AllByRecursion}
use Rattle.wk_bytes.specs.Leb.{◌>>=◌}
use Rattle.wk_body.specs.declared.types.ValType.{ValType}
use Rattle.wk_body.specs.declared.types.ValType.TheVariants.{I32}
use Rattle.wk_body.specs.declared.types.BlockType.{BlockType}
use Rattle.wk_body.specs.declared.types.BlockType.TheVariants.{Empty, Value, Index}
use Rattle.wk_body.specs.declared.types.BlockKind.{BlockKind}
use Rattle.wk_body.specs.declared.types.BlockKind.TheVariants as kinds
use Rattle.wk_body.specs.declared.renumber.Moving.{Moving}
use Rattle.wk_body.specs.declared.renumber.Moving.TheVariants as moving
use Rattle.wk_body.specs.declared.references.Ref.{Ref}
use Rattle.wk_body.specs.declared.references.Ref.TheVariants as refs
use Rattle.wk_body.specs.Bodies.{BodyOf}
use Rattle.wk_body.specs.Instructions as plain
use Rattle.wk_body.specs.Instructions.{Plain}
use Rattle.wk_body.specs.References.{plain_refs, type_refs, refs_of, map_plain, moved_plain, shift_body}
use Rattle.wk_body.specs.Tree.{Instrs, Finish, One, Block, If}
use Rattle.wk_typing.specs.declared.fault.FaultKind.{FaultKind}
use Rattle.wk_typing.specs.Answers.{Found}
use Rattle.wk_typing.specs.Carried.{moved_ref, Agree, AgreeMoved}
use Rattle.wk_typing.specs.Own.{Own, TokenFault, at_token, popped, pushed, fresh, ended}
use Rattle.wk_typing.specs.Effects.{Takes, call_effect, indirect_effect, global_get, global_set, with_memory, access_effect, known, known_found, params_of}
use Rattle.wk_typing.specs.Effects.{params_found, results_of, results_found, effect_of, local_type}
use Rattle.wk_typing.specs.Typing.{after_effect, is_finish, else_count, count, with_index, entered, begun, label_types, typed, code_result, verdict_of}
use Rattle.wk_typing.specs.Typing.{body_verdict}
use Rattle.wk_typing.proofs.All.{front, back}
use Rattle.wk_typing.proofs.Binds.{bind_ext}

-- ---- the typing of a block from its parts

abbrev nest : ℕ → ℕ → Result Own FaultKind → List ValType → Result Own TokenFault → (Own → Result Own TokenFault) → Result Own TokenFault
nest k kb e rs body after =
    at_token k e >>= λ s1. (body >>= λ s2. (at_token kb (ended rs s2) >>= λ u. after (pushed rs s1)))

nest_ext : (k kb kb' : ℕ) (e e' : Result Own FaultKind) (rs rs' : List ValType) (t t' : Result Own TokenFault) (g g' : Own → Result Own TokenFault)
    → kb ≡ kb' → e ≡ e' → rs ≡ rs' → t ≡ t' → ((s : Own) → g s ≡ g' s) → nest k kb e rs t g ≡ nest k kb' e' rs' t' g'
nest_ext k kb kb' e e' rs rs' t t' g g' ek ee er et eg =
    ap (λ n. nest k n e rs t g) ek ∙ ap (λ x. nest k kb' x rs t g) ee ∙ ap (λ x. nest k kb' e' x t g) er ∙ ap (λ x. nest k kb' e' rs' x g) et
    ∙ bind_ext (at_token k e') _ _ (λ s1. bind_ext t' _ _ (λ s2. bind_ext (at_token kb' (ended rs' s2)) _ _ (λ u. eg (pushed rs' s1))))

abbrev choice : ℕ → ℕ → ℕ → Result Own FaultKind → List ValType → Result Own TokenFault → Result Own TokenFault → (Own → Result Own TokenFault)
    → Result Own TokenFault
choice k ka kc e rs a b after =
    at_token k e >>= λ s1. (a >>= λ s2. (at_token ka (ended rs s2) >>= λ u. (b >>= λ s3. (at_token kc (ended rs s3) >>= λ v. after (pushed rs s1)))))

choice_ext : (k ka ka' kc kc' : ℕ) (e e' : Result Own FaultKind) (rs rs' : List ValType) (a a' b b' : Result Own TokenFault)
    (g g' : Own → Result Own TokenFault) → ka ≡ ka' → kc ≡ kc' → e ≡ e' → rs ≡ rs' → a ≡ a' → b ≡ b' → ((s : Own) → g s ≡ g' s)
    → choice k ka kc e rs a b g ≡ choice k ka' kc' e' rs' a' b' g'
choice_ext k ka ka' kc kc' e e' rs rs' a a' b b' g g' eka ekc ee er ea eb eg =
    ap (λ n. choice k n kc e rs a b g) eka ∙ ap (λ n. choice k ka' n e rs a b g) ekc ∙ ap (λ x. choice k ka' kc' x rs a b g) ee
    ∙ ap (λ x. choice k ka' kc' e' x a b g) er ∙ ap (λ x. choice k ka' kc' e' rs' x b g) ea ∙ ap (λ x. choice k ka' kc' e' rs' a' x g) eb
    ∙ bind_ext (at_token k e') _ _
    (λ s1. bind_ext a' _ _ (λ s2. bind_ext (at_token ka' (ended rs' s2)) _ _
    (λ u. bind_ext b' _ _ (λ s3. bind_ext (at_token kc' (ended rs' s3)) _ _ (λ v. eg (pushed rs' s1))))))

-- ---- instructions that are changed one by one

finish_mapped : (f : Plain → Plain) (t : Instrs) → is_finish (map_plain f t) ≡ is_finish t
finish_mapped f Finish = refl
finish_mapped f (One p rest) = refl
finish_mapped f (Block kind bt inside rest) = refl
finish_mapped f (If bt first second rest) = refl

pub count_mapped : (f : Plain → Plain) (t : Instrs) → count (map_plain f t) ≡ count t
count_mapped f Finish = refl
count_mapped f (One p rest) = ap suc (count_mapped f rest)
count_mapped f (Block kind bt inside rest) = omega (arith, count_mapped f inside, count_mapped f rest)
count_mapped f (If bt first second rest) =
    omega (arith, count_mapped f first, count_mapped f second, count_mapped f rest, ap else_count (finish_mapped f second))

pub stays : (t : Instrs) → map_plain (λ p. p) t ≡ t
stays Finish = refl
stays (One p rest) = ap (One p) (stays rest)
stays (Block kind bt inside rest) =
    ap (λ c. Block kind bt c (map_plain (λ p. p) rest)) (stays inside) ∙ ap (Block kind bt inside) (stays rest)
stays (If bt first second rest) =
    ap (λ c. If bt c (map_plain (λ p. p) second) (map_plain (λ p. p) rest)) (stays first)
    ∙ ap (λ c. If bt first c (map_plain (λ p. p) rest)) (stays second) ∙ ap (If bt first second) (stays rest)

-- A change of instructions, and of references, that go together: a type is found as before, and an instruction whose references
-- find what they found has the effect that it had.
pub record GoesTogether (f : Plain → Plain) (g : Ref → Ref) (A1 A2 : Ref → Found) : Type 0 where
  pub types : (x : ℕ) → g (refs.Ty x) ≡ refs.Ty x
  pub effects : (locals : ℕ → Option ValType) (final : List ValType) (labels : List (List ValType)) (p : Plain)
      → AllByRecursion (λ r. A2 (g r) ≡ A1 r) (plain_refs p) → effect_of A2 locals final labels (f p) ≡ effect_of A1 locals final labels p

module _ (f : Plain → Plain) (g : Ref → Ref) (A1 A2 : Ref → Found) (goes : GoesTogether f g A1 A2) where
  abbrev pub Finds : Ref → Type 0
  Finds r = A2 (g r) ≡ A1 r

  abbrev pub AllFind : List Ref → Type 0
  AllFind rs = AllByRecursion Finds rs

  same_type : (x : ℕ) → Finds (refs.Ty x) → A2 (refs.Ty x) ≡ A1 (refs.Ty x)
  same_type x h = ap A2 (sym (goes.types x)) ∙ h

  same_known : (bt : BlockType) → AllFind (type_refs bt) → known A2 bt ≡ known A1 bt
  same_known Empty h = refl
  same_known (Value t) h = refl
  same_known (Index x) h = ap known_found (same_type x h.0)

  same_params : (bt : BlockType) → AllFind (type_refs bt) → params_of A2 bt ≡ params_of A1 bt
  same_params Empty h = refl
  same_params (Value t) h = refl
  same_params (Index x) h = ap params_found (same_type x h.0)

  same_results : (bt : BlockType) → AllFind (type_refs bt) → results_of A2 bt ≡ results_of A1 bt
  same_results Empty h = refl
  same_results (Value t) h = refl
  same_results (Index x) h = ap results_found (same_type x h.0)

  same_label : (kind : BlockKind) (bt : BlockType) → AllFind (type_refs bt) → label_types A2 kind bt ≡ label_types A1 kind bt
  same_label kinds.Block bt h = same_results bt h
  same_label kinds.Loop bt h = same_params bt h

  same_entered : (test : Bool) (bt : BlockType) (s : Own) → AllFind (type_refs bt) → entered A2 test bt s ≡ entered A1 test bt s
  same_entered test bt s h =
      ap (λ m. m >>= λ u. popped (with_index test (params_of A2 bt)) s) (same_known bt h)
      ∙ ap (λ ts. known A1 bt >>= λ u. popped (with_index test ts) s) (same_params bt h)

  module _ (locals : ℕ → Option ValType) (final : List ValType) where
    abbrev pub Same : Instrs → Type 0
    Same t = (labels : List (List ValType)) (k : ℕ) (s : Own) → typed A2 locals final labels k (map_plain f t) s ≡ typed A1 locals final labels k t s

    same_inside : (bt : BlockType) (t : Instrs) → AllFind (type_refs bt) → Same t
        → (label label' : List ValType) (labels : List (List ValType)) (k k' : ℕ) → label ≡ label' → k ≡ k'
        → typed A2 locals final (label ∷ labels) k (map_plain f t) (begun A2 bt) ≡ typed A1 locals final (label' ∷ labels) k' t (begun A1 bt)
    same_inside bt t h same label label' labels k k' el ek =
        same (label ∷ labels) k (begun A2 bt)
        ∙ ap (λ l. typed A1 locals final (l ∷ labels) k t (begun A2 bt)) el
        ∙ ap (λ n. typed A1 locals final (label' ∷ labels) n t (begun A2 bt)) ek
        ∙ ap (λ ts. typed A1 locals final (label' ∷ labels) k' t (pushed ts fresh)) (same_params bt h)

    pub same_typed : (t : Instrs) → AllFind (refs_of t) → Same t
    same_typed Finish h labels k s = refl
    same_typed (One p rest) h labels k s =
        let here = front Finds (plain_refs p) (refs_of rest) h in
        let behind = back Finds (plain_refs p) (refs_of rest) h in
        ap (λ m. at_token k (m >>= λ e. after_effect e s) >>= λ s'. typed A2 locals final labels (k + 1) (map_plain f rest) s')
        (goes.effects locals final labels p here)
        ∙ bind_ext (at_token k (effect_of A1 locals final labels p >>= λ e. after_effect e s)) _ _ (λ s'. same_typed rest behind labels (k + 1) s')
    same_typed (Block kind bt inside rest) h labels k s =
        let here = front Finds (type_refs bt) (refs_of inside ++ refs_of rest) h in
        let other = back Finds (type_refs bt) (refs_of inside ++ refs_of rest) h in
        let within = front Finds (refs_of inside) (refs_of rest) other in
        let behind = back Finds (refs_of inside) (refs_of rest) other in
        let n : k + 1 + count (map_plain f inside) ≡ k + 1 + count inside = ap (λ n. k + 1 + n) (count_mapped f inside) in
        nest_ext k _ _ _ _ _ _ _ _ _ _ n (same_entered false bt s here) (same_results bt here)
        (same_inside bt inside here (same_typed inside within) _ _ labels (k + 1) (k + 1) (same_label kind bt here) refl)
        (λ s'. same_typed rest behind labels (k + 1 + count (map_plain f inside) + 1) s' ∙ ap (λ m. typed A1 locals final labels (m + 1) rest s') n)
    same_typed (If bt first second rest) h labels k s =
        let here = front Finds (type_refs bt) (refs_of first ++ (refs_of second ++ refs_of rest)) h in
        let other = back Finds (type_refs bt) (refs_of first ++ (refs_of second ++ refs_of rest)) h in
        let within = front Finds (refs_of first) (refs_of second ++ refs_of rest) other in
        let more = back Finds (refs_of first) (refs_of second ++ refs_of rest) other in
        let within' = front Finds (refs_of second) (refs_of rest) more in
        let behind = back Finds (refs_of second) (refs_of rest) more in
        let one = map_plain f first in
        let two = map_plain f second in
        let na : k + 1 + count one ≡ k + 1 + count first = ap (λ n. k + 1 + n) (count_mapped f first) in
        let nb : k + 1 + count one + else_count (is_finish two) ≡ k + 1 + count first + else_count (is_finish second) =
        ap (λ n. n + else_count (is_finish two)) na ∙ ap (λ e. k + 1 + count first + else_count e) (finish_mapped f second) in
        let nc : k + 1 + count one + else_count (is_finish two) + count two ≡ k + 1 + count first + else_count (is_finish second) + count second =
        ap (λ n. n + count two) nb ∙ ap (λ n. k + 1 + count first + else_count (is_finish second) + n) (count_mapped f second) in
        choice_ext k _ _ _ _ _ _ _ _ _ _ _ _ _ _ na nc (same_entered true bt s here) (same_results bt here)
        (same_inside bt first here (same_typed first within) _ _ labels (k + 1) (k + 1) (same_results bt here) refl)
        (same_inside bt second here (same_typed second within') _ _ labels _ _ (same_results bt here) nb)
        (λ s'. same_typed rest behind labels _ s' ∙ ap (λ m. typed A1 locals final labels (m + 1) rest s') nc)

  -- the verdict of instructions that are changed so, under a type that is found to be the same
  same_verdict : (t1 t2 : ℕ) (b b' : BodyOf) → b' ≡ record { groups = b.groups; instrs = map_plain f b.instrs } → A2 (refs.Ty t2) ≡ A1 (refs.Ty t1)
      → AllFind (refs_of b.instrs) → body_verdict A2 t2 b' ≡ body_verdict A1 t1 b
  same_verdict t1 t2 b b' eb own h =
      let found = A1 (refs.Ty t1) in
      let new = map_plain f b.instrs in
      ap (body_verdict A2 t2) eb
      ∙ ap (λ w. verdict_of (at_token 0 (known_found w) >>= λ u. code_result A2 (local_type (params_found w) b.groups) (results_found w) new)) own
      ∙ ap (λ r. verdict_of (at_token 0 (known_found found) >>= λ u. (r >>= λ s. at_token (count new) (ended (results_found found) s))))
      (same_typed (local_type (params_found found) b.groups) (results_found found) b.instrs h (results_found found ∷ []) 0 fresh)
      ∙ ap (λ n. verdict_of (at_token 0 (known_found found) >>= λ u.
      (typed A1 (local_type (params_found found) b.groups) (results_found found) (results_found found ∷ []) 0 b.instrs fresh >>= λ s. at_token n
      (ended (results_found found) s)))) (count_mapped f b.instrs)

-- ---- nothing moves

pub same_effect : (A1 A2 : Ref → Found) (locals : ℕ → Option ValType) (final : List ValType) (labels : List (List ValType)) (p : Plain)
    → AllByRecursion (λ r. A2 r ≡ A1 r) (plain_refs p) → effect_of A2 locals final labels p ≡ effect_of A1 locals final labels p
same_effect A1 A2 locals final labels (plain.Call x) h = ap call_effect h.0
same_effect A1 A2 locals final labels (plain.CallIndirect x) h =
    ap (λ w. indirect_effect w (A2 refs.Table)) h.0 ∙ ap (indirect_effect (A1 (refs.Ty x))) h.1.0
same_effect A1 A2 locals final labels (plain.GlobalGet x) h = ap global_get h.0
same_effect A1 A2 locals final labels (plain.GlobalSet x) h = ap global_set h.0
same_effect A1 A2 locals final labels (plain.Access op align offset) h = ap (λ w. access_effect w op align) h.0
same_effect A1 A2 locals final labels plain.MemorySize h = ap (λ w. with_memory w (Takes [] (I32 ∷ []))) h.0
same_effect A1 A2 locals final labels plain.MemoryGrow h = ap (λ w. with_memory w (Takes (I32 ∷ []) (I32 ∷ []))) h.0
same_effect A1 A2 locals final labels _ h = refl

-- the verdict of a body whose references find what they found
pub frame : (A1 A2 : Ref → Found) (t1 t2 : ℕ) (b : BodyOf) → A2 (refs.Ty t2) ≡ A1 (refs.Ty t1) → Agree A1 A2 (refs_of b.instrs)
    → body_verdict A2 t2 b ≡ body_verdict A1 t1 b
frame A1 A2 t1 t2 b own h =
    let goes : GoesTogether (λ p. p) (λ r. r) A1 A2 = record { types = λ x. refl; effects = same_effect A1 A2 } in
    same_verdict (λ p. p) (λ r. r) A1 A2 goes t1 t2 b b (ap (λ is. record { groups = b.groups; instrs = is }) (sym (stays b.instrs))) own h

-- ---- an import comes in front

pub moved_effect : (kind : Moving) (from : ℕ) (A1 A2 : Ref → Found) (locals : ℕ → Option ValType) (final : List ValType) (labels : List (List ValType))
    (p : Plain) → AllByRecursion (λ r. A2 (moved_ref kind from r) ≡ A1 r) (plain_refs p)
    → effect_of A2 locals final labels (moved_plain kind from p) ≡ effect_of A1 locals final labels p
moved_effect moving.Func from A1 A2 locals final labels (plain.Call x) h = ap call_effect h.0
moved_effect moving.Global from A1 A2 locals final labels (plain.Call x) h = ap call_effect h.0
moved_effect moving.Func from A1 A2 locals final labels (plain.CallIndirect x) h =
    ap (λ w. indirect_effect w (A2 refs.Table)) h.0 ∙ ap (indirect_effect (A1 (refs.Ty x))) h.1.0
moved_effect moving.Global from A1 A2 locals final labels (plain.CallIndirect x) h =
    ap (λ w. indirect_effect w (A2 refs.Table)) h.0 ∙ ap (indirect_effect (A1 (refs.Ty x))) h.1.0
moved_effect moving.Func from A1 A2 locals final labels (plain.GlobalGet x) h = ap global_get h.0
moved_effect moving.Global from A1 A2 locals final labels (plain.GlobalGet x) h = ap global_get h.0
moved_effect moving.Func from A1 A2 locals final labels (plain.GlobalSet x) h = ap global_set h.0
moved_effect moving.Global from A1 A2 locals final labels (plain.GlobalSet x) h = ap global_set h.0
moved_effect moving.Func from A1 A2 locals final labels (plain.Access op align offset) h = ap (λ w. access_effect w op align) h.0
moved_effect moving.Global from A1 A2 locals final labels (plain.Access op align offset) h = ap (λ w. access_effect w op align) h.0
moved_effect moving.Func from A1 A2 locals final labels plain.MemorySize h = ap (λ w. with_memory w (Takes [] (I32 ∷ []))) h.0
moved_effect moving.Global from A1 A2 locals final labels plain.MemorySize h = ap (λ w. with_memory w (Takes [] (I32 ∷ []))) h.0
moved_effect moving.Func from A1 A2 locals final labels plain.MemoryGrow h = ap (λ w. with_memory w (Takes (I32 ∷ []) (I32 ∷ []))) h.0
moved_effect moving.Global from A1 A2 locals final labels plain.MemoryGrow h = ap (λ w. with_memory w (Takes (I32 ∷ []) (I32 ∷ []))) h.0
moved_effect moving.Func from A1 A2 locals final labels _ h = refl
moved_effect moving.Global from A1 A2 locals final labels _ h = refl

pub type_stays : (kind : Moving) (from x : ℕ) → moved_ref kind from (refs.Ty x) ≡ refs.Ty x
type_stays moving.Func from x = refl
type_stays moving.Global from x = refl

-- the verdict of a body that moved, whose references, moved, find what they found
pub renumbered : (kind : Moving) (from : ℕ) (A1 A2 : Ref → Found) (t1 t2 : ℕ) (b : BodyOf) → A2 (refs.Ty t2) ≡ A1 (refs.Ty t1)
    → AgreeMoved kind from A1 A2 (refs_of b.instrs) → body_verdict A2 t2 (shift_body kind from b) ≡ body_verdict A1 t1 b
renumbered kind from A1 A2 t1 t2 b own h =
    let goes : GoesTogether (moved_plain kind from) (moved_ref kind from) A1 A2 =
    record { types = type_stays kind from; effects = moved_effect kind from A1 A2 } in
    same_verdict (moved_plain kind from) (moved_ref kind from) A1 A2 goes t1 t2 b (shift_body kind from b) refl own h
