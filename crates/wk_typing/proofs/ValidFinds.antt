-- All that a valid body refers to is there.
use Rattle.std.proofs.Common.{◌≡◌, ℕ, ◌+◌, Bool, true, false, List, [], ◌∷◌, ◌++◌, Ok, Option, refl, sym}
use Rattle.wk_bytes.specs.Leb.{◌>>=◌}
use Rattle.wk_bytes.specs.LebLaws.{bind_ok}
use Rattle.wk_body.specs.declared.types.ValType.{ValType}
use Rattle.wk_body.specs.declared.types.BlockType.{BlockType}
use Rattle.wk_body.specs.declared.types.BlockType.TheVariants.{Empty, Value, Index}
use Rattle.wk_body.specs.declared.references.Ref.{Ref}
use Rattle.wk_body.specs.declared.references.Ref.TheVariants as refs
use Rattle.wk_body.specs.Bodies.{BodyOf}
use Rattle.wk_body.specs.Instructions as plain
use Rattle.wk_body.specs.Instructions.{Plain}
use Rattle.wk_body.specs.References.{plain_refs, type_refs, refs_of}
use Rattle.wk_body.specs.Tree.{Instrs, Finish, One, Block, If}
use Rattle.wk_typing.specs.declared.fault.BodyVerdict.TheVariants.{Valid}
use Rattle.wk_typing.specs.Answers.{Found, TypeIs, FuncIs, GlobalIs, IsPresent}
use Rattle.wk_typing.specs.Finds.{is_there, AreThere}
use Rattle.wk_typing.specs.Own.{Own, at_token, popped, fresh, ended}
use Rattle.wk_typing.specs.Effects.{Effect, call_effect, indirect_effect, global_get, global_set, with_memory, access_types, aligned, known, known_found}
use Rattle.wk_typing.specs.Effects.{params_of, results_of, effect_of, local_type}
use Rattle.wk_body.specs.MemoryOps.{memory_type, memory_stores}
use Rattle.wk_typing.specs.Typing.{after_effect, is_finish, else_count, count, with_index, entered, begun, label_types, typed, code_result, body_result}
use Rattle.wk_typing.specs.Typing.{body_verdict}
use Rattle.wk_typing.proofs.All.{both}
use Rattle.wk_typing.proofs.Fits.{at_good}
use Rattle.wk_typing.proofs.Sound.{valid_good}

-- ---- one answer

type_there : (w : Found) → known_found w ≡ Ok tt → is_there w ≡ true
type_there (TypeIs t) h = refl
type_there w h = absurd cc

call_there : (w : Found) (e : Effect) → call_effect w ≡ Ok e → is_there w ≡ true
call_there (FuncIs t) e h = refl
call_there w e h = absurd cc

indirect_type : (w v : Found) (e : Effect) → indirect_effect w v ≡ Ok e → is_there w ≡ true
indirect_type (TypeIs t) v e h = refl
indirect_type w v e h = absurd cc

indirect_table : (w v : Found) (e : Effect) → indirect_effect w v ≡ Ok e → is_there v ≡ true
indirect_table (TypeIs t) IsPresent e h = refl
indirect_table (TypeIs t) v e h = absurd cc
indirect_table w v e h = absurd cc

get_there : (w : Found) (e : Effect) → global_get w ≡ Ok e → is_there w ≡ true
get_there (GlobalIs g) e h = refl
get_there w e h = absurd cc

set_there : (w : Found) (e : Effect) → global_set w ≡ Ok e → is_there w ≡ true
set_there (GlobalIs g) e h = refl
set_there w e h = absurd cc

memory_there : (w : Found) (e d : Effect) → with_memory w d ≡ Ok e → is_there w ≡ true
memory_there IsPresent e d h = refl
memory_there w e d h = absurd cc

-- ---- instructions

module _ (A : Ref → Found) where
  abbrev IsThere : Ref → Type 0
  IsThere r = is_there (A r) ≡ true

  block_there : (bt : BlockType) → known A bt ≡ Ok tt → AreThere A (type_refs bt)
  block_there Empty h = tt
  block_there (Value t) h = tt
  block_there (Index x) h = (type_there (A (refs.Ty x)) h, tt)

  entered_there : (test : Bool) (bt : BlockType) (s r : Own) → entered A test bt s ≡ Ok r → AreThere A (type_refs bt)
  entered_there test bt s r h =
      let w = bind_ok (known A bt) (λ u. popped (with_index test (params_of A bt)) s) r h in
      block_there bt w.1

  module _ (locals : ℕ → Option ValType) (final : List ValType) where
    plain_there : (labels : List (List ValType)) (p : Plain) (e : Effect) → effect_of A locals final labels p ≡ Ok e → AreThere A (plain_refs p)
    plain_there labels (plain.Call x) e h = (call_there (A (refs.Func x)) e h, tt)
    plain_there labels (plain.CallIndirect x) e h = (indirect_type (A (refs.Ty x)) (A refs.Table) e h, (indirect_table (A (refs.Ty x)) (A refs.Table) e h, tt))
    plain_there labels (plain.GlobalGet x) e h = (get_there (A (refs.Global x)) e h, tt)
    plain_there labels (plain.GlobalSet x) e h = (set_there (A (refs.Global x)) e h, tt)
    plain_there labels (plain.Access op align offset) e h =
        let w = bind_ok (with_memory (A refs.Memory) (access_types (memory_stores op) (memory_type op))) (aligned op align) e h in
        (memory_there (A refs.Memory) w.0 (access_types (memory_stores op) (memory_type op)) w.1, tt)
    plain_there labels plain.MemorySize e h = (memory_there (A refs.Memory) e _ h, tt)
    plain_there labels plain.MemoryGrow e h = (memory_there (A refs.Memory) e _ h, tt)
    plain_there labels p e h = tt

    pub all_there : (t : Instrs) (labels : List (List ValType)) (k : ℕ) (s r : Own) → typed A locals final labels k t s ≡ Ok r → AreThere A (refs_of t)
    all_there Finish labels k s r h = tt
    all_there (One p rest) labels k s r h =
        let w = bind_ok (at_token k (effect_of A locals final labels p >>= λ e. after_effect e s)) (λ s'. typed A locals final labels (k + 1) rest s') r h in
        let v = bind_ok (effect_of A locals final labels p) (λ e. after_effect e s) w.0 (at_good k _ w.0 w.1) in
        both IsThere (plain_refs p) (refs_of rest) (plain_there labels p v.0 v.1) (all_there rest labels (k + 1) w.0 r w.2)
    all_there (Block kind bt inside rest) labels k s r h =
        let w = bind_ok (at_token k (entered A false bt s)) _ r h in
        let v = bind_ok (typed A locals final (label_types A kind bt ∷ labels) (k + 1) inside (begun A bt)) _ r w.2 in
        let u = bind_ok (at_token (k + 1 + count inside) (ended (results_of A bt) v.0)) _ r v.2 in
        both IsThere (type_refs bt) (refs_of inside ++ refs_of rest) (entered_there false bt s w.0 (at_good k _ w.0 w.1))
        (both IsThere (refs_of inside) (refs_of rest) (all_there inside _ _ _ v.0 v.1) (all_there rest _ _ _ r u.2))
    all_there (If bt first second rest) labels k s r h =
        let w = bind_ok (at_token k (entered A true bt s)) _ r h in
        let v = bind_ok (typed A locals final (results_of A bt ∷ labels) (k + 1) first (begun A bt)) _ r w.2 in
        let u = bind_ok (at_token (k + 1 + count first) (ended (results_of A bt) v.0)) _ r v.2 in
        let y = bind_ok (typed A locals final (results_of A bt ∷ labels) (k + 1 + count first + else_count (is_finish second)) second (begun A bt)) _ r u.2 in
        let z = bind_ok (at_token (k + 1 + count first + else_count (is_finish second) + count second) (ended (results_of A bt) y.0)) _ r y.2 in
        both IsThere (type_refs bt) (refs_of first ++ (refs_of second ++ refs_of rest)) (entered_there true bt s w.0 (at_good k _ w.0 w.1))
        (both IsThere (refs_of first) (refs_of second ++ refs_of rest) (all_there first _ _ _ v.0 v.1)
        (both IsThere (refs_of second) (refs_of rest) (all_there second _ _ _ y.0 y.1) (all_there rest _ _ _ r z.2)))

-- ---- bodies

pub valid_finds : (A : Ref → Found) (t : ℕ) (b : BodyOf) → body_verdict A t b ≡ Valid → AreThere A (refs.Ty t ∷ refs_of b.instrs)
valid_finds A t b h =
    let ok = valid_good (body_result A t b) (sym h) in
    let w = bind_ok (at_token 0 (known A (Index t))) _ tt ok in
    let code = code_result A (local_type (params_of A (Index t)) b.groups) (results_of A (Index t)) b.instrs in
    let v = bind_ok (typed A (local_type (params_of A (Index t)) b.groups) (results_of A (Index t)) (results_of A (Index t) ∷ []) 0 b.instrs fresh)
    (λ s. at_token (count b.instrs) (ended (results_of A (Index t)) s)) tt w.2 in
    (type_there (A (refs.Ty t)) (at_good 0 _ tt w.1), all_there A (local_type (params_of A (Index t)) b.groups) (results_of A (Index t)) b.instrs _ _ _ v.0 v.1)
