-- `wk_validator_free` makes the box of its pointer again, and lets it go.
use Rattle.std.proofs.Common.{List, [], ◌∷◌, refl, ap, ◌∙◌}
use Rattle.std.proofs.raw_atomic.Walks.{proved}
use Rattle.std.proofs.BoxSteps.Form.{D, B, word}
use Rattle.std.proofs.BoxSteps.Steps.{box_out, box_in}
use Rattle.std.proofs.Handle.{heap_val, heap_Tells}
use Rattle.std.proofs.impls.GlobalAllocator.TheImpl.Met as heap_met
use Rattle.std.proofs.boxed.Box.from_raw.Met as from_met
use Rattle.std.specs.contracts.alloc.Global as heap
use Rattle.std.specs.contracts.boxed.Box.from_raw as from_raw
use Rattle.std.specs.contracts.impls.GlobalAllocator.TheImpl.{ghosts, dict}
use base.Fraction.{full_share}
use base.Logic.{emp, id⊢, never, fst∗}
use base.Fml.{ftrue, flft}
use prog.Wp.{WpFn}
use mir.Val.{Val, vptr, vunit}
use contract.BorrowLft.{◌⊑◌, ⊑_refl}
use contract.Monad.{fact, fact_i}
use contract.Running.{tables}
use types.Logic.{sem}
use types.Kit.{Item, ‵, raw, prop, ◌⊛◌, some, later, ◌$◌, ◌∵◌, !, qed, done, move, keep, drop, use0, use1, split, join, fjoin, feq_i, feq_l, pick, await}
use types.Kit.{regoal, rewrite, suffices}
use types.Run.{enter, of_opd, unit_lit, no_more, and_then, returns}
use types.ByLocal.{alloc_all, pass_all, free_all, look_at, get, sets, lands_as}
use denote.Builtin.{unit}
use denote.Exit.{yes}
use denote.Laws.{Is, shows}
use denote.Param.NoDrop.{glues}
use denote.RawPtr.{Ptr, RawPtr, block_ptr, null_ptr, ptr_val, in_a_block, rawptr_vals, rawptr_Tells}
use denote.Signature.{plain}
use denote.Steps.{nothing, only, peeks}
use denote.Triple.Call.{calls_at}
use denote.Triple.Clauses.{ensured}
use denote.Triple.Spec.{triple_of}
use denote.Triple.Table.{framed}
use denote.Triple.Walked.{Stays, walk_of, stay_dropped, Goes-dropped, ends_at}
use Rattle.wk_ffi.proofs.Destruct++none.drop.Code as no_drop
use Rattle.wk_ffi.proofs.Boxes.{E, V, Z, V_laws, Z_laws, idle}
use Rattle.wk_ffi.specs.Handles.{validator_at, token}
use Rattle.wk_ffi.specs.contracts.handle.let_go as g
use Rattle.wk_ffi.proofs.handle.let_go.Met.{met}
use Rattle.wk_ffi.specs.contracts.wk_validator_free as f
use Rattle.wk_ffi.proofs.wk_validator_free.Statement.{statement}
use Rattle.wk_ffi.proofs.wk_validator_free.Code as code

abbrev stayed : Stays f.ended.signature.params f.ended.kept
stayed = (stay_dropped (plain (λ _. heap.the_row)) yes, (stay_dropped (plain (λ _. RawPtr)) yes, tt))

pub wk_validator_free_spec : {M : Type 1} → statement M
unfolding no_drop.code
wk_validator_free_spec {M} 𝓤 𝓛 𝓜 𝓡 wired =
    let H = 𝓛.H in let 𝓣 = tables 𝓤 H 𝓜 𝓡 𝓡.env in let c = f.clauses 𝓛 𝓜.mem 𝓡.returns in let W = walk_of 𝓛 f.ended stayed c in
    let Made = triple_of 𝓛 (from_raw.signature V Z ghosts dict idle) (from_raw.spec V Z ghosts dict idle 𝓛 𝓜.mem 𝓡.returns) in
    let known = from_met.met 𝓤 𝓛 𝓜 𝓡 (code.calls-std_alloc::boxed::Box::from_raw 𝓡.env wired) V Z V_laws Z_laws ghosts dict idle
    (heap_met.passed 𝓡.env (code.calls-std_heap::GlobalAllocator::allocate 𝓡.env wired) (code.calls-std_heap::GlobalAllocator::deallocate 𝓡.env wired)
    (code.calls-std_heap::GlobalAllocator::grow 𝓡.env wired) (code.calls-std_heap::GlobalAllocator::shrink 𝓡.env wired) M 𝓤 𝓛 𝓜 𝓡)
    (glues "wk_ffi::Destruct++none::drop" 𝓡.env (code.calls-wk_ffi::Destruct++none::drop 𝓡.env wired) Z Z_laws M 𝓤 𝓛 𝓜 𝓡) in
    let G = triple_of 𝓛 g.signature (g.spec 𝓛 𝓜.mem 𝓡.returns) in
    let toks : Item 𝓤 = ‵ (flft V.lives full_share) ⊛ ‵ (flft Z.lives full_share) ⊛ ‵ ftrue in
    proved 𝓛 f.ended stayed c 𝓜 𝓡
    (Goes-dropped 𝓛 0 (plain (λ _. heap.the_row)) yes (λ κs x w. refl), (Goes-dropped 𝓛 0 (plain (λ _. RawPtr)) yes (λ κs x w. refl), tt))
    f.Key.name code.function (code.unfolded 𝓤 H 𝓜 𝓡 wired)
    (λ κs. ((λ _. heap_val ∷ []), (rawptr_vals, tt))) (λ κs. (heap_Tells, (rawptr_Tells, tt))) (λ κs qs bounds a _ are.
    let y : Ptr → W.Ghost = λ p. ((κs, qs, bounds, (a.0, (p, tt)), (heap_val ∷ [], (rawptr_vals p, tt))), tt) in
    qed 𝓛 ((‵ ftrue ⊛ ‵ (heap.the_row.own_val a.0 (heap_val ∷ [])) ⊛ ‵ (RawPtr.own_val a.1.0 (rawptr_vals a.1.0)) ⊛
    ‵ ftrue) ∷ ‵ (validator_at a.0 a.1.0) ∷ []) ∵
    split ! $ drop ! $ split ! $ keep ! (2 ∷ 0 ∷ []) $
    -- [the validator; the heap's handle]
    in_a_block ! a.1.0 (validator_at a.0) (fst∗ 𝓤 (never 𝓤) (sem 𝓛 (token a.0 null_ptr))) (λ b o e.
    regoal ! (λ p. prop (WpFn 𝓤 H 𝓣.C 𝓣.Λ code.function (heap_val ∷ ptr_val p ∷ []) (W.post (y p)))) e refl $
    enter ! _ _ _ _ _ $ alloc_all ! (λ l. pass_all ! refl ((tt, ((tt, tt), tt)), ((tt, tt), tt)) $
    sets ! (of_opd ! (get ! refl)) refl (tt, tt) $
    let z : Made.Ghost = (
      ((V.lives, (Z.lives, tt)), (full_share, (full_share, tt)), tt, (a.0, (block_ptr b o, tt)), (heap_val ∷ [], (vptr b o ∷ [], tt))),
      tt,
    ) in
    use0 𝓛 (raw (fact 𝓤 (Z.lives ⊑ Z.lives))) (fact_i 𝓤 (Z.lives ⊑ Z.lives) (emp 𝓤) (⊑_refl Z.lives)) $ join ! $
    use0 𝓛 (raw (fact 𝓤 (V.lives ⊑ V.lives))) (fact_i 𝓤 (V.lives ⊑ V.lives) (emp 𝓤) (⊑_refl V.lives)) $ join ! $
    nothing ! $ feq_i ! (List Val) (vptr b o ∷ []) (vptr b o ∷ []) refl $ fjoin ! $ move ! (2 ∷ 0 ∷ []) $ fjoin ! $
    nothing ! $ use0 𝓛 (‵ (flft Z.lives full_share)) (𝓛.lfts.lft-nil full_share) $ join ! $
    use0 𝓛 (‵ (flft V.lives full_share)) (𝓛.lfts.lft-nil full_share) $ join ! $
    join ! $ join ! $ use1 𝓛 (raw (Made.pre z)) (id⊢ 𝓤 _) $
    calls_at ! (framed 𝓤 H 𝓜 𝓣) Made known z (and_then ! (get ! refl) (and_then ! (get ! refl) (no_more !))) (λ u.
    use1 𝓛 (later (some (λ (r : D E). (toks ⊛ ‵ ((B E).own_val r (u ∷ []))) ⊛
    raw (ensured 𝓛 (from_raw.ended V Z ghosts dict idle) (from_raw.clauses V Z ghosts dict idle 𝓛 𝓜.mem 𝓡.returns) z.0.0 z.0.3 z.1 r)))) (id⊢ 𝓤 _) $
    await ! tt $ pick ! (λ r. split ! $ move ! (1 ∷ []) $ drop ! $ split ! $ drop ! $
    box_out E ! r (u ∷ []) (λ b' o' h at ws fits. move ! (2 ∷ []) $
    peeks ! heap.the_row (Is heap.the_row) (shows 𝓛 heap.the_row) r.alloc (h ∷ [])
    (λ is. rewrite ! 0 (λ (us : List Val). ‵ (heap.the_row.own_val r.alloc us)) (heap_Tells r.alloc (h ∷ []) is) refl $
    move ! (1 ∷ 2 ∷ 0 ∷ []) $ box_in E ! r b' o' r.value at refl $
    lands_as ! (ap only ws ∙ ap (λ (v : Val). word E v b' o') (ap only (heap_Tells r.alloc (h ∷ []) is))) refl (tt, (tt, (((tt, tt), tt), tt))) $
    -- [the box]
    let z' : G.Ghost = ((tt, tt, tt, (r, tt), (word E heap_val b' o' ∷ [], tt)), tt) in
    nothing ! $ move ! (1 ∷ 0 ∷ []) $ join ! $ nothing ! $ join ! $ nothing ! $ move ! (1 ∷ 0 ∷ []) $ join ! $ use1 𝓛 (raw (G.pre z')) (id⊢ 𝓤 _) $
    calls_at ! (framed 𝓤 H 𝓜 𝓣) G (met 𝓤 𝓛 𝓜 𝓡 (code.calls-wk_ffi::handle::let_go 𝓡.env wired)) z' (and_then ! (get ! refl) (no_more !)) (λ v.
    use1 𝓛 (later (some (λ (x : Unit {0}). (‵ ftrue ⊛ ‵ (unit.own_val x (v ∷ []))) ⊛
    raw (ensured 𝓛 g.ended (g.clauses 𝓛 𝓜.mem 𝓡.returns) tt (r, tt) tt x)))) (id⊢ 𝓤 _) $
    await ! tt $ pick ! (λ x. split ! $ split ! $ drop ! $ feq_l ! (λ is_unit. drop ! $ lands_as ! (ap only is_unit) refl (tt, tt) $
    sets ! (of_opd ! (unit_lit !)) refl (tt, tt) $ returns ! (look_at ! 0 refl) $ free_all ! refl $
    suffices ! _ (ends_at 𝓛 f.ended stayed c (y (block_ptr b o)) vunit tt (tt, (tt, tt)) (tt, (tt, tt))) $
    nothing ! $ feq_i ! _ (vunit ∷ []) _ refl $ nothing ! $ nothing ! $ fjoin ! $ nothing ! $ fjoin ! $ join ! $ nothing ! $ join ! $ join ! $ done !))))))))))
