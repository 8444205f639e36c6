-- `wk_validator_new` hands out the pointer of a box that it made, or null.
use Rattle.std.proofs.Common.{◌≡◌, ℕ, List, [], ◌∷◌, refl, ap, subst, ◌∙◌, lit<, inl, inr, w32}
use Rattle.std.proofs.raw_atomic.Walks.{proved}
use Rattle.std.proofs.alloc.Shapes.{after, head, arm_body}
use Rattle.std.proofs.BoxSteps.Form.{word}
use Rattle.std.proofs.Handle.{heap_val, heap_Tells}
use Rattle.std.proofs.impls.GlobalAllocator.TheImpl.Met as heap_met
use Rattle.std.proofs.boxed.Box.into_raw.Met as into_met
use Rattle.std.specs.contracts.alloc.Global as heap
use Rattle.std.specs.contracts.boxed.Box.into_raw as into_raw
use Rattle.std.specs.contracts.impls.GlobalAllocator.TheImpl.{ghosts, dict}
use base.Fraction.{full_share}
use base.Logic.{SProp, emp, id⊢, never, fst∗}
use base.Fml.{ftrue, flft}
use prog.Wp.{Wp, Env, after_seq, at_return}
use mir.Syntax.{Body, named}
use mir.Val.{Val, vptr, vnull, vnil}
use contract.BorrowLft.{◌⊑◌, ⊑_refl}
use contract.Monad.{fact, fact_i}
use contract.Running.{tables}
use types.Logic.{sem}
use types.Kit.{Item, Sq, ‵, raw, prop, at_ret, any_q, ◌⊛◌, some, later, ◌$◌, ◌∵◌, !, qed, done, move, keep, drop, use0, use1, split, join, fsplit3, fjoin}
use types.Kit.{fjoin3, feq_i, feq_l, pick, await, rewrite, suffices}
use types.Match.{live, vrt, in_variant}
use types.Run.{enter, of_opd, lit, fld, stop, store, no_more, and_then, assigns, first, switches_on, exec, returns}
use types.ByLocal.{alloc_all, pass_all, free_all, look_at, get, get_in, get_tag, through, sets, lands_as, lands_last, env}
use types.Part.{agg, whole}
use denote.Builtin.{u32}
use denote.Exit.{yes}
use denote.Laws.{Is, shows}
use denote.Memory.{cell_at}
use denote.Param.NoDrop.{glues}
use denote.Plain.{uint_Lawful}
use denote.RawPtr.{Ptr, RawPtr, InBlock, block_ptr, null_ptr, ptr_val, in_a_block}
use denote.Ref.{MutRef, mut_vals, mut_Tells}
use denote.Signature.{plain}
use denote.Steps.{nothing, only, heard, opens, closes, peeks}
use denote.Triple.Call.{calls_at, calls_at_last}
use denote.Triple.Clauses.{Lasts, lasts, ensured}
use denote.Triple.Spec.{triple_of}
use denote.Triple.Table.{framed}
use denote.Triple.Walked.{Stays, walk_of, stay_dropped, stay_ref, Goes-dropped, Goes-ref, ends_at}
use Rattle.wk_ffi.proofs.Destruct++none.drop.Code as no_drop
use Rattle.wk_ffi.proofs.Boxes.{E, V, Z, V_laws, Z_laws, idle, goes, goes_met, Made, made_out, fine_made, no_memory_made}
use Rattle.wk_ffi.specs.Handles.{validator_at, token, handed_out, IsNew}
use Rattle.wk_ffi.specs.Told.{code_number}
use Rattle.wk_ffi.specs.declared.code.Code.TheVariants.{Fine, NoMemory}
use Rattle.wk_ffi.specs.contracts.code.Code as codes
use Rattle.wk_ffi.specs.contracts.code.Code.number as number
use Rattle.wk_ffi.proofs.code.Code.number.Met as number_met
use Rattle.wk_ffi.specs.contracts.handle.make as make
use Rattle.wk_ffi.proofs.handle.make.Met as make_met
use Rattle.wk_ffi.specs.contracts.wk_validator_new as f
use Rattle.wk_ffi.proofs.wk_validator_new.Statement.{statement}
use Rattle.wk_ffi.proofs.wk_validator_new.Code as code

abbrev stayed : Stays f.ended.signature.params f.ended.kept
stayed = (stay_dropped (plain (λ _. heap.the_row)) yes, (stay_ref (0 ∷ []) tt (plain (λ _. RawPtr)), tt))

pub wk_validator_new_spec : {M : Type 1} → statement M
unfolding no_drop.code
wk_validator_new_spec {M} 𝓤 𝓛 𝓜 𝓡 wired =
    let H = 𝓛.H in let 𝓣 = tables 𝓤 H 𝓜 𝓡 𝓡.env in let c = f.clauses 𝓛 𝓜.mem 𝓡.returns in let W = walk_of 𝓛 f.ended stayed c in
    let Make = triple_of 𝓛 make.signature (make.spec 𝓛 𝓜.mem 𝓡.returns) in
    let Number = triple_of 𝓛 number.signature (number.spec 𝓛 𝓜.mem 𝓡.returns) in
    let Opens = triple_of 𝓛 (into_raw.signature V Z ghosts dict idle goes) (into_raw.spec V Z ghosts dict idle goes 𝓛 𝓜.mem 𝓡.returns) in
    let opened = into_met.met 𝓤 𝓛 𝓜 𝓡 (code.calls-std_alloc::boxed::Box::into_raw 𝓡.env wired) V Z V_laws Z_laws ghosts dict idle goes
    (heap_met.passed 𝓡.env (code.calls-std_heap::GlobalAllocator::allocate 𝓡.env wired) (code.calls-std_heap::GlobalAllocator::deallocate 𝓡.env wired)
    (code.calls-std_heap::GlobalAllocator::grow 𝓡.env wired) (code.calls-std_heap::GlobalAllocator::shrink 𝓡.env wired) M 𝓤 𝓛 𝓜 𝓡)
    (glues "wk_ffi::Destruct++none::drop" 𝓡.env (code.calls-wk_ffi::Destruct++none::drop 𝓡.env wired) Z Z_laws M 𝓤 𝓛 𝓜 𝓡)
    (goes_met 𝓤 𝓛 𝓜 𝓡 (code.calls-wk_ffi::wk_judging++validator++Validator+Destruct::drop 𝓡.env wired)) in
    let T = into_raw.ended V Z ghosts dict idle goes in let arms : Body = head (after 1 (code.function).body) in
    let toks : Item 𝓤 = ‵ (flft V.lives full_share) ⊛ ‵ (flft Z.lives full_share) ⊛ ‵ ftrue in
    proved 𝓛 f.ended stayed c 𝓜 𝓡 (Goes-dropped 𝓛 1 (plain (λ _. heap.the_row)) yes (λ κs x w. refl), (Goes-ref 𝓛 1 0 tt (plain (λ _. RawPtr)), tt))
    f.Key.name code.function (code.unfolded 𝓤 H 𝓜 𝓡 wired)
    (λ κs. ((λ _. heap_val ∷ []), (mut_vals, tt))) (λ κs. (heap_Tells, (mut_Tells (named 0) κs.0 RawPtr, tt))) (λ κs qs bounds a _ are.
    let κ = κs.0 in let q = qs.0 in let at = a.1.0 in let b = at.ref_ptr.0 in let o = at.ref_ptr.1 in
    let y : W.Ghost = ((κs, qs, bounds, a, (heap_val ∷ [], (mut_vals at, tt))), tt) in let Post : Val → SProp 𝓤 = W.post y in
    let Ref = λ (p : Ptr). (MutRef (named 0) κ RawPtr).own_val (record at { now = p }) (mut_vals at) in
    let ends : (p : Ptr) (n : ℕ) (v : Val) → IsNew p n → Sq 𝓛 (‵ (u32.own_val n (v ∷ [])) ∷ ‵ (handed_out a.0 p) ∷ ‵ (Ref p) ∷ ‵ (flft κ q) ∷ [])
    (prop (Post v)) = λ p n v new.
    suffices ! _ (ends_at 𝓛 f.ended stayed c y v n (tt, (p, tt)) (tt, (tt, tt))) $ use0 𝓛 (raw (fact 𝓤 (IsNew p n))) (fact_i 𝓤 (IsNew p n) (emp 𝓤) new) $
    move ! (2 ∷ 0 ∷ []) $ join ! $
    nothing ! $ move ! (3 ∷ 0 ∷ []) $ fjoin ! $ nothing ! $ fjoin ! $ move ! (0 ∷ 2 ∷ []) $ join ! $ nothing ! $ move ! (3 ∷ 0 ∷ []) $ join ! $ join ! $
    join ! $ done ! in
    qed 𝓛 (((‵ (flft κ q) ⊛ ‵ ftrue) ⊛ ‵ (heap.the_row.own_val a.0 (heap_val ∷ [])) ⊛ ‵ (Ref at.now) ⊛ ‵ ftrue) ∷ ‵ ftrue ∷ []) ∵
    split ! $ split ! $ move ! (2 ∷ []) $ split ! $ move ! (1 ∷ []) $ split ! $ keep ! (2 ∷ 0 ∷ 3 ∷ []) $
    -- [the heap's handle; the place for the pointer; the token]
    enter ! _ _ _ _ _ $ alloc_all ! (λ l. pass_all ! refl ((tt, ((tt, tt), tt)), ((tt, tt), tt)) $ let Ev : Env 𝓤 H = env (code.function).locals l in
    let Then = any_q (after_seq 𝓤 H (Wp 𝓤 H 𝓣.C 𝓣.Λ Ev (after 2 (code.function).body) (at_return 𝓤 H Ev Post)) (at_return 𝓤 H Ev Post)) in
    let z : Make.Ghost = ((tt, tt, tt, (a.0, tt), (heap_val ∷ [], tt)), tt) in
    nothing ! $ move ! (1 ∷ 0 ∷ []) $ join ! $ nothing ! $ join ! $ nothing ! $ move ! (1 ∷ 0 ∷ []) $ join ! $ use1 𝓛 (raw (Make.pre z)) (id⊢ 𝓤 _) $
    calls_at ! (framed 𝓤 H 𝓜 𝓣) Make (make_met.met 𝓤 𝓛 𝓜 𝓡 (code.calls-wk_ffi::handle::make 𝓡.env wired)) z (and_then ! (get ! refl) (no_more !)) (λ v.
    use1 𝓛 (later (some (λ (r : Made.Denot). (‵ ftrue ⊛ ‵ (Made.own_val r (v ∷ []))) ⊛
    raw (ensured 𝓛 make.ended (make.clauses 𝓛 𝓜.mem 𝓡.returns) tt (a.0, tt) tt r)))) (id⊢ 𝓤 _) $
    await ! tt $ pick ! (λ r. split ! $ move ! (1 ∷ []) $ drop ! $ split ! $ drop ! $ made_out ! r v
    -- memory was wanting
    (λ is. lands_as ! is refl (tt, (record { fits = lit< tt }, tt)) $
    first ! $ switches_on ! (get_tag ! (vrt ! refl (fld ! refl (stop !))) (whole !)) $ exec ! 𝓣.C 𝓣.Λ Ev (arm_body 1 arms) Then $
    fsplit3 ! $ move ! (1 ∷ 2 ∷ 3 ∷ []) $ opens ! tt RawPtr b o (λ us. move ! (1 ∷ []) $
    feq_l ! (λ old. rewrite ! 0 (λ (ws : List Val). ‵ (cell_at full_share RawPtr.mir ws b o)) old refl $
    assigns ! (of_opd ! (lit ! tt)) (through ! refl (stop !)) (store ! 0 refl (tt, record { fits = lit< tt })) $
    feq_i ! (List Val) (vnull ∷ []) (vnull ∷ []) refl $ move ! (1 ∷ []) $ closes ! tt RawPtr null_ptr (vnull ∷ []) b o $ move ! (3 ∷ 0 ∷ 1 ∷ []) $ fjoin3 ! $
    -- [the place for the pointer; the token]
    sets ! (agg ! (and_then ! (lit ! tt) (no_more !))) refl (tt, (record { fits = lit< tt }, tt)) $
    let z' : Number.Ghost = ((tt, tt, tt, (NoMemory, tt), (live 5 vnil ∷ [], tt)), tt) in
    use0 𝓛 (‵ (codes.the_row.own_val NoMemory (live 5 vnil ∷ []))) (no_memory_made 𝓛) $ nothing ! $ move ! (1 ∷ 0 ∷ []) $ join ! $ nothing ! $ join ! $
    nothing ! $ move ! (1 ∷ 0 ∷ []) $ join ! $
    use1 𝓛 (raw (Number.pre z')) (id⊢ 𝓤 _) $
    calls_at_last ! (framed 𝓤 H 𝓜 𝓣) Number (number_met.met 𝓤 𝓛 𝓜 𝓡 (code.calls-wk_ffi::code::Code::number 𝓡.env wired)) z' (and_then ! (get ! refl)
    (no_more !)) (λ w.
    use1 𝓛 (later (some (λ (n : ℕ). (‵ ftrue ⊛ ‵ (u32.own_val n (w ∷ []))) ⊛
    some (λ (ls : Lasts number.ended tt z'.0.3). ‵ (lasts number.ended tt z'.0.3 ls) ⊛ raw (fact 𝓤 (n ≡ code_number NoMemory)))))) (id⊢ 𝓤 _) $
    await ! tt $ pick ! (λ n. split ! $ move ! (1 ∷ []) $ pick ! (λ _. split ! $ drop ! $ heard ! (n ≡ code_number NoMemory) (λ so. split ! $ drop ! $
    peeks ! u32 (Is u32) (shows 𝓛 u32) n (w ∷ []) (λ fits. let typed = ((uint_Lawful 𝓛 w32).typed n _ fits).0 in
    lands_last ! refl typed $ exec ! 𝓣.C 𝓣.Λ Ev (after 2 (code.function).body) (at_ret Ev Post) $ sets ! (of_opd ! (get ! refl)) refl typed $
    returns ! (look_at ! 0 refl) $ free_all ! refl $
    nothing ! $ move ! (1 ∷ 0 ∷ []) $ ends null_ptr n w (inr (so, refl))))))))))
    -- a validator is there
    (λ d pb po is. lands_as ! is refl (tt, (record { fits = lit< tt }, ((tt, (((tt, tt), tt), tt)), tt))) $
    first ! $ switches_on ! (get_tag ! (vrt ! refl (fld ! refl (stop !))) (whole !)) $ exec ! 𝓣.C 𝓣.Λ Ev (arm_body 0 arms) Then $
    sets ! (of_opd ! (get_in ! (vrt ! refl (fld ! refl (stop !))) (in_variant ! 1 0 refl refl (whole !)))) refl (tt, (tt, (((tt, tt), tt), tt))) $
    sets ! (of_opd ! (get ! refl)) refl (tt, (tt, (((tt, tt), tt), tt))) $
    let z₁ : Opens.Ghost = (((V.lives, (Z.lives, tt)), (full_share, (full_share, tt)), tt, (d, tt), (word E heap_val pb po ∷ [], tt)), tt) in
    nothing ! $ move ! (1 ∷ 0 ∷ []) $ join ! $
    nothing ! $ use0 𝓛 (raw (fact 𝓤 (Z.lives ⊑ Z.lives))) (fact_i 𝓤 (Z.lives ⊑ Z.lives) (emp 𝓤) (⊑_refl Z.lives)) $ join ! $
    use0 𝓛 (raw (fact 𝓤 (V.lives ⊑ V.lives))) (fact_i 𝓤 (V.lives ⊑ V.lives) (emp 𝓤) (⊑_refl V.lives)) $ join ! $ move ! (1 ∷ []) $
    nothing ! $ use0 𝓛 (‵ (flft Z.lives full_share)) (𝓛.lfts.lft-nil full_share) $ join ! $
    use0 𝓛 (‵ (flft V.lives full_share)) (𝓛.lfts.lft-nil full_share) $ join ! $
    join ! $ join ! $ use1 𝓛 (raw (Opens.pre z₁)) (id⊢ 𝓤 _) $
    calls_at ! (framed 𝓤 H 𝓜 𝓣) Opens opened z₁ (and_then ! (get ! refl) (no_more !)) (λ u.
    use1 𝓛 (later (some (λ (p : Ptr). (toks ⊛ ‵ (RawPtr.own_val p (u ∷ []))) ⊛ some (λ (ls : Lasts T z₁.0.0 z₁.0.3). ‵ (lasts T z₁.0.0 z₁.0.3 ls) ⊛
    ‵ (validator_at a.0 p))))) (id⊢ 𝓤 _) $
    await ! tt $ pick ! (λ p. split ! $ move ! (1 ∷ []) $ pick ! (λ _. split ! $ drop ! $
    in_a_block ! p (validator_at a.0) (fst∗ 𝓤 (never 𝓤) (sem 𝓛 (token a.0 null_ptr))) (λ nb no at_nb. move ! (1 ∷ []) $ split ! $ drop ! $ feq_l ! (λ eu.
    lands_as ! (ap only eu ∙ ap ptr_val at_nb) refl (tt, tt) $ sets ! (of_opd ! (get ! refl)) refl (tt, tt) $
    -- [the validator; the place for the pointer; the token]
    move ! (1 ∷ []) $ fsplit3 ! $ move ! (1 ∷ 2 ∷ 4 ∷ []) $ opens ! tt RawPtr b o (λ us. move ! (1 ∷ []) $
    feq_l ! (λ old. rewrite ! 0 (λ (ws : List Val). ‵ (cell_at full_share RawPtr.mir ws b o)) old refl $
    assigns ! (of_opd ! (get ! refl)) (through ! refl (stop !)) (store ! 0 refl (tt, tt)) $
    feq_i ! (List Val) (vptr nb no ∷ []) (vptr nb no ∷ []) refl $ move ! (1 ∷ []) $ closes ! tt RawPtr (block_ptr nb no) (vptr nb no ∷ []) b o $
    move ! (3 ∷ 0 ∷ 1 ∷ []) $ fjoin3 ! $
    -- [the place for the pointer; the token; the validator]
    sets ! (agg ! (and_then ! (lit ! tt) (no_more !))) refl (tt, (record { fits = lit< tt }, tt)) $
    let z' : Number.Ghost = ((tt, tt, tt, (Fine, tt), (live 0 vnil ∷ [], tt)), tt) in
    use0 𝓛 (‵ (codes.the_row.own_val Fine (live 0 vnil ∷ []))) (fine_made 𝓛) $ nothing ! $ move ! (1 ∷ 0 ∷ []) $ join ! $ nothing ! $ join ! $ nothing ! $
    move ! (1 ∷ 0 ∷ []) $ join ! $
    use1 𝓛 (raw (Number.pre z')) (id⊢ 𝓤 _) $
    calls_at_last ! (framed 𝓤 H 𝓜 𝓣) Number (number_met.met 𝓤 𝓛 𝓜 𝓡 (code.calls-wk_ffi::code::Code::number 𝓡.env wired)) z' (and_then ! (get ! refl)
    (no_more !)) (λ w.
    use1 𝓛 (later (some (λ (n : ℕ). (‵ ftrue ⊛ ‵ (u32.own_val n (w ∷ []))) ⊛
    some (λ (ls : Lasts number.ended tt z'.0.3). ‵ (lasts number.ended tt z'.0.3 ls) ⊛ raw (fact 𝓤 (n ≡ code_number Fine)))))) (id⊢ 𝓤 _) $
    await ! tt $ pick ! (λ n. split ! $ move ! (1 ∷ []) $ pick ! (λ _. split ! $ drop ! $ heard ! (n ≡ code_number Fine) (λ so. split ! $ drop ! $
    peeks ! u32 (Is u32) (shows 𝓛 u32) n (w ∷ []) (λ fits. let typed = ((uint_Lawful 𝓛 w32).typed n _ fits).0 in
    lands_last ! refl typed $ exec ! 𝓣.C 𝓣.Λ Ev (after 2 (code.function).body) (at_ret Ev Post) $ sets ! (of_opd ! (get ! refl)) refl typed $
    returns ! (look_at ! 0 refl) $ free_all ! refl $
    move ! (0 ∷ 3 ∷ 1 ∷ 2 ∷ []) $ ends (block_ptr nb no) n w (inl (so, (λ e. subst InBlock e tt))))))))))))))))))))
