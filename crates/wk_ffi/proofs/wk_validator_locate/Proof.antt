-- `wk_validator_locate` lends the validator that lies at the pointer for the call, and passes on all else that it is given.
use Rattle.std.proofs.Common.{ℕ, length, List, [], ◌∷◌, refl, w32}
use Rattle.std.proofs.raw_atomic.Walks.{proved}
use Rattle.std.proofs.Handle.{heap_val, heap_Tells}
use Rattle.std.specs.contracts.alloc.Global as heap
use base.Fraction.{full_share}
use base.Logic.{id⊢, never, fst∗}
use base.Fml.{GName, ftrue, flft, flent}
use prog.Wp.{WpFn}
use mir.Syntax.{named}
use mir.Val.{Val, vint, vptr}
use contract.Running.{tables}
use types.Logic.{sem}
use types.SemTy.{Body}
use types.Tokens.{lft_new, lft_end}
use types.Kit.{Item, ‵, raw, prop, ◌⊛◌, some, later, ◌$◌, ◌∵◌, !, qed, done, move, keep, drop, use1, use3, split, join, fsplit, fjoin, feq_l, pick, await}
use types.Kit.{regoal, suffices}
use types.Run.{enter, of_opd, addr, from, fld, hop, stop, no_more, and_then, returns}
use types.ByLocal.{alloc_all, pass_all, free_all, look_at, look_in_at, get, get_in, through, sets, lands_as}
use types.Part.{agg, sub, whole}
use denote.Builtin.{u8, u32}
use denote.Exit.{yes}
use denote.Laws.{Is, shows}
use denote.Lend.{lends_ref, ref_back}
use denote.Memory.{mem}
use denote.Plain.{uint_vals, uint_Tells, uint_Lawful}
use denote.RawPtr.{Ptr, RawPtr, block_ptr, null_ptr, ptr_val, in_a_block, rawptr_vals, rawptr_Tells}
use denote.Ref.{MutRef}
use denote.Signature.{plain, shr_slice_of}
use denote.Slice.{ShrSlice, MutSlice, slice_val, shr_slice_vals, mut_slice_vals, shr_slice_Tells, mut_slice_Tells, shr_slice_Lawful, mut_slice_Lawful}
use denote.Steps.{nothing, peeks}
use denote.Triple.Call.{calls_at}
use denote.Triple.Clauses.{Lasts, lasts, at_exit}
use denote.Triple.Spec.{triple_of}
use denote.Triple.Table.{framed}
use denote.Triple.Walked.{Stays, walk_of, stay_dropped, gave_slice, Goes-dropped, Goes-gave_slice, ends_at}
use Rattle.wk_judging.specs.contracts.validator.Validator.{the_row}
use Rattle.wk_ffi.specs.Handles.{validator_at, token}
use Rattle.wk_ffi.specs.contracts.locating.locate_with as g
use Rattle.wk_ffi.proofs.locating.locate_with.Met.{met}
use Rattle.wk_ffi.specs.contracts.wk_validator_locate as f
use Rattle.wk_ffi.proofs.wk_validator_locate.Statement.{statement}
use Rattle.wk_ffi.proofs.wk_validator_locate.Code as code

abbrev stayed : Stays f.ended.signature.params f.ended.kept
stayed = (
  stay_dropped (plain (λ _. heap.the_row)) yes,
  (
    stay_dropped (plain (λ _. RawPtr)) yes,
    (
      stay_dropped (shr_slice_of (0 ∷ []) tt (plain (λ _. u8))) yes,
      (
        stay_dropped (plain (λ _. u32)) yes,
        (gave_slice (1 ∷ []) tt (plain (λ _. u32)), tt),
      ),
    ),
  ),
)

pub wk_validator_locate_spec : {M : Type 1} → statement M
wk_validator_locate_spec 𝓤 𝓛 𝓜 𝓡 wired =
    let H = 𝓛.H in let 𝓣 = tables 𝓤 H 𝓜 𝓡 𝓡.env in let c = f.clauses 𝓛 𝓜.mem 𝓡.returns in let W = walk_of 𝓛 f.ended stayed c in
    let held = g.clauses 𝓛 𝓜.mem 𝓡.returns in let G = triple_of 𝓛 g.signature (g.spec 𝓛 𝓜.mem 𝓡.returns) in
    proved 𝓛 f.ended stayed c 𝓜 𝓡 (
      Goes-dropped 𝓛 2 (plain (λ _. heap.the_row)) yes (λ κs x w. refl),
      (
        Goes-dropped 𝓛 2 (plain (λ _. RawPtr)) yes (λ κs x w. refl),
        (
          Goes-dropped 𝓛 2 (shr_slice_of (0 ∷ []) tt (plain (λ _. u8))) yes (λ κs x w. refl),
          (
            Goes-dropped 𝓛 2 (plain (λ _. u32)) yes (λ κs x w. refl),
            (Goes-gave_slice 𝓛 2 1 tt (plain (λ _. u32)), tt),
          ),
        ),
      ),
    )
    f.Key.name code.function (code.unfolded 𝓤 H 𝓜 𝓡 wired)
    (λ κs. ((λ _. heap_val ∷ []), (rawptr_vals, (shr_slice_vals, (uint_vals w32, (mut_slice_vals, tt))))))
    (λ κs. (
      heap_Tells,
      (
        rawptr_Tells,
        (
          shr_slice_Tells (named 0) κs.0 u8,
          (
            uint_Tells w32,
            (mut_slice_Tells (named 1) κs.1.0 u32, tt),
          ),
        ),
      ),
    ))
    (λ κs qs bounds a _ are.
    let bytes = a.1.1.0 in let profile = a.1.1.1.0 in let numbers = a.1.1.1.1.0 in
    let rest : List Val × (List Val × (List Val × Unit {0})) = (
      shr_slice_vals bytes,
      (
        vint w32 profile ∷
            [],
        (mut_slice_vals numbers, tt),
      ),
    ) in
    let y : Ptr → W.Ghost = λ p. ((κs, qs, bounds, (a.0, (p, a.1.1)), (heap_val ∷ [], (rawptr_vals p, rest))), tt) in
    let words : Ptr → List Val = λ p. heap_val ∷ ptr_val p ∷ slice_val bytes.ref_ptr (length bytes.now) ∷ vint w32 profile ∷
    slice_val numbers.ref_ptr (length numbers.now) ∷ [] in
    let toks : Item 𝓤 = ‵ (flft κs.0 qs.0) ⊛ ‵ (flft κs.1.0 qs.1.0) ⊛ ‵ ftrue in
    let others : Item 𝓤 = ‵ ((ShrSlice (named 0) κs.0 u8).own_val bytes rest.0) ⊛ ‵ (u32.own_val profile rest.1.0) ⊛
    ‵ ((MutSlice (named 1) κs.1.0 u32).own_val numbers rest.1.1.0) ⊛ ‵ ftrue in
    qed 𝓛 ((toks ⊛ ‵ (heap.the_row.own_val a.0 (heap_val ∷ [])) ⊛ ‵ (RawPtr.own_val a.1.0 (rawptr_vals a.1.0)) ⊛ others) ∷ ‵ (validator_at a.0 a.1.0) ∷ []) ∵
    split ! $ move ! (1 ∷ []) $ split ! $ move ! (1 ∷ []) $ split ! $ drop ! $ move ! (3 ∷ []) $
    -- [the validator; what else is passed; the heap's handle; the tokens]
    in_a_block ! a.1.0 (validator_at a.0) (fst∗ 𝓤 (never 𝓤) (sem 𝓛 (token a.0 null_ptr))) (λ b o e.
    regoal ! (λ p. prop (WpFn 𝓤 H 𝓣.C 𝓣.Λ code.function (words p) (W.post (y p)))) e refl $
    enter ! _ _ _ _ _ $ alloc_all ! (λ l. pass_all ! refl (
      (tt, ((tt, tt), tt)),
      (
        (tt, tt),
        (
          ((shr_slice_Lawful 𝓛 (named 0) κs.0 u8).typed bytes _ are.1.1.0).0,
          (((uint_Lawful 𝓛 w32).typed profile _ are.1.1.1.0).0, (((mut_slice_Lawful 𝓛 (named 1) κs.1.0 u32).typed numbers _ are.1.1.1.1.0).0, tt)),
        ),
      ),
    ) $
    sets ! (of_opd ! (get ! refl)) refl (tt, tt) $ sets ! (addr ! (through ! refl (stop !))) refl (tt, tt) $
    sets ! (addr ! (from ! (fld ! refl (hop ! (look_in_at ! 5 (sub ! 0 refl (whole !))) (stop !))))) refl (tt, tt) $
    sets ! (agg ! (and_then ! (get ! refl) (and_then ! (get_in ! (fld ! refl (stop !)) (sub ! 1 refl (whole !)))
    (no_more !)))) refl ((mut_slice_Lawful 𝓛 (named 1) κs.1.0 u32).typed numbers _ are.1.1.1.1.0).0 $
    -- the validator is lent
    fsplit ! $ lft_new ! tt (λ α. move ! (1 ∷ []) $
    use1 𝓛 (later (some (λ (γ : GName). ‵ ((MutRef (named 0) (α ∷ []) the_row).own_val (record { ref_ptr = (b, o); ghost_name = γ; now = tt })
    (vptr b o ∷ [])) ⊛ ‵ (flent (α ∷ []) (Body (mem the_row) b o γ)))))
    (lends_ref 𝓛 the_row (named 0) (α ∷ []) tt b o) $ await ! tt $ pick ! (λ γ. split ! $
    -- [the loan; its way back; the token of α; the right to free; what else is passed; the heap's handle; the tokens]
    let z : G.Ghost = (
      (
        (α ∷ [], κs),
        (full_share, qs),
        tt,
        (record { ref_ptr = (b, o); ghost_name = γ; now = tt }, (a.0, a.1.1)),
        (
          vptr b o ∷
              [],
          (heap_val ∷ [], rest),
        ),
      ),
      tt,
    ) in
    move ! (5 ∷ 4 ∷ []) $ join ! $ move ! (1 ∷ 0 ∷ []) $ join ! $ move ! (2 ∷ 4 ∷ []) $ join ! $ join ! $ nothing ! $ move ! (1 ∷ 0 ∷ []) $ join ! $
    use1 𝓛 (raw (G.pre z)) (id⊢ 𝓤 _) $
    calls_at ! (framed 𝓤 H 𝓜 𝓣) G (met 𝓤 𝓛 𝓜 𝓡 (code.calls-wk_ffi::locating::locate_with 𝓡.env wired)) z
    (and_then ! (get ! refl) (and_then ! (get ! refl) (and_then ! (get ! refl) (and_then ! (get ! refl) (and_then ! (get ! refl) (no_more !)))))) (λ v.
    use1 𝓛 (later (some (λ (r : ℕ). ((‵ (flft (α ∷ []) full_share) ⊛ toks) ⊛ ‵ (u32.own_val r (v ∷ []))) ⊛ some (λ (ws : Lasts g.ended z.0.0 z.0.3).
    ‵ (lasts g.ended z.0.0 z.0.3 ws) ⊛ raw ((held z.0.0 z.0.3).ensures tt r (at_exit g.ended z.0.0 z.0.3 ws)))))) (id⊢ 𝓤 _) $
    await ! tt $ pick ! (λ r. split ! $ split ! $ split ! $ lft_end ! tt $ move ! (3 ∷ []) $ pick ! (λ ws. split ! $ fsplit ! $ fsplit ! $
    -- [the validator's last value; its borrow; the others'; what the call ensures; α is over; the tokens; the result; the way back; the right to free]
    move ! (4 ∷ 7 ∷ 0 ∷ []) $ use3 𝓛 (later (‵ ((mem the_row).own_at ws.0 b o))) (ref_back 𝓛 the_row (α ∷ []) γ ws.0 b o) $ await ! tt $
    move ! (0 ∷ 6 ∷ []) $ fjoin ! $
    -- [the validator; its borrow; the others' last values; what the call ensures; the tokens; the result]
    move ! (2 ∷ []) $ fsplit ! $ drop ! $ fsplit ! $ drop ! $ fsplit ! $ drop ! $ fsplit ! $ fsplit ! $ fsplit ! $ move ! (1 ∷ []) $
    feq_l ! (λ same. fjoin ! $ fjoin ! $
    nothing ! $ fjoin ! $ nothing ! $ fjoin ! $ nothing ! $ fjoin ! $ nothing ! $ fjoin ! $ move ! (5 ∷ []) $
    peeks ! u32 (Is u32) (shows 𝓛 u32) r (v ∷ []) (λ is. lands_as ! refl refl ((uint_Lawful 𝓛 w32).typed r _ is).0 $
    returns ! (look_at ! 0 refl) $ free_all ! refl $ keep ! (2 ∷ 4 ∷ 0 ∷ 1 ∷ 5 ∷ []) $
    suffices ! _ (ends_at 𝓛 f.ended stayed c (y (block_ptr b o)) v r (tt, (tt, (tt, (tt, (ws.1.1.1.1.0, tt)))))
    (tt, (tt, (tt, (tt, (same, tt)))))) $
    join ! $ move ! (2 ∷ 1 ∷ []) $ join ! $ move ! (2 ∷ 0 ∷ []) $ join ! $ join ! $ done !))))))))))
