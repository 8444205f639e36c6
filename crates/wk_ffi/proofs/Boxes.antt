-- A box of a validator, as the walks see it that hand its pointer out and take it back.
--     V, Z, E      the validator and the heap's handle as type arguments, and the box
--     idle         the drop of the heap's handle, which does nothing
--     goes         that of the validator
use Rattle.std.proofs.Common.{◌≡◌, ℕ, List, [], ◌∷◌, ◌++◌, refl, ap, ◌∙◌}
use Rattle.std.proofs.BoxSteps.Form.{Bx, D, B, word}
use Rattle.std.proofs.BoxSteps.Steps.{box_out, box_in}
use Rattle.std.proofs.Handle.{heap_val, heap_Tells}
use Rattle.std.proofs.alloc.Global.TheLaws as heap_laws
use Rattle.std.specs.contracts.alloc.Global as heap
use Rattle.std.specs.contracts.boxed.Box as box
use Rattle.std.specs.contracts.impls.GlobalAllocator.TheImpl.{ghosts, dict}
use Rattle.std.specs.contracts.option.Option as option
use Rattle.std.specs.declared.option.Option.TheVariants.{None, Some}
use Rattle.wk_judging.specs.contracts.validator.Validator as validator
use Rattle.wk_judging.proofs.validator.Validator.TheLaws as validator_laws
use Rattle.wk_ffi.specs.contracts.code.Code as code
use Rattle.wk_ffi.specs.declared.code.Code.TheVariants.{Fine, NoMemory}
use Rattle.wk_ffi.proofs.wk_judging++validator++Validator+Destruct.drop.Kinds as kinds
use Rattle.wk_ffi.proofs.wk_judging++validator++Validator+Destruct.drop.Met as dropped_met
use Rattle.wk_ffi.proofs.wk_judging++validator++Validator+Destruct.drop.Reads as reads
use Rattle.wk_ffi.proofs.wk_judging++validator++Validator+Destruct.drop.Symbol as dropped
use seplogic.Ra.Ura.{Ura}
use base.Logic.{ent, emp}
use prog.Model.{Model}
use prog.Wired.{Wired}
use mir.Raw.{raw}
use mir.Syntax.{Callee, Dict, impl, method, tnil, tcons, dnil}
use mir.Val.{Val, vnil, vcons, of_list}
use contract.Running.{Running}
use types.Logic.{Logic, sem}
use types.Kit.{Item, Goal, Seq, drop, ‵, ◌$◌, ◌∵◌, !, qed, done, move, fsplit, fjoin, fpick, fpack, feq_i, feq_l, rewrite}
use types.Match.{live}
use borrow.Fn.Glue.{glue_by, glue_ps}
use borrow.Fn.Impl.{via_longer, method_Known}
use borrow.Fn.Kinds.{ended_of, stays, r_unit}
use borrow.Fn.Run.{Over}
use borrow.Fn.World.{World}
use denote.Enum.Declared.{shape}
use denote.Enum.Enum.{form_of, in_a_row}
use denote.Enum.Row.{tagged_with}
use denote.Exit.{no}
use denote.Laws.{Is, shows}
use denote.Param.{arg, layout, layouts}
use denote.Param.Glue.{Met}
use denote.Param.Laws.{Laws, arg_laws}
use denote.RattleType.{RattleType, Valss, owns}
use denote.Steps.{nothing, only, peeks}
use denote.Triple.Carry.{AllWithin}
use denote.Triple.Clauses.{Ended, Lasts, lasts, at_exit}
use denote.Triple.Walked.{Fit}

abbrev pub V : RattleType
V = arg (raw (layout validator.the_row)) no validator.the_row

abbrev pub Z : RattleType
Z = arg (raw (layout heap.the_row)) no heap.the_row

abbrev pub V_laws : Laws V
V_laws = arg_laws (raw (layout validator.the_row)) no validator.the_row validator_laws.the_row_laws refl

abbrev pub Z_laws : Laws Z
Z_laws = arg_laws (raw (layout heap.the_row)) no heap.the_row heap_laws.the_row_laws refl

abbrev pub idle : Dict
idle = impl ("wk_ffi::Destruct++none::drop" ∷ []) (tcons (layout Z) tnil) dnil

abbrev pub E : Bx
E = record { row = V; laws = V_laws; al = record { row = Z; laws = Z_laws; g = ghosts; d = dict; drops = idle } }

-- ---- the drop of a validator
abbrev pub goes : Dict
goes = impl ("wk_ffi::wk_judging++validator++Validator+Destruct::drop" ∷ []) tnil dnil

pub goes_met : {M : Type 1} (𝓤 : Ura M) (𝓛 : Logic 𝓤) (𝓜 : Model 𝓤 𝓛.H) (𝓡 : Running 𝓤 𝓛.H 𝓜) → Wired 𝓡.env dropped.code → Met 𝓛 𝓜 𝓡 𝓡.env V goes
goes_met {M} 𝓤 𝓛 𝓜 𝓡 wired =
    let world : World = record { M = M; 𝓤 = 𝓤; 𝓛 = 𝓛; 𝓜 = 𝓜; 𝓡 = 𝓡 } in
    let T : Ended = ended_of 0 kinds.ps kinds.r in
    let key : Callee = method goes 0 (layouts [] tt) in
    glue_by V V_laws world goes 𝓡.env (λ κs a. Lasts T tt a) (λ κs a. lasts T tt a)
    (λ κs a x ws. Fit T (stays kinds.ps) tt a ws × reads.Learnt tt a x (at_exit T tt a ws))
    (λ κs a. AllWithin 1 (κs.0, tt) (V.lives, tt) × Unit {0}) 0 tt (λ κs a h. ((h, tt), tt))
    (via_longer 𝓛 (Over 𝓛 𝓜 𝓡 𝓡.env) 1 (glue_ps V V_laws) r_unit (λ κs a. Lasts T tt a) (λ κs a. lasts T tt a)
    (λ κs a x ws. Fit T (stays kinds.ps) tt a ws × reads.Learnt tt a x (at_exit T tt a ws)) (λ κs a. AllWithin 1 (κs.0, tt) (V.lives, tt) × Unit {0})
    key 0 tt (λ κs. tt) (λ κs a. reads.Asked tt a) (λ κs a p. (tt, tt))
    (λ κs bd within a vss qs. method_Known 0 kinds.ps kinds.r reads.requires reads.ensures reads.Asked reads.Learnt reads.known world dropped.name key
    (dropped.as_method 𝓡.env wired key refl) (dropped_met.met 𝓤 𝓛 𝓜 𝓡 wired) ((tt, qs, tt, a, vss), tt)))

-- ---- what `make` gives
abbrev pub Made : RattleType
Made = option.the_row (box.the_row validator.the_row heap.the_row ghosts)

module _ {M : Type 1} {𝓤 : Ura M} {𝓛 : Logic 𝓤} {K : Type 0} {Γ : List (Item 𝓤)} {G : Goal 𝓤 𝓛.H} where
  pub made_out : K → (r : Made.Denot) (v : Val) → (v ≡ live 0 vnil → Seq K 𝓛 Γ G)
      → ((d : D E) (b o : ℕ) → v ≡ live 1 (vcons (word E heap_val b o) vnil) → Seq K 𝓛 (‵ ((B E).own_val d (word E heap_val b o ∷ [])) ∷ Γ) G)
      → Seq K 𝓛 (‵ (Made.own_val r (v ∷ [])) ∷ Γ) G
  made_out t None v wanting there =
      fpick t (λ us. fsplit t $ feq_l t (λ e. fpick t (λ vss. fsplit t $ feq_l t (λ e'. drop t $
      wanting (ap only e ∙ ap (λ (ws : List Val). live 0 (of_list ws)) e')))))
  made_out t (Some d) v wanting there =
      fpick t (λ us. fsplit t $ feq_l t (λ e. fpick t (λ vss. fsplit t $ feq_l t (λ e'. fsplit t $ box_out E t d vss.0 (λ b o h at ws fits. move t (3 ∷ []) $
      drop t $
      move t (2 ∷ []) $ peeks t heap.the_row (Is heap.the_row) (shows 𝓛 heap.the_row) d.alloc (h ∷ []) (λ is.
      rewrite t 0 (λ (xs : List Val). ‵ (heap.the_row.own_val d.alloc xs)) (heap_Tells d.alloc (h ∷ []) is) refl $ move t (1 ∷ 2 ∷ 0 ∷ []) $
      box_in E t d b o d.value at refl $
      there d b o (ap only e ∙ ap (λ (xs : List Val). live 1 (of_list xs)) (e' ∙ ap (λ (xs : List Val). xs ++ []) (ws ∙ ap (λ (x : Val). word E x b o ∷ [])
      (ap only (heap_Tells d.alloc (h ∷ []) is)))))))))))

-- ---- the codes of a call
module _ {M : Type 1} {𝓤 : Ura M} (𝓛 : Logic 𝓤) where
  pub fine_made : ent 𝓤 (emp 𝓤) (sem 𝓛 (code.the_row.own_val Fine (live 0 vnil ∷ [])))
  fine_made =
      qed 𝓛 [] ∵ nothing ! $ feq_i ! (List Val) [] [] refl $ fjoin ! $ fpack ! (Valss []) (in_a_row [] (owns [] tt) []) tt $
      feq_i ! (List Val) (live 0 vnil ∷ []) (live 0 vnil ∷ []) refl $ fjoin ! $
      fpack ! (List Val) (tagged_with (form_of (shape code.the_type)) (form_of (shape code.the_type)).payload (code.the_type.to Fine)
      (live 0 vnil ∷ [])) [] $ done !

  pub no_memory_made : ent 𝓤 (emp 𝓤) (sem 𝓛 (code.the_row.own_val NoMemory (live 5 vnil ∷ [])))
  no_memory_made =
      qed 𝓛 [] ∵ nothing ! $ feq_i ! (List Val) [] [] refl $ fjoin ! $ fpack ! (Valss []) (in_a_row [] (owns [] tt) []) tt $
      feq_i ! (List Val) (live 5 vnil ∷ []) (live 5 vnil ∷ []) refl $ fjoin ! $
      fpack ! (List Val) (tagged_with (form_of (shape code.the_type)) (form_of (shape code.the_type)).payload (code.the_type.to NoMemory)
      (live 5 vnil ∷ [])) [] $ done !
